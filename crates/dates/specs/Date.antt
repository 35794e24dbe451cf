-- Calendar dates, as in items/date.rs and section 29.2 of the manual. No reader of dates stops.
use Rattle.std.specs.Prelude.{ℕ, ◌-◌, List, [], ◌∷◌, ◌++◌, Bool, ◌&&◌, length, take, drop, leb, Option, Some, None, cond}
use Prim.Native.String.{String}
use Rattle.std.specs.Borrow.{Bor}
use Rattle.std.proofs.Math.Seq.{slice}
use Rattle.extended.specs.Calendar.{month_days}
use Rattle.primitive.specs.Answer.{Answer, Reader, matched, none, and_then, ◌>>=◌, ◌>>◌, ◌<|>◌, pure, value, optional, verify}
use Rattle.primitive.specs.Text.{lowered, char}
use Rattle.primitive.specs.Primitive.{multispace1, spaced, parse_uint, dec_uint_str, dec_uint, alpha1, named}
use Rattle.dates.specs.Year.{year_from_str, year_str}
use Rattle.dates.specs.declared.date.Date.{Date}

abbrev pub date_of : Option ℕ → ℕ → ℕ → Date
date_of y m d = record { day = d; month = m; year = y }

-- whether the month of that year has the day; a month outside 1 to 12 has none
unfoldable pub exists : ℕ → ℕ → ℕ → Bool
exists y m d = leb 1 d && leb d (month_days y m)

unfoldable pub with_year : List ℕ → ℕ → ℕ → Reader Date
with_year w m d = do
  y ← year_from_str w
  verify (exists y m d) (date_of (Some y) m d)

-- SCOPE, 'Dates': a date without year may be 29 February, since 2000 is a leap year. Building tests it in the base's year.
unfoldable pub without_year : ℕ → ℕ → Reader Date
without_year m d = verify (exists 2000 m d) (date_of None m d)

-- the digits of a year, where there is one
pub data WrittenYear : Type 0 where
  written : List ℕ → WrittenYear
  unwritten : WrittenYear

unfoldable pub dated : WrittenYear → ℕ → ℕ → Reader Date
dated (written w) m d = with_year w m d
dated unwritten m d = without_year m d

-- what has to follow a year
unfoldable pub end_of_text : Reader (Unit {0})
end_of_text text at = cond (leb (length text) at) (matched tt at) none

unfoldable pub blank_or_end : Reader (Unit {0})
blank_or_end = value tt multispace1 <|> end_of_text

-- a year and, after it, a blank or the end of the text
unfoldable pub ended : Reader WrittenYear
ended = do
  w ← year_str
  blank_or_end
  pure (written w)

-- such a year after what p reads, or none
unfoldable pub ended_year : Reader (Unit {0}) → Reader WrittenYear
ended_year p = optional unwritten (p >> ended)

-- the date with such a year or without one
unfoldable pub dated_behind : Reader (Unit {0}) → ℕ → ℕ → Reader Date
dated_behind p m d = do
  y ← ended_year p
  dated y m d

unfoldable pub nothing : Reader (Unit {0})
nothing = pure tt

unfoldable pub hyphen : Reader (Unit {0})
hyphen = optional tt (spaced (char "-"))

-- the Rust wants a blank after the comma of `Nov 14, 2022`
unfoldable pub comma : Reader (Unit {0})
comma = optional tt (spaced (char "," >> value tt multispace1))

-- `14.11.2022`, `14.11.`; not in the manual
unfoldable pub dotted : Reader Date
dotted = do
  d ← spaced (dec_uint 255)
  spaced (char ".")
  m ← spaced (dec_uint 255)
  spaced (char ".")
  dated_behind nothing m d

-- 29.2: "the ISO 8601 format 'YEAR-MONTH-DAY' is allowed, where YEAR is any positive number, MONTH is a number between 01 and 12,
-- and DAY is a number between 01 and 31". The Rust asks for no leading zero.
unfoldable pub iso1 : Reader Date
iso1 = do
  w ← year_str
  spaced (char "-")
  m ← spaced (dec_uint 255)
  spaced (char "-")
  d ← spaced (dec_uint 255)
  with_year w m d

unfoldable pub five_digits : List ℕ → Reader (Unit {0})
five_digits w text at = cond (leb 5 (length w)) (matched tt at) none

-- `20221114`: five digits or more, the last four of them month and day; no space may come before it
unfoldable pub iso2 : Reader Date
iso2 = do
  w ← dec_uint_str
  five_digits w
  m ← parse_uint 255 (slice (length w - 4) (length w - 2) w)
  d ← parse_uint 255 (drop (length w - 2) w)
  with_year (take (length w - 4) w) m d

-- 29.2: "The construct 'MONTH/DAY/YEAR', popular in the United States, is accepted. Also 'MONTH/DAY', omitting the year."
-- The Rust takes the first number as the year if it has 4 digits or more.
unfoldable pub us_date : List ℕ → ℕ → WrittenYear → Reader Date
us_date w n (written v) =
    cond (leb 4 (length w))
    (parse_uint 255 v >>= λ d. with_year w n d)
    (parse_uint 255 w >>= λ m. with_year v m n)
us_date w n unwritten = parse_uint 255 w >>= λ m. without_year m n

unfoldable pub slash_part : Reader WrittenYear
slash_part = optional unwritten (do
  spaced (char "/")
  v ← year_str
  pure (written v))

unfoldable pub us_rest : List ℕ → ℕ → Reader Date
us_rest w n = do
  v ← slash_part
  us_date w n v

unfoldable pub us : Reader Date
us = do
  w ← year_str
  spaced (char "/")
  n ← spaced (dec_uint 255)
  us_rest w n

-- 29.2: "Literal months may be spelled out in full .. may be abbreviated to their first three letters, possibly followed by an
-- abbreviating dot. It is also permitted to write 'Sept' instead of 'September'." But `sept.` is no month (SCOPE, 'Dates').
unfoldable pub months : List (String × ℕ)
months =
    ("january", 1) ∷ ("jan", 1) ∷ ("jan.", 1) ∷ ("february", 2) ∷ ("feb", 2) ∷ ("feb.", 2) ∷ ("march", 3) ∷ ("mar", 3) ∷ ("mar.", 3)
    ∷ ("april", 4) ∷ ("apr", 4) ∷ ("apr.", 4) ∷ ("may", 5) ∷ ("may.", 5) ∷ ("june", 6) ∷ ("jun", 6) ∷ ("jun.", 6) ∷ ("july", 7)
    ∷ ("jul", 7) ∷ ("jul.", 7) ∷ ("august", 8) ∷ ("aug", 8) ∷ ("aug.", 8) ∷ ("september", 9) ∷ ("sep", 9) ∷ ("sep.", 9) ∷ ("sept", 9)
    ∷ ("october", 10) ∷ ("oct", 10) ∷ ("oct.", 10) ∷ ("november", 11) ∷ ("nov", 11) ∷ ("nov.", 11) ∷ ("december", 12) ∷ ("dec", 12)
    ∷ ("dec.", 12) ∷ []

-- a word, and a dot that follows it; `.` is 46
unfoldable pub word_dot : Reader (List ℕ)
word_dot = do
  w ← alpha1
  value (w ++ (46 ∷ [])) (char ".") <|> pure w

unfoldable pub literal_month : Reader ℕ
literal_month = do
  w ← spaced word_dot
  named months w

-- `14 November 2022`, `14nov2022`, `14-nov-2022`, `14 Nov`
unfoldable pub literal1 : Reader Date
literal1 = do
  d ← spaced (dec_uint 255)
  hyphen
  m ← spaced literal_month
  dated_behind hyphen m d

-- `November 14, 2022`, `Nov 14 2022`, `Nov 14`
unfoldable pub literal2 : Reader Date
literal2 = do
  m ← spaced literal_month
  d ← spaced (dec_uint 255)
  dated_behind comma m d

-- `November-14-2022`, with a year always
unfoldable pub literal3 : Reader Date
literal3 = do
  m ← spaced literal_month
  spaced (char "-")
  d ← spaced (dec_uint 255)
  spaced (char "-")
  w ← year_str
  with_year w m d

unfoldable pub literal : Reader Date
literal = literal1 <|> (literal2 <|> literal3)

unfoldable pub parse_non_iso : Reader Date
parse_non_iso = dotted <|> (us <|> literal)

-- ---- the code's answers
-- a year that may be absent: its digits, and the place after them
abbrev pub year_answer : ℕ → Option (Bor (List ℕ) × ℕ) → Answer WrittenYear
year_answer at (Some y) = matched (written (lowered y.0.now)) y.1
year_answer at None = matched unwritten at

-- the date of an answered year
unfoldable pub written_at : Answer WrittenYear → ℕ → ℕ → List ℕ → Answer Date
written_at a m d text = and_then a (λ y n. dated y m d text n)
