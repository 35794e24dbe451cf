-- The text of a record, and what writing it answers: docs/SCOPE.md, 'The writer'.
use Rattle.answers.specs.Numbers as refusal
use Rattle.std.specs.Prelude.{ℕ, zero, suc, ◌+◌, ◌/◌, ◌%◌, max, min, Bool, true, false, cond, List, [], ◌∷◌, ◌++◌, eqb, ltb, leb, ℤ, pos, negsuc, nat_abs, length, drop}
use Rattle.answers.specs.Outcome.{Outcome, accepted, refused, number, value_or, check, ◌>>◌}
use Rattle.extended.specs.Extended.{test}
use Rattle.extended.specs.declared.ExtendedDateTime.{ExtendedDateTime}
use Rattle.writer.specs.declared.Written.{Written}

-- ---- digits

-- the last k decimal digits of n
unfoldable pub fixed : ℕ → ℕ → List ℕ
fixed zero n = []
fixed (suc k) n = fixed k (n / 10) ++ ((48 + n % 10) ∷ [])

-- how many digits n has, if they are at most f + 1
unfoldable pub width_up_to : ℕ → ℕ → ℕ
width_up_to zero n = 1
width_up_to (suc f) n = cond (ltb n 10) 1 (suc (width_up_to f (n / 10)))

unfoldable pub width : ℕ → ℕ
width n = width_up_to n n

-- n in as many digits as it needs, and in at least k digits
unfoldable pub digits : ℕ → List ℕ
digits n = fixed (width n) n

unfoldable pub padded : ℕ → ℕ → List ℕ
padded k n = fixed (max k (width n)) n

-- ---- the text of a record

-- a sign is true for minus, as in the readers
abbrev pub negative : ℤ → Bool
negative (pos n) = false
negative (negsuc n) = true

-- offset 0 is written with plus; `+` is 43 and `-` is 45
abbrev pub sign_of : Bool → ℕ
sign_of true = 45
sign_of false = 43

-- A byte and k digits of n after it; each part of the text is given with what follows it.
abbrev pub field : ℕ → ℕ → ℕ → List ℕ → List ℕ
field b k n rest = b ∷ (fixed k n ++ rest)

-- the year has at least four digits, and more from 10000 on; `-` is 45
abbrev pub date_part : ExtendedDateTime → List ℕ → List ℕ
date_part r rest = padded 4 r.year ++ field 45 2 r.month (field 45 2 r.day rest)

-- a blank is 32, `:` is 58 and `.` is 46
abbrev pub time_part : ExtendedDateTime → List ℕ → List ℕ
time_part r rest = field 32 2 r.hour (field 58 2 r.minute (field 58 2 r.second (field 46 9 r.nanosecond rest)))

-- the offset's minutes are below 60
abbrev pub offset_part : ℤ → List ℕ → List ℕ
offset_part z rest = field (sign_of (negative z)) 2 (nat_abs z / 3600) (field 58 2 (nat_abs z % 3600 / 60) rest)

unfoldable pub text_of : ExtendedDateTime → List ℕ
text_of r = date_part r (time_part r (offset_part r.offset_seconds []))

-- ---- writing

-- an offset of no whole minutes is 20
abbrev pub whole_minutes : ℤ → Bool
whole_minutes z = eqb (nat_abs z % 60) 0

-- the text, after the tests of the record, then 20, then 19 for a place of too few bytes
unfoldable pub written : ExtendedDateTime → ℕ → Outcome (List ℕ)
written r room = do
  test r
  check (whole_minutes r.offset_seconds) refusal.seam
  check (leb (length (text_of r)) room) refusal.short
  accepted (text_of r)

-- a refusal writes nothing
abbrev pub bytes_of : Outcome (List ℕ) → List ℕ
bytes_of o = value_or [] o

-- how many bytes are written
abbrev pub written_length : Outcome (List ℕ) → Outcome ℕ
written_length (accepted text) = accepted (length text)
written_length (refused n) = refused n

-- the length, 0 in a refusal; its field ends at 4294967295
unfoldable pub length_answer : Outcome ℕ → Written
length_answer o = record { number = number o; length = min (value_or 0 o) 4294967295 }

-- the same of a text that is written
abbrev pub written_answer : Outcome (List ℕ) → Written
written_answer o = record { number = number o; length = length (bytes_of o) }

-- bytes after the text stay
abbrev pub over : List ℕ → List ℕ → List ℕ
over text out = text ++ drop (length text) out
