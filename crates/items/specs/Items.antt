-- The items of a text, as in items/mod.rs. 29.1: "A 'date' is a string, possibly empty, containing many items separated by whitespace."
--
-- The grammar of a text. Space may come before every quoted text and every row of digits or letters, but not after `~`. Alternatives are tried in
-- order, the first that matches is taken, and `!` looks ahead. docs/SCOPE.md, 'The grammar', has the conditions of each part.
--
--   text         = { item } , space , end ;
--   item         = iso_date , [ separator , date_time ] | date | time | relative ;
--
--   iso_date     = year , "-" , month , "-" , day | row ;
--   row          = ~ digits ;
--   separator    = "t" | ~ " " ;
--   date_time    = clock , ! ( [ ~ blanks ] , ~ meridiem ) | time ;
--
--   date         = dotted | slashed | day_first | name_first | hyphened ;
--   dotted       = day , "." , month , "." , [ year , ended ] ;
--   slashed      = digits , "/" , digits , [ "/" , digits ] ;
--   day_first    = day , [ "-" ] , name , [ [ "-" ] , year , ended ] ;
--   name_first   = name , day , [ [ "," , ~ blanks ] , year , ended ] ;
--   hyphened     = name , "-" , day , "-" , year ;
--   ended        = ~ blanks | ~ end ;
--   name         = letters , [ ~ "." ] ;
--
--   time         = twelve | clock ;
--   twelve       = hour , [ ":" , minute ] , [ ":" , second ] , meridiem ;
--   clock        = hour , offset | hour , ":" , minute , [ ":" , second ] , [ correction ] ;
--   second       = digits , [ fraction ] ;
--   fraction     = ~ ( "." | "," ) , ~ digits ;
--   meridiem     = "am" | "a.m." | "pm" | "p.m." ;
--
--   offset       = ! relative , zone ;
--   correction   = ! ( sign , digits , fraction ) , zone ;
--   zone         = sign , digits , ":" , digits | sign , digits ;
--   sign         = "+" | "-" ;
--
--   relative     = seconds | displacement ;
--   seconds      = [ sign ] , digits , [ fraction ] , letters , [ direction ] ;
--   displacement = [ ordinal ] , letters , [ direction ] ;
--   ordinal      = letters | [ sign ] , digits ;
--   direction    = "ago" | "hence" ;
--
--   space        = [ ~ blanks ] , { ( comment | ~ sign , [ ~ blanks ] , ! ~ digits ) , [ ~ blanks ] } ;
--   comment      = ~ "(" , { comment | ~ other } , ~ ")" ;
--   year = digits ; month = digits ; day = digits ; hour = digits ; minute = digits ;
use Rattle.answers.specs.Numbers as refusal
use Rattle.answers.specs.Limits.{most_items}
use Rattle.std.specs.Prelude.{ℕ, zero, suc, List, [], ◌∷◌, ◌++◌, length, ltb, cond}
use Rattle.primitive.specs.Answer.{Answer, Reader, matched, dropped, none, stop, ◌>>=◌, ◌<|>◌, pure}
use Rattle.primitive.specs.Primitive.{space}
use Rattle.dates.specs.Date.{iso1, iso2, parse_non_iso}
use Rattle.dates.specs.declared.date.Date.{Date}
use Rattle.times.specs.Time as time
use Rattle.relative.specs.Relative as relative
use Rattle.items.specs.Combined.{parse_time_after_date}
use Rattle.items.specs.declared.Day.{Day}
use Rattle.items.specs.declared.Day.TheVariants as day
use Rattle.items.specs.declared.Item.{Item}
use Rattle.items.specs.declared.Item.TheVariants as item

-- days from Monday, 0
abbrev pub day_index : Day → ℕ
day_index day.Monday = 0
day_index day.Tuesday = 1
day_index day.Wednesday = 2
day_index day.Thursday = 3
day_index day.Friday = 4
day_index day.Saturday = 5
day_index day.Sunday = 6

-- SCOPE, 'Combined items': where no time follows, the date is an item by itself.
unfoldable pub date_time_item : Date → Reader Item
date_time_item d = do
  v ← parse_time_after_date d
  pure (item.DateTime v)

unfoldable pub dated_item : Date → Reader Item
dated_item d = date_time_item d <|> pure (item.Date d)

unfoldable pub iso_date : Reader Date
iso_date = iso1 <|> iso2

unfoldable pub iso_item : Reader Item
iso_item = do
  d ← iso_date
  dated_item d

unfoldable pub date_item : Reader Item
date_item = do
  d ← parse_non_iso
  pure (item.Date d)

unfoldable pub time_item : Reader Item
time_item = do
  t ← time.parse
  pure (item.Time t)

unfoldable pub relative_item : Reader Item
relative_item = do
  r ← relative.parse
  pure (item.Relative r)

unfoldable pub time_or_relative : Reader Item
time_or_relative = time_item <|> relative_item

unfoldable pub other_item : Reader Item
other_item = date_item <|> time_or_relative

-- SCOPE, 'The list of items': `iso1`, `iso2` (each then with a time), `parse_non_iso`, `time::parse`, relative.
unfoldable pub parse_item : Reader Item
parse_item = iso_item <|> other_item

-- ---- all of them

-- the items of a text, and how the reading ended: 0 at the end of the text, else a refusal and its place
pub record Parsed : Type 0 where
  pub items : List Item
  pub number : ℕ
  pub place : ℕ

abbrev pub ended : List Item → ℕ → ℕ → Parsed
ended xs number place = record { items = xs; number = number; place = place }

-- SCOPE, 'The list of items': 3 where no reader matches, 4 where one stops, 22 where an item lost a digit. The place of all three is the end
-- of the item before.
abbrev pub further : Answer Item → List Item → ℕ → (Item → ℕ → Parsed) → Parsed
further (matched v n) xs at f = f v n
further (dropped v n) xs at f = ended xs refusal.fraction at
further none xs at f = ended xs refusal.unread at
further stop xs at f = ended xs refusal.stopped at

-- the Rust's answer: a digit that is lost changes nothing
abbrev pub kept : {A : Type 0} → Answer A → Answer A
kept (matched v n) = matched v n
kept (dropped v n) = matched v n
kept none = none
kept stop = stop

-- SCOPE, 'The list of items': the end of the text is looked for before each item, which p reads. After the items xs there is room for so many
-- more; 1 where one is read beyond them, whether or not it lost a digit.
unfoldable pub items_from : Reader Item → ℕ → List Item → List ℕ → ℕ → Parsed
items_from p zero xs text at =
    cond (ltb (space text at) (length text)) (further (kept (p text at)) xs at (λ v n. ended xs refusal.oversize 0)) (ended xs 0 0)
items_from p (suc room) xs text at =
    cond (ltb (space text at) (length text))
    (further (p text at) xs at (λ v n. items_from p room (xs ++ (v ∷ [])) text n)) (ended xs 0 0)

unfoldable pub parse_items : List ℕ → Parsed
parse_items text = items_from parse_item most_items [] text 0

-- the Rust's reading, which gives no 22
unfoldable pub rust_item : Reader Item
rust_item text at = kept (parse_item text at)

unfoldable pub rust_items : List ℕ → Parsed
rust_items text = items_from rust_item most_items [] text 0
