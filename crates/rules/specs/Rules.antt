-- Which items may be combined: docs/SCOPE.md, 'The rules' and 'Pure numbers'. 29.1: "A 'date' is a string, possibly empty, containing many
-- items separated by whitespace. .. Order of the items is immaterial."
use Rattle.answers.specs.Numbers as refusal
use Rattle.std.specs.Prelude.{Option, Some, None, is_some, cond}
use Rattle.rules.specs.declared.Zone.{Zone}
use Rattle.relative.specs.declared.Relative.{Relative}
use Rattle.std.specs.Prelude.{ℕ, suc, ◌+◌, ◌-◌, Bool, false, not, ◌&&◌, ◌||◌, List, [], ◌∷◌, ◌++◌, leb, eqb}
use Rattle.std.proofs.Math.Seq.{slice}
use Rattle.answers.specs.Outcome.{Outcome, accepted, refused, check, ◌>>=◌, ◌>>◌}
use Rattle.primitive.specs.Answer.{Answer, matched, dropped, none, stop}
use Rattle.primitive.specs.Primitive.{parse_uint}
use Rattle.dates.specs.Year.{year_from_str}
use Rattle.dates.specs.declared.date.Date.{Date}
use Rattle.times.specs.declared.time.Time.{Time}
use Rattle.items.specs.declared.combined.DateTime.{DateTime}
use Rattle.items.specs.declared.Weekday.{Weekday}
use Rattle.items.specs.declared.Pure.{Pure}
use Rattle.items.specs.declared.Item.{Item}
use Rattle.items.specs.declared.Item.TheVariants as item
use Rattle.answers.specs.Placed as placed
use Rattle.answers.specs.Placed.{Placed, fine, refusal}
use Rattle.rules.specs.declared.Zone.TheVariants as zone
use Rattle.rules.specs.declared.DateTimeBuilder.{DateTimeBuilder}

-- ---- what is given

-- whether the time that is given has an offset of its own
abbrev pub has_offset : Option Time → Bool
has_offset (Some t) = is_some t.offset
has_offset None = false

-- no item yet
abbrev pub empty : DateTimeBuilder
empty = record { date = None; time = None; weekday = None; zone = None }

-- SCOPE, 'Building': a date, a time or a weekday sets the clock to midnight, and a zone does where there is no relative item
unfoldable pub need_midnight : DateTimeBuilder → Bool → Bool
need_midnight b bare = is_some b.date || (is_some b.time || (is_some b.weekday || (is_some b.zone && bare)))

-- ---- one item more; a second date, time, weekday or zone is 6

abbrev pub with_date : DateTimeBuilder → Date → DateTimeBuilder
with_date b d = record { date = Some d; time = b.time; weekday = b.weekday; zone = b.zone }

unfoldable pub set_date : DateTimeBuilder → Date → Outcome DateTimeBuilder
set_date b d = do
  check (not (is_some b.date)) refusal.twice
  accepted (with_date b d)

-- a time with an offset, after a zone, is 7
unfoldable pub set_time : DateTimeBuilder → Time → Outcome DateTimeBuilder
set_time b t = do
  check (not (is_some b.time)) refusal.twice
  check (not (is_some b.zone && is_some t.offset)) refusal.rival
  accepted (record { date = b.date; time = Some t; weekday = b.weekday; zone = b.zone })

unfoldable pub set_weekday : DateTimeBuilder → Weekday → Outcome DateTimeBuilder
set_weekday b w = do
  check (not (is_some b.weekday)) refusal.twice
  accepted (record { date = b.date; time = b.time; weekday = Some w; zone = b.zone })

-- a zone after a time with an offset is 6, as after another zone
unfoldable pub set_zone : DateTimeBuilder → Option Zone → Outcome DateTimeBuilder
set_zone b z = do
  check (not (is_some b.zone || has_offset b.time)) refusal.twice
  accepted (record { date = b.date; time = b.time; weekday = b.weekday; zone = z })

unfoldable pub set_date_time : DateTimeBuilder → DateTime → Outcome DateTimeBuilder
set_date_time b v = do
  next ← set_date b v.date
  set_time next v.time

-- ---- pure numbers. 29.8: "The precise interpretation of a pure decimal number depends on the context in the date string."

-- what a reader of digits answers, or the number of its refusal. Such a reader meets no fraction.
abbrev pub wanted : ℕ → Answer ℕ → Outcome ℕ
wanted n (matched v at) = accepted v
wanted n (dropped v at) = refused n
wanted n none = refused n
wanted n stop = refused n

abbrev pub date_of_year : Date → ℕ → Date
date_of_year d y = record { day = d.day; month = d.month; year = Some y }

-- a pure number after a date without year becomes its year; 9 if it is above the last year, or if no u32 can represent it
unfoldable pub set_pure_year : List ℕ → DateTimeBuilder → Date → ℕ → ℕ → Outcome DateTimeBuilder
set_pure_year digits b d from to = do
  y ← wanted refusal.over (year_from_str (slice from to digits) digits to)
  accepted (with_date b (date_of_year d y))

abbrev pub clock : ℕ → ℕ → Time
clock h m = record { hour = h; minute = m; second = 0; nanosecond = 0; offset = None }

-- 8 for a pure number that is no hour and minute
unfoldable pub set_hour : List ℕ → DateTimeBuilder → ℕ → ℕ → Outcome DateTimeBuilder
set_hour digits b from to = do
  h ← wanted refusal.pure (parse_uint 23 (slice from to digits) digits to)
  set_time b (clock h 0)

unfoldable pub set_hour_and_minute : List ℕ → DateTimeBuilder → ℕ → ℕ → ℕ → Outcome DateTimeBuilder
set_hour_and_minute digits b from middle to = do
  h ← wanted refusal.pure (parse_uint 23 (slice from middle digits) digits middle)
  m ← wanted refusal.pure (parse_uint 59 (slice middle to digits) digits to)
  set_time b (clock h m)

-- any other pure number is an hour (one or two digits) or an hour and a minute (three or four)
unfoldable pub set_pure_time : List ℕ → DateTimeBuilder → Pure → Outcome DateTimeBuilder
set_pure_time digits b p = do
  check (leb 1 p.length) refusal.pure
  check (leb p.length 4) refusal.pure
  cond (leb p.length 2) (set_hour digits b p.start (p.start + p.length))
      (set_hour_and_minute digits b p.start (p.start + p.length - 2) (p.start + p.length))

abbrev pub pure_year : List ℕ → DateTimeBuilder → Pure → Date → Option ℕ → Outcome DateTimeBuilder
pure_year digits b p d (Some y) = set_pure_time digits b p
pure_year digits b p d None = set_pure_year digits b d p.start (p.start + p.length)

abbrev pub pure : List ℕ → DateTimeBuilder → Pure → Option Date → Outcome DateTimeBuilder
pure digits b p (Some d) = pure_year digits b p d d.year
pure digits b p None = set_pure_time digits b p

unfoldable pub set_pure : List ℕ → DateTimeBuilder → Pure → Outcome DateTimeBuilder
set_pure digits b p = pure digits b p b.date

-- ---- all items

-- A relative item may be combined with any other.
unfoldable pub set_item : List ℕ → DateTimeBuilder → Item → Outcome DateTimeBuilder
set_item digits b (item.DateTime v) = set_date_time b v
set_item digits b (item.Date d) = set_date b d
set_item digits b (item.Time t) = set_time b t
set_item digits b (item.Weekday w) = set_weekday b w
set_item digits b (item.Relative r) = accepted b
set_item digits b (item.Offset o) = set_zone b (Some (zone.Offset o))
set_item digits b item.LocalZone = set_zone b (Some zone.Local)
set_item digits b (item.Pure p) = set_pure digits b p

-- the place of a rule's refusal: the item's index, and 0 for a pure year
unfoldable pub rule_place : ℕ → ℕ → ℕ
rule_place n i = cond (eqb n refusal.over) 0 i

-- The rules are tried in item order; the first item here has index i.
abbrev pub onward : ℕ → Outcome DateTimeBuilder → (DateTimeBuilder → Placed DateTimeBuilder) → Placed DateTimeBuilder
onward i (accepted b) f = f b
onward i (refused n) f = refusal n (rule_place n i)

unfoldable pub gather : List ℕ → ℕ → DateTimeBuilder → List Item → Placed DateTimeBuilder
gather digits i b [] = fine b
gather digits i b (x ∷ xs) = onward i (set_item digits b x) (λ next. gather digits (suc i) next xs)

-- the rules of one item more, of index i, after those of the items before it
unfoldable pub add_item : List ℕ → ℕ → Item → Placed DateTimeBuilder → Placed DateTimeBuilder
add_item digits i x p = placed.◌>>=◌ p (λ b. onward i (set_item digits b x) fine)

-- the relative items, in their order
abbrev pub relative_of : Item → List Relative
relative_of (item.Relative r) = r ∷ []
relative_of (item.DateTime v) = []
relative_of (item.Date d) = []
relative_of (item.Time t) = []
relative_of (item.Weekday w) = []
relative_of (item.Offset o) = []
relative_of item.LocalZone = []
relative_of (item.Pure p) = []

unfoldable pub relatives : List Item → List Relative
relatives [] = []
relatives (x ∷ xs) = relative_of x ++ relatives xs
