-- How the items make a record of the base: docs/SCOPE.md, 'Building', 'Weekdays' and 'Zones'.
use Rattle.answers.specs.Numbers as refusal
use Rattle.std.specs.Prelude.{Option, Some, None, cond}
use Rattle.items.specs.declared.Item.{Item}
use Rattle.dates.specs.declared.date.Date.{Date}
use Rattle.times.specs.declared.time.Time.{Time}
use Rattle.rules.specs.declared.Zone.{Zone}
use Rattle.times.specs.declared.offset.Offset.{Offset}
use Rattle.std.specs.Prelude.{ℕ, zero, suc, Bool, true, false, List, [], ◌∷◌, eqb, ℤ, pos, negsuc, ◌+ℤ◌, ◌*ℤ◌}
use Rattle.integers.specs.Integers.{in_i32}
use Rattle.calendar.specs.Calendar.{next_weekday}
use Rattle.answers.specs.Outcome.{Outcome, accepted, check, ◌>>=◌, ◌>>◌}
use Rattle.extended.specs.Extended.{date, time, accept, with_date, with_time, with_offset, add_seconds, add_days, add_hours, add_minutes, add_years, add_months, weekday_monday0}
use Rattle.extended.specs.declared.ExtendedDateTime.{ExtendedDateTime}
use Rattle.times.specs.Offset.{normalized, total_seconds}
use Rattle.times.specs.declared.offset.Normalized.{Normalized}
use Rattle.relative.specs.declared.Relative.{Relative}
use Rattle.relative.specs.declared.Relative.TheVariants as relative
use Rattle.items.specs.Items.{day_index}
use Rattle.items.specs.declared.Weekday.{Weekday}
use Rattle.answers.specs.Placed as placed
use Rattle.answers.specs.Placed.{Placed, fine, refusal}
use Rattle.rules.specs.Rules.{empty, need_midnight, gather, relatives}
use Rattle.rules.specs.declared.Zone.TheVariants as given-zone
use Rattle.rules.specs.declared.DateTimeBuilder.{DateTimeBuilder}

-- ---- the clock at the start

unfoldable pub start : DateTimeBuilder → Bool → ExtendedDateTime → Outcome ExtendedDateTime
start b bare base = cond (need_midnight b bare) (with_time base (time 0 0 0 0)) (accept base)

-- ---- date, time, weekday

-- a date without year is of the base's year
abbrev pub year_or : ℕ → Option ℕ → ℕ
year_or y (Some x) = x
year_or y None = y

unfoldable pub on_date : Option Date → ExtendedDateTime → Outcome ExtendedDateTime
on_date None r = accepted r
on_date (Some d) r = with_date r (date (year_or r.year d.year) d.month d.day)

abbrev pub on_offset : Option Offset → ExtendedDateTime → Outcome ExtendedDateTime
on_offset None r = accepted r
on_offset (Some o) r = with_offset r (total_seconds o)

unfoldable pub on_time : Option Time → ExtendedDateTime → Outcome ExtendedDateTime
on_time None r = accepted r
on_time (Some t) r = do
  next ← on_offset t.offset r
  with_time next (time t.hour t.minute t.second t.nanosecond)

-- A week forward is one less where another day comes first: on a Monday, next Friday is this week's. What the weeks mean is in Weekdays.antt. The
-- manual moves "one week before or after the day that DAY by itself would represent" (29.6): docs/DIFFERENCES.md.
abbrev pub nearer : ℤ → ℤ
nearer (pos (suc n)) = pos n
nearer (pos zero) = pos 0
nearer (negsuc n) = negsuc n

unfoldable pub weeks : ℤ → Bool → ℤ
weeks n same = cond same n (nearer n)

-- The days from the weekday `today` to the next day that is the weekday `target`, 0 if they are the same: counted day by day, at most so many.
-- It is the least number of days after which the weekday is that one (proofs/Reached.antt, `least`).
unfoldable pub days_to : ℕ → ℕ → ℕ → ℕ
days_to zero today target = 0
days_to (suc most) today target = cond (eqb today target) 0 (suc (days_to most (next_weekday today) target))

abbrev pub ahead : ℕ → ℕ → ℕ
ahead today target = days_to 6 today target

-- the weeks in days plus the days ahead; 18 if the product or the sum leaves an i32
unfoldable pub weekday_sum : ℤ → ℕ → Outcome ℤ
weekday_sum n k = do
  check (in_i32 (n *ℤ pos 7)) refusal.sum
  check (in_i32 (n *ℤ pos 7 +ℤ pos k)) refusal.sum
  accepted (n *ℤ pos 7 +ℤ pos k)

unfoldable pub delta : Weekday → ℕ → Outcome ℤ
delta w today = weekday_sum (weeks w.offset (eqb today (day_index w.day))) (ahead today (day_index w.day))

unfoldable pub forwarded : Weekday → ℕ → ExtendedDateTime → Outcome ExtendedDateTime
forwarded w today r = do
  n ← delta w today
  add_days r n

-- 29.6: "The explicit mention of a day of the week will forward the date (only if necessary) to reach that day of the week in the future."
unfoldable pub on_weekday : Option Weekday → ExtendedDateTime → Outcome ExtendedDateTime
on_weekday None r = accepted r
on_weekday (Some w) r = do
  today ← weekday_monday0 r
  forwarded w today r

-- ---- relative items and zone

-- 29.7: "'Relative items' adjust a date (or the current date if none) forward or backward."
unfoldable pub add_relative : Relative → ExtendedDateTime → Outcome ExtendedDateTime
add_relative (relative.Years n) r = add_years r n
add_relative (relative.Months n) r = add_months r n
add_relative (relative.Days n) r = add_days r n
add_relative (relative.Hours n) r = add_hours r n
add_relative (relative.Minutes n) r = add_minutes r n
add_relative (relative.Seconds n k) r = add_seconds r n k

unfoldable pub add_relatives : List Relative → ExtendedDateTime → Outcome ExtendedDateTime
add_relatives [] r = accepted r
add_relatives (x ∷ xs) r = do
  next ← add_relative x r
  add_relatives xs next

-- Hours above 23 move the clock, after the relative items.
unfoldable pub with_zone : Normalized → ExtendedDateTime → Outcome ExtendedDateTime
with_zone z r = do
  next ← add_hours r z.hour_adjustment
  with_offset next (total_seconds z.offset)

unfoldable pub on_zone : Option Zone → ExtendedDateTime → Outcome ExtendedDateTime
on_zone None r = accepted r
on_zone (Some given-zone.Local) r = accepted r
on_zone (Some (given-zone.Offset o)) r = with_zone (normalized o) r

-- ---- the whole

unfoldable pub absolute : DateTimeBuilder → Bool → ExtendedDateTime → Outcome ExtendedDateTime
absolute b bare base = do
  r ← start b bare base
  dated ← on_date b.date r
  timed ← on_time b.time dated
  on_weekday b.weekday timed

abbrev pub none : List Relative → Bool
none [] = true
none (x ∷ xs) = false

unfoldable pub build_extended : DateTimeBuilder → List Relative → ExtendedDateTime → Outcome ExtendedDateTime
build_extended b rs base = do
  r ← absolute b (none rs) base
  moved ← add_relatives rs r
  on_zone b.zone moved

-- what the items give, if no rule is broken
unfoldable pub built : Placed DateTimeBuilder → List Relative → ExtendedDateTime → Placed ExtendedDateTime
built p rs base = placed.◌>>=◌ p (λ b. placed.placed 0 (build_extended b rs base))

-- All rules are tried before anything is built.
unfoldable pub build : List ℕ → List Item → ExtendedDateTime → Placed ExtendedDateTime
build digits xs base = built (gather digits 0 empty xs) (relatives xs) base
