-- What a weekday means, as proofs/Reached.antt proves it: docs/SCOPE.md, 'Weekdays'. 0 is the first such day from the date on, a number above 0
-- counts such days after the date, one below 0 such days before it.
use Rattle.std.specs.Prelude.{ℕ, zero, suc, ◌+◌, ◌*◌, ◌≡◌, true, ℤ, pos, negsuc, ◌+ℤ◌, ◌*ℤ◌}
use Rattle.answers.specs.Outcome.{accepted, ◌>>=◌}
use Rattle.calendar.specs.Calendar.{next_weekday}
use Rattle.extended.specs.Calendar.{day_number, monday_weekday}
use Rattle.extended.specs.Extended.{Recorded, moment}
use Rattle.extended.specs.declared.ExtendedDateTime.{ExtendedDateTime}
use Rattle.items.specs.Items.{day_index}
use Rattle.items.specs.declared.Weekday.{Weekday}
use Rattle.rules.specs.declared.DateTimeBuilder.{DateTimeBuilder}
use Rattle.builder.specs.Building.{ahead, start, on_date, on_time}

-- the number of a record's weekday, from Monday, 0
abbrev pub weekday_of : ExtendedDateTime → ℕ
weekday_of r = monday_weekday (day_number r.year r.month r.day)

-- the days from one weekday to the next such day after it, from 1 to 7: counted from the next day on
abbrev pub after : ℕ → ℕ → ℕ
after today target = suc (ahead (next_weekday today) target)

-- The days to the day that is meant: such days are 7 apart. Going back, the days are counted from the last such day to today.
abbrev pub days_meant : ℕ → ℕ → ℤ → ℤ
days_meant today target (pos zero) = pos (ahead today target)
days_meant today target (pos (suc n)) = pos (7 * n + after today target)
days_meant today target (negsuc n) = negsuc (7 * n + ahead (next_weekday target) today)

-- s is the accepted record so many days after r, with its clock and offset, and falls on that day of the week
pub record Reached (w : Weekday) (r s : ExtendedDateTime) : Type 0 where
  pub on_day : weekday_of s ≡ day_index w.day
  pub away : Recorded (moment r +ℤ days_meant (weekday_of r) (day_index w.day) w.offset *ℤ pos 86400) r.nanosecond r.offset_seconds s

-- s is reached from the date and the time that the items give, or from midnight of the base's day
pub record BuiltFrom (b : DateTimeBuilder) (w : Weekday) (base s : ExtendedDateTime) : Type 0 where
  pub from : ExtendedDateTime
  pub given : (start b true base >>= (λ r. on_date b.date r >>= on_time b.time)) ≡ accepted from
  pub reached : Reached w from s
