-- SCOPE, 'Weekdays': the answers from Wednesday 2024-03-13, tried by computing. Assumes nothing.
use native.Mathlib.Omega.{arith}
use mathlib.Core.Path.{◌≡◌, refl, ap}
use lib.IntN.{ℤ, pos, negsuc, ◌+ℤ◌, ◌*ℤ◌}
use Rattle.std.specs.Prelude.{Some}
use Rattle.answers.specs.Outcome.{accepted, refused}
use Rattle.calendar.proofs.Counting.{weekday_closed}
use Rattle.extended.specs.Calendar.{leap, year_days, days_before_year, month_days, days_of_months, day_number, next_weekday, monday_weekday}
use Rattle.extended.specs.Extended.{make, test, test_date, test_time, test_offset, moment, clock_seconds, add_days, weekday_monday0}
use Rattle.extended.specs.declared.ExtendedDateTime.{ExtendedDateTime}
use Rattle.extended.proofs.Examples.{midnight}
use Rattle.extended.proofs.Theorems.{units_exact}
use Rattle.items.specs.declared.Day.TheVariants as day
use Rattle.items.specs.declared.Weekday.{Weekday}
use Rattle.builder.specs.Building.{days_to, weeks, weekday_sum, delta, forwarded, on_weekday}

abbrev wednesday : ExtendedDateTime
wednesday = midnight 2024 3 13

its_weekday : weekday_monday0 wednesday ≡ accepted 2
unfolding make weekday_monday0 monday_weekday test test_date test_time test_offset leap month_days day_number days_before_year year_days days_of_months
its_weekday = ap accepted (weekday_closed 5 739323 (omega arith))

-- an item that leads so many days away, to another midnight
to : (w : Weekday) (n : ℤ) (s : ExtendedDateTime) → delta w 2 ≡ accepted n → add_days wednesday n ≡ accepted s → on_weekday (Some w) wednesday ≡ accepted s
unfolding on_weekday forwarded
to w n s d e = rw (its_weekday, d) e

next : (n : ℤ) (s : ExtendedDateTime) → test s ≡ accepted tt → moment s ≡ moment wednesday +ℤ n *ℤ pos 86400 → s.nanosecond ≡ 0 → s.offset_seconds ≡ pos 0 → add_days wednesday n ≡ accepted s
unfolding add_days make test test_date test_time test_offset leap month_days
next n s t m a o = (units_exact 86400 wednesday n s refl).1 (record { is_accepted = t; has_moment = m; has_nanosecond = a; has_offset = o })

pub monday : on_weekday (Some (record { offset = pos 0; day = day.Monday })) wednesday ≡ accepted (midnight 2024 3 18)
unfolding make test test_date test_time test_offset moment clock_seconds day_number days_before_year year_days leap days_of_months month_days delta weeks weekday_sum days_to next_weekday
monday = to _ (pos 5) (midnight 2024 3 18) refl (next (pos 5) (midnight 2024 3 18) refl refl refl refl)

pub next_monday : on_weekday (Some (record { offset = pos 1; day = day.Monday })) wednesday ≡ accepted (midnight 2024 3 18)
unfolding make test test_date test_time test_offset moment clock_seconds day_number days_before_year year_days leap days_of_months month_days delta weeks weekday_sum days_to next_weekday
next_monday = to _ (pos 5) (midnight 2024 3 18) refl (next (pos 5) (midnight 2024 3 18) refl refl refl refl)

pub last_monday : on_weekday (Some (record { offset = negsuc 0; day = day.Monday })) wednesday ≡ accepted (midnight 2024 3 11)
unfolding make test test_date test_time test_offset moment clock_seconds day_number days_before_year year_days leap days_of_months month_days delta weeks weekday_sum days_to next_weekday
last_monday = to _ (negsuc 1) (midnight 2024 3 11) refl (next (negsuc 1) (midnight 2024 3 11) refl refl refl refl)

pub next_wednesday : on_weekday (Some (record { offset = pos 1; day = day.Wednesday })) wednesday ≡ accepted (midnight 2024 3 20)
unfolding make test test_date test_time test_offset moment clock_seconds day_number days_before_year year_days leap days_of_months month_days delta weeks weekday_sum days_to next_weekday
next_wednesday = to _ (pos 7) (midnight 2024 3 20) refl (next (pos 7) (midnight 2024 3 20) refl refl refl refl)

-- two days ahead or more, the sum leaves an i32
pub too_many : on_weekday (Some (record { offset = pos 306783379; day = day.Friday })) wednesday ≡ refused 18
unfolding on_weekday forwarded delta weeks weekday_sum days_to next_weekday
too_many = rw its_weekday refl
