-- Week dates of single days, computed by the definition alone. Assumes nothing.
use mathlib.Core.Path.{◌≡◌, refl}
use Rattle.std.specs.Prelude.{Some}
use Rattle.calendar.specs.Calendar.{leap, year_days, days_before_year, month_days, next_day, civil, next_weekday, weekday}
use Rattle.extended.specs.Calendar.{monday_weekday}
use Rattle.weeks.specs.Weeks.{thursdays, thursday, week_date, same_date, first_that, day_of}

-- years 0, which ends with a Sunday, and 4, a leap year that begins with a Thursday
pub examples :
    (week_date 2 ≡ record { year = 0; week = 1; day = 1 })
    × (week_date 8 ≡ record { year = 0; week = 1; day = 7 })
    × (week_date 9 ≡ record { year = 0; week = 2; day = 1 })
    × (week_date 365 ≡ record { year = 0; week = 52; day = 7 })
    × (week_date 366 ≡ record { year = 1; week = 1; day = 1 })
    × (week_date 1459 ≡ record { year = 4; week = 1; day = 2 })
    × (week_date 1461 ≡ record { year = 4; week = 1; day = 4 })
    × (week_date 1826 ≡ record { year = 4; week = 53; day = 5 })
    × (week_date 1827 ≡ record { year = 4; week = 53; day = 6 })
    × (week_date 1829 ≡ record { year = 5; week = 1; day = 1 })
    × (day_of (record { year = 0; week = 1; day = 1 }) ≡ Some 2)
    × (day_of (record { year = 0; week = 3; day = 5 }) ≡ Some 20)
unfolding leap year_days days_before_year month_days next_day civil next_weekday weekday monday_weekday thursdays thursday week_date same_date first_that day_of
examples = (refl, refl, refl, refl, refl, refl, refl, refl, refl, refl, refl, refl)
