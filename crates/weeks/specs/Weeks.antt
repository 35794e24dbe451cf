-- Weeks by counting, as ISO 8601 has them: docs/SCOPE.md, 'Weeks'.
use Rattle.std.specs.Prelude.{ℕ, zero, suc, ◌+◌, ◌-◌, Bool, ◌&&◌, cond, eqb, Option, Some, None}
use Rattle.calendar.specs.Calendar.{year_days, days_before_year, civil}
use Rattle.extended.specs.Calendar.{monday_weekday}
use Rattle.weeks.specs.declared.WeekDate.{WeekDate}

-- how many of the k days from day n on are Thursdays, Monday being 0
unfoldable pub thursdays : ℕ → ℕ → ℕ
thursdays n zero = 0
thursdays n (suc k) = thursdays n k + cond (eqb (monday_weekday (n + k)) 3) 1 0

-- a year has as many weeks as Thursdays
unfoldable pub weeks_in : ℕ → ℕ
weeks_in y = thursdays (days_before_year y) (year_days y)

-- how many of the years below y have 53 weeks
abbrev pub long_years : ℕ → ℕ
long_years zero = 0
long_years (suc y) = long_years y + cond (eqb (weeks_in y) 53) 1 0

-- the Thursday of the week, from Monday to Sunday, that day n is in; the first Monday is day 2, 0000-01-03
unfoldable pub thursday : ℕ → ℕ
thursday n = n + 3 - monday_weekday n

-- The week date of day n, from day 2 on. A week is in the year that its Thursday is in, and its number is how many Thursdays that year
-- has up to it. Days 0 and 1 have no week date: what this gives for them means nothing, and `day_of` begins at day 2.
unfoldable pub week_date : ℕ → WeekDate
week_date n =
    let t = thursday n in
    let y = (civil t).year in
    record { year = y; week = thursdays (days_before_year y) (t + 1 - days_before_year y); day = monday_weekday n + 1 }

unfoldable pub same_date : WeekDate → WeekDate → Bool
same_date a b = eqb a.year b.year && eqb a.week b.week && eqb a.day b.day

-- the first of k days from day n on that a test is true of
unfoldable pub first_that : (ℕ → Bool) → ℕ → ℕ → Option ℕ
first_that f n zero = None
first_that f n (suc k) = cond (f n) (Some n) (first_that f (suc n) k)

-- The day from day 2 on that has a week date, if one has. It is the only one (proofs/Theorems.antt, `exactly`), so any larger bound of the search
-- would give the same.
unfoldable pub day_of : WeekDate → Option ℕ
day_of date = first_that (λ n. same_date (week_date n) date) 2 (days_before_year (date.year + 2))
