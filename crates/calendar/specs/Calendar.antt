-- Years, months and days, by counting: docs/SCOPE.md, 'The counted calendar'.
use Rattle.std.specs.Prelude.{ℕ, zero, suc, ◌+◌, ◌-◌, ◌%◌, ◌≤◌, Bool, not, ◌&&◌, ◌||◌, cond, List, [], ◌∷◌, eqb, ltb, get_or}
use Rattle.calendar.specs.declared.Civil.{Civil}

-- whether a year has 366 days: if 400 divides it, or if 4 does and 100 doesn't; any other has 365
unfoldable pub leap : ℕ → Bool
leap y = eqb (y % 400) 0 || (eqb (y % 4) 0 && not (eqb (y % 100) 0))

unfoldable pub year_days : ℕ → ℕ
year_days y = cond (leap y) 366 365

-- the days of all years from 0 to the one before y
unfoldable pub days_before_year : ℕ → ℕ
days_before_year zero = 0
days_before_year (suc y) = days_before_year y + year_days y

-- the days of the months; the second has 29 in a year of 366
abbrev pub month_table : List ℕ
month_table = 31 ∷ 28 ∷ 31 ∷ 30 ∷ 31 ∷ 30 ∷ 31 ∷ 31 ∷ 30 ∷ 31 ∷ 30 ∷ 31 ∷ []

-- the days of month m of year y, 0 for a month outside 1 to 12
unfoldable pub month_days : ℕ → ℕ → ℕ
month_days y m = cond (eqb m 2 && leap y) 29 (get_or (0 ∷ month_table) m 0)

-- the days of the first k months of year y
unfoldable pub days_of_months : ℕ → ℕ → ℕ
days_of_months y zero = 0
days_of_months y (suc k) = days_of_months y k + month_days y (suc k)

-- the days before a date from 0000-01-01 on: those of the earlier years, of the earlier months of its year, and the earlier days of its
-- month
unfoldable pub day_number : ℕ → ℕ → ℕ → ℕ
day_number y m d = days_before_year y + days_of_months y (m - 1) + (d - 1)

-- a date of the calendar
pub record Valid (t : Civil ℕ) : Type 0 where
  pub month_low : 1 ≤ t.month
  pub month_high : t.month ≤ 12
  pub day_low : 1 ≤ t.day
  pub day_high : t.day ≤ month_days t.year t.month

abbrev pub ymd : ℕ → ℕ → ℕ → Civil ℕ
ymd y m d = record { year = y; month = m; day = d }

-- the day after: of the same month, or the first of the next month, or of the next year
unfoldable pub next_day : Civil ℕ → Civil ℕ
next_day t =
    cond (ltb t.day (month_days t.year t.month)) (ymd t.year t.month (t.day + 1))
    (cond (ltb t.month 12) (ymd t.year (t.month + 1) 1) (ymd (t.year + 1) 1 1))

-- the date n days after 0000-01-01
unfoldable pub civil : ℕ → Civil ℕ
civil zero = ymd 0 1 1
civil (suc n) = next_day (civil n)

-- the weekday after w, of seven that are numbered from 0
unfoldable pub next_weekday : ℕ → ℕ
next_weekday w = cond (eqb w 6) 0 (w + 1)

-- the weekday of day number n where that of day number 0 is w
unfoldable pub weekday : ℕ → ℕ → ℕ
weekday w zero = w
weekday w (suc n) = next_weekday (weekday w n)
