-- What is proved of weeks beside the contract: the day of a week date is found by the definition of a day's week date, week 1 is the week of the
-- year's first Thursday, and a year has 52 or 53 weeks. Assumes nothing.
use native.Mathlib.Omega.{arith}
use Prim.Native.Nat.{ℕ, zero, suc, ◌+◌, ◌-◌, ◌*◌, ◌/◌, ◌%◌, ◌<◌, ◌≤◌}
use mathlib.Core.Path.{◌≡◌, refl, sym, ap, ◌∙◌}
use mathlib.Core.Bool.{Bool, true, false, cond, ◌&&◌}
use mathlib.Core.Logic.{◌↔◌}
use lib.Dec.{eqb, leb}
use borrow.Author.Tests.{leb-true, leb-false}
use Rattle.std.specs.Prelude.{Option, Some, None}
use Rattle.calendar.specs.Calendar.{leap, year_days, days_before_year, civil}
use Rattle.calendar.proofs.Counting.{year_lt, year_step, year_bounds, periodic}
use Rattle.calendar.proofs.Dates.{between, year_at}
use Rattle.extended.specs.Calendar.{monday_weekday}
use Rattle.weeks.specs.Weeks.{thursdays, weeks_in, long_years, week_date, day_of}
use Rattle.weeks.specs.declared.WeekDate.{WeekDate}
use Rattle.weeks.proofs.Thursdays.{weekday_of, thursdays_counted, weeks_by, Dated, dated_of_day, day_of_dated, weeks_counted}
use Rattle.weeks.proofs.Search.{day_none, day_dated, day_found}

-- ---- the day of a week date

-- Every day from the first Monday on, 0000-01-03, is the day of its own week date.
pub own_date : (n : ℕ) → 2 ≤ n → day_of (week_date n) ≡ Some n
own_date n h = let d = week_date n in day_dated d.year d.week d.day n (dated_of_day n h)

-- The day that is found is the only one, from day 2 on: so the bound of the search adds nothing to what the definition says.
pub exactly : (date : WeekDate) (n : ℕ) → (day_of date ≡ Some n) ↔ ((2 ≤ n) × (week_date n ≡ date))
exactly date n = (day_found date n, back)
  where
    back : (2 ≤ n) × (week_date n ≡ date) → day_of date ≡ Some n
    back w = rw w.1 at (own_date n w.0)

-- The day is in the year of the week date, or in the year before or after it.
pub near_year : (date : WeekDate) (n : ℕ) → day_of date ≡ Some n → (date.year ≤ (civil n).year + 1) × ((civil n).year ≤ date.year + 1)
near_year date n e =
    let f = day_found date n e in
    let y = date.year in
    let r : Dated y date.week date.day n = rw f.1 at (dated_of_day n f.0) in
    let b = between n in
    let c = (civil n).year in
    let u : y + 1 + 1 ≡ y + 2 = omega arith in
    let v : c + 1 + 1 ≡ c + 2 = omega arith in
    let s = ap days_before_year u in
    let t = ap days_before_year v in
    let g = year_lt y (c + 2) (omega (arith, r.week_low, r.day_low, r.number, b.1, t, year_step (c + 1), year_bounds (c + 1))) in
    let h = year_lt c (y + 2) (omega (arith, r.week_high, r.day_high, r.number, b.0, s, year_step (y + 1), year_bounds (y + 1))) in
    (omega (arith, g), omega (arith, h))

-- ---- a year's weeks

-- A week date has a day exactly if the week is one of its year's, and the day one of seven.
pub which_have_days : (y w d : ℕ) → ((n : ℕ) × (day_of (record { year = y; week = w; day = d }) ≡ Some n)) ↔ ((1 ≤ w) × (w ≤ weeks_in y) × (1 ≤ d) × (d ≤ 7))
which_have_days y w d = (to, back)
  where
    to : (n : ℕ) × (day_of (record { year = y; week = w; day = d }) ≡ Some n) → (1 ≤ w) × (w ≤ weeks_in y) × (1 ≤ d) × (d ≤ 7)
    to f =
        let g = day_found (record { year = y; week = w; day = d }) f.0 f.1 in
        let r : Dated y w d f.0 = rw g.1 at (dated_of_day f.0 g.0) in
        (r.week_low, omega (arith, r.week_high, weeks_counted y), r.day_low, r.day_high)

    back : (1 ≤ w) × (w ≤ weeks_in y) × (1 ≤ d) × (d ≤ 7) → (n : ℕ) × (day_of (record { year = y; week = w; day = d }) ≡ Some n)
    back h =
        let n = 7 * (w + weeks_by y) + d - 6 in
        let a = h.0 in
        let c = h.2 in
        (n, day_dated y w d n (record { week_low = h.0; week_high = omega (arith, weeks_counted y, h.1); day_low = h.2; day_high = h.3; number = omega arith }))

-- The day in a closed form, which computes.
abbrev pub day_by : WeekDate → Option ℕ
day_by date =
    let b = weeks_by date.year in
    cond (leb 1 date.week && leb (date.week + b) (weeks_by (date.year + 1)) && leb 1 date.day && leb date.day 7)
    (Some (7 * (date.week + b) + date.day - 6)) None

pub day_closed : (date : WeekDate) → day_of date ≡ day_by date
day_closed date =
    by (leb 1 date.week) refl (leb (date.week + weeks_by date.year) (weeks_by (date.year + 1))) refl (leb 1 date.day) refl (leb date.day 7) refl
  where
    by : (a : Bool) → leb 1 date.week ≡ a → (b : Bool) → leb (date.week + weeks_by date.year) (weeks_by (date.year + 1)) ≡ b → (c : Bool) → leb 1 date.day ≡ c →
        (d : Bool) → leb date.day 7 ≡ d →
        day_of date ≡ cond (a && b && c && d) (Some (7 * (date.week + weeks_by date.year) + date.day - 6)) None
    by true e true f true g true h =
        let k = leb-true (date.week + weeks_by date.year) (weeks_by (date.year + 1)) f in
        day_dated date.year date.week date.day _ (record { week_low = leb-true 1 date.week e; week_high = k; day_low = leb-true 1 date.day g; day_high = leb-true date.day 7 h; number = omega (arith, leb-true 1 date.week e) })
    by true e true f true g false h = day_none date (λ n r. omega (arith, r.day_high, leb-false date.day 7 h))
    by true e true f false g d h = day_none date (λ n r. omega (arith, r.day_low, leb-false 1 date.day g))
    by true e false f c g d h = day_none date (λ n r. omega (arith, r.week_high, leb-false (date.week + weeks_by date.year) (weeks_by (date.year + 1)) f))
    by false e b f c g d h = day_none date (λ n r. omega (arith, r.week_low, leb-false 1 date.week e))

-- The weeks of a year are those of the year 400 years later.
pub weeks_again : (y : ℕ) → weeks_in (y + 400) ≡ weeks_in y
weeks_again y =
    let e : y + 400 + 1 ≡ y + 1 + 400 = omega arith in
    omega (arith, weeks_counted y, weeks_counted (y + 400), periodic y, ap days_before_year e, periodic (y + 1))

-- the years of 53 weeks by the weeks before each year, which compute
by_quotients : ℕ → ℕ
by_quotients zero = 0
by_quotients (suc y) = by_quotients y + cond (eqb (weeks_by (y + 1) - weeks_by y) 53) 1 0

counted_so : (n : ℕ) → long_years n ≡ by_quotients n
unfolding by_quotients
counted_so zero = refl
counted_so (suc y) =
    let e : weeks_in y ≡ weeks_by (y + 1) - weeks_by y = omega (arith, weeks_counted y) in
    rw (e, counted_so y) refl

-- 71 years of the cycle have 53 weeks.
pub long_years_71 : long_years 400 ≡ 71
unfolding by_quotients days_before_year year_days leap
long_years_71 = counted_so 400 ∙ refl

-- ---- week 1

-- The Thursday of week 1 is the year's first.
pub first_thursday : (y n : ℕ) → ((2 ≤ n) × (week_date n ≡ record { year = y; week = 1; day = 4 })) ↔ (((civil n).year ≡ y) × (monday_weekday n ≡ 3) × (thursdays (days_before_year y) (n - days_before_year y) ≡ 0))
first_thursday y n = (to, back)
  where
    to : (2 ≤ n) × (week_date n ≡ record { year = y; week = 1; day = 4 }) → ((civil n).year ≡ y) × (monday_weekday n ≡ 3) × (thursdays (days_before_year y) (n - days_before_year y) ≡ 0)
    to w =
        let r : Dated y 1 4 n = rw w.1 at (dated_of_day n w.0) in
        let a = days_before_year y in
        let l : a ≤ n = omega (arith, r.number) in
        let s : a + (n - a) + 1 ≡ n + 1 = omega arith in
        (year_at n y l (omega (arith, r.number, r.week_high)), omega (arith, weekday_of n, r.number), omega (arith, thursdays_counted a (n - a) ∙ ap (λ (m : ℕ). m / 7) s, r.number))

    back : ((civil n).year ≡ y) × (monday_weekday n ≡ 3) × (thursdays (days_before_year y) (n - days_before_year y) ≡ 0) → (2 ≤ n) × (week_date n ≡ record { year = y; week = 1; day = 4 })
    back w =
        let b : (days_before_year y ≤ n) × (n < days_before_year (y + 1)) = rw w.0 at (between n) in
        let a = days_before_year y in
        let s : a + (n - a) + 1 ≡ n + 1 = omega (arith, b.0) in
        let c = thursdays_counted a (n - a) ∙ ap (λ (m : ℕ). m / 7) s in
        let e : (n + 5) % 7 ≡ 3 = sym (weekday_of n) ∙ w.1 in
        day_of_dated y 1 4 n (record { week_low = omega arith; week_high = omega (arith, c, w.2, b.1); day_low = omega arith; day_high = omega arith; number = omega (arith, c, w.2) })
