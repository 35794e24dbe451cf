-- Thursdays and the weeks that they count: each is seven days after the one before, so that a week's number is a quotient.
-- Assumes nothing.
use native.Mathlib.Omega.{arith}
use Prim.Native.Nat.{ℕ, zero, suc, ◌+◌, ◌-◌, ◌*◌, ◌/◌, ◌%◌, ◌≤◌}
use mathlib.Core.Path.{◌≡◌, refl, sym, ap, ◌∙◌}
use mathlib.Core.Bool.{Bool, true, false, cond}
use lib.Dec.{eqb}
use borrow.Author.Tests.{eqb-true, eqb-false}
use Rattle.calendar.specs.Calendar.{year_days, days_before_year, civil}
use Rattle.calendar.proofs.Counting.{weekday_closed, year_step, year_bounds}
use Rattle.calendar.proofs.Dates.{between, year_at}
use Rattle.extended.specs.Calendar.{monday_weekday}
use Rattle.weeks.specs.Weeks.{thursdays, weeks_in, thursday, week_date}
use Rattle.weeks.specs.declared.WeekDate.{WeekDate}

pub weekday_of : (n : ℕ) → monday_weekday n ≡ (n + 5) % 7
unfolding monday_weekday
weekday_of n = weekday_closed 5 n (omega arith)

-- the Thursdays are day 5 and each seventh day after it
pub thursdays_counted : (n k : ℕ) → thursdays n k + (n + 1) / 7 ≡ (n + k + 1) / 7
unfolding thursdays
thursdays_counted n zero = omega arith
thursdays_counted n (suc k) = by (eqb (monday_weekday (n + k)) 3) refl (thursdays_counted n k)
  where
    by : (b : Bool) → eqb (monday_weekday (n + k)) 3 ≡ b → thursdays n k + (n + 1) / 7 ≡ (n + k + 1) / 7 → thursdays n k + cond b 1 0 + (n + 1) / 7 ≡ (n + suc k + 1) / 7
    by true e p = let t = sym (weekday_of (n + k)) ∙ eqb-true (monday_weekday (n + k)) 3 e in omega arith
    by false e p = let t : (n + k + 5) % 7 ≡ 3 → ⊥ = λ q. eqb-false (monday_weekday (n + k)) 3 e (weekday_of (n + k) ∙ q) in omega arith

pub thursdays_from : (k : ℕ) → (k + 1) / 7 ≡ thursdays 0 k
thursdays_from k = omega (arith, thursdays_counted 0 k)

-- the weeks of the years before a year: as many as Thursdays
abbrev pub weeks_by : ℕ → ℕ
weeks_by y = (days_before_year y + 1) / 7

-- The week dates that there are, each with its day: a week is one of its year, a day one of seven.
pub record Dated (y w d n : ℕ) : Type 0 where
  pub week_low : 1 ≤ w
  pub week_high : w + weeks_by y ≤ weeks_by (y + 1)
  pub day_low : 1 ≤ d
  pub day_high : d ≤ 7
  pub number : n + 6 ≡ 7 * (w + weeks_by y) + d

thursday_of : (n : ℕ) → 2 ≤ n → (thursday n + 2 ≡ 7 * ((n + 5) / 7)) × (thursday n + (n + 5) % 7 ≡ n + 3)
unfolding thursday
thursday_of n h = let w = weekday_of n in rw w (omega arith, omega arith)

pub dated_of_day : (n : ℕ) → 2 ≤ n → Dated (week_date n).year (week_date n).week (week_date n).day n
unfolding week_date
dated_of_day n h =
    let t = thursday n in
    let y = (civil t).year in
    let a = days_before_year y in
    let e = thursday_of n h in
    let b = between t in
    let c = thursdays_counted a (t + 1 - a) in
    let s : a + (t + 1 - a) ≡ t + 1 = omega (arith, b.0) in
    let q : thursdays a (t + 1 - a) + (a + 1) / 7 ≡ (t + 2) / 7 = c ∙ ap (λ (m : ℕ). (m + 1) / 7) s ∙ ap (λ (m : ℕ). m / 7) (omega arith) in
    let d = weekday_of n in
    record {
      week_low = omega (arith, e.0, b.0, q);
      week_high = omega (arith, e.0, b.1, q);
      day_low = omega arith;
      day_high = omega (arith, d);
      number = omega (arith, e.0, q, d);
    }

pub week_date_equal : {y w d y' w' d' : ℕ} → y ≡ y' → w ≡ w' → d ≡ d' → ◌≡◌ {A = WeekDate} (record { year = y; week = w; day = d }) (record { year = y'; week = w'; day = d' })
week_date_equal p q r = rw (p, q, r) refl

pub day_of_dated : (y w d n : ℕ) → Dated y w d n → (2 ≤ n) × (week_date n ≡ record { year = y; week = w; day = d })
unfolding week_date
day_of_dated y w d n r =
    let l : 2 ≤ n = omega (arith, r.week_low, r.day_low, r.number) in
    let e = thursday_of n l in
    let t = thursday n in
    let a = days_before_year y in
    let p : (civil t).year ≡ y = year_at t y (omega (arith, r.week_low, r.day_low, r.day_high, r.number, e.0)) (omega (arith, r.week_high, r.day_low, r.day_high, r.number, e.0)) in
    let k : a ≤ t = omega (arith, r.week_low, r.day_low, r.day_high, r.number, e.0) in
    let c = thursdays_counted a (t + 1 - a) in
    let s : a + (t + 1 - a) ≡ t + 1 = omega arith in
    let q : thursdays a (t + 1 - a) + (a + 1) / 7 ≡ (t + 2) / 7 = c ∙ ap (λ (m : ℕ). (m + 1) / 7) s ∙ ap (λ (m : ℕ). m / 7) (omega arith) in
    (l, rw p (week_date_equal refl (omega (arith, q, e.0, r.number, r.day_low, r.day_high)) (omega (arith, weekday_of n, r.number, r.day_low, r.day_high))))

-- ---- a year's weeks

-- those between the weeks of the years before and those of the years up to it
pub weeks_counted : (y : ℕ) → weeks_in y + weeks_by y ≡ weeks_by (y + 1)
unfolding weeks_in
weeks_counted y = thursdays_counted (days_before_year y) (year_days y) ∙ ap (λ (n : ℕ). (n + 1) / 7) (sym (year_step y))

pub weeks_52_or_53 : (y : ℕ) → (52 ≤ weeks_in y) × (weeks_in y ≤ 53)
weeks_52_or_53 y = (omega (arith, weeks_counted y, year_step y, year_bounds y), omega (arith, weeks_counted y, year_step y, year_bounds y))
