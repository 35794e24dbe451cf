-- Every natural number is the day number of exactly one date, and that date is found by counting days. Assumes nothing.
use Prim.Native.Nat.{ℕ, zero, suc, ◌+◌, ◌-◌, ◌<◌, ◌≤◌}
use mathlib.Core.Path.{◌≡◌, refl, sym, ap, ◌∙◌, path_j}
use mathlib.Core.Bool.{Bool, true, false, cond}
use native.Mathlib.Omega.{arith}
use native.Mathlib.Nat.{le_antisymm}
use lib.Dec.{ltb}
use borrow.Author.Tests.{ltb-true, ltb-false}
use Rattle.calendar.specs.declared.Civil.{Civil}
use Rattle.calendar.specs.Calendar.{month_days, days_before_year, days_of_months, day_number, Valid, ymd, next_day, civil}
use Rattle.calendar.proofs.Counting.{month_bounds, months_none, years_none, months_le, years_le, year_lt, months_of_year, months_step, year_step}

-- the day number of a date
abbrev pub day_of : Civil ℕ → ℕ
day_of t = day_number t.year t.month t.day

-- ---- every day of the count is a date, and its day number is its place in the count
valid_next : (t : Civil ℕ) → Valid t → Valid (next_day t)
unfolding next_day
valid_next t v = day (ltb t.day (month_days t.year t.month)) refl (ltb t.month 12) refl
  where
    day : (b : Bool) → ltb t.day (month_days t.year t.month) ≡ b → (e : Bool) → ltb t.month 12 ≡ e →
        Valid (cond b (ymd t.year t.month (t.day + 1)) (cond e (ymd t.year (t.month + 1) 1) (ymd (t.year + 1) 1 1)))
    day true p e q = record { month_low = v.month_low; month_high = v.month_high; day_low = omega arith; day_high = omega (arith, ltb-true) }
    day false p true q =
        record {
          month_low = omega arith;
          month_high = omega (arith, ltb-true);
          day_low = omega arith;
          day_high = omega (arith, month_bounds t.year (t.month + 1) (omega arith) (omega (arith, ltb-true)));
        }
    day false p false q =
        record {
          month_low = omega arith;
          month_high = omega arith;
          day_low = omega arith;
          day_high = omega (arith, month_bounds (t.year + 1) 1 (omega arith) (omega arith));
        }

pub number_next : (t : Civil ℕ) → Valid t → day_of (next_day t) ≡ suc (day_of t)
unfolding next_day day_number
number_next t v = day (ltb t.day (month_days t.year t.month)) refl (ltb t.month 12) refl
  where
    step : days_of_months t.year t.month ≡ days_of_months t.year (t.month - 1) + month_days t.year t.month
    step = months_step t.year t.month v.month_low

    day : (b : Bool) → ltb t.day (month_days t.year t.month) ≡ b → (e : Bool) → ltb t.month 12 ≡ e →
        day_of (cond b (ymd t.year t.month (t.day + 1)) (cond e (ymd t.year (t.month + 1) 1) (ymd (t.year + 1) 1 1)))
        ≡ suc (days_before_year t.year + days_of_months t.year (t.month - 1) + (t.day - 1))
    day true p e q = omega (arith, v.day_low)
    day false p true q =
        let e : t.month + 1 - 1 ≡ t.month = omega arith in
        omega (arith, ltb-false, ap (days_of_months t.year) e, step, v.day_high, v.day_low)
    day false p false q =
        let e : t.month ≡ 12 = omega (arith, ltb-false, v.month_high) in
        let g : days_before_year (t.year + 1) + days_of_months (t.year + 1) 0 + 0 ≡ suc (days_before_year t.year + days_of_months t.year (t.month - 1) + (t.day - 1)) =
        omega (
          arith,
          ltb-false,
          months_none (t.year + 1),
          ap (days_of_months t.year) e,
          step,
          months_of_year t.year,
          year_step t.year,
          v.day_high,
          v.day_low,
        ) in
        g

pub place : (n : ℕ) → Valid (civil n) × (day_of (civil n) ≡ n)
unfolding civil day_number
place zero =
    (record { month_low = omega arith; month_high = omega arith; day_low = omega arith; day_high = omega (arith, month_bounds 0 1 (omega arith) (omega arith)) }, omega (arith, months_none 0, years_none))
place (suc n) = let w = place n in (valid_next (civil n) w.0, number_next (civil n) w.0 ∙ ap suc w.1)

-- ---- two dates of one day number are one date
in_year : (t : Civil ℕ) → Valid t → day_of t < days_before_year (t.year + 1)
unfolding day_number
in_year t v =
    omega (
      arith,
      months_step t.year t.month v.month_low,
      months_of_year t.year,
      year_step t.year,
      months_le t.year t.month 12 v.month_high,
      v.day_high,
      v.day_low,
    )

year_le : (s t : Civil ℕ) → Valid s → Valid t → day_of s ≡ day_of t → s.year ≤ t.year
unfolding day_number
year_le s t v w e = by (ltb t.year s.year) refl
  where
    by : (b : Bool) → ltb t.year s.year ≡ b → s.year ≤ t.year
    by true p = absurd (clash (years_le (t.year + 1) s.year (omega (arith, ltb-true))))
      where
        clash : days_before_year (t.year + 1) ≤ days_before_year s.year → ⊥
        clash h = omega (arith, in_year t w)
    by false p = ltb-false t.year s.year p

year_eq : (s t : Civil ℕ) → Valid s → Valid t → day_of s ≡ day_of t → s.year ≡ t.year
year_eq s t v w e = le_antisymm (year_le s t v w e) (year_le t s w v (sym e))

-- of one year
month_le : (y : ℕ) (m d m' d' : ℕ) → Valid (ymd y m d) → Valid (ymd y m' d') → day_number y m d ≡ day_number y m' d' → m ≤ m'
unfolding day_number
month_le y m d m' d' v w e = by (ltb m' m) refl
  where
    by : (b : Bool) → ltb m' m ≡ b → m ≤ m'
    by true p = absurd (clash (months_le y m' (m - 1) (omega (arith, ltb-true))))
      where
        clash : days_of_months y m' ≤ days_of_months y (m - 1) → ⊥
        clash h = omega (arith, months_step y m' w.month_low, w.day_high, w.day_low)
    by false p = ltb-false m' m p

same_month : (y m d d' : ℕ) → Valid (ymd y m d) → Valid (ymd y m d') → day_number y m d ≡ day_number y m d' → d ≡ d'
unfolding day_number
same_month y m d d' v w e = omega (arith, v.day_low, w.day_low)

same_year : (y m d m' d' : ℕ) → Valid (ymd y m d) → Valid (ymd y m' d') → day_number y m d ≡ day_number y m' d' → ymd y m d ≡ ymd y m' d'
same_year y m d m' d' v w e =
    let q : m ≡ m' = le_antisymm (month_le y m d m' d' v w e) (month_le y m' d' m d w v (sym e)) in
    path_j (λ (k : ℕ) (r : m ≡ k). Valid (ymd y k d') → day_number y m d ≡ day_number y k d' → ymd y m d ≡ ymd y k d')
    (λ w' e'. ap (ymd y m) (same_month y m d d' v w' e')) q w e

pub unique : (s t : Civil ℕ) → Valid s → Valid t → day_of s ≡ day_of t → s ≡ t
unique s t v w e =
    path_j (λ (k : ℕ) (r : s.year ≡ k). Valid (ymd k t.month t.day) → day_number s.year s.month s.day ≡ day_number k t.month t.day → ymd s.year s.month s.day ≡ ymd k t.month t.day)
    (λ w' e'. same_year s.year s.month s.day t.month t.day v w' e') (year_eq s t v w e) w e

-- the date of a day number is the one date that counts to it
pub back : (t : Civil ℕ) → Valid t → civil (day_of t) ≡ t
back t v = let w = place (day_of t) in unique (civil (day_of t)) t w.0 v w.1

pub the_date : (t : Civil ℕ) (n : ℕ) → Valid t → day_of t ≡ n → t ≡ civil n
the_date t n v e = sym (back t v) ∙ ap civil e

-- ---- the year of a day
pub between : (n : ℕ) → (days_before_year (civil n).year ≤ n) × (n < days_before_year ((civil n).year + 1))
unfolding day_number
between n = let w = place n in let h = in_year (civil n) w.0 in (omega (arith, w.1), omega (arith, w.1, h))

-- it is the only one that has the day
pub year_at : (n y : ℕ) → days_before_year y ≤ n → n < days_before_year (y + 1) → (civil n).year ≡ y
year_at n y h k =
    let b = between n in
    let c = (civil n).year in
    le_antisymm (omega (arith, year_lt c (y + 1) (omega (arith, b.0)))) (omega (arith, year_lt y (c + 1) (omega (arith, b.1))))
