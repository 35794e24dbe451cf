-- The first day that a test is true of, and the day of a week date: there is one exactly for the week dates of days, and only one.
-- Assumes nothing.
use native.Mathlib.Omega.{arith}
use Prim.Native.Nat.{ℕ, zero, suc, ◌+◌, ◌<◌, ◌≤◌}
use mathlib.Core.Path.{◌≡◌, refl, sym, ap, ◌∙◌}
use mathlib.Core.Bool.{Bool, true, false, cond, ◌&&◌}
use lib.Dec.{eqb}
use borrow.Author.Tests.{eqb-true, eq-eqb}
use Rattle.std.specs.Prelude.{Some, None}
use Rattle.calendar.specs.Calendar.{days_before_year}
use Rattle.calendar.proofs.Counting.{and_left, and_right, year_step, year_bounds}
use Rattle.weeks.specs.Weeks.{week_date, same_date, first_that, day_of}
use Rattle.weeks.specs.declared.WeekDate.{WeekDate}
use Rattle.weeks.proofs.Thursdays.{Dated, dated_of_day, day_of_dated, week_date_equal}

-- ---- the first day that a test is true of

module _ (f : ℕ → Bool) where
  none_first : (k n : ℕ) → ((m : ℕ) → n ≤ m → f m ≡ false) → first_that f n k ≡ None
  unfolding first_that
  none_first zero n h = refl
  none_first (suc k) n h = rw (h n (omega arith)) (none_first k (suc n) (λ m l. h m (omega arith)))

  -- where it is true of one alone
  one_first : (k n m : ℕ) → f m ≡ true → ((i : ℕ) → n ≤ i → f i ≡ true → i ≡ m) → n ≤ m → m < n + k → first_that f n k ≡ Some m
  unfolding first_that
  one_first zero n m t u l h = absurd (omega arith)
  one_first (suc k) n m t u l h = by (f n) refl (λ e. one_first k (suc n) m t (λ i j. u i (omega arith)) (omega arith) (omega arith))
    where
      by : (b : Bool) → f n ≡ b → ((n ≡ m → ⊥) → first_that f (suc n) k ≡ Some m) → cond b (Some n) (first_that f (suc n) k) ≡ Some m
      by true e g = ap Some (u n (omega arith) e)
      by false e g = g (λ q. absurd (clash q))
        where
          clash : n ≡ m → ⊥
          clash q = cc

  -- where it is found it is true
  found : (k n m : ℕ) → first_that f n k ≡ Some m → (n ≤ m) × (f m ≡ true)
  unfolding first_that
  found zero n m e = cc
  found (suc k) n m e = by (f n) refl e (found k (suc n) m)
    where
      by : (b : Bool) → f n ≡ b → cond b (Some n) (first_that f (suc n) k) ≡ Some m → (first_that f (suc n) k ≡ Some m → (suc n ≤ m) × (f m ≡ true)) → (n ≤ m) × (f m ≡ true)
      by true t q g = let s : n ≡ m = cc in (omega (arith, s), ap f (sym s) ∙ t)
      by false t q g = let h = g q in (omega (arith, h.0), h.1)

-- ---- the same week date

pub same_true : (a b : WeekDate) → same_date a b ≡ true → a ≡ b
unfolding same_date
same_true a b h =
    let l = eqb a.year b.year && eqb a.week b.week in
    let r = eqb a.day b.day in
    let k = and_left l r h in
    week_date_equal
    (eqb-true a.year b.year (and_left (eqb a.year b.year) (eqb a.week b.week) k))
    (eqb-true a.week b.week (and_right (eqb a.year b.year) (eqb a.week b.week) k))
    (eqb-true a.day b.day (and_right l r h))

same_refl : (a : WeekDate) → same_date a a ≡ true
unfolding same_date
same_refl a = rw (eq-eqb a.year a.year refl, eq-eqb a.week a.week refl, eq-eqb a.day a.day refl) refl

-- ---- the day of a week date

abbrev has : WeekDate → ℕ → Bool
has date n = same_date (week_date n) date

one_day : (y w d : ℕ) {n m : ℕ} → Dated y w d n → Dated y w d m → n ≡ m
one_day y w d a b = omega (arith, a.number, b.number)

pub day_dated : (y w d n : ℕ) → Dated y w d n → day_of (record { year = y; week = w; day = d }) ≡ Some n
unfolding day_of
day_dated y w d n r =
    let date : WeekDate = record { year = y; week = w; day = d } in
    let e = day_of_dated y w d n r in
    one_first (has date) (days_before_year (y + 2)) 2 n
    (rw e.1 (same_refl date))
    only
    e.0
    (omega (arith, r.week_high, r.day_high, r.number, ends))
  where
    only : (i : ℕ) → 2 ≤ i → has (record { year = y; week = w; day = d }) i ≡ true → i ≡ n
    only i l t =
        let q = same_true (week_date i) (record { year = y; week = w; day = d }) t in
        one_day y w d (rw q at (dated_of_day i l)) r

    ends : days_before_year (y + 1) + 365 ≤ days_before_year (y + 2)
    ends = let e : y + 1 + 1 ≡ y + 2 = omega arith in omega (arith, rw e at (year_step (y + 1)), year_bounds (y + 1))

pub day_found : (date : WeekDate) (n : ℕ) → day_of date ≡ Some n → (2 ≤ n) × (week_date n ≡ date)
unfolding day_of
day_found date n e = let h = found (has date) (days_before_year (date.year + 2)) 2 n e in (h.0, same_true (week_date n) date h.1)

-- no other week date has a day
pub day_none : (date : WeekDate) → ((n : ℕ) → Dated date.year date.week date.day n → ⊥) → day_of date ≡ None
unfolding day_of
day_none date h = none_first (has date) (days_before_year (date.year + 2)) 2 none
  where
    none : (m : ℕ) → 2 ≤ m → has date m ≡ false
    none m l = by (has date m) refl
      where
        by : (b : Bool) → has date m ≡ b → b ≡ false
        by true e = absurd (h m (rw (same_true (week_date m) date e) at (dated_of_day m l)))
        by false e = refl
