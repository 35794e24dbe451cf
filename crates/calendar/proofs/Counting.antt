-- Laws of the counted calendar: closed forms and bounds of the days before a year and before a month. Assumes nothing.
use Prim.Native.Nat.{ℕ, zero, suc, ◌+◌, ◌-◌, ◌*◌, ◌/◌, ◌%◌, ◌<◌, ◌≤◌, max, min}
use mathlib.Core.Path.{◌≡◌, refl, sym, ap, ◌∙◌}
use mathlib.Core.Bool.{Bool, true, false, not, ◌&&◌, ◌||◌, cond}
use mathlib.Core.List.{◌∷◌}
use mathlib.Core.Logic.{◌⊎◌, inl, inr}
use native.Mathlib.Omega.{arith}
use native.Mathlib.Nat.{le_of_eq, add-suc, div-div-eq-div-mul, add-mul-div_left}
use native.Mathlib.Numerals.{add-one}
use lib.Dec.{eqb, ltb, leb}
use lib.ListN.{get_or, get_or-eq_default}
use mir.Val.{bool_byte}
use borrow.Author.Tests.{eqb-true, eqb-false, eq-eqb, ne_eqb, leb-true, ltb-true, ltb-false}
use Rattle.integers.proofs.Differences.{untrue}
use Rattle.calendar.specs.Calendar.{leap, year_days, days_before_year, month_table, month_days, days_of_months, day_number, next_weekday, weekday}

-- ---- tests
pub and_left : (a b : Bool) → (a && b) ≡ true → a ≡ true
and_left true b p = refl
and_left false b p = p

pub and_right : (a b : Bool) → (a && b) ≡ true → b ≡ true
and_right true b p = p
and_right false b p = untrue p

and_false : (b : Bool) → (b && false) ≡ false
and_false true = refl
and_false false = refl

pub byte_small : (b : Bool) → bool_byte b ≤ 1
byte_small true = omega arith
byte_small false = omega arith

-- what holds of each number below n, by one computed test
abbrev pub every : ℕ → (ℕ → Bool) → Bool
every zero f = true
every (suc n) f = f n && every n f

pub each : (n : ℕ) (f : ℕ → Bool) → every n f ≡ true → (k : ℕ) → k < n → f k ≡ true
each zero f t k h = absurd (clash h)
  where
    clash : k < zero → ⊥
    clash h = omega arith
each (suc n) f t k h = by (each n f (and_right (f n) (every n f) t) k) (eqb k n) refl
  where
    by : (k < n → f k ≡ true) → (b : Bool) → eqb k n ≡ b → f k ≡ true
    by below true p = ap f (eqb-true k n p) ∙ and_left (f n) (every n f) t
    by below false p = below (omega (arith, eqb-false))

-- ---- years: the closed form, one divisor at a time, since `omega` does not take three at once
by4 : (y : ℕ) (b : Bool) → eqb (y % 4) 0 ≡ b → (suc y + 3) / 4 ≡ (y + 3) / 4 + cond b 1 0
by4 y true p = omega (arith, eqb-true)
by4 y false p = omega (arith, eqb-false)

by100 : (y : ℕ) (b : Bool) → eqb (y % 100) 0 ≡ b → (suc y + 99) / 100 ≡ (y + 99) / 100 + cond b 1 0
by100 y true p = omega (arith, eqb-true)
by100 y false p = omega (arith, eqb-false)

by400 : (y : ℕ) (b : Bool) → eqb (y % 400) 0 ≡ b → (suc y + 399) / 400 ≡ (y + 399) / 400 + cond b 1 0
by400 y true p = omega (arith, eqb-true)
by400 y false p = omega (arith, eqb-false)

-- 400 divides y, so 100 does; 100 does, so 4 does
from400 : (y : ℕ) → eqb (y % 400) 0 ≡ true → eqb (y % 100) 0 ≡ false → ⊥
from400 y p q = omega (arith, eqb-true, eqb-false)

from100 : (y : ℕ) → eqb (y % 100) 0 ≡ true → eqb (y % 4) 0 ≡ false → ⊥
from100 y p q = omega (arith, eqb-true, eqb-false)

-- one year more, over plain numbers: a, b and c are the years that 400, 4 and 100 divide
one_more : (y a b c a' b' c' d : ℕ) (ta tb tc : Bool) → (ta ≡ true → tc ≡ false → ⊥) → (tc ≡ true → tb ≡ false → ⊥) →
    a' ≡ a + cond ta 1 0 → b' ≡ b + cond tb 1 0 → c' ≡ c + cond tc 1 0 →
    d + c ≡ 365 * y + b + a →
    (d + cond (ta || (tb && not tc)) 366 365) + c' ≡ 365 * suc y + b' + a'
one_more y a b c a' b' c' d true true true u v p q r e = omega arith
one_more y a b c a' b' c' d true true false u v p q r e = absurd (u refl refl)
one_more y a b c a' b' c' d true false true u v p q r e = absurd (v refl refl)
one_more y a b c a' b' c' d true false false u v p q r e = absurd (u refl refl)
one_more y a b c a' b' c' d false true true u v p q r e = omega arith
one_more y a b c a' b' c' d false true false u v p q r e = omega arith
one_more y a b c a' b' c' d false false true u v p q r e = absurd (v refl refl)
one_more y a b c a' b' c' d false false false u v p q r e = omega arith

pub closed_form : (y : ℕ) → days_before_year y + (y + 99) / 100 ≡ 365 * y + (y + 3) / 4 + (y + 399) / 400
unfolding days_before_year year_days leap
closed_form zero = refl
closed_form (suc y) =
    one_more y ((y + 399) / 400) ((y + 3) / 4) ((y + 99) / 100) _ _ _ (days_before_year y) _ _ _
    (from400 y) (from100 y) (by400 y _ refl) (by4 y _ refl) (by100 y _ refl) (closed_form y)

-- the years that 400 divides, by those that 100 does
pub centuries : (y : ℕ) → ((y + 99) / 100 + 3) / 4 ≡ (y + 399) / 400
centuries y =
    let e : y + 99 + 100 * 3 ≡ y + 399 = omega arith in
    ap (λ (n : ℕ). n / 4) (sym (add-mul-div_left (y + 99) 3 {y = 100} (omega arith)) ∙ ap (λ (n : ℕ). n / 100) e)
    ∙ div-div-eq-div-mul (y + 399) 100 4

apart : (d d' y a b c a' b' c' : ℕ) → d + c ≡ 365 * y + b + a → d' + c' ≡ 365 * (y + 400) + b' + a' →
    a' ≡ a + 1 → b' ≡ b + 100 → c' ≡ c + 4 → d' ≡ d + 146097
apart d d' y a b c a' b' c' p q u v w = omega arith

-- 400 years have 146097 days
pub periodic : (y : ℕ) → days_before_year (y + 400) ≡ days_before_year y + 146097
periodic y = apart _ _ y _ _ _ _ _ _ (closed_form y) (closed_form (y + 400)) (omega arith) (omega arith) (omega arith)

pub blocks : (k y : ℕ) → days_before_year (k * 400 + y) ≡ k * 146097 + days_before_year y
blocks zero y =
    let e : zero * 400 + y ≡ y = omega arith in
    let d : zero * 146097 + days_before_year y ≡ days_before_year y = omega arith in
    ap days_before_year e ∙ sym d
blocks (suc k) y =
    let e : suc k * 400 + y ≡ (k * 400 + y) + 400 = omega arith in
    let d : days_before_year (suc k * 400 + y) ≡ days_before_year (k * 400 + y) + 146097 = ap days_before_year e ∙ periodic (k * 400 + y) in
    omega (arith, blocks k y)

-- and the years of one block are those of another
by_block : (k y : ℕ) → ((k * 400 + y) % 400 ≡ y % 400) × ((k * 400 + y) % 100 ≡ y % 100) × ((k * 400 + y) % 4 ≡ y % 4)
by_block k y = (omega arith, omega arith, omega arith)

pub leap_block : (k y : ℕ) → leap (k * 400 + y) ≡ leap y
unfolding leap
leap_block k y = let e = by_block k y in simp (e.0, e.1, e.2)

pub year_bounds : (y : ℕ) → (365 ≤ year_days y) × (year_days y ≤ 366)
unfolding year_days
year_bounds y = by (leap y)
  where
    by : (b : Bool) → (365 ≤ cond b 366 365) × (cond b 366 365 ≤ 366)
    by true = omega arith
    by false = omega arith

pub years_bound : (y : ℕ) → (365 * y ≤ days_before_year y) × (days_before_year y ≤ 366 * y)
unfolding days_before_year
years_bound zero = omega arith
years_bound (suc y) = omega (arith, years_bound y, year_bounds y)

pub year_step : (y : ℕ) → days_before_year (y + 1) ≡ days_before_year y + year_days y
unfolding days_before_year
year_step y = ap days_before_year (add-one y)

years_more : (y k : ℕ) → days_before_year y ≤ days_before_year (y + k)
unfolding days_before_year
years_more y zero = let e : y ≡ y + zero = omega arith in le_of_eq (ap days_before_year e)
years_more y (suc k) =
    let e : days_before_year (y + suc k) ≡ days_before_year (y + k) + year_days (y + k) = ap days_before_year (add-suc y k) in
    omega (arith, years_more y k)

pub years_le : (i j : ℕ) → i ≤ j → days_before_year i ≤ days_before_year j
years_le i j h = let e : i + (j - i) ≡ j = omega arith in rw e at (years_more i (j - i))

pub years_none : days_before_year 0 ≡ 0
unfolding days_before_year
years_none = refl

-- an earlier start is an earlier year
pub year_lt : (i j : ℕ) → days_before_year i < days_before_year j → i < j
year_lt i j h = by (ltb i j) refl
  where
    by : (b : Bool) → ltb i j ≡ b → i < j
    by true p = ltb-true i j p
    by false p = absurd (clash (years_le j i (ltb-false i j p)))
      where
        clash : days_before_year j ≤ days_before_year i → ⊥
        clash k = omega arith

-- the years of one block
pub block_years : days_before_year 400 ≡ 146097
block_years = periodic 0 ∙ ap (λ (n : ℕ). n + 146097) years_none

-- two years on, 366 days for each year but one have passed, within a block
pub two_years : (y : ℕ) → y < 399 → 366 * (y + 1) ≤ days_before_year (y + 2)
two_years y h =
    bound y (days_before_year (y + 2)) ((y + 2 + 3) / 4) ((y + 2 + 99) / 100) ((y + 2 + 399) / 400) h
    (closed_form (y + 2)) (omega arith) (omega arith) (omega arith)
  where
    bound : (y d b c a : ℕ) → y < 399 → d + c ≡ 365 * (y + 2) + b + a → y + 2 ≤ 4 * b → c ≤ 4 → 1 ≤ a → 366 * (y + 1) ≤ d
    bound y d b c a h e p q r = omega arith

-- ---- months
pub month_leap : (y m : ℕ) → m ≡ 2 → leap y ≡ true → month_days y m ≡ 29
unfolding month_days
month_leap y m p q = simp (eq-eqb m 2 p, q)

beyond : (y m : ℕ) → (eqb m 2 && leap y) ≡ false → month_days y m ≡ get_or (0 ∷ month_table) m 0
unfolding month_days
beyond y m p = simp p

pub month_table_lem : (y m : ℕ) → (leap y ≡ false) ⊎ (m ≡ 2 → ⊥) → month_days y m ≡ get_or (0 ∷ month_table) m 0
month_table_lem y m (inl p) = beyond y m (simp p (and_false (eqb m 2)))
month_table_lem y m (inr q) = beyond y m (simp (ne_eqb m 2 q))

pub month_zero : (y m : ℕ) → m < 1 → month_days y m ≡ 0
month_zero y m h =
    let p : m ≡ 0 = omega arith in
    month_table_lem y m (inr (λ q. omega arith)) ∙ ap (λ (n : ℕ). get_or (0 ∷ month_table) n 0) p

pub month_beyond : (y m : ℕ) → 12 < m → month_days y m ≡ 0
month_beyond y m h = month_table_lem y m (inr (λ q. omega arith)) ∙ get_or-eq_default (0 ∷ month_table) 0 {n = m} (omega arith)

pub month_at : (m : ℕ) → 1 ≤ m → get_or (0 ∷ month_table) m 0 ≡ get_or month_table (m - 1) 0
month_at m h = let e : m ≡ suc (m - 1) = omega arith in ap (λ (n : ℕ). get_or (0 ∷ month_table) n 0) e

-- each of the twelve months has 28 to 31 days
lawful : ℕ → Bool
lawful k = leb 28 (get_or month_table k 0) && leb (get_or month_table k 0) 31

pub table_bounds : (m : ℕ) → 1 ≤ m → m ≤ 12 → (28 ≤ get_or (0 ∷ month_table) m 0) × (get_or (0 ∷ month_table) m 0 ≤ 31)
unfolding lawful
table_bounds m h k =
    let x = get_or month_table (m - 1) 0 in
    let t : (leb 28 x && leb x 31) ≡ true = each 12 lawful refl (m - 1) (omega arith) in
    rw (month_at m h) (leb-true 28 x (and_left (leb 28 x) (leb x 31) t), leb-true x 31 (and_right (leb 28 x) (leb x 31) t))

pub month_bounds : (y m : ℕ) → 1 ≤ m → m ≤ 12 → (28 ≤ month_days y m) × (month_days y m ≤ 31)
unfolding month_days
month_bounds y m h k = by (eqb m 2 && leap y) (table_bounds m h k)
  where
    by : (b : Bool) → (28 ≤ get_or (0 ∷ month_table) m 0) × (get_or (0 ∷ month_table) m 0 ≤ 31) →
        (28 ≤ cond b 29 (get_or (0 ∷ month_table) m 0)) × (cond b 29 (get_or (0 ∷ month_table) m 0) ≤ 31)
    by true r = omega arith
    by false r = r

pub month_bound : (y m : ℕ) → month_days y m ≤ 31
month_bound y m = by (ltb 12 m) refl (ltb 0 m) refl
  where
    by : (a : Bool) → ltb 12 m ≡ a → (b : Bool) → ltb 0 m ≡ b → month_days y m ≤ 31
    by true p b q = omega (arith, month_beyond y m (ltb-true 12 m p))
    by false p true q = (month_bounds y m (ltb-true 0 m q) (ltb-false 12 m p)).1
    by false p false q = omega (arith, month_zero y m (omega (arith, ltb-false)))

pub months_bound : (y k : ℕ) → days_of_months y k ≤ 31 * k
unfolding days_of_months
months_bound y zero = omega arith
months_bound y (suc k) = omega (arith, months_bound y k, month_bound y (suc k))

-- the twelve months are the year
pub months_of_year : (y : ℕ) → days_of_months y 12 ≡ year_days y
unfolding days_of_months year_days month_days
months_of_year y = by (leap y)
  where
    by : (b : Bool) → 31 + cond b 29 28 + 31 + 30 + 31 + 30 + 31 + 31 + 30 + 31 + 30 + 31 ≡ cond b 366 365
    by true = refl
    by false = refl

pub months_step : (y m : ℕ) → 1 ≤ m → days_of_months y m ≡ days_of_months y (m - 1) + month_days y m
unfolding days_of_months
months_step y m h =
    let e : m ≡ suc (m - 1) = omega arith in
    let d : suc (m - 1) ≡ m = omega arith in
    ap (days_of_months y) e ∙ ap (λ (n : ℕ). days_of_months y (m - 1) + month_days y n) d

months_more : (y i k : ℕ) → days_of_months y i ≤ days_of_months y (i + k)
unfolding days_of_months
months_more y i zero = let e : i ≡ i + zero = omega arith in le_of_eq (ap (days_of_months y) e)
months_more y i (suc k) =
    let e : days_of_months y (i + suc k) ≡ days_of_months y (i + k) + month_days y (suc (i + k)) = ap (days_of_months y) (add-suc i k) in
    omega (arith, months_more y i k)

pub months_le : (y i j : ℕ) → i ≤ j → days_of_months y i ≤ days_of_months y j
months_le y i j h = let e : i + (j - i) ≡ j = omega arith in rw e at (months_more y i (j - i))

pub months_none : (y : ℕ) → days_of_months y 0 ≡ 0
unfolding days_of_months
months_none y = refl

-- the months after the twelfth have no days
months_after : (y k : ℕ) → days_of_months y (12 + k) ≡ days_of_months y 12
unfolding days_of_months
months_after y zero = refl
months_after y (suc k) =
    let e : days_of_months y (12 + suc k) ≡ days_of_months y (12 + k) + month_days y (suc (12 + k)) = ap (days_of_months y) (add-suc 12 k) in
    omega (arith, months_after y k, month_beyond y (suc (12 + k)) (omega arith))

-- as many days are before month 0 as before month 1, and before a month above 13 as before month 13
pub months_clamped : (y m k : ℕ) → k ≡ min (max m 1) 13 → days_of_months y (k - 1) ≡ days_of_months y (m - 1)
months_clamped y m k h = by (ltb 13 m) refl
  where
    by : (b : Bool) → ltb 13 m ≡ b → days_of_months y (k - 1) ≡ days_of_months y (m - 1)
    by true p =
        let e : k - 1 ≡ 12 = omega (arith, ltb-true) in
        let f : 12 + (m - 13) ≡ m - 1 = omega (arith, ltb-true) in
        ap (days_of_months y) e ∙ sym (months_after y (m - 13)) ∙ ap (days_of_months y) f
    by false p = let e : k - 1 ≡ m - 1 = omega (arith, ltb-false) in ap (days_of_months y) e

-- the days before a month, by whether the year is a leap year
months_if : Bool → ℕ → ℕ
months_if b zero = 0
months_if b (suc k) = months_if b k + cond (eqb (suc k) 2 && b) 29 (get_or (0 ∷ month_table) (suc k) 0)

months_if_lem : (y k : ℕ) → days_of_months y k ≡ months_if (leap y) k
unfolding days_of_months month_days months_if
months_if_lem y zero = refl
months_if_lem y (suc k) = ap (λ (n : ℕ). n + cond (eqb (suc k) 2 && leap y) 29 (get_or (0 ∷ month_table) (suc k) 0)) (months_if_lem y k)

-- so they are the same in a year of another block
pub months_block : (k y m : ℕ) → days_of_months (k * 400 + y) m ≡ days_of_months y m
months_block k y m = months_if_lem (k * 400 + y) m ∙ ap (λ (b : Bool). months_if b m) (leap_block k y) ∙ sym (months_if_lem y m)

-- months on a line: with two days more for February, or one in a leap year, month m begins (367 m - 362) / 12 days after the year
abbrev pub line : ℕ → ℕ
line m = (367 * m - 362) / 12

abbrev pub shortened : Bool → ℕ → ℕ
shortened b m = bool_byte (ltb 2 m) * (2 - bool_byte b)

on_line : Bool → ℕ → Bool
on_line b k = eqb (months_if b k + shortened b (k + 1)) (line (k + 1))

pub months_line : (b : Bool) (y m : ℕ) → b ≡ leap y → 1 ≤ m → m ≤ 13 → days_of_months y (m - 1) + shortened b m ≡ line m
unfolding on_line months_if
months_line b y m l h k =
    let e : m - 1 + 1 ≡ m = omega arith in
    let t : days_of_months y (m - 1) ≡ months_if b (m - 1) = months_if_lem y (m - 1) ∙ ap (λ (x : Bool). months_if x (m - 1)) (sym l) in
    let q : on_line b (m - 1) ≡ true = by b (m - 1) (omega arith) in
    ap (λ (n : ℕ). n + shortened b m) t ∙ (rw e at (eqb-true (months_if b (m - 1) + shortened b (m - 1 + 1)) (line (m - 1 + 1)) q))
  where
    by : (b : Bool) (k : ℕ) → k < 13 → on_line b k ≡ true
    by true k h = each 13 (on_line true) refl k h
    by false k h = each 13 (on_line false) refl k h

-- the date of a day of the year, found on that line
abbrev pub evened : Bool → ℕ → ℕ
evened b d = d + bool_byte (leb (59 + bool_byte b) d) * (2 - bool_byte b)

abbrev pub line_month : Bool → ℕ → ℕ
line_month b d = (12 * evened b d + 373) / 367

abbrev pub line_day : Bool → ℕ → ℕ
line_day b d = evened b d - line (line_month b d) + 1

abbrev month_if : Bool → ℕ → ℕ
month_if b m = cond (eqb m 2 && b) 29 (get_or (0 ∷ month_table) m 0)

dated : Bool → ℕ → Bool
dated b d =
    let m = line_month b d in
    let k = line_day b d in
    leb (evened b d) 367 && (leb 1 m && (leb m 12 && (leb (line m) (evened b d) && (leb k (month_if b m) && eqb (months_if b (m - 1) + (k - 1)) d))))

pub record LineDate (b : Bool) (y d : ℕ) : Type 0 where
  pub small : evened b d ≤ 367
  pub month_low : 1 ≤ line_month b d
  pub month_high : line_month b d ≤ 12
  pub day_reached : line (line_month b d) ≤ evened b d
  pub day_high : line_day b d ≤ month_days y (line_month b d)
  pub counted : days_of_months y (line_month b d - 1) + (line_day b d - 1) ≡ d

read_off : (b : Bool) (y d : ℕ) → b ≡ leap y → dated b d ≡ true → LineDate b y d
unfolding dated month_days
read_off b y d l t =
    let m = line_month b d in
    let k = line_day b d in
    let x = evened b d in
    let e = eqb (months_if b (m - 1) + (k - 1)) d in
    let t₁ = and_right (leb x 367) _ t in
    let t₂ = and_right (leb 1 m) _ t₁ in
    let t₃ = and_right (leb m 12) _ t₂ in
    let t₄ = and_right (leb (line m) x) _ t₃ in
    let months : days_of_months y (m - 1) ≡ months_if b (m - 1) = months_if_lem y (m - 1) ∙ ap (λ (z : Bool). months_if z (m - 1)) (sym l) in
    record {
      small = leb-true x 367 (and_left (leb x 367) _ t);
      month_low = leb-true 1 m (and_left (leb 1 m) _ t₁);
      month_high = leb-true m 12 (and_left (leb m 12) _ t₂);
      day_reached = leb-true (line m) x (and_left (leb (line m) x) _ t₃);
      day_high = rw (← l) (leb-true k (month_if b m) (and_left (leb k (month_if b m)) e t₄));
      counted = ap (λ (n : ℕ). n + (k - 1)) months ∙ eqb-true _ d (and_right (leb k (month_if b m)) e t₄);
    }

pub line_date : (b : Bool) (y d : ℕ) → b ≡ leap y → d < year_days y → LineDate b y d
unfolding dated year_days months_if
line_date b y d l h = read_off b y d l (by b (rw (← l) at h))
  where
    by : (b : Bool) → d < cond b 366 365 → dated b d ≡ true
    by true h = each 366 (dated true) refl d h
    by false h = each 365 (dated false) refl d h

-- ---- years from March
-- the days before 1 January, and what the months of such a year are
march_sum : (y d n q c f : ℕ) → d + c ≡ 365 * y + q + f → 365 * (y + 399) + (q + 99) + f ≡ d + 145731 + (c + 3)
march_sum y d n q c f e = omega arith

pub march : (y : ℕ) → 365 * (y + 399) + (y + 399) / 4 + (y + 399) / 100 / 4 ≡ days_before_year y + 145731 + (y + 399) / 100
march y =
    let q : (y + 399) / 4 ≡ (y + 3) / 4 + 99 = omega arith in
    let c : (y + 399) / 100 ≡ (y + 99) / 100 + 3 = omega arith in
    rw (div-div-eq-div-mul (y + 399) 100 4, q, c)
    (march_sum y (days_before_year y) 0 ((y + 3) / 4) ((y + 99) / 100) ((y + 399) / 400) (closed_form y))

-- the days from 1 March to the first of a month, which is counted from January of the same year
abbrev pub from_march : ℕ → ℕ
from_march m = (979 * m - 2919) / 32

late : Bool → ℕ → Bool
late b k = eqb (from_march (k + 3) + cond b 366 365) (months_if b (k + 2) + 306)

late_month : (y k : ℕ) → k < 11 → from_march (k + 3) + year_days y ≡ days_of_months y (k + 2) + 306
unfolding late months_if year_days
late_month y k h = rw (months_if_lem y (k + 2)) (by (leap y))
  where
    by : (b : Bool) → from_march (k + 3) + cond b 366 365 ≡ months_if b (k + 2) + 306
    by true = eqb-true _ _ (each 11 (late true) refl k h)
    by false = eqb-true _ _ (each 11 (late false) refl k h)

early : Bool → ℕ → Bool
early b k = eqb (from_march (k + 13)) (months_if b k + 306)

early_month : (y k : ℕ) → k < 2 → from_march (k + 13) ≡ days_of_months y k + 306
unfolding early months_if
early_month y k h = rw (months_if_lem y k) (by (leap y))
  where
    by : (b : Bool) → from_march (k + 13) ≡ months_if b k + 306
    by true = eqb-true _ _ (each 2 (early true) refl k h)
    by false = eqb-true _ _ (each 2 (early false) refl k h)

abbrev pub march_year : Bool → ℕ → ℕ
march_year t y = y + 400 - bool_byte t

abbrev pub march_month : Bool → ℕ → ℕ
march_month t m = m + 12 * bool_byte t

abbrev pub march_days : ℕ → ℕ
march_days n = 1461 * n / 4 - (n / 100 - n / 100 / 4)

march_days_lem : (y : ℕ) → march_days (y + 399) ≡ days_before_year y + 145731
march_days_lem y =
    let e : 1461 * (y + 399) / 4 ≡ 365 * (y + 399) + (y + 399) / 4 = omega arith in
    rw e (by (y + 399) ((y + 399) / 4) ((y + 399) / 100) ((y + 399) / 100 / 4) (days_before_year y) (march y) (omega arith) (omega arith))
  where
    by : (n q c f d : ℕ) → 365 * n + q + f ≡ d + 145731 + c → c ≤ n → f ≤ c → 365 * n + q - (c - f) ≡ d + 145731
    by n q c f d e h g = omega arith

add_up : (a b n o w d : ℕ) → 1 ≤ d → a ≡ n + w + 145731 → b + w ≡ o + 306 → a + b + d ≡ n + o + (d - 1) + 146038
add_up a b n o w d h e f = omega arith

-- by whether the month stands before March
pub march_date : (y m d : ℕ) → 1 ≤ m → m ≤ 13 → 1 ≤ d → (t : Bool) → ltb m 3 ≡ t →
    march_days (march_year t y) + from_march (march_month t m) + d ≡ day_number y m d + 146038
unfolding day_number
march_date y m d h k l true p =
    let n : y + 400 - 1 ≡ y + 399 = omega arith in
    let i : m + 12 ≡ m - 1 + 13 = omega arith in
    let e : march_days (y + 399) ≡ days_before_year y + 0 + 145731 = omega (arith, march_days_lem y) in
    let f : from_march (m - 1 + 13) + 0 ≡ days_of_months y (m - 1) + 306 = omega (arith, early_month y (m - 1) (omega (arith, ltb-true))) in
    add_up _ _ (days_before_year y) (days_of_months y (m - 1)) 0 d l (ap march_days n ∙ e) (ap (λ (x : ℕ). from_march x + 0) i ∙ f)
march_date y m d h k l false p =
    let g : 3 ≤ m = ltb-false m 3 p in
    let n : y + 400 - 0 ≡ y + 1 + 399 = omega arith in
    let i : m + 0 ≡ m - 3 + 3 = omega arith in
    let j : m - 3 + 2 ≡ m - 1 = omega arith in
    add_up _ _ (days_before_year y) (days_of_months y (m - 1)) (year_days y) d l
    (ap march_days n ∙ march_days_lem (y + 1) ∙ ap (λ (x : ℕ). x + 145731) (year_step y))
    (ap (λ (x : ℕ). from_march x + year_days y) i ∙ late_month y (m - 3) (omega arith) ∙ ap (λ (x : ℕ). days_of_months y x + 306) j)

-- ---- day numbers
-- month 0 counts as month 1, a month above 13 as month 13, and day 0 as day 1
pub number_clamped : (y m d k e : ℕ) → k ≡ min (max m 1) 13 → e ≡ max d 1 → day_number y k e ≡ day_number y m d
unfolding day_number
number_clamped y m d k e h g = omega (arith, months_clamped y m k h)

pub day_bound : (y m d : ℕ) → day_number y m d ≤ 366 * y + 31 * (m - 1) + (d - 1)
unfolding day_number
day_bound y m d = omega (arith, years_bound y, months_bound y (m - 1))

-- ---- weekdays: the closed form
next_weekday_lem : (n : ℕ) (b : Bool) → eqb (n % 7) 6 ≡ b → cond b 0 (n % 7 + 1) ≡ suc n % 7
next_weekday_lem n true p = omega (arith, eqb-true)
next_weekday_lem n false p = omega (arith, eqb-false)

pub weekday_closed : (w n : ℕ) → w < 7 → weekday w n ≡ (n + w) % 7
unfolding weekday next_weekday
weekday_closed w zero h = omega arith
weekday_closed w (suc n) h =
    let e : suc n + w ≡ suc (n + w) = omega arith in
    ap (λ (k : ℕ). cond (eqb k 6) 0 (k + 1)) (weekday_closed w n h)
    ∙ next_weekday_lem (n + w) (eqb ((n + w) % 7) 6) refl ∙ ap (λ (k : ℕ). k % 7) (sym e)
