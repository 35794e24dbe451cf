-- The digits that are written: how many they are, that each is a digit, and that their decimal value is the number. Assumes nothing.
use native.Mathlib.Omega.{arith}
use Prim.Native.Nat.{ℕ, zero, suc, ◌+◌, ◌*◌, ◌/◌, ◌%◌, ◌^◌, ◌<◌, ◌≤◌, max}
use native.Mathlib.Nat.{pow-suc, pow-le-pow_right, le-max_right}
use native.Mathlib.Numerals.{add-one}
use mathlib.Core.Path.{◌≡◌, refl, ◌∙◌}
use mathlib.Core.List.{List, [], ◌∷◌, ◌++◌, append_assoc}
use mathlib.Core.Bool.{Bool, true, false, ◌&&◌, cond}
use lib.ListN.{length, length-append}
use lib.Dec.{ltb}
use borrow.Author.Tests.{lt-ltb, le-leb, ltb-true, ltb-false}
use Rattle.primitive.specs.Text.{digit}
use Rattle.primitive.specs.Primitive.{decimal}
use Rattle.primitive.proofs.Rows.{all, halves, Number}
use Rattle.primitive.proofs.Values.{decimal_more}
use Rattle.writer.specs.Writer.{fixed, width_up_to, width, digits, padded}

-- ---- a test of all bytes of a row
pub all_join : (p : ℕ → Bool) (k l : List ℕ) → all p (k ++ l) ≡ all p k && all p l
all_join p [] l = refl
all_join p (b ∷ bs) l = go (p b) (all_join p bs l)
  where
    go : (t : Bool) → all p (bs ++ l) ≡ all p bs && all p l → t && all p (bs ++ l) ≡ t && all p bs && all p l
    go true h = h
    go false h = refl

pub all_also : (p q : ℕ → Bool) → ((b : ℕ) → p b ≡ true → q b ≡ true) → (l : List ℕ) → all p l ≡ true → all q l ≡ true
all_also p q f [] h = refl
all_also p q f (b ∷ bs) h = let t = halves (p b) (all p bs) h in rw (f b t.0) (all_also p q f bs t.1)

-- ---- the last k digits
pub digit_is : (n : ℕ) → digit (48 + n % 10) ≡ true
unfolding digit
digit_is n = rw (le-leb 48 (48 + n % 10) (omega arith), le-leb (48 + n % 10) 57 (omega arith))

pub fixed_digits : (k n : ℕ) → all digit (fixed k n) ≡ true
unfolding fixed
fixed_digits zero n = refl
fixed_digits (suc k) n = rw (all_join digit (fixed k (n / 10)), fixed_digits k (n / 10), digit_is n)

pub fixed_length : (k n : ℕ) → length (fixed k n) ≡ k
unfolding fixed
fixed_length zero n = refl
fixed_length (suc k) n = length-append (fixed k (n / 10)) _ ∙ rw (fixed_length k (n / 10), add-one k)

pub fixed_value : (k n : ℕ) → n < 10 ^ k → decimal (fixed k n) ≡ n
unfolding fixed decimal
fixed_value zero n h = omega arith
fixed_value (suc k) n h =
    let z : n < 10 ^ k * 10 = rw (pow-suc 10 k) at h in
    decimal_more (48 + n % 10) (fixed k (n / 10)) ∙ rw (fixed_value k (n / 10) (omega arith)) (omega arith)

pub fixed_number : (k n : ℕ) → 0 < k → Number (fixed k n)
fixed_number k n h = record { long = rw (fixed_length k n) h; digits = fixed_digits k n }

-- a digit more, for a loop that writes from the last digit on: `fixed i m` is still to be written in front of l
pub fixed_step : (i m : ℕ) (l : List ℕ) → fixed (suc i) m ++ l ≡ fixed i (m / 10) ++ ((48 + m % 10) ∷ l)
unfolding fixed
fixed_step i m l = simp append_assoc

-- ---- how many digits a number has
enough : (f n : ℕ) → n ≤ f → n < 10 ^ width_up_to f n
unfolding width_up_to
enough zero n h = omega arith
enough (suc f) n h = go (ltb n 10) refl (enough f (n / 10))
  where
    go : (t : Bool) → ltb n 10 ≡ t → (n / 10 ≤ f → n / 10 < 10 ^ width_up_to f (n / 10)) → n < 10 ^ cond t 1 (suc (width_up_to f (n / 10)))
    go true e g = ltb-true n 10 e
    go false e g = let l = ltb-false n 10 e in let z = g (omega arith) in rw (pow-suc 10 (width_up_to f (n / 10))) (omega arith)

pub width_enough : (n : ℕ) → n < 10 ^ width n
unfolding width
width_enough n = enough n n (omega arith)

some_wide : (f n : ℕ) → 0 < width_up_to f n
unfolding width_up_to
some_wide zero n = omega arith
some_wide (suc f) n = go (ltb n 10)
  where
    go : (t : Bool) → 0 < cond t 1 (suc (width_up_to f (n / 10)))
    go true = omega arith
    go false = omega arith

pub width_some : (n : ℕ) → 0 < width n
unfolding width
width_some n = some_wide n n

most : (f n k : ℕ) → 0 < k → n < 10 ^ k → width_up_to f n ≤ k
unfolding width_up_to
most zero n k h g = h
most (suc f) n zero h g = absurd (omega arith)
most (suc f) n (suc zero) h g = rw (lt-ltb n 10 g) h
most (suc f) n (suc (suc k)) h g =
    let z : n < 10 ^ suc k * 10 = rw (pow-suc 10 (suc k)) at g in
    go (ltb n 10) (most f (n / 10) (suc k) (omega arith) (omega arith))
  where
    go : (t : Bool) → width_up_to f (n / 10) ≤ suc k → cond t 1 (suc (width_up_to f (n / 10))) ≤ suc (suc k)
    go true z = omega arith
    go false z = omega arith

-- no leading zero: what k digits hold needs no more than k
pub width_most : (n k : ℕ) → 0 < k → n < 10 ^ k → width n ≤ k
unfolding width
width_most n k = most n n k

-- a number that k digits do not hold has more
pub width_more : (n k : ℕ) → 10 ^ k ≤ n → k < width n
width_more n k h = by (ltb k (width n)) refl
  where
    by : (t : Bool) → ltb k (width n) ≡ t → k < width n
    by true e = ltb-true k (width n) e
    by false e =
        let l : width n ≤ k = ltb-false k (width n) e in
        let m = pow-le-pow_right {n = 10} (omega arith) l in
        absurd (omega (arith, width_enough n))

-- ---- as many digits as are needed
pub digits_value : (n : ℕ) → decimal (digits n) ≡ n
unfolding digits
digits_value n = fixed_value (width n) n (width_enough n)

pub digits_number : (n : ℕ) → Number (digits n)
unfolding digits
digits_number n = fixed_number (width n) n (width_some n)

pub digits_length : (n : ℕ) → length (digits n) ≡ width n
unfolding digits
digits_length n = fixed_length (width n) n

-- ---- at least k digits
padded_enough : (k n : ℕ) → n < 10 ^ max k (width n)
padded_enough k n =
    let m = pow-le-pow_right {n = 10} (omega arith) (le-max_right k (width n)) in
    omega (arith, width_enough n)

pub padded_value : (k n : ℕ) → decimal (padded k n) ≡ n
unfolding padded
padded_value k n = fixed_value (max k (width n)) n (padded_enough k n)

pub padded_digits : (k n : ℕ) → all digit (padded k n) ≡ true
unfolding padded
padded_digits k n = fixed_digits (max k (width n)) n

pub padded_length : (k n : ℕ) → length (padded k n) ≡ max k (width n)
unfolding padded
padded_length k n = fixed_length (max k (width n)) n

pub padded_number : (k n : ℕ) → Number (padded k n)
padded_number k n =
    let h = width_some n in
    record { long = rw (padded_length k n) (omega (arith, le-max_right k (width n))); digits = padded_digits k n }

-- a year has 4 to 10 digits
pub year_width : (y : ℕ) → y < 10000000000 → (4 ≤ max 4 (width y)) × (max 4 (width y) ≤ 10)
year_width y h = let w = width_most y 10 (omega arith) h in (omega arith, omega arith)

pub year_length : (y : ℕ) → y ≤ 2147485547 → (4 ≤ length (padded 4 y)) × (length (padded 4 y) ≤ 10)
year_length y h = rw (padded_length 4 y) (year_width y (omega arith))

-- a number of at least k + 1 digits and of no more, by powers of ten; 0 has one digit, as 1 has
pub width_by_powers : (n k : ℕ) → 10 ^ k ≤ max n 1 → max n 1 < 10 * 10 ^ k → width n ≡ k + 1
width_by_powers n zero l h =
    let m = width_most n 1 (omega arith) (omega arith) in
    omega (arith, width_some n)
width_by_powers n (suc k) l h =
    let z : 0 ≤ k = omega arith in
    let p : 10 ^ 0 ≤ 10 ^ k = pow-le-pow_right {n = 10} (omega arith) z in
    let e : 10 ^ suc k ≡ 10 ^ k * 10 = pow-suc 10 k in
    let f : 10 ^ suc (suc k) ≡ 10 ^ suc k * 10 = pow-suc 10 (suc k) in
    let m = width_most n (suc (suc k)) (omega arith) (omega arith) in
    let w = width_more n (suc k) (omega arith) in
    omega arith

-- one digit more for each further power of ten
pub width_is : (k y : ℕ) → 4 ≤ k → 10 ^ k ≤ y → y < 10 ^ suc k → max 4 (width y) ≡ suc k
width_is k y f l h =
    let m = width_most y (suc k) (omega arith) h in
    let n = width_more y k l in
    omega arith
