-- Decimal without leading zeros: what `digits` writes does not begin with `0` unless the number is 0, and it is the only such row of digits with
-- this value. Assumes nothing.
use native.Mathlib.Omega.{arith}
use Prim.Native.Nat.{ℕ, suc, ◌+◌, ◌-◌, ◌*◌, ◌/◌, ◌%◌, ◌^◌, ◌<◌, ◌≤◌}
use native.Mathlib.Nat.{pow-suc, zero-mul, mul-le-mul_right}
use mathlib.Core.Path.{◌≡◌, refl, sym, ap, ◌∙◌}
use mathlib.Core.List.{List, [], ◌∷◌, ◌++◌, append-nil}
use mathlib.Core.Bool.{true}
use lib.ListN.{length}
use Rattle.primitive.specs.Text.{digit}
use Rattle.primitive.specs.Primitive.{decimal}
use Rattle.primitive.proofs.Rows.{all, halves, digit_bounds}
use Rattle.primitive.proofs.Values.{grown, grown_zero, grown_none, grown_cons}
use Rattle.writer.specs.Writer.{fixed, width_up_to, width, digits}
use Rattle.writer.proofs.Digits.{fixed_step, width_most, width_more, digits_value, digits_length, digits_number}

-- ---- the last digits of a value

-- as many digits as a row has, of its value and of k digits more before it
fixed_row : (k m : ℕ) (l : List ℕ) → all digit l ≡ true → fixed (k + length l) (grown m l) ≡ fixed k m ++ l
fixed_row k m [] h = let e : k + 0 ≡ k = omega arith in rw (e, grown_none m) (sym (append-nil (fixed k m)))
fixed_row k m (b ∷ bs) h =
    let t = halves (digit b) (all digit bs) h in
    let low = (digit_bounds b t.0).0 in
    let high = (digit_bounds b t.0).1 in
    let e : k + suc (length bs) ≡ suc k + length bs = omega arith in
    let q : (m * 10 + (b - 48)) / 10 ≡ m = omega arith in
    let r : 48 + (m * 10 + (b - 48)) % 10 ≡ b = omega arith in
    rw (e, grown_cons m b bs, fixed_row (suc k) (m * 10 + (b - 48)) bs t.1, fixed_step k (m * 10 + (b - 48)) bs, q, r) refl

row : (l : List ℕ) → all digit l ≡ true → fixed (length l) (decimal l) ≡ l
unfolding fixed
row l h =
    let e : 0 + length l ≡ length l = omega arith in
    rw e at (ap (fixed (0 + length l)) (sym (grown_zero l)) ∙ fixed_row 0 0 l h)

-- ---- how large a value is

below : (l : List ℕ) → all digit l ≡ true → decimal l < 10 ^ length l
unfolding decimal
below [] h = omega arith
below (b ∷ bs) h =
    let t = halves (digit b) (all digit bs) h in
    let c : b - 48 ≤ 9 = omega (arith, (digit_bounds b t.0).1) in
    let z = mul-le-mul_right (10 ^ length bs) c in
    let y = below bs t.1 in
    rw (pow-suc 10 (length bs)) (omega arith)

above : (b : ℕ) (bs : List ℕ) → 48 < b → 10 ^ length bs ≤ decimal (b ∷ bs)
unfolding decimal
above b bs h =
    let c : 1 ≤ b - 48 = omega arith in
    let z = mul-le-mul_right (10 ^ length bs) c in
    omega arith

-- ---- what is written

-- the first byte of a row
abbrev pub first : List ℕ → ℕ
first [] = 0
first (b ∷ bs) = b

-- A number above 0 is not written with a leading zero; `0` is 48.
pub no_leading_zero : (n : ℕ) → 0 < n → first (digits n) ≡ 48 → ⊥
unfolding decimal
no_leading_zero n h e = by (digits n) (digits_number n).digits (digits_value n) (digits_length n) e
  where
    by : (l : List ℕ) → all digit l ≡ true → decimal l ≡ n → length l ≡ width n → first l ≡ 48 → ⊥
    by [] d v w f = omega arith
    by (b ∷ []) d v w f = let z = rw f at v in omega (arith, z)
    by (b ∷ (c ∷ cs)) d v w f =
        let z : (b - 48) * 10 ^ suc (length cs) ≡ 0 = rw f (zero-mul (10 ^ suc (length cs))) in
        let y = below (c ∷ cs) (halves (digit b) (all digit (c ∷ cs)) d).1 in
        let m = width_most n (suc (length cs)) (omega arith) (omega (arith, v, z, y)) in
        omega (arith, w, m)

-- 0 is written `0`.
pub zero_alone : digits 0 ≡ 48 ∷ []
unfolding digits width width_up_to fixed
zero_alone = refl

-- Any row of digits that does not begin with `0` is what is written for its value.
pub only_digits : (b : ℕ) (bs : List ℕ) → all digit (b ∷ bs) ≡ true → (b ≡ 48 → ⊥) → digits (decimal (b ∷ bs)) ≡ b ∷ bs
unfolding digits
only_digits b bs h z =
    let t = halves (digit b) (all digit bs) h in
    let g = above b bs (omega (arith, (digit_bounds b t.0).0, z)) in
    let m = width_most (decimal (b ∷ bs)) (suc (length bs)) (omega arith) (below (b ∷ bs) h) in
    let n = width_more (decimal (b ∷ bs)) (length bs) g in
    let w : width (decimal (b ∷ bs)) ≡ suc (length bs) = omega arith in
    ap (λ (k : ℕ). fixed k (decimal (b ∷ bs))) w ∙ row (b ∷ bs) h
