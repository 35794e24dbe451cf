-- Whole numbers as differences of two naturals: what is linear in them is then a fact of naturals, which `omega` decides.
-- Assumes nothing.
use Prim.Native.Nat.{ℕ, zero, suc, ◌+◌, ◌-◌}
use mathlib.Core.Path.{◌≡◌, refl, sym, ap, ap₂, ◌∙◌}
use mathlib.Core.Bool.{Bool, true, false}
use native.Mathlib.Omega.{arith}
use lib.Dec.{ltb}
use lib.IntN.{ℤ, pos, negsuc, neg_ℤ, sub_ℕ, ◌+ℤ◌, ◌-ℤ◌}
use borrow.Author.Tests.{ltb-true, ltb-false, lt-ltb, le-ltb}

-- true and false are not one: any statement follows
pub untrue {ℓ} : {X : Type ℓ} → false ≡ true → X
untrue p = let z : ◌≡◌ {A = ℕ} 0 1 = cc in absurd (clash z)
  where
    clash : ◌≡◌ {A = ℕ} 0 1 → ⊥
    clash z = omega arith

pub is_pos : (a b n : ℕ) → a ≡ b + n → sub_ℕ a b ≡ pos n
is_pos a b n e =
    let l : ltb a b ≡ false = le-ltb a b (omega arith) in
    let d : a - b ≡ n = omega arith in
    simp l (ap pos d)

pub is_neg : (a b n : ℕ) → b ≡ a + suc n → sub_ℕ a b ≡ negsuc n
is_neg a b n e =
    let l : ltb a b ≡ true = lt-ltb a b (omega arith) in
    let d : b - suc a ≡ n = omega arith in
    simp l (ap negsuc d)

-- a difference is one of the two kinds of whole numbers
pub data Shape (a b : ℕ) : Type 0 where
  up : (n : ℕ) → a ≡ b + n → sub_ℕ a b ≡ pos n → Shape a b
  down : (n : ℕ) → b ≡ a + suc n → sub_ℕ a b ≡ negsuc n → Shape a b

pub shape : (a b : ℕ) → Shape a b
shape a b = by (ltb a b) refl
  where
    by : (t : Bool) → ltb a b ≡ t → Shape a b
    by true p = let e : b ≡ a + suc (b - suc a) = omega (arith, ltb-true) in down (b - suc a) e (is_neg a b _ e)
    by false p = let e : a ≡ b + (a - b) = omega (arith, ltb-false) in up (a - b) e (is_pos a b _ e)

-- two differences are one number where they agree crosswise
pub diff_eq : (a b c d : ℕ) → a + d ≡ c + b → sub_ℕ a b ≡ sub_ℕ c d
diff_eq a b c d h = by (shape c d)
  where
    by : Shape c d → sub_ℕ a b ≡ sub_ℕ c d
    by (up n e q) = is_pos a b n (omega arith) ∙ sym q
    by (down n e q) = is_neg a b n (omega arith) ∙ sym q

-- sums and differences of differences
pub diff_add : (a b c d : ℕ) → sub_ℕ a b +ℤ sub_ℕ c d ≡ sub_ℕ (a + c) (b + d)
diff_add a b c d = by (shape a b) (shape c d)
  where
    by : Shape a b → Shape c d → sub_ℕ a b +ℤ sub_ℕ c d ≡ sub_ℕ (a + c) (b + d)
    by (up n e q) (up m f r) = ap₂ ◌+ℤ◌ q r ∙ sym (is_pos (a + c) (b + d) (n + m) (omega arith))
    by (up n e q) (down m f r) = ap₂ ◌+ℤ◌ q r ∙ diff_eq n (suc m) (a + c) (b + d) (omega arith)
    by (down n e q) (up m f r) = ap₂ ◌+ℤ◌ q r ∙ diff_eq m (suc n) (a + c) (b + d) (omega arith)
    by (down n e q) (down m f r) = ap₂ ◌+ℤ◌ q r ∙ sym (is_neg (a + c) (b + d) (suc (n + m)) (omega arith))

pub diff_neg : (a b : ℕ) → neg_ℤ (sub_ℕ a b) ≡ sub_ℕ b a
diff_neg a b = by (shape a b)
  where
    neg_pos : (n : ℕ) → a ≡ b + n → neg_ℤ (pos n) ≡ sub_ℕ b a
    neg_pos zero e = sym (is_pos b a zero (omega arith))
    neg_pos (suc n) e = sym (is_neg b a n (omega arith))

    by : Shape a b → neg_ℤ (sub_ℕ a b) ≡ sub_ℕ b a
    by (up n e q) = ap neg_ℤ q ∙ neg_pos n e
    by (down n e q) = ap neg_ℤ q ∙ sym (is_pos b a (suc n) (omega arith))

pub diff_sub : (a b c d : ℕ) → sub_ℕ a b -ℤ sub_ℕ c d ≡ sub_ℕ (a + d) (b + c)
diff_sub a b c d = ap (λ (z : ℤ). sub_ℕ a b +ℤ z) (diff_neg c d) ∙ diff_add a b d c

pub diff_pos : (n : ℕ) → pos n ≡ sub_ℕ n 0
diff_pos n = sym (is_pos n 0 n (omega arith))
