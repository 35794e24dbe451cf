-- The numbers of an i64 by `raised`: their order, sums and differences are those of naturals, which `omega` decides.
-- Assumes nothing.
use Prim.Native.Nat.{ℕ, suc, ◌+◌, ◌-◌, ◌<◌, ◌≤◌}
use mathlib.Core.Path.{◌≡◌, refl, sym, ap₂, ◌∙◌}
use mathlib.Core.Bool.{Bool, true, false, not}
use native.Mathlib.Omega.{arith}
use lib.IntN.{ℤ, pos, negsuc, sub_ℕ, ◌-ℤ◌}
use lib.Dec.{ltb, leb}
use lib.Signed.{mag, lt_z, le_z}
use mir.Syntax.{w64}
use mir.Val.{SFits}
use borrow.Author.Tests.{ltb-true, ltb-false, lt-ltb, lt-leb, le-leb}
use Rattle.integers.proofs.Differences.{is_pos, is_neg, Shape, up, down, shape, diff_eq, diff_sub}
use Rattle.integers.specs.Integers.{in_i64, in_i32, fits_if}
use Rattle.std.specs.Prelude.{Some}

-- z + 2^63, for a z that is not below -2^63
unfoldable pub raised : ℤ → ℕ
raised (pos n) = 9223372036854775808 + n
raised (negsuc n) = 9223372036854775808 - suc n

-- a number of the range is its raised number less 2^63
pub as_diff : (x : ℤ) → SFits w64 x → x ≡ sub_ℕ (raised x) 9223372036854775808
unfolding raised
as_diff (pos n) f = sym (is_pos _ 9223372036854775808 n refl)
as_diff (negsuc n) f = sym (is_neg (9223372036854775808 - suc n) 9223372036854775808 n (omega (arith, f.sfits)))

-- how far a raised number lies from 2^63
pub raised_near : (x : ℤ) → (raised x ≤ 9223372036854775808 + mag x) × (9223372036854775808 ≤ raised x + mag x + 1)
unfolding raised
raised_near (pos n) = omega arith
raised_near (negsuc n) = omega arith

-- a difference of naturals that lie near each other
pub diff_near : (a b c : ℕ) → a < b + c → b ≤ a + c → mag (sub_ℕ a b) < c
diff_near a b c h k = by (shape a b)
  where
    by : Shape a b → mag (sub_ℕ a b) < c
    by (up n e q) = rw q (omega arith)
    by (down n e q) = rw q (omega arith)

-- a difference of naturals within the range, and its raised number
pub diff_fits : (a b : ℕ) → a < b + 9223372036854775808 → b ≤ a + 9223372036854775808 → SFits w64 (sub_ℕ a b)
diff_fits a b h k = record { sfits = diff_near a b 9223372036854775808 h k }

-- sums and differences of two numbers of the range
module _ (x y : ℤ) (f : SFits w64 x) (g : SFits w64 y) where
  pub less_diff : x -ℤ y ≡ sub_ℕ (raised x) (raised y)
  less_diff =
      ap₂ ◌-ℤ◌ (as_diff x f) (as_diff y g)
      ∙ diff_sub (raised x) 9223372036854775808 (raised y) 9223372036854775808
      ∙ diff_eq (raised x + 9223372036854775808) (9223372036854775808 + raised y) (raised x) (raised y) (omega arith)

pub fits_in : (z : ℤ) → mag z < 9223372036854775808 → fits_if (in_i64 z) z ≡ Some z
fits_in z h = let e : in_i64 z ≡ true = lt-ltb _ _ h in simp e

-- ---- an i32 by two tests of the order, which std makes

-- one order by the other
le_by_lt : (a b : ℕ) → leb a b ≡ not (ltb b a)
le_by_lt a b = by (ltb b a) refl
  where
    by : (t : Bool) → ltb b a ≡ t → leb a b ≡ not t
    by true p = lt-leb a b (ltb-true b a p)
    by false p = le-leb a b (ltb-false b a p)

pub le_z_by_lt_z : (a b : ℤ) → le_z a b ≡ not (lt_z b a)
le_z_by_lt_z (pos a) (pos b) = le_by_lt a b
le_z_by_lt_z (pos a) (negsuc b) = refl
le_z_by_lt_z (negsuc a) (pos b) = refl
le_z_by_lt_z (negsuc a) (negsuc b) = le_by_lt b a

pub under_i32 : (z : ℤ) → lt_z z (negsuc 2147483647) ≡ true → false ≡ in_i32 z
under_i32 z e = rw (le_z_by_lt_z (negsuc 2147483647) z, e)

pub beyond_i32 : (z : ℤ) → lt_z z (negsuc 2147483647) ≡ false → lt_z (pos 2147483647) z ≡ true → false ≡ in_i32 z
beyond_i32 z d e = rw (le_z_by_lt_z (negsuc 2147483647) z, le_z_by_lt_z z (pos 2147483647), d, e)

pub inside_i32 : (z : ℤ) → lt_z z (negsuc 2147483647) ≡ false → lt_z (pos 2147483647) z ≡ false → true ≡ in_i32 z
inside_i32 z d e = rw (le_z_by_lt_z (negsuc 2147483647) z, le_z_by_lt_z z (pos 2147483647), d, e)
