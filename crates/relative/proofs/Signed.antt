-- Signed numbers: what fits an i32 or an i64, by the size of a number. Assumes nothing.
use native.Mathlib.Omega.{arith}
use borrow.Author.Tests.{ltb-true, lt-ltb}
use lib.Dec.{ltb}
use Prim.Native.Nat.{ℕ, zero, suc, ◌+◌, ◌<◌, ◌≤◌, ◌^◌}
use native.Mathlib.Nat.{zero-add}
use native.Mathlib.Numerals.{add-one}
use mathlib.Core.Path.{◌≡◌, refl, ap}
use mathlib.Core.Bool.{Bool, true, false, cond}
use lib.IntN.{ℤ, pos, negsuc, neg_ℤ, ◌-ℤ◌, +ℤ_idl}
use lib.Signed.{mag}
use mir.Syntax.{w32, w64}
use mir.Val.{SFits, to_z, of_z}
use Rattle.primitive.specs.Answer.{matched, none}
use Rattle.relative.specs.declared.Relative.TheVariants.{Days}
use mir.Facts.{to_z-of_z}

-- 0 - n and -1 - n
pub negated : (n : ℤ) → pos 0 -ℤ n ≡ neg_ℤ n
negated n = +ℤ_idl (neg_ℤ n)

pub below_zero : (n : ℕ) → negsuc 0 -ℤ pos n ≡ neg_ℤ (pos (n + 1))
below_zero zero = refl
below_zero (suc n) = rw (add-one (suc n)) (ap (λ (m : ℕ). negsuc (suc m)) (zero-add n))

-- the negative of at most 2 to the power 63 is an i64
pub minus_fits : (v : ℕ) → v ≤ 9223372036854775808 → SFits w64 (neg_ℤ (pos v))
minus_fits zero h = record { sfits = omega arith }
minus_fits (suc k) h = record { sfits = omega arith }

-- an i32 is an i64
pub wider : (n : ℤ) → SFits w32 n → SFits w64 n
wider n f = record { sfits = omega (arith, f.sfits) }

-- an i32 as an i64
pub as_i64 : (n : ℤ) → SFits w32 n → to_z w64 (of_z w64 (to_z w32 (of_z w32 n))) ≡ n
as_i64 n f = rw (to_z-of_z f) (to_z-of_z (wider n f))

-- a number of days, by whether an i32 holds it
pub days_fit : (z : ℤ) (next : ℕ) → SFits w32 z → matched (Days z) next ≡ cond (ltb (mag z) (2 ^ 31)) (matched (Days z) next) none
days_fit z next f = rw (lt-ltb (mag z) 2147483648 f.sfits)

pub days_over : (z : ℤ) (next : ℕ) → ¬ SFits w32 z → none ≡ cond (ltb (mag z) (2 ^ 31)) (matched (Days z) next) none
days_over z next n = by (ltb (mag z) 2147483648) refl
  where
    by : (t : Bool) → ltb (mag z) 2147483648 ≡ t → none ≡ cond t (matched (Days z) next) none
    by true e = absurd (n (record { sfits = ltb-true _ _ e }))
    by false e = refl

-- an i32 that can be negated, turned or not
pub turned_fits : (ago : Bool) (n m : ℤ) → SFits w32 n → mag (neg_ℤ n) < 2 ^ 31 → m ≡ cond ago (neg_ℤ n) n → SFits w32 m
turned_fits true n m f h e = rw e (record { sfits = h })
turned_fits false n m f h e = rw e f
