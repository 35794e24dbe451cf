-- A whole number by its sign and its magnitude, as a test on 0 tells them. Assumes nothing.
use Prim.Native.Nat.{ℕ, ◌+◌, ◌<◌}
use mathlib.Core.Path.{◌≡◌}
use mathlib.Core.Bool.{true, false}
use native.Mathlib.Omega.{arith}
use native.Mathlib.Numerals.{add-one}
use lib.Dec.{T}
use lib.IntN.{ℤ, pos, negsuc, nat_abs}
use lib.Signed.{lt_z, non_neg, mag}
use mir.Syntax.{w32}
use mir.Val.{SFits, Fits}
use borrow.Author.Tests.{ltb-true}
use Rattle.primitive.proofs.Lowered.{clash}

never : {X : Type 0} (n : ℕ) → n < 0 → X
never n h = absurd (omega arith)

pub gap_more : (z : ℤ) → lt_z z (pos 0) ≡ true → mag z + 1 ≡ nat_abs z
gap_more (pos n) p = never n (ltb-true n 0 p)
gap_more (negsuc n) p = add-one n

pub castable : (z : ℤ) → SFits w32 z → lt_z z (pos 0) ≡ false → T (non_neg z) × Fits w32 (nat_abs z)
castable (pos n) f p = (tt, record { fits = omega (arith, f.sfits) })
castable (negsuc n) f p = let z : ◌≡◌ {A = ℕ} 0 1 = cc in absurd (clash z)
