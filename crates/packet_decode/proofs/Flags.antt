-- A flag of 2 or 4 is a bit: the code tests it by `&`, the definitions by a remainder. Assumes nothing.
use Prim.Native.Nat.{ℕ, zero, suc, ◌*◌, ◌/◌, ◌%◌, ◌<◌}
use mathlib.Core.Path.{◌≡◌, refl}
use mathlib.Core.Bool.{not}
use native.Mathlib.Omega.{arith}
use lib.Dec.{eqb}
use Rattle.std.specs.Int.Bits.{bit_and}
use Rattle.std.proofs.lemmas.Nat.Bits.{and_pow}

by_2 : (b : ℕ) → b < 2 → not (eqb (b * 2) 0) ≡ eqb b 1
by_2 zero h = refl
by_2 (suc zero) h = refl
by_2 (suc (suc b)) h = absurd (omega (arith, h))

by_4 : (b : ℕ) → b < 2 → not (eqb (b * 4) 0) ≡ eqb b 1
by_4 zero h = refl
by_4 (suc zero) h = refl
by_4 (suc (suc b)) h = absurd (omega (arith, h))

pub flag_2 : (n : ℕ) → not (eqb (bit_and n 2) 0) ≡ eqb (n / 2 % 2) 1
flag_2 n = rw (and_pow n 1) (by_2 (n / 2 % 2) (omega arith))

pub flag_4 : (n : ℕ) → not (eqb (bit_and n 4) 0) ≡ eqb (n / 4 % 2) 1
flag_4 n = rw (and_pow n 2) (by_4 (n / 4 % 2) (omega arith))
