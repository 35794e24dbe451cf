-- Sums and products in whole numbers without bound, and which of them an i64 or an i32 can represent.
use Rattle.std.specs.Prelude.{ℕ, ◌+◌, ◌^◌, Bool, true, false, ◌&&◌, ltb, ℤ, pos, negsuc, ◌+ℤ◌, ◌*ℤ◌, Option, Some, None}
use Rattle.std.specs.Int.Signed.{mag, le_z}

-- whether z is one of the numbers from -2^63 to 2^63 - 1: `mag` is n both for n and for -1 - n
abbrev pub in_i64 : ℤ → Bool
in_i64 z = ltb (mag z) (2 ^ 63)

abbrev pub fits_if : Bool → ℤ → Option ℤ
fits_if true z = Some z
fits_if false z = None

-- a + b and a × b, where an i64 can represent them
unfoldable pub sum : ℤ → ℤ → Option ℤ
sum a b = fits_if (in_i64 (a +ℤ b)) (a +ℤ b)

unfoldable pub product : ℤ → ℤ → Option ℤ
product a b = fits_if (in_i64 (a *ℤ b)) (a *ℤ b)

-- z as a natural number, where it is not below 0
unfoldable pub natural_of : ℤ → Option ℕ
natural_of (pos n) = Some n
natural_of (negsuc n) = None

-- whether z is one of the numbers from -2^31 to 2^31 - 1
abbrev pub in_i32 : ℤ → Bool
in_i32 z = le_z (negsuc 2147483647) z && le_z z (pos 2147483647)
