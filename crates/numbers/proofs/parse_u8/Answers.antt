-- `parse_u8` is `parse_uint`; the value fits, as the limit does. Assumes nothing.
use native.Mathlib.Omega.{arith}
use Rattle.primitive.proofs.Numbers.{parse_most}
use Rattle.numbers.proofs.parse_u8.Goals as goal

pub overflow_cast-result : goal.overflow_cast-result
overflow_cast-result c = let most = parse_most _ _ _ c.in_ok-value.ensures in record { fits = omega (arith, c.ranges.max.fits) }
