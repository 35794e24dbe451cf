-- `dec_u32` is `dec_uint`; the value fits by the one law on width. Assumes nothing.
use mathlib.Core.Path.{refl}
use mir.Syntax.{w32}
use Rattle.primitive.proofs.Numbers.{number_fits}
use Rattle.numbers.proofs.dec_u32.Goals as goal

pub overflow_cast-result : goal.overflow_cast-result
overflow_cast-result c = number_fits _ _ _ _ _ c.in_ok-v.ensures w32 refl
