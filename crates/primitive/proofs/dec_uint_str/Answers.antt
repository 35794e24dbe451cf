-- `dec_uint_str` is `some` with the test of a byte. Assumes nothing.
use mathlib.Core.Path.{sym, ◌∙◌}
use Rattle.primitive.proofs.Lowered.{digit_lower}
use Rattle.primitive.specs.Text.{digit}
use Rattle.primitive.specs.Primitive.{dec_uint_str}
use Rattle.primitive.proofs.dec_uint_str.Goals as goal

pub returns : goal.returns
unfolding dec_uint_str
returns c = c.some.ensures digit (λ b r h k. k ∙ sym (digit_lower b))
