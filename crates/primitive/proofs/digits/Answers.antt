-- `digits` is `past` with the test of a byte. Assumes nothing.
use mathlib.Core.Path.{sym, ◌∙◌}
use Rattle.primitive.proofs.Lowered.{digit_lower}
use Rattle.primitive.specs.Text.{digit}
use Rattle.primitive.proofs.digits.Goals as goal

pub returns : goal.returns
returns c = c.past.ensures digit (λ b r h k. k ∙ sym (digit_lower b))
