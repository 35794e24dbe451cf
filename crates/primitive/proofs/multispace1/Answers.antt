-- `multispace1` is `some` with the test of a byte. Assumes nothing.
use mathlib.Core.Path.{sym, ◌∙◌}
use Rattle.primitive.proofs.Lowered.{blank_lower}
use Rattle.primitive.specs.Text.{blank}
use Rattle.primitive.specs.Primitive.{multispace1}
use Rattle.primitive.proofs.multispace1.Goals as goal

pub returns : goal.returns
unfolding multispace1
returns c = c.some.ensures blank (λ b r h k. k ∙ sym (blank_lower b))
