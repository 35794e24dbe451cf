-- `multispace0` is `past` with the test of a byte. Assumes nothing.
use mathlib.Core.Path.{sym, ◌∙◌}
use Rattle.primitive.proofs.Lowered.{blank_lower}
use Rattle.primitive.specs.Text.{blank}
use Rattle.primitive.proofs.multispace0.Goals as goal

pub returns : goal.returns
returns c = c.past.ensures blank (λ b r h k. k ∙ sym (blank_lower b))
