-- `alpha1` is `some` with the test of a byte. Assumes nothing.
use Rattle.primitive.specs.Text.{letter}
use Rattle.primitive.specs.Primitive.{alpha1}
use Rattle.primitive.proofs.alpha1.Goals as goal

pub returns : goal.returns
unfolding alpha1
returns c = c.some.ensures letter (λ b r h k. k)
