-- `second_named` is its definition: whether the word stands in the table. Assumes nothing.
use mathlib.Core.Path.{refl, ap, ◌∙◌}
use Rattle.primitive.specs.Answer.{found_at}
use Rattle.primitive.specs.Text.{lower, lowered, bytes}
use Rattle.primitive.proofs.Tables.{beside_named}
use Rattle.relative.specs.Relative.{second_words}
use Rattle.relative_readers.proofs.seconds.second_named.Goals as goal

pub returns : goal.returns
unfolding second_words bytes lower lowered
returns c = λ text at. ap (found_at at) c.find_value.ensures ∙ beside_named text at _ second_words _ refl
