-- `some` is its definition, at the end that `past` answers. Assumes nothing.
use Rattle.primitive.proofs.Runs.{some_match, some_none}
use Rattle.primitive.proofs.some.Goals as goal

pub returns-then-at-end : goal.returns-then-at-end
returns-then-at-end g c = λ p t. rw c.part.ensures (some_match p _ _ _ (c.past-end.ensures p t) c.if-at-end.true)

pub returns-else-at-end : goal.returns-else-at-end
returns-else-at-end g c = λ p t. some_none p _ _ _ (c.past-end.ensures p t) c.if-at-end.false
