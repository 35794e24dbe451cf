-- `part` is the part of the text, cut at its end. Assumes nothing.
use Rattle.primitive.proofs.Tables.{part_is, part_none}
use Rattle.primitive.proofs.part.Goals as goal

pub returns-then-at-to : goal.returns-then-at-to
returns-then-at-to c = part_is _ _ _ _ c.min-to.ensures c.if-at-to.true

pub returns-else-at-to : goal.returns-else-at-to
returns-else-at-to c = part_none _ _ _ _ c.min-to.ensures c.if-at-to.false
