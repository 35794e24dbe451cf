-- `first`: a turn keeps the least so far, and the least of all is what the definition finds. Assumes nothing.
use Rattle.board.proofs.Least.{sofar_next, sofar_end}
use Rattle.board.proofs.order.first.Goals as goal

pub loop-record-preserved : goal.loop-record-preserved
loop-record-preserved c = sofar_next _ _ _ c.loop-record.invariant _ c.loop-record-test.true c.earlier-least.ensures

pub returns : goal.returns
returns c = sofar_end _ _ _ c.loop-record.invariant c.loop-record-test.false
