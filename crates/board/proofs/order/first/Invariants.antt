-- `first`: the least so far is one of the records and not after any that was looked at.
use Rattle.board.proofs.Least.{Sofar}
use Rattle.board.proofs.order.first.Given as goal

abbrev pub invariant-loop-record : goal.invariant-loop-record
invariant-loop-record l = Sofar l.records l.record-index l.least
