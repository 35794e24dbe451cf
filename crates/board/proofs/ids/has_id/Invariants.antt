-- `has_id`: what was found, or is among the records not yet seen, is the whole answer.
use Rattle.board.proofs.IdLoops.{Unseen}
use Rattle.board.proofs.ids.has_id.Given as goal

abbrev pub invariant-loop-record : goal.invariant-loop-record
invariant-loop-record l = Unseen l.records l.id l.record-index l.has
