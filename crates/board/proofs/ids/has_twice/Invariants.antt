-- `has_twice`: no id is twice among the records that were looked at.
use Rattle.board.proofs.IdLoops.{Apart}
use Rattle.board.proofs.ids.has_twice.Given as goal

abbrev pub invariant-loop-i : goal.invariant-loop-i
invariant-loop-i l = Apart l.records l.i
