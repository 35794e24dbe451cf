-- `place_of`: the place among all is i more than the place among the records from i on.
use Rattle.board.proofs.IdLoops.{Place}
use Rattle.board.proofs.ids.place_of.Given as goal

abbrev pub invariant-loop-i : goal.invariant-loop-i
invariant-loop-i l = Place l.records l.id l.i
