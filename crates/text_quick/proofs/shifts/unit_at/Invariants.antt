-- The loop's invariant: the table's words are the names of its units. Assumes nothing.
use Rattle.text_quick.proofs.ShiftForms.{Table}
use Rattle.text_quick.proofs.shifts.unit_at.Given as goal

abbrev pub invariant-loop-word : goal.invariant-loop-word
invariant-loop-word l = Table l.word-items
