-- `writer::fill_digits` meets its contract: the digits still to be written, in front of those that are, make the row that is wanted. Assumes nothing.
use lib.ListN.{length, drop}
use mathlib.Core.List.{◌++◌}
use mathlib.Core.Path.{◌≡◌}
use Rattle.writer.specs.Writer.{fixed}
use Rattle.writer.proofs.fill_digits.Given as goal

abbrev pub invariant-loop-i : goal.invariant-loop-i
invariant-loop-i l = fixed l.i l.left ++ drop l.i l.row ≡ fixed (length l.initial.row) l.number
