-- `writer::fill_digits` meets its contract: the digits still to be written, in front of those that are, make the row that is wanted. Assumes nothing.
use lib.ListN.{length}
use Rattle.writer.specs.Writer.{fixed}
use Rattle.writer.proofs.Filling.{filled_done}
use Rattle.writer.proofs.fill_digits.Goals as goal

pub returns : goal.returns
returns c =
    let l = c.loop-i in
    filled_done l.row (fixed (length c.args.row.now) c.args.number) l.i l.left l.invariant c.loop-i-test.false
