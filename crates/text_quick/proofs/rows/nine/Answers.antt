-- `nine` is the value of nine digits: four, four and one. Assumes nothing.
use Rattle.text_quick.proofs.DigitRows.{nine_digits}
use Rattle.text_quick.proofs.rows.nine.Goals as goal

pub returns : goal.returns
returns c = rw c.from.ensures (nine_digits _ _ c.requires c.in_ok-a.ensures c.in_ok-b.ensures c.in_ok-c.ensures)
