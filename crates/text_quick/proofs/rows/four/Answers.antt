-- `four` is the value of four digits, two behind two. Assumes nothing.
use Rattle.text_quick.proofs.DigitRows.{four_digits}
use Rattle.text_quick.proofs.rows.four.Goals as goal

pub returns : goal.returns
returns c = rw (c.from.ensures, c.from-2.ensures) (four_digits _ _ c.in_ok-a.ensures c.in_ok-b.ensures)
