-- `two` is the value of two digits, one behind the other. Assumes nothing.
use Rattle.text_quick.proofs.DigitRows.{two_digits}
use Rattle.text_quick.proofs.rows.two.Goals as goal

pub returns : goal.returns
returns c = two_digits _ _ c.requires c.in_ok-a.ensures c.in_ok-b.ensures
