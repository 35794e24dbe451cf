-- What `iso_date` finds is read as that date. Assumes nothing.
use native.Mathlib.Omega.{arith}
use Rattle.text_quick.proofs.DateTexts.{iso_found}
use Rattle.text_quick.proofs.days.iso_date.Goals as goal

pub returns : goal.returns
returns c = iso_found _ (omega arith) c.if-s-ne45.false c.if-s-ne45-2.false c.in_ok-year.ensures c.in_ok-month.ensures c.in_ok-day.ensures
