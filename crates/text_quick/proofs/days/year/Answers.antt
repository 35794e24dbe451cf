-- `year` finds a year of four digits, at the end of the text or with one blank behind it. Assumes nothing.
use native.Mathlib.Omega.{arith}
use mathlib.Core.Path.{refl}
use Rattle.text_quick.proofs.DateTexts.{year_last, year_then_blank}
use Rattle.text_quick.proofs.days.year.Goals as goal

pub returns-then-end-s : goal.returns-then-end-s
returns-then-end-s c = (refl, refl, year_last _ c.in_ok-year.ensures c.if-end-s.true)

pub returns : goal.returns
returns c = (refl, refl, year_then_blank _ c.in_ok-year.ensures c.if-s-end-ne32.false (omega arith) (omega arith))
