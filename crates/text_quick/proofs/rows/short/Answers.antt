-- `short` finds one digit or two, with no digit behind them. Assumes nothing.
use native.Mathlib.Omega.{arith}
use Rattle.text_quick.proofs.DigitRows.{one_alone, two_alone}
use Rattle.text_quick.proofs.rows.short.Goals as goal

pub returns-in_default : goal.returns-in_default
returns-in_default c = one_alone _ _ (omega arith) (omega arith) c.in_ok-a.ensures c.in_default.ensures

pub returns-in-None : goal.returns-in-None
returns-in-None c = two_alone _ _ (omega arith) (omega arith) c.in_ok-a.ensures c.in-Some.ensures c.in-None.ensures
