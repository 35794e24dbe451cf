-- What `second` answers stands behind the minutes. Assumes nothing.
use native.Mathlib.Omega.{arith}
use mathlib.Core.Path.{refl}
use Rattle.text_quick.proofs.ClockForms.{second_ends, second_answer}
use Rattle.text_quick.proofs.clocks.second.Goals as goal

pub returns-then-next-s : goal.returns-then-next-s
returns-then-next-s c = (refl, (refl, second_ends _ _ _ (omega arith) c.if-s-at-ne58.false c.in_ok-second.ensures.1 (omega arith) c.if-next-s.true))

pub returns : goal.returns
returns c = second_answer _ _ _ (omega arith) c.if-s-at-ne58.false c.in_ok-second.ensures.1 (omega arith) _ _ _ c.fraction_and_zone.ensures
