-- The time that `clock` answers is read by the definitions. Assumes nothing.
use native.Mathlib.Omega.{arith}
use Rattle.primitive.proofs.Lowered.{length_lowered}
use Rattle.text_quick.proofs.ClockForms.{clock_read, clock_answer, minutes_end}
use Rattle.text_quick.proofs.clocks.clock.Goals as goal

pub returns-then-next-s : goal.returns-then-next-s
returns-then-next-s c = clock_read _ _ _ _ (omega arith) c.if-s-at-ne58.false c.in_ok-hour.ensures.1 c.in_ok-minute.ensures.1 (omega arith) (omega arith) (minutes_end _ _ (rw length_lowered c.if-next-s.true))

pub returns : goal.returns
returns c = clock_answer _ _ _ _ (omega arith) c.if-s-at-ne58.false c.in_ok-hour.ensures.1 c.in_ok-minute.ensures.1 (omega arith) (omega arith) _ c.second.ensures
