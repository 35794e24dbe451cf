-- The item that `shift` answers is read by the definitions. Assumes nothing.
use native.Mathlib.Omega.{arith}
use Rattle.text_quick.proofs.ShiftForms.{number_there, shift_answer}
use Rattle.text_quick.proofs.shifts.shift.Goals as goal
use Rattle.text_quick.proofs.shifts.shift.Goals.{else-start-at-via-then-start-at+else-end-at-gt4, else-start-at-via-else-start-at}

pub overflow_sub-end : goal.overflow_sub-end
overflow_sub-end c = let d = number_there _ _ _ _ _ (omega arith) c.behind_sign-start.ensures c.in_ok-n.ensures in omega arith

pub returns : goal.returns
returns c = shift_answer _ _ _ _ (omega arith) _ c.behind_sign-start.ensures (number_there _ _ _ _ _ (omega arith) c.behind_sign-start.ensures c.in_ok-n.ensures) (λ z. elim c.else-start-at.branch [ else-start-at-via-then-start-at+else-end-at-gt4 w ↦ omega arith | else-start-at-via-else-start-at w ↦ omega arith ]) _ c.count.ensures
