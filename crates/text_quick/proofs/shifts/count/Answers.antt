-- A blank, a unit and its direction stand behind the number. Assumes nothing.
use Rattle.text_quick.proofs.ShiftForms.{cast_fits, cast_turned, counted}
use Rattle.text_quick.proofs.shifts.count.Goals as goal

pub overflow_cast-with_sign : goal.overflow_cast-with_sign
overflow_cast-with_sign c = cast_fits _ _ c.if-n-gt300000000.false _ c.with_sign.ensures

pub returns : goal.returns
returns c =
    counted _ _ _ _ _ _ _ _ c.if-n-gt300000000.false c.if-s-at.false c.if-s-at-ne32.false c.in_ok-unit.ensures c.behind_plural.ensures c.in_ok-ago.ensures (cast_turned _ _ _ c.if-n-gt300000000.false _ c.with_sign.ensures) _ c.times.ensures
