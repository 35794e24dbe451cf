-- The time that `half_day` answers is read by the definitions. Assumes nothing.
use native.Mathlib.Omega.{arith}
use mathlib.Core.Bool.{true, false}
use Rattle.primitive.proofs.Lowered.{length_lowered}
use Rattle.text_quick.proofs.ClockForms.{half_day_read}
use Rattle.text_quick.proofs.clocks.half_day.Goals as goal
use Rattle.text_quick.proofs.clocks.half_day.Goals.{in-97, in-112}

pub overflow_sub-s : goal.overflow_sub-s
overflow_sub-s c = let d = c.in_ok-hour.ensures in let size = length_lowered c.args.s.now in omega (arith, d.more)

pub returns : goal.returns
returns c =
    let read = half_day_read _ _ _ _ _ c.in_ok-hour.ensures c.if-hour-lt1.false c.if-hour-gt12.false c.if-s-next-ne6.false c.if-s-next-ne58.false c.in_ok-minute.ensures.1 c.if-minute-gt59.false
    c.if-s-next-ne32.false c.if-s-next-ne109.false in
    elim c.match-s-next.branch [ in-97 w ↦ read false w.in-97.is _ (omega (arith, w.hour-is)) | in-112 w ↦ read true w.in-112.is _ (omega (arith, w.hour-is)) ]
