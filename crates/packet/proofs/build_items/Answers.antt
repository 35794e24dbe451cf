-- `build_items` is its definition.
use native.Mathlib.Omega.{arith}
use Rattle.primitive.proofs.Lowered.{length_lowered}
use Rattle.packet.proofs.Loop.{left_start, left_over, left_built, left_bad, left_next, digits_within}
use Rattle.packet.proofs.build_items.Goals as goal

pub loop-i-init : goal.loop-i-init
loop-i-init c = (rw c.new-gathered.ensures.relatives (omega arith), omega arith, left_start _ _ _ _ _ _ c.new-gathered.ensures.builder c.new-gathered.ensures.relatives)

pub returns-in_default : goal.returns-in_default
returns-in_default c = rw c.at.ensures (left_bad _ _ _ _ _ _ _ _ _ c.loop-i.invariant.2 c.loop-i-test.true c.in_default.ensures)

pub loop-i-preserved : goal.loop-i-preserved
loop-i-preserved c =
    let v = c.loop-i in
    let d = c.digits_used-used.ensures.0 in
    let w = rw (length_lowered c.args.digits.now) at (digits_within _ _ _ _ _ (rw (length_lowered _) v.invariant.1) c.in-Some.ensures) in (
      omega (arith, c.add_item.ensures.few),
      rw d w,
      left_next _ _ _ _ _ _ _ _ _ v.invariant.2 c.loop-i-test.true _ c.in-Some.ensures _ c.add_item.ensures.builder _ (c.add_item.ensures.kept (omega arith)) _ d,
    )

pub returns-then-is_left : goal.returns-then-is_left
returns-then-is_left c = rw c.at-then-is_left.ensures (left_over _ _ _ _ _ _ _ _ _ c.loop-i.invariant.2 c.loop-i.auto.i-end c.loop-i-test.false (rw (length_lowered _) c.if-is_left.true))

pub returns : goal.returns
returns c = left_built _ _ _ _ _ _ _ _ _ c.loop-i.invariant.2 c.loop-i.auto.i-end c.loop-i-test.false (rw (length_lowered _) c.if-is_left.false) _ (rw c.as_slice.ensures.value at c.build.ensures)
