-- `build_rest`: each item is one turn of what is left to read. Assumes nothing.
use native.Mathlib.Omega.{arith}
use borrow.Author.Rules.{rules}
use Rattle.primitive.specs.Text.{lowered}
use Rattle.text_general.proofs.Loop.{left_end, left_refused, left_next, one_room}
use Rattle.text_general.proofs.build_rest.Goals as goal

pub returns-in_err-item : goal.returns-in_err-item
returns-in_err-item c =
    let k = left_refused _ _ _ _ _ _ _ c.loop-i.invariant.2 _ c.space.ensures c.loop-i-test.true in
    search (k, rules)

pub loop-i-preserved : goal.loop-i-preserved
unfolding lowered
loop-i-preserved c =
    let v = c.loop-i in (
      omega (arith, one_room _ _ _ c.in_ok-item.ensures),
      omega (arith, c.add_item.ensures.few),
      left_next _ _ _ _ _ _ _ v.invariant.2 _ c.space.ensures c.loop-i-test.true _ _ c.in_ok-item.ensures _ c.add_item.ensures.builder _ (c.add_item.ensures.kept (omega (arith, one_room _ _ _ c.in_ok-item.ensures))),
    )

pub returns : goal.returns
returns c = left_end _ _ _ _ _ _ _ c.loop-i.invariant.2 _ c.space.ensures c.loop-i-test.false _ (rw c.as_slice.ensures.value at c.build.ensures)
