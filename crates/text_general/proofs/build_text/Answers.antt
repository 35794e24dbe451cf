-- `build_text`: each item is one turn of what is left to read. Assumes nothing.
use native.Mathlib.Omega.{arith}
use borrow.Author.Rules.{rules}
use Rattle.primitive.specs.Text.{lowered}
use Rattle.text_general.proofs.Loop.{left_start, left_end, left_refused, left_next}
use Rattle.text_general.proofs.build_text.Goals as goal

pub loop-gathered-init : goal.loop-gathered-init
loop-gathered-init c = (omega arith, rw c.new-gathered.ensures.relatives (omega arith), left_start _ _ _ _ c.new-gathered.ensures.builder c.new-gathered.ensures.relatives)

pub returns-in_err-item : goal.returns-in_err-item
returns-in_err-item c =
    let k = left_refused _ _ _ _ _ _ _ c.loop-gathered.invariant.2 _ c.space.ensures c.loop-gathered-test.true in
    search (k, rules)

pub loop-gathered-preserved : goal.loop-gathered-preserved
unfolding lowered
loop-gathered-preserved c =
    let v = c.loop-gathered in (
      omega arith,
      omega (arith, c.add_item.ensures.few),
      left_next _ _ _ _ _ _ _ v.invariant.2 _ c.space.ensures c.loop-gathered-test.true _ _ c.in_ok-item.ensures _ c.add_item.ensures.builder _ (c.add_item.ensures.kept (omega arith)),
    )

pub returns : goal.returns
returns c = left_end _ _ _ _ _ _ _ c.loop-gathered.invariant.2 _ c.space.ensures c.loop-gathered-test.false _ (rw c.as_slice.ensures.value at c.build.ensures)
