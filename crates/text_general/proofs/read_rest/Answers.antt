-- `read_rest`: each item is one turn of what is left to read, and a broken rule stays. Assumes nothing.
use native.Mathlib.Omega.{arith}
use borrow.Author.Rules.{rules}
use Rattle.primitive.specs.Text.{lowered}
use Rattle.text_general.proofs.Loop.{left_refused, broken_end, broken_next, one_room}
use Rattle.text_general.proofs.read_rest.Goals as goal

pub returns-in_err-next : goal.returns-in_err-next
returns-in_err-next c base rs =
    let k = left_refused _ _ _ _ _ _ _ (c.loop-i.invariant.1 base rs) _ c.space.ensures c.loop-i-test.true in
    search (k, rules)

pub loop-i-preserved : goal.loop-i-preserved
unfolding lowered
loop-i-preserved c = (
  omega (arith, one_room _ _ _ c.in_ok-next.ensures),
  λ base rs. broken_next _ _ _ _ _ _ _ _ (c.loop-i.invariant.1 base rs) _ c.space.ensures c.loop-i-test.true _ _ c.in_ok-next.ensures,
)

pub returns : goal.returns
returns c base rs = broken_end _ _ _ _ _ _ _ _ (c.loop-i.invariant.1 base rs) _ c.space.ensures c.loop-i-test.false
