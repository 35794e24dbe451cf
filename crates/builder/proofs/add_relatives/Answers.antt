-- `add_relatives` is its definition.
use borrow.Author.Rules.{rules}
use Rattle.builder.proofs.Loops.{left_next, left_refused, left_end}
use Rattle.builder.proofs.add_relatives.Goals as goal

pub returns-in_err-dt : goal.returns-in_err-dt
returns-in_err-dt c =
    let z = left_refused _ _ _ _ c.loop-relative.invariant c.loop-relative-test.true _ _ c.in_err-dt.ensures in
    search (z, rules)

pub loop-relative-preserved : goal.loop-relative-preserved
loop-relative-preserved c = left_next _ _ _ _ c.loop-relative.invariant c.loop-relative-test.true _ _ c.in_ok-dt.ensures

pub returns : goal.returns
returns c = left_end _ _ _ _ c.loop-relative.invariant c.loop-relative-test.false
