-- `tag` is its definition. Assumes nothing.
use borrow.Author.Rules.{rules}
use borrow.Author.Tests.{ltb-true}
use native.Mathlib.Omega.{arith}
use mathlib.Core.Path.{sym}
use Rattle.primitive.proofs.Tags.{tag_next}
use Rattle.primitive.proofs.tag.Goals as goal

pub loop-k-preserved : goal.loop-k-preserved
loop-k-preserved c =
    let inside = ltb-true _ _ (sym c.in_ok-c.ensures.lookup.0) in
    (search rules, search rules, tag_next _ _ _ _ _ c.loop-k.invariant.2 c.loop-k-test.true inside c.to_lower.result (search rules) c.if-to_lower-b.false _ (omega arith))
