-- `comment` is its definition: what was read is after the parenthesis, and the loop goes on after an inner comment, read in all bytes but
-- the last. Assumes nothing.
use mathlib.Core.Path.{refl, sym}
use Rattle.primitive.specs.Answer.{none}
use Rattle.primitive.specs.Primitive.{comment}
use Rattle.primitive.proofs.Chain.{then_matched}
use Rattle.primitive.proofs.Spaces.{byte_later, comment_later}
use Rattle.primitive.proofs.Comments.{inside_inner, inside_unclosed}
use Rattle.spaces.proofs.+comment.Goals as goal

pub loop-i-init : goal.loop-i-init
loop-i-init t c = (byte_later _ _ _ _ c.in_ok-start.ensures, refl)

pub loop-i-preserved-in-40 : goal.loop-i-preserved-in-40
loop-i-preserved-in-40 t c = (
  comment_later _ _ _ _ c.loop-i.invariant.0 c.in_ok-i-in-40.ensures,
  inside_inner _ _ _ c.loop-i.invariant.1 c.loop-i-test.true _ _ c.in_ok-all_but_last.ensures.cases.0 c.in-40.is _ c.in_ok-i-in-40.ensures,
)

pub returns-in_err-i-in-40 : goal.returns-in_err-i-in-40
unfolding comment
returns-in_err-i-in-40 t c =
    let unclosed = inside_unclosed _ _ _ c.loop-i.invariant.1 c.loop-i-test.true _ _ c.in_ok-all_but_last.ensures.cases.0 c.in-40.is c.in_err-i-in-40.ensures in
    rw c.from_residual-in_err-i-in-40.ensures (then_matched _ _ tt _ none (sym c.in_ok-start.ensures) unclosed)
