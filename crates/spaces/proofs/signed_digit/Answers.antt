-- `signed_digit` says of a sign with a digit behind it that the space ends there; where it says no, nothing is claimed. Assumes nothing.
use Rattle.primitive.proofs.Spaces.{plus_kept, hyphen_kept}
use borrow.Author.Rules.{rules}
use Rattle.spaces.proofs.signed_digit.Goals as goal

pub returns-then-s-at-eq43 : goal.returns-then-s-at-eq43
returns-then-s-at-eq43 c = λ k. plus_kept _ _ (search rules) (search rules) _ c.is_digit.ensures k (search rules)

pub returns-then-s-at-eq45 : goal.returns-then-s-at-eq45
returns-then-s-at-eq45 c = λ k. hyphen_kept _ _ (search rules) (search rules) _ c.is_digit-then-s-at-eq45.ensures k (search rules)
