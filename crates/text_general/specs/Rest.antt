-- What is left of a text's reading after some of its items, as the loop over the items sees it: proofs/Loop.antt proves that from the start
-- it is `build_text`.
use Rattle.std.specs.Prelude.{ℕ, zero, suc, ◌-◌, cond, List, [], ◌++◌, ltb, length}
use Rattle.answers.specs.Numbers as refusal
use Rattle.answers.specs.Limits.{most_items}
use Rattle.answers.specs.Placed.{Placed, fine, refusal, ◌>>=◌}
use Rattle.primitive.specs.Answer.{Answer, matched, dropped, none, stop}
use Rattle.primitive.specs.Primitive.{space}
use Rattle.extended.specs.declared.ExtendedDateTime.{ExtendedDateTime}
use Rattle.relative.specs.declared.Relative.{Relative}
use Rattle.items.specs.declared.Item.{Item}
use Rattle.items.specs.Items.{parse_item}
use Rattle.rules.specs.declared.DateTimeBuilder.{DateTimeBuilder}
use Rattle.rules.specs.Rules.{add_item, relative_of}
use Rattle.builder.specs.Building.{built}

-- an item that was read with room for so many more, or the refusal that ends the reading: with no room it is not asked whether a digit was
-- lost
unfoldable pub one : ℕ → Answer Item → ℕ → Placed (Item × ℕ)
one zero (matched x n) at = refusal refusal.oversize 0
one zero (dropped x n) at = refusal refusal.oversize 0
one zero none at = refusal refusal.unread at
one zero stop at = refusal refusal.stopped at
one (suc room) (matched x n) at = fine (x, n)
one (suc room) (dropped x n) at = refusal refusal.fraction at
one (suc room) none at = refusal refusal.unread at
one (suc room) stop at = refusal refusal.stopped at

-- the answer from a place on, after i items that gave p and the relative items rs, with room for so many more
unfoldable pub rest : List ℕ → ExtendedDateTime → ℕ → ℕ → Placed DateTimeBuilder → List Relative → ℕ → Placed ExtendedDateTime
rest text base zero i p rs at = cond (ltb (space text at) (length text)) (one zero (parse_item text at) at >>= (λ q. refusal refusal.oversize 0)) (built p rs base)
rest text base (suc room) i p rs at =
    cond (ltb (space text at) (length text))
    (one (suc room) (parse_item text at) at >>= (λ q. rest text base room (suc i) (add_item [] i q.0 p) (rs ++ relative_of q.0) q.1))
    (built p rs base)

unfoldable pub left : List ℕ → ExtendedDateTime → ℕ → Placed DateTimeBuilder → List Relative → ℕ → Placed ExtendedDateTime
left text base count p rs at = rest text base (most_items - count) count p rs at
