-- `item_at` is its definition: an item, or the refusal that ends the reading. Assumes nothing.
use Rattle.text_general.proofs.Loop.{one_full, one_dropped, one_read, one_unread, one_stopped}
use Rattle.text_general.proofs.item_at.Goals as goal

pub returns-then-count-eq-MOST_ITEMS : goal.returns-then-count-eq-MOST_ITEMS
returns-then-count-eq-MOST_ITEMS c = rw c.at.ensures (one_full _ _ _ _ _ _ c.in-Ok.ensures c.if-count-eq-MOST_ITEMS.true)

pub returns-then-dropped : goal.returns-then-dropped
returns-then-dropped c = rw c.at-then-dropped.ensures (one_dropped _ _ _ _ _ _ c.in-Ok.ensures c.if-count-eq-MOST_ITEMS.false c.requires c.if-dropped.true)

pub returns-else-dropped : goal.returns-else-dropped
returns-else-dropped c = one_read _ _ _ _ _ _ c.in-Ok.ensures c.if-count-eq-MOST_ITEMS.false c.requires c.if-dropped.false

pub returns-in-Err-NoMatch : goal.returns-in-Err-NoMatch
returns-in-Err-NoMatch c = rw c.at-in-Err-NoMatch.ensures (one_unread _ _ _ (rw c.in-Err-NoMatch.field-0-is at c.in-Err-NoMatch.ensures))

pub returns-in-Err-Stop : goal.returns-in-Err-Stop
returns-in-Err-Stop c = rw c.at-in-Err-Stop.ensures (one_stopped _ _ _ (rw c.in-Err-Stop.field-0-is at c.in-Err-Stop.ensures))
