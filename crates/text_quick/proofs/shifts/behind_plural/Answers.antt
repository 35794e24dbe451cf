-- Behind the place stands an `s` or nothing. Assumes nothing.
use Rattle.text_quick.proofs.ShiftForms.{plural_there}
use Rattle.text_quick.proofs.shifts.behind_plural.Goals as goal

pub returns-then-to_lower-eq115 : goal.returns-then-to_lower-eq115
returns-then-to_lower-eq115 c = plural_there _ _ _ c.if-at-s.true c.to_lower.ensures c.if-to_lower-eq115.true
