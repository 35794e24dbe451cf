-- `stem` is the word without its `s`. Assumes nothing.
use Rattle.relative.proofs.Units.{stem_empty, stem_s, stem_none}
use Rattle.relative_readers.proofs.stem.Goals as goal

pub returns-in_default : goal.returns-in_default
returns-in_default c = stem_empty _ c.in_default.ensures.cases

pub returns-then-to_lower-eq115 : goal.returns-then-to_lower-eq115
returns-then-to_lower-eq115 c = stem_s _ _ _ _ c.in-Some.ensures.cases.0 c.to_lower.ensures c.if-to_lower-eq115.true

pub returns-else-to_lower-eq115 : goal.returns-else-to_lower-eq115
returns-else-to_lower-eq115 c = stem_none _ _ _ _ c.in-Some.ensures.cases.0 c.to_lower.ensures c.if-to_lower-eq115.false
