-- The chains of this crate's readers. Assumes nothing.
use Rattle.primitive.proofs.Chain.{chain}

pub ruleset items = (chain)
