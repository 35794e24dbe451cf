-- How an opened answer of this crate goes on in a chain of readers. Assumes nothing.
use mathlib.Core.Path.{◌≡◌}
use Rattle.primitive.specs.Answer.{Answer, matched, dropped, none, stop, or_else}
use Rattle.primitive.proofs.Spaced.{spaced_chain}

-- A choice of three.
pub or_assoc : {A : Type 0} (a b d q : Answer A) → q ≡ or_else a (or_else b d) → q ≡ or_else (or_else a b) d
or_assoc (matched v n) b d q e = e
or_assoc (dropped v n) b d q e = e
or_assoc none b d q e = e
or_assoc stop b d q e = e

pub ruleset relatives = (or_assoc, spaced_chain)
