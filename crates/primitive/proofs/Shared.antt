-- Two readers that begin with the same part, which the code reads once. Assumes nothing.
use Prim.Native.Nat.{ℕ}
use mathlib.Core.Path.{◌≡◌, refl}
use Rattle.primitive.specs.Answer.{Answer, matched, dropped, none, stop, drops, and_then, or_else}
use Rattle.primitive.proofs.Chain.{chain}

or_drops : {B : Type 0} (a b : Answer B) → or_else (drops a) (drops b) ≡ drops (or_else a b)
or_drops (matched v n) b = refl
or_drops (dropped v n) b = refl
or_drops none b = refl
or_drops stop b = refl

-- their choice is the choice after that part
pub shared : {A B : Type 0} (a : Answer A) (f g : A → ℕ → Answer B) → or_else (and_then a f) (and_then a g) ≡ and_then a (λ v n. or_else (f v n) (g v n))
shared (matched v n) f g = refl
shared (dropped v n) f g = or_drops (f v n) (g v n)
shared none f g = refl
shared stop f g = refl

module _ {A B : Type 0} (p : Answer A) (f g : A → ℕ → Answer B) where
  pub shared_match : (v : A) (n : ℕ) (q : Answer B) → p ≡ matched v n → q ≡ or_else (f v n) (g v n) → q ≡ or_else (and_then p f) (and_then p g)
  shared_match v n q e k = rw e k

  pub shared_none : p ≡ none → none ≡ or_else (and_then p f) (and_then p g)
  shared_none e = rw e

pub ruleset shared_chain = (shared_match, shared_none, chain)
