-- A reader behind space, where the code asks for the end of the space first: what it answers there is what it answers behind the space.
-- Assumes nothing.
use Prim.Native.Nat.{ℕ}
use mathlib.Core.Path.{◌≡◌}
use mathlib.Core.List.{List}
use Rattle.primitive.specs.Answer.{Answer}
use Rattle.primitive.specs.Primitive.{space}
use Rattle.primitive.proofs.Chain.{chain}

pub spaced_is : (text : List ℕ) (at start : ℕ) → start ≡ space text at → {A : Type 0} (p : List ℕ → ℕ → Answer A) (a : Answer A) → p text start ≡ a → p text (space text at) ≡ a
spaced_is text at start g p a k = rw (← g) k

pub ruleset spaced_chain = (spaced_is, chain)
