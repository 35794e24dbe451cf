-- How an answer goes on in a chain of readers, and which answer a view shows. With the ruleset `chain` a function that opens one answer
-- after the other meets a definition written with `do`: its need is that of an answer, whatever the code returned. Assumes nothing.
use borrow.Author.Rules.{rules}
use Prim.Native.Nat.{ℕ}
use mathlib.Core.Path.{◌≡◌, sym, ap, ◌∙◌}
use mathlib.Core.Bool.{Bool, true, false}
use Rattle.primitive.specs.Answer.{Answer, matched, none, carry, and_then, or_else}
use Rattle.primitive.proofs.Dropped.{carried}
use Rattle.std.specs.Prelude.{Option}

-- ---- how an answer goes on

module _ {A B : Type 0} (f : A → ℕ → Answer B) (p : Answer A) where
  pub then_matched : (v : A) (n : ℕ) (q : Answer B) → p ≡ matched v n → q ≡ f v n → q ≡ and_then p f
  then_matched v n q e k = rw e k

  pub then_none : p ≡ none → none ≡ and_then p f
  then_none e = rw e

  -- after a digit that may be lost
  pub then_carried : (d : Bool) (v : A) (n : ℕ) (q : Answer B) → p ≡ carry d (matched v n) → q ≡ carry d (f v n) → q ≡ and_then p f
  then_carried true v n q e k = rw e k
  then_carried false v n q e k = rw e k

  -- a chain that is tried before q
  pub then_else : (q a : Answer B) → p ≡ none → a ≡ q → a ≡ or_else (and_then p f) q
  then_else q a e k = rw e k

-- a chain that begins with a choice
module _ {A B : Type 0} (f : A → ℕ → Answer B) (p a : Answer A) where
  pub first_then : (v : A) (n : ℕ) (q : Answer B) → p ≡ matched v n → q ≡ f v n → q ≡ and_then (or_else p a) f
  first_then v n q e k = rw e k

  pub first_carried : (d : Bool) (v : A) (n : ℕ) (q : Answer B) → p ≡ carry d (matched v n) → q ≡ carry d (f v n) → q ≡ and_then (or_else p a) f
  first_carried true v n q e k = rw e k
  first_carried false v n q e k = rw e k

  pub else_then : (q : Answer B) → p ≡ none → q ≡ and_then a f → q ≡ and_then (or_else p a) f
  else_then q e k = rw e k

-- what the code returned shows the answer that its value shows
pub opened : {X A : Type 0} (view : Option X → Answer A) (p : Answer A) (r x : Option X) → view r ≡ p → r ≡ x → p ≡ view x
opened view p r x e k = sym e ∙ ap view k

pub ruleset chain = (then_matched, then_none, then_carried, then_else, first_then, first_carried, else_then, opened, carried, rules)
