-- The laws of a lost digit: an answer after one is no `matched`, a chain of readers carries it on, and what holds of the value holds either
-- way. Assumes nothing.
use Prim.Native.Nat.{ℕ}
use mathlib.Core.Path.{◌≡◌, ap}
use mathlib.Core.Bool.{Bool, true, false}
use Rattle.primitive.specs.Answer.{Answer, matched, dropped, none, stop, drops, carry, and_then, or_else}
use Rattle.primitive.proofs.Lowered.{clash}

pub drops_never : {A : Type 0} (a : Answer A) (v : A) (n : ℕ) → drops a ≡ matched v n → ⊥
drops_never (matched w m) v n e = let z : ◌≡◌ {A = ℕ} 0 1 = cc in clash z
drops_never (dropped w m) v n e = let z : ◌≡◌ {A = ℕ} 0 1 = cc in clash z
drops_never none v n e = let z : ◌≡◌ {A = ℕ} 0 1 = cc in clash z
drops_never stop v n e = let z : ◌≡◌ {A = ℕ} 0 1 = cc in clash z

-- ---- in a chain

-- what the rest answers, after the same digits
module _ {A : Type 0} (d : Bool) (a : Answer A) where
  pub carry_match : (v : A) (n : ℕ) → matched v n ≡ a → carry d (matched v n) ≡ carry d a
  carry_match v n e = ap (carry d) e

pub carry_none : {A : Type 0} (d : Bool) (a : Answer A) → none ≡ a → none ≡ carry d a
carry_none true a e = rw (← e)
carry_none false a e = e

pub carry_stop : {A : Type 0} (d : Bool) (a : Answer A) → stop ≡ a → stop ≡ carry d a
carry_stop true a e = rw (← e)
carry_stop false a e = e

-- the code's test and value are the definition's
pub cut_is : {A : Type 0} (d t : Bool) (v w : A) (n : ℕ) → d ≡ t → v ≡ w → carry d (matched v n) ≡ carry t (matched w n)
cut_is d t v w n e f = rw (e, f)

pub ruleset carried = (carry_match, carry_none, carry_stop, cut_is)

-- ---- what holds of an answer's value

abbrev pub Has : {A : Type 0} → (A → Type 0) → Answer A → Type 0
Has P (matched v n) = P v
Has P (dropped v n) = P v
Has P none = Unit {0}
Has P stop = Unit {0}

module _ {A : Type 0} (P : A → Type 0) where
  pub has_drops : (a : Answer A) → Has P a → Has P (drops a)
  has_drops (matched v n) h = h
  has_drops (dropped v n) h = h
  has_drops none h = tt
  has_drops stop h = tt

  pub has_carry : (d : Bool) (v : A) (n : ℕ) → P v → Has P (carry d (matched v n))
  has_carry true v n h = h
  has_carry false v n h = h

  pub carry_has : (d : Bool) (v : A) (n : ℕ) → Has P (carry d (matched v n)) → P v
  carry_has true v n h = h
  carry_has false v n h = h

  pub has_or : (a b : Answer A) → Has P a → Has P b → Has P (or_else a b)
  has_or (matched v n) b h k = h
  has_or (dropped v n) b h k = h
  has_or none b h k = k
  has_or stop b h k = tt

module _ {A B : Type 0} (P : B → Type 0) where
  pub has_then : (Q : A → Type 0) (a : Answer A) (f : A → ℕ → Answer B) → Has Q a → ((v : A) (n : ℕ) → Q v → Has P (f v n)) → Has P (and_then a f)
  has_then Q (matched v n) f h k = k v n h
  has_then Q (dropped v n) f h k = has_drops P (f v n) (k v n h)
  has_then Q none f h k = tt
  has_then Q stop f h k = tt

  pub has_next : (a : Answer A) (f : A → ℕ → Answer B) → ((v : A) (n : ℕ) → Has P (f v n)) → Has P (and_then a f)
  has_next (matched v n) f k = k v n
  has_next (dropped v n) f k = has_drops P (f v n) (k v n)
  has_next none f k = tt
  has_next stop f k = tt
