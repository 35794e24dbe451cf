-- How a reader goes along a text that is known from a place on: no places, only what is left to read. Assumes nothing.
use native.Mathlib.Omega.{arith}
use Prim.Native.Nat.{ℕ, ◌-◌, ◌≤◌}
use mathlib.Core.Path.{◌≡◌, refl, ap}
use mathlib.Core.List.{List}
use mathlib.Core.Bool.{Bool, true, false}
use lib.ListN.{length, drop, length-drop}
use Rattle.primitive.specs.Answer.{Reader, matched, none, ◌>>=◌, ◌<|>◌, pure, verify, cut}
use Rattle.primitive.specs.Primitive.{space, spaced}
use Rattle.primitive.proofs.Forward.{Forward}

-- Where the text goes on as l, p matches with the value v, and behind the match the text goes on as m.
pub record Reads {A : Type 0} (p : Reader A) (l : List ℕ) (v : A) (m : List ℕ) : Type 0 where
  pub reads : (text : List ℕ) (at : ℕ) → drop at text ≡ l → (n : ℕ) × (p text at ≡ matched v n) × (drop n text ≡ m)

-- Where the text goes on as l, p does not match.
pub record Fails {A : Type 0} (p : Reader A) (l : List ℕ) : Type 0 where
  pub fails : (text : List ℕ) (at : ℕ) → drop at text ≡ l → p text at ≡ none

-- Where the text goes on as l, it goes on as m behind the space.
pub record Spaces (l m : List ℕ) : Type 0 where
  pub spaces : (text : List ℕ) (at : ℕ) → drop at text ≡ l → drop (space text at) text ≡ m

-- One behind the other, both for `←` and for a line without it: `a ⟨ _ ⟩ b ⟨ _ ⟩ ..`. The blank is the rest of the reader, which antt
-- reads off the goal.
infixr 20 ◌⟨◌⟩◌ ◌⟨◌⟩!◌
pub ◌⟨◌⟩◌ : {A B : Type 0} {p : Reader A} {l : List ℕ} {v : A} {m : List ℕ} {w : B} {r : List ℕ} → Reads p l v m → (f : A → Reader B) → Reads (f v) m w r → Reads (p >>= f) l w r
a ⟨ f ⟩ b = record {
  reads = λ text at e.
      let (n, h, k) = a.reads text at e in
      let (i, g, d) = b.reads text n k in
      (i, rw h g, d);
}

-- the first matches and the next fails; the first fails
pub ◌⟨◌⟩!◌ : {A B : Type 0} {p : Reader A} {l : List ℕ} {v : A} {m : List ℕ} → Reads p l v m → (f : A → Reader B) → Fails (f v) m → Fails (p >>= f) l
a ⟨ f ⟩! b = record {
  fails = λ text at e.
      let (n, h, k) = a.reads text at e in
      rw h (b.fails text n k);
}

pub at_once : {A B : Type 0} {p : Reader A} {l : List ℕ} (f : A → Reader B) → Fails p l → Fails (p >>= f) l
at_once f a = record { fails = λ text at e. rw (a.fails text at e) }

-- alternatives: `first _ a`, `a or b`, `a nor b`
module _ {A : Type 0} {p : Reader A} {l : List ℕ} where
  infixr 15 ◌or◌ ◌nor◌
  pub first : {v : A} {m : List ℕ} (q : Reader A) → Reads p l v m → Reads (p <|> q) l v m
  first q a = record { reads = λ text at e. let (n, h, k) = a.reads text at e in (n, rw h, k) }

  pub ◌or◌ : {q : Reader A} {v : A} {m : List ℕ} → Fails p l → Reads q l v m → Reads (p <|> q) l v m
  a or b = record {
    reads = λ text at e.
        let (n, h, k) = b.reads text at e in
        (n, rw (a.fails text at e) h, k);
  }

  pub ◌nor◌ : {q : Reader A} → Fails p l → Fails q l → Fails (p <|> q) l
  a nor b = record { fails = λ text at e. rw (a.fails text at e) (b.fails text at e) }

pub nothing : {A : Type 0} {v : A} {l : List ℕ} → Reads (pure v) l v l
nothing = record { reads = λ text at e. (at, refl, e) }

-- a value that is said otherwise, and a rest that is
pub said : {A : Type 0} {p : Reader A} {v w : A} {l m : List ℕ} → v ≡ w → Reads p l v m → Reads p l w m
said e a = rw (← e) a

pub verified : {A : Type 0} {t : Bool} {v : A} {l : List ℕ} → t ≡ true → Reads (verify t v) l v l
verified h = record { reads = λ text at e. (at, rw h, e) }

pub not_verified : {A : Type 0} {t : Bool} (v : A) {l : List ℕ} → t ≡ false → Fails (verify t v) l
not_verified v h = record { fails = λ text at e. rw h }

pub uncut : {A : Type 0} {t : Bool} {v : A} {l : List ℕ} → t ≡ false → Reads (cut t v) l v l
uncut h = record { reads = λ text at e. (at, rw h refl, e) }

module _ {A : Type 0} {p : Reader A} {l : List ℕ} where
  pub behind_space : {v : A} {m r : List ℕ} → Spaces l m → Reads p m v r → Reads (spaced p) l v r
  behind_space a b = record { reads = λ text at e. b.reads text (space text at) (a.spaces text at e) }

  pub not_behind_space : {m : List ℕ} → Spaces l m → Fails p m → Fails (spaced p) l
  not_behind_space a b = record { fails = λ text at e. b.fails text (space text at) (a.spaces text at e) }

-- where such a match ends: behind all that is not left
pub place_behind : {A : Type 0} {p : Reader A} {l m : List ℕ} {v : A} → Forward p → Reads p l v m → (text : List ℕ) (at : ℕ) → at ≤ length text → drop at text ≡ l → p text at ≡ matched v (length text - length m)
place_behind {m = m} {v = v} f r text at h e =
    let (n, g, k) = r.reads text at e in
    let w = f text at v n g in
    let y = w.1 h in
    let z = ap length k in
    let u = length-drop n text in
    let q : n ≡ length text - length m = omega arith in
    rw (← q) g

-- that a reader fails at its first step, in each of its alternatives: `search (misses, ..)` with the laws of the first steps
pub ruleset misses = (at_once, ◌nor◌, not_behind_space)
