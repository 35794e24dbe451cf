-- What holds of the value that a reader gives, whatever the text. Assumes nothing.
use Prim.Native.Nat.{ℕ}
use mathlib.Core.Path.{◌≡◌, refl}
use mathlib.Core.Bool.{Bool, true, false, cond}
use mathlib.Core.List.{List, [], ◌∷◌}
use Prim.Native.String.{String}
use Rattle.primitive.specs.Answer.{Answer, Reader, matched, dropped, none, stop, ◌>>=◌, ◌>>◌, ◌<|>◌, pure, optional, verify}
use Rattle.primitive.specs.Text.{bytes}
use Rattle.primitive.specs.Primitive.{space, spaced, named, same}
use Rattle.primitive.proofs.Dropped.{Has, has_then, has_next, has_or}
use Rattle.times.specs.Offset.{certain, without, unless}
use Rattle.items.specs.Combined.{unstopped, attempt}

pub Gives : {A : Type 0} → (A → Type 0) → Reader A → Type 0
Gives P p = (text : List ℕ) (at : ℕ) → Has P (p text at)

module _ {A B : Type 0} (P : B → Type 0) where
  -- what is known of the first value is known after it
  pub then_gives : (Q : A → Type 0) (p : Reader A) (f : A → Reader B) → Gives Q p → ((a : A) → Q a → Gives P (f a)) → Gives P (p >>= f)
  unfolding Gives
  then_gives Q p f h k text at = has_then P Q (p text at) (λ v n. f v text n) (h text at) (λ v n q. k v q text n)

  pub after : (p : Reader A) (f : A → Reader B) → ((a : A) → Gives P (f a)) → Gives P (p >>= f)
  unfolding Gives
  after p f k text at = has_next P (p text at) (λ v n. f v text n) (λ v n. k v text n)

  pub next : (p : Reader A) (q : Reader B) → Gives P q → Gives P (p >> q)
  unfolding Gives
  next p q k text at = has_next P (p text at) (λ v n. q text n) (λ v n. k text n)

  pub unless_gives : (p : Reader A) (q : Reader B) → Gives P q → Gives P (unless p q)
  unfolding Gives
  unless_gives p q k text at = go (p text at)
    where
      go : (a : Answer A) → Has P (without a (q text at))
      go (matched v n) = tt
      go (dropped v n) = tt
      go none = k text at
      go stop = k text at

module _ {A : Type 0} (P : A → Type 0) where
  pub or_gives : (p q : Reader A) → Gives P p → Gives P q → Gives P (p <|> q)
  unfolding Gives
  or_gives p q h k text at = has_or P (p text at) (q text at) (h text at) (k text at)

  pub pure_gives : (v : A) → P v → Gives P (pure v)
  unfolding Gives
  pure_gives v e text at = e

  pub optional_gives : (d : A) (p : Reader A) → P d → Gives P p → Gives P (optional d p)
  optional_gives d p e h = or_gives p (pure d) h (pure_gives d e)

  pub verify_gives : (t : Bool) (v : A) → (t ≡ true → P v) → Gives P (verify t v)
  unfolding Gives
  verify_gives true v f text at = f refl
  verify_gives false v f text at = tt

  pub certain_gives : (t : Bool) (v : A) → (t ≡ true → P v) → Gives P (certain t v)
  unfolding Gives
  certain_gives true v f text at = f refl
  certain_gives false v f text at = tt

  pub if_gives : (t : Bool) (p q : Reader A) → Gives P p → Gives P q → Gives P (cond t p q)
  unfolding Gives
  if_gives true p q h k = h
  if_gives false p q h k = k

  pub spaced_gives : (p : Reader A) → Gives P p → Gives P (spaced p)
  unfolding Gives
  spaced_gives p h text at = h text (space text at)

  pub attempt_gives : (p : Reader A) → Gives P p → Gives P (attempt p)
  unfolding Gives
  attempt_gives p h text at = go (p text at) (h text at)
    where
      go : (a : Answer A) → Has P a → Has P (unstopped a)
      go (matched v n) e = e
      go (dropped v n) e = e
      go none e = tt
      go stop e = tt

  -- what is known of every answer
  pub known : (p : Reader A) → ((text : List ℕ) (at : ℕ) → Has P (p text at)) → Gives P p
  unfolding Gives
  known p h = h

  -- what holds of a match
  pub of_match : (p : Reader A) → Gives P p → (text : List ℕ) (at : ℕ) (v : A) (n : ℕ) → p text at ≡ matched v n → P v
  unfolding Gives
  of_match p h text at v n e = go (p text at) e (h text at)
    where
      go : (a : Answer A) → a ≡ matched v n → Has P a → P v
      go a k g = rw k at g

  -- every value of a table
  pub data Every : List (String × A) → Type 0 where
    no_more : Every []
    one_more : {e : String × A} {es : List (String × A)} → P e.1 → Every es → Every (e ∷ es)

  pub named_gives : (w : List ℕ) (es : List (String × A)) → Every es → Gives P (named es w)
  unfolding Gives named
  named_gives w [] no_more text at = tt
  named_gives w (x ∷ es) (one_more f fs) text at = go (same w (bytes x.0)) (named_gives w es fs text at)
    where
      go : (t : Bool) → Has P (named es w text at) → Has P (cond t (matched x.1 at) (named es w text at))
      go true g = f
      go false g = g
