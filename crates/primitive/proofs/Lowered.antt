-- The laws of lower case: a byte lowered as it is read is the byte of the lowered text. Assumes nothing.
use Prim.Native.Nat.{ℕ, zero, suc, ◌+◌, ◌<◌, ◌≤◌}
use native.Mathlib.Numerals.{add-one}
use mathlib.Core.Path.{◌≡◌, refl, ap}
use mathlib.Core.List.{List, [], ◌∷◌}
use mathlib.Core.Bool.{Bool, true, false, ◌&&◌, ◌||◌, cond}
use lib.Dec.{leb, eqb}
use borrow.Author.Tests.{leb-true, le-leb, lt-leb, ne_eqb}
use native.Mathlib.Omega.{arith}
use lib.ListN.{length, get_or, take, drop, drop_of_length-le, length-take}
use lib.Seq.{slice, drop-cons, get_or-take}
use Rattle.primitive.specs.Text.{lower, lowered, blank, digit}

pub length_lowered : (s : List ℕ) → length (lowered s) ≡ length s
unfolding lowered
length_lowered [] = refl
length_lowered (b ∷ bs) = ap suc (length_lowered bs)

pub get_or_lowered : (s : List ℕ) (i : ℕ) → get_or (lowered s) i 0 ≡ lower (get_or s i 0)
unfolding lowered lower
get_or_lowered [] i = refl
get_or_lowered (b ∷ bs) zero = refl
get_or_lowered (b ∷ bs) (suc i) = get_or_lowered bs i

-- a text in lower case is its own lower case: a reader that sees a text so makes nothing of its capitals
lower_twice : (b : ℕ) → lower (lower b) ≡ lower b
unfolding lower
lower_twice b = go (leb 65 b) refl (leb b 90) refl
  where
    go : (t : Bool) → leb 65 b ≡ t → (u : Bool) → leb b 90 ≡ u
        → (cond (leb 65 (cond (t && u) (b + 32) b) && leb (cond (t && u) (b + 32) b) 90) (cond (t && u) (b + 32) b + 32) (cond (t && u) (b + 32) b)) ≡ cond (t && u) (b + 32) b
    go true e true f = let h = leb-true 65 b e in rw (lt-leb (b + 32) 90 (omega arith), le-leb 65 (b + 32) (omega arith))
    go true e false f = rw (e, f)
    go false e u f = rw e

pub lowered_twice : (s : List ℕ) → lowered (lowered s) ≡ lowered s
unfolding lowered
lowered_twice [] = refl
lowered_twice (b ∷ bs) = rw (lower_twice b, lowered_twice bs)

pub lower_above : (b : ℕ) → b ≤ lower b
unfolding lower
lower_above b = go (leb 65 b && leb b 90)
  where
    go : (t : Bool) → b ≤ cond t (b + 32) b
    go true = omega arith
    go false = omega arith

-- whether a byte is a blank or a digit is seen before it is lowered
module _ (p : ℕ → Bool) where
  unlowered : ((b : ℕ) → leb 65 b ≡ true → leb b 90 ≡ true → p (b + 32) ≡ p b) → (b : ℕ) → p (lower b) ≡ p b
  unfolding lower
  unlowered f b = go (leb 65 b) refl (leb b 90) refl
    where
      go : (t : Bool) → leb 65 b ≡ t → (u : Bool) → leb b 90 ≡ u → p (cond (t && u) (b + 32) b) ≡ p b
      go true e true g = f b e g
      go true e false g = refl
      go false e u g = refl

pub digit_lower : (b : ℕ) → digit (lower b) ≡ digit b
unfolding digit
digit_lower = unlowered digit (λ b e g. let h = leb-true 65 b e in rw (lt-leb (b + 32) 57 (omega arith), lt-leb b 57 (omega arith), le-leb 48 (b + 32) (omega arith), le-leb 48 b (omega arith)))

pub clash : ◌≡◌ {A = ℕ} 0 1 → ⊥
clash z = omega arith

-- a digit is its own lower case
pub digit_same : (b : ℕ) → digit b ≡ true → b ≡ lower b
unfolding digit lower
digit_same b = go (leb 48 b) (leb b 57) refl
  where
    go : (t u : Bool) → leb b 57 ≡ u → (t && u) ≡ true → b ≡ cond (leb 65 b && leb b 90) (b + 32) b
    go true true e f = let h = leb-true b 57 e in rw (lt-leb 65 b (omega arith))
    go true false e f = let z : ◌≡◌ {A = ℕ} 0 1 = cc in absurd (clash z)
    go false u e f = let z : ◌≡◌ {A = ℕ} 0 1 = cc in absurd (clash z)

-- a digit is no blank
pub digit_no_blank : (b : ℕ) → digit b ≡ true → blank b ≡ false
unfolding digit blank
digit_no_blank b = go (leb 48 b) (leb b 57) refl
  where
    go : (t u : Bool) → leb 48 b ≡ t → (t && u) ≡ true → (eqb b 32 || (leb 9 b && leb b 13)) ≡ false
    go true u e f = let h = leb-true 48 b e in rw (ne_eqb b 32 (λ z. omega arith), le-leb 9 b (omega arith), lt-leb b 13 (omega arith))
    go false u e f = let z : ◌≡◌ {A = ℕ} 0 1 = cc in absurd (clash z)

pub blank_lower : (b : ℕ) → blank (lower b) ≡ blank b
unfolding blank
blank_lower =
    unlowered blank
    (λ b e g. let h = leb-true 65 b e in rw (lt-leb (b + 32) 13 (omega arith), lt-leb b 13 (omega arith), le-leb 9 (b + 32) (omega arith), le-leb 9 b (omega arith), ne_eqb (b + 32) 32 (λ z. omega arith), ne_eqb b 32 (λ z. omega arith)))

module _ (s : List ℕ) (i : ℕ) where
  pub within : i < length s → i < length (lowered s)
  within h = rw length_lowered h

  pub beyond : length s ≤ i → length (lowered s) ≤ i
  beyond h = rw length_lowered h

  -- what is left of the text, by its first byte
  pub rest_cons : i < length s → (b : ℕ) → b ≡ lower (get_or s i 0) → drop i (lowered s) ≡ b ∷ drop (i + 1) (lowered s)
  rest_cons h b e = rw (e, ← get_or_lowered s i, add-one) (drop-cons (lowered s) i 0 (within h))

  pub rest_none : length s ≤ i → drop i (lowered s) ≡ []
  rest_none h = drop_of_length-le (lowered s) (beyond h)

-- A part of the lowered text, by its first byte; the end may lie anywhere.
module _ (s : List ℕ) (i to : ℕ) where
  pub slice_first : i < to → i < length s → (b : ℕ) → b ≡ lower (get_or s i 0) → slice i to (lowered s) ≡ b ∷ slice (i + 1) to (lowered s)
  slice_first h k b e =
      let l : i < length (take to (lowered s)) = simp (length-take, length_lowered) (omega arith) in
      rw (e, ← get_or_lowered s i, ← get_or-take to (lowered s) i 0 h, add-one) (drop-cons (take to (lowered s)) i 0 l)

  pub slice_beyond : length s ≤ i → slice i to (lowered s) ≡ []
  slice_beyond h = drop_of_length-le (take to (lowered s)) {i = i} (simp (length-take, length_lowered) (omega arith))

  pub slice_over : to ≤ i → slice i to (lowered s) ≡ []
  slice_over h = drop_of_length-le (take to (lowered s)) {i = i} (simp (length-take, length_lowered) (omega arith))
