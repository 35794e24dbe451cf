-- The laws of a unit's word: an `s` at its end, and the unit that stands beside it. Assumes nothing.
use native.Mathlib.Omega.{arith}
use borrow.Author.Tests.{eq-eqb, ne_eqb, lt-ltb, le-ltb}
use Prim.Native.Nat.{zero-le, ◌+◌, ℕ, ◌<◌, ◌≤◌, ◌^◌}
use mathlib.Core.Path.{◌≡◌, refl, sym}
use mathlib.Core.List.{List, [], ◌∷◌, ◌++◌}
use mathlib.Core.Bool.{Bool, true, false, cond}
use Prim.Native.String.{String}
use lib.ListN.{length}
use lib.Dec.{eqb, ltb}
use lib.IntN.{ℤ}
use Rattle.primitive.specs.Answer.{Answer, matched, none, and_then}
use Rattle.primitive.specs.Text.{lower, lowered, bytes}
use Rattle.primitive.specs.Primitive.{same, named}
use Rattle.primitive.specs.declared.SecAndNsec.{SecAndNsec}
use Rattle.std.proofs.lemmas.List.{map-append}
use Rattle.relative.specs.Relative.{rounded, stripped, in_unit}
use Rattle.relative.specs.declared.Relative.{Relative}
use Rattle.primitive.proofs.Limits.{limits}
use Rattle.relative.proofs.Chain.{relatives}

-- ---- the `s` at the end of a word

stripped_last : (w : List ℕ) (b : ℕ) → stripped (w ++ (b ∷ [])) ≡ cond (eqb b 115) w (w ++ (b ∷ []))
unfolding stripped
stripped_last [] b = refl
stripped_last (x ∷ []) b = go (eqb b 115)
  where
    go : (t : Bool) → x ∷ cond t [] (b ∷ []) ≡ cond t (x ∷ []) (x ∷ (b ∷ []))
    go true = refl
    go false = refl
stripped_last (x ∷ (y ∷ ys)) b = rw (stripped_last (y ∷ ys) b) (go (eqb b 115))
  where
    go : (t : Bool) → x ∷ cond t (y ∷ ys) (y ∷ (ys ++ (b ∷ []))) ≡ cond t (x ∷ (y ∷ ys)) (x ∷ (y ∷ (ys ++ (b ∷ []))))
    go true = refl
    go false = refl

pub stem_empty : (word : List ℕ) → length word ≡ 0 → lowered word ≡ stripped (lowered word)
unfolding lowered stripped
stem_empty [] e = refl
stem_empty (b ∷ bs) e = absurd (omega arith)

module _ (word front : List ℕ) (last b : ℕ) (i : word ≡ front ++ (last ∷ [])) (e : b ≡ lower last) where
  whole : lowered word ≡ lowered front ++ (b ∷ [])
  unfolding lowered
  whole = rw (i, e) (map-append lower front (last ∷ []))

  pub stem_s : b ≡ 115 → lowered front ≡ stripped (lowered word)
  stem_s f = rw (whole, stripped_last (lowered front) b, eq-eqb b 115 f)

  pub stem_none : (b ≡ 115 → ⊥) → lowered word ≡ stripped (lowered word)
  stem_none f = sym (rw (whole, stripped_last (lowered front) b, ne_eqb b 115 f))

-- ---- a table whose values are given by others

unfoldable pub given_by : {A B : Type 0} → (A → B) → List (String × A) → List (String × B)
given_by f [] = []
given_by f (e ∷ es) = (e.0, f e.1) ∷ given_by f es

pub named_by : {A B : Type 0} (f : A → B) (es : List (String × A)) (w text : List ℕ) (at : ℕ) → named (given_by f es) w text at ≡ and_then (named es w text at) (λ v n. matched (f v) n)
unfolding named given_by
named_by f [] w text at = refl
named_by f (e ∷ es) w text at = go (same w (bytes e.0)) (named_by f es w text at)
  where
    go : (t : Bool) → named (given_by f es) w text at ≡ and_then (named es w text at) (λ v n. matched (f v) n) → cond t (matched (f e.1) at) (named (given_by f es) w text at) ≡ and_then (cond t (matched e.1 at) (named es w text at)) (λ v n. matched (f v) n)
    go true e = refl
    go false e = e

-- a number that is none of the ten below 10 is at least 10
step : (n k : ℕ) → n ≤ k → (k ≡ n → ⊥) → n + 1 ≤ k
step n k h e = omega arith

pub past_ten : (k : ℕ) → (k ≡ 0 → ⊥) → (k ≡ 1 → ⊥) → (k ≡ 2 → ⊥) → (k ≡ 3 → ⊥) → (k ≡ 4 → ⊥) → (k ≡ 5 → ⊥) → (k ≡ 6 → ⊥) → (k ≡ 7 → ⊥) → (k ≡ 8 → ⊥) → (k ≡ 9 → ⊥) → 10 ≤ k
past_ten k a b c d e f g h i j = step 9 k (step 8 k (step 7 k (step 6 k (step 5 k (step 4 k (step 3 k (step 2 k (step 1 k (step 0 k zero-le a) b) c) d) e) f) g) h) i) j

-- ---- values that were turned by the direction

pub in_unit_of : (q : Answer Relative) (m n : ℤ) (w text : List ℕ) (next : ℕ) → q ≡ in_unit m w text next → m ≡ n → q ≡ in_unit n w text next
in_unit_of q m n w text next e f = rw (← f) e

module _ (v : SecAndNsec ℕ) (next : ℕ) where
  pub rounded_in : (r : Relative) (t u : Bool) → r ≡ rounded t (record { sec = v.sec; nsec = v.nsec }) → t ≡ u → v.sec ≤ 9223372036854775807 → matched r next ≡ cond (ltb v.sec (2 ^ 63)) (matched (rounded u v) next) none
  rounded_in r t u e f h = rw (lt-ltb v.sec 9223372036854775808 (omega arith), ← f, e)

  pub rounded_out : (r : Relative) → 9223372036854775807 < v.sec → none ≡ cond (ltb v.sec (2 ^ 63)) (matched r next) none
  rounded_out r h = rw (le-ltb v.sec 9223372036854775808 (omega arith))

pub ruleset turned = (in_unit_of, rounded_in, rounded_out, limits, relatives)
