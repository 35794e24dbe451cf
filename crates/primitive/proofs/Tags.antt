-- The laws of `tag`: for one byte, and for a loop over the bytes that are asked for. Assumes nothing.
use borrow.Author.Rules.{rules}
use borrow.Author.Tests.{eq-eqb, ne_eqb, leb-true}
use native.Mathlib.Omega.{arith}
use Prim.Native.Nat.{ℕ, ◌+◌, ◌<◌, ◌≤◌}
use native.Mathlib.Numerals.{add-one}
use mathlib.Core.Path.{◌≡◌, refl, ◌∙◌}
use mathlib.Core.List.{List, [], ◌∷◌}
use mathlib.Core.Bool.{Bool, true, false, ◌&&◌, cond}
use lib.Dec.{eqb, leb}
use lib.ListN.{length, get_or, drop, drop_of_length-le}
use lib.Seq.{drop-cons}
use Rattle.primitive.specs.Answer.{matched, none}
use Rattle.primitive.specs.Text.{lower, lowered, starts, tag}
use Rattle.primitive.proofs.Lowered.{rest_cons, rest_none}

module _ (s : List ℕ) (at b : ℕ) where
  pub byte_end : length s ≤ at → none ≡ tag (b ∷ []) (lowered s) at
  unfolding tag starts
  byte_end h = rw (rest_none s at h)

  module _ (h : at < length s) (t : Bool) (e : t ≡ eqb (lower (get_or s at 0)) b) where
    pub byte_match : t ≡ true → matched tt (at + 1) ≡ tag (b ∷ []) (lowered s) at
    unfolding tag starts
    byte_match f = rw (rest_cons s at h (lower (get_or s at 0)) refl, ← e, f)

    pub byte_other : t ≡ false → none ≡ tag (b ∷ []) (lowered s) at
    unfolding tag starts
    byte_other f = rw (rest_cons s at h (lower (get_or s at 0)) refl, ← e, f)

-- a byte below 65 is the lower case of itself alone
module _ (c b : ℕ) (t : Bool) where
  pub lowers_alone : b < 65 → t ≡ eqb c b → t ≡ eqb (lower c) b
  unfolding lower
  lowers_alone h e = e ∙ go (leb 65 c) refl (leb c 90)
    where
      go : (u : Bool) → leb 65 c ≡ u → (v : Bool) → eqb c b ≡ eqb (cond (u && v) (c + 32) c) b
      go true f true = let k = leb-true 65 c f in rw (ne_eqb c b (λ z. omega arith), ne_eqb (c + 32) b (λ z. omega arith))
      go true f false = refl
      go false f v = refl

  pub lowers_any : (l : ℕ) → l ≡ lower c → t ≡ eqb l b → t ≡ eqb (lower c) b
  lowers_any l k e = rw (← k) e

-- whether the rest of the text begins with the rest of w
pub starts_from : List ℕ → ℕ → List ℕ → ℕ → Bool
starts_from w k s i = starts (drop k w) (drop i (lowered s))

module _ (s w : List ℕ) (at i k : ℕ) (inv : starts_from w k s i ≡ starts_from w 0 s at) where
  pub tag_match : length w ≤ k → k ≤ length w → i ≡ at + k → matched tt i ≡ tag w (lowered s) at
  unfolding tag starts_from starts
  tag_match h g e =
      let z : k ≡ length w = omega arith in
      rw (← inv, drop_of_length-le w h, ← z, e)

  module _ (h : k < length w) where
    cons_at : drop k w ≡ get_or w k 0 ∷ drop (k + 1) w
    cons_at = rw add-one (drop-cons w k 0 h)

    pub tag_short : length s ≤ i → none ≡ tag w (lowered s) at
    unfolding tag starts_from starts
    tag_short g = rw (← inv, cons_at, rest_none s i g)

    module _ (g : i < length s) (b : ℕ) (e : b ≡ lower (get_or s i 0)) where
      pub tag_next : b ≡ get_or w k 0 → (j : ℕ) → j ≡ i + 1 → starts_from w (k + 1) s j ≡ starts_from w 0 s at
      unfolding starts_from starts
      tag_next f j z = rw z (rw (cons_at, rest_cons s i g b e, eq-eqb b (get_or w k 0) f) at inv)

      pub tag_differs : (b ≡ get_or w k 0 → ⊥) → none ≡ tag w (lowered s) at
      unfolding tag starts_from starts
      tag_differs f = rw (← inv, cons_at, rest_cons s i g b e, ne_eqb b (get_or w k 0) f)

pub ruleset tags = (byte_end, byte_match, byte_other, lowers_alone, lowers_any, tag_match, tag_short, tag_next, tag_differs, rules)
