-- The laws of words in a table: for the loop that goes through the table, and that the value it finds is the one that the definition's
-- table names. Assumes nothing.
use borrow.Author.Tests.{lt-ltb, le-ltb, le-leb, lt-leb, eq-eqb, eqb-true}
use native.Mathlib.Omega.{arith}
use native.Mathlib.Decide.{dec_lt}
use native.Mathlib.Numerals.{add-one}
use Prim.Native.Nat.{ℕ, ◌+◌, ◌-◌, ◌<◌, ◌≤◌, min}
use Prim.Native.String.{String}
use mathlib.Core.Path.{◌≡◌, refl, sym, ap, ◌∙◌}
use mathlib.Core.List.{List, [], ◌∷◌, map}
use mathlib.Core.Bool.{Bool, true, false, ◌&&◌, cond}
use lib.ListN.{length, get_or, take, drop, drop_of_length-le}
use lib.Seq.{slice, drop-cons, take_all}
use lib.Dec.{eqb}
use Rattle.primitive.specs.Answer.{matched, found_at}
use Rattle.primitive.specs.Text.{lower, lowered, bytes}
use Rattle.primitive.specs.Primitive.{same, named, beside}
use Rattle.primitive.proofs.Limits.{slice_take}
use Rattle.std.specs.Prelude.{Option, Some, None, IsTrue, ◌↔◌}
use Rattle.std.specs.Char.{to_ascii_lowercase}
use Rattle.std.proofs.lemmas.List.{take-map, drop-map}
use Rattle.primitive.proofs.Lowered.{length_lowered, slice_over}

-- ---- a table of words with their values beside them

-- std's lower case is ours
std_lower : (b : ℕ) → to_ascii_lowercase b ≡ lower b
unfolding lower
std_lower b = go (dec_lt b 65) (dec_lt b 91)
  where
    go : Dec (b < 65) → Dec (b < 91) → to_ascii_lowercase b ≡ lower b
    go (yes h) k = rw (lt-ltb b 65 h, lt-leb 65 b h)
    go (no h) (yes k) = rw (le-ltb b 65 (omega arith), lt-ltb b 91 k, le-leb 65 b (omega arith), le-leb b 90 (omega arith))
    go (no h) (no k) = rw (le-ltb b 65 (omega arith), le-ltb b 91 (omega arith), le-leb 65 b (omega arith), lt-leb b 90 (omega arith))

pub std_lowered : (l : List ℕ) → map to_ascii_lowercase l ≡ lowered l
unfolding lowered
std_lowered [] = refl
std_lowered (b ∷ bs) = rw (std_lower b, std_lowered bs)

-- a part of a text is the part of the text in lower case
module _ (s : List ℕ) (at end to : ℕ) (e : to ≡ min end (length s)) where
  take_to : take to (lowered s) ≡ take end (lowered s)
  take_to = go (dec_lt end (length s))
    where
      go : Dec (end < length s) → take to (lowered s) ≡ take end (lowered s)
      go (yes h) = let z : to ≡ end = omega arith in rw z
      go (no h) = let l = length_lowered s in take_all to (lowered s) (omega arith) ∙ sym (take_all end (lowered s) (omega arith))

  pub part_is : at < to → lowered (take (to - at) (drop at s)) ≡ slice at end (lowered s)
  unfolding lowered
  part_is h =
      let z : at + (to - at) ≡ to = omega arith in
      sym (take-map lower (to - at) (drop at s))
      ∙ (ap (take (to - at)) (sym (drop-map lower at s))
      ∙ (sym (slice_take at (to - at) (lowered s)) ∙ (ap (λ (n : ℕ). drop at (take n (lowered s))) z ∙ ap (drop at) take_to)))

  pub part_none : to ≤ at → lowered [] ≡ slice at end (lowered s)
  unfolding lowered
  part_none h = rw (← take_to) (sym (slice_over s at to h))

-- rows that are the same, and rows that are not
same_itself : (a : List ℕ) → same a a ≡ true
unfolding same
same_itself [] = refl
same_itself (b ∷ bs) = rw (eq-eqb b b refl, same_itself bs)

same_gives : (a b : List ℕ) → same a b ≡ true → a ≡ b
unfolding same
same_gives [] [] e = refl
same_gives [] (b ∷ bs) e = cc
same_gives (a ∷ as') [] e = cc
same_gives (a ∷ as') (b ∷ bs) e = go (eqb a b) (same as' bs) refl (same_gives as' bs) e
  where
    go : (t u : Bool) → eqb a b ≡ t → (u ≡ true → as' ≡ bs) → t && u ≡ true → a ∷ as' ≡ b ∷ bs
    go true u f g h = let x = eqb-true a b f in let y = g h in cc
    go false u f g h = cc

-- the loop through such a table
module _ {X A : Type 0} (f : X → List ℕ × A) (t : List X) (j : ℕ) (w : List ℕ) (v : Option A) (inv : beside (map f (drop j t)) w ≡ v) where
  pub beside_end : length t ≤ j → None ≡ v
  unfolding beside
  beside_end h = rw (drop_of_length-le t h) at inv

  module _ (h : j < length t) (x : X) (i : x ≡ get_or t j x) where
    row_at : drop j t ≡ x ∷ drop (j + 1) t
    row_at = rw (add-one, i) (drop-cons t j x h)

    module _ (key p : List ℕ) (k : key ≡ (f x).0) (q : lowered p ≡ w) (r : Bool) (e : IsTrue r ↔ (map to_ascii_lowercase key ≡ map to_ascii_lowercase p)) where
      here : r ≡ true → same w (lowered (f x).0) ≡ true
      here g =
          let z : lowered (f x).0 ≡ w = rw (← k) (sym (std_lowered key) ∙ (e.0 g ∙ (std_lowered p ∙ q))) in
          rw z (same_itself w)

      other : r ≡ false → same w (lowered (f x).0) ≡ false
      other g = go (same w (lowered (f x).0)) refl
        where
          go : (t : Bool) → same w (lowered (f x).0) ≡ t → same w (lowered (f x).0) ≡ false
          go true h =
              let z : map to_ascii_lowercase key ≡ map to_ascii_lowercase p = rw (std_lowered key, std_lowered p, q, k) (sym (same_gives w (lowered (f x).0) h)) in
              let y = e.1 z in
              cc
          go false h = h

      pub beside_found : r ≡ true → Some (f x).1 ≡ v
      unfolding beside
      beside_found g = rw (row_at, here g) at inv

      pub beside_next : r ≡ false → beside (map f (drop (j + 1) t)) w ≡ v
      unfolding beside
      beside_next g = rw (row_at, other g) at inv

-- the words of such a table in lower case, and those of a table of the definitions as bytes
abbrev pub in_lower : {A : Type 0} → List (List ℕ × A) → List (List ℕ × A)
in_lower [] = []
in_lower (r ∷ rs) = (lowered r.0, r.1) ∷ in_lower rs

abbrev pub in_bytes : {A : Type 0} → List (String × A) → List (List ℕ × A)
in_bytes [] = []
in_bytes (e ∷ es) = (bytes e.0, e.1) ∷ in_bytes es

-- what such a table gives a word is what the definition's names
module _ {A : Type 0} (text : List ℕ) (at : ℕ) (w : List ℕ) where
  pub beside_named : (es : List (String × A)) (rows : List (List ℕ × A)) → in_lower rows ≡ in_bytes es → found_at at (beside rows w) ≡ named es w text at
  unfolding beside named
  beside_named [] [] e = refl
  beside_named [] (r ∷ rs) e = cc
  beside_named (x ∷ es) [] e = cc
  beside_named (x ∷ es) (r ∷ rs) e =
      let h : ◌≡◌ {A = List ℕ × A} (lowered r.0, r.1) (bytes x.0, x.1) = cc in
      let k = ap (λ (p : List ℕ × A). p.0) h in
      let v = ap (λ (p : List ℕ × A). p.1) h in
      rw (k, v) (go (same w (bytes x.0)) (beside_named es rs (cc)))
    where
      go : (t : Bool) → found_at at (beside rs w) ≡ named es w text at → found_at at (cond t (Some x.1) (beside rs w)) ≡ cond t (matched x.1 at) (named es w text at)
      go true h = refl
      go false h = h
