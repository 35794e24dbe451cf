-- Laws of parts of a text: parts of bytes in lower case, and a byte behind a part. Assumes nothing.
use Prim.Native.Nat.{ℕ, ◌+◌, ◌-◌, ◌<◌, ◌≤◌}
use mathlib.Core.Path.{◌≡◌, refl, sym, ap, ◌∙◌}
use mathlib.Core.Bool.{Bool, true, false, ◌&&◌, cond}
use mathlib.Core.List.{List, [], ◌∷◌, ◌++◌}
use native.Mathlib.Omega.{arith}
use native.Mathlib.Numerals.{add-one}
use lib.Dec.{ltb, eqb}
use lib.ListN.{length, get_or, take, drop, length-drop}
use lib.Seq.{slice, length-take-le, take-suc, drop-cons, drop-append-le}
use borrow.Author.Tests.{ltb-true, eqb-true}
use Rattle.primitive.specs.Answer.{Answer, matched, none}
use Rattle.primitive.specs.Text.{lower, lowered, letter, past, some, starts, tag, byte}
use Rattle.primitive.specs.Primitive.{alpha1}
use Rattle.dates.specs.Date.{word_dot}
use Rattle.primitive.proofs.Limits.{slice_take}
use Rattle.std.proofs.lemmas.List.{take-map, drop-map}

-- parts of bytes, in lower case
pub lowered_take : (k : ℕ) (d : List ℕ) → lowered (take k d) ≡ take k (lowered d)
unfolding lowered
lowered_take k d = sym (take-map lower k d)

pub lowered_drop : (k : ℕ) (d : List ℕ) → lowered (drop k d) ≡ drop k (lowered d)
unfolding lowered
lowered_drop k d = sym (drop-map lower k d)

pub lowered_slice : (a b : ℕ) (d : List ℕ) → a ≤ b → lowered (take (b - a) (drop a d)) ≡ slice a b (lowered d)
lowered_slice a b d h =
    let z : a + (b - a) ≡ b = omega arith in
    lowered_take (b - a) (drop a d)
    ∙ (ap (take (b - a)) (lowered_drop a d) ∙ (sym (slice_take a (b - a) (lowered d)) ∙ ap (λ (n : ℕ). drop a (take n (lowered d))) z))

-- a byte behind a part belongs to the part up to it
pub part_and_byte : (b : ℕ) (text : List ℕ) (at end n : ℕ) → at ≤ end → byte b text end ≡ matched tt n → slice at n text ≡ slice at end text ++ (b ∷ [])
unfolding tag starts
part_and_byte b text at end n h = by (drop end text) refl
  where
    found : (x : ℕ) (xs : List ℕ) → drop end text ≡ x ∷ xs → (t : Bool) → eqb x b ≡ t → ◌≡◌ {A = Answer (Unit {0})} (cond (t && true) (matched tt (end + 1)) none) (matched tt n) →
        slice at n text ≡ slice at end text ++ (b ∷ [])
    found x xs d true q e =
        let m : n ≡ end + 1 = cc in
        let l : end < length text = omega (arith, ap length d, length-drop end text) in
        let g : get_or text end 0 ≡ x = first (sym (drop-cons text end 0 l) ∙ d) in
        let y : x ≡ b = eqb-true x b q in
        ap (λ (k : ℕ). drop at (take k text)) (m ∙ add-one end)
        ∙ ap (drop at) (take-suc text end 0 l ∙ ap (λ (z : ℕ). take end text ++ (z ∷ [])) (g ∙ y))
        ∙ drop-append-le at (take end text) (b ∷ []) (omega (arith, length-take-le end text (omega arith)))
      where
        first : {a c : ℕ} {us vs : List ℕ} → a ∷ us ≡ c ∷ vs → a ≡ c
        first e = cc
    found x xs d false q e = let z : ◌≡◌ {A = ℕ} 0 1 = cc in absurd (clash z)
      where
        clash : ◌≡◌ {A = ℕ} 0 1 → ⊥
        clash z = omega arith

    by : (l : List ℕ) → drop end text ≡ l → ◌≡◌ {A = Answer (Unit {0})} (cond (starts (b ∷ []) l) (matched tt (end + 1)) none) (matched tt n) → slice at n text ≡ slice at end text ++ (b ∷ [])
    by [] d e = let z : ◌≡◌ {A = ℕ} 0 1 = cc in absurd (clash z)
      where
        clash : ◌≡◌ {A = ℕ} 0 1 → ⊥
        clash z = omega arith
    by (x ∷ xs) d e = found x xs d (eqb x b) refl e

-- a word, and a dot that stands behind it
module _ (text : List ℕ) (at : ℕ) where
  pub no_word_dot : none ≡ alpha1 text at → none ≡ word_dot text at
  unfolding word_dot
  no_word_dot e = rw (← e)

  module _ (w : List ℕ) (end : ℕ) (read : matched w end ≡ alpha1 text at) where
    word_is : (w ≡ slice at end text) × (at < end)
    unfolding alpha1 some
    word_is = go (ltb at (past letter text at)) refl read
      where
        go : (t : Bool) → ltb at (past letter text at) ≡ t → matched w end ≡ cond t (matched (slice at (past letter text at) text) (past letter text at)) none → (w ≡ slice at end text) × (at < end)
        go true q e = let z : end ≡ past letter text at = cc in let y : w ≡ slice at (past letter text at) text = cc in (rw z y, rw z (ltb-true at (past letter text at) q))
        go false q e = let z : ◌≡◌ {A = ℕ} 0 1 = cc in (absurd (clash z), absurd (clash z))
          where
            clash : ◌≡◌ {A = ℕ} 0 1 → ⊥
            clash z = omega arith

    pub word_and_dot : (n : ℕ) → matched tt n ≡ byte 46 text end → matched (slice at n text) n ≡ word_dot text at
    unfolding word_dot
    word_and_dot n dot =
        let inside = word_is in
        let l = inside.1 in
        rw (← read, ← dot, inside.0) (ap (λ (w : List ℕ). matched w n) (part_and_byte 46 text at end n (omega arith) (sym dot)))

    pub word_alone : none ≡ byte 46 text end → matched w end ≡ word_dot text at
    unfolding word_dot
    word_alone dot = rw (← read, ← dot)
