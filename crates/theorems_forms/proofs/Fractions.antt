-- What a number of seconds loses: it loses a digit if and only if the digits after its point or comma have one other than `0` after the
-- ninth. Assumes nothing.
use native.Mathlib.Omega.{arith}
use borrow.Author.Tests.{eqb-false, ne_eqb}
use Prim.Native.Nat.{ℕ, zero, suc, ◌+◌, ◌-◌, ◌<◌, ◌≤◌, suc-le-suc}
use mathlib.Core.Path.{◌≡◌, refl, sym, ◌∙◌}
use mathlib.Core.List.{List, [], ◌∷◌}
use mathlib.Core.Bool.{Bool, true, false, cond}
use lib.Dec.{leb, eqb}
use lib.ListN.{length, get_or, drop, length-drop}
use lib.Seq.{get_or-drop}
use Rattle.primitive.specs.Answer.{Answer, Reader, matched, none, carry, or_else, ◌>>◌}
use Rattle.primitive.specs.Primitive.{space, spaced, decimal, parse_uint, dec_uint_str, dec_uint}
use Rattle.primitive.specs.Epoch.{nanoseconds, nonzero, lost, fraction, sec_and_nsec}
use Rattle.primitive.specs.declared.SecAndNsec.{SecAndNsec}
use Rattle.primitive.proofs.Lowered.{clash}
use Rattle.theorems_forms.specs.Fractions.{fraction_digits}
use Rattle.theorems_forms.proofs.Undropped.{whole_pure, not_none, carried_same, tested, either, from_rest, from_first, of_both, no_match}
use Rattle.theorems_forms.proofs.WholeReaders.{digits_whole, number_whole, point_whole}

-- ---- the digits after the ninth

-- a digit other than `0` has a place, and back
nonzero_place : (ds : List ℕ) → nonzero ds ≡ true → (i : ℕ) × (i < length ds) × (get_or ds i 0 ≡ 48 → ⊥)
unfolding nonzero
nonzero_place [] e = let z : ◌≡◌ {A = ℕ} 0 1 = cc in absurd (clash z)
nonzero_place (d ∷ ds) e = go (eqb d 48) refl e (nonzero_place ds)
  where
    go : (t : Bool) → eqb d 48 ≡ t → cond t (nonzero ds) true ≡ true → (nonzero ds ≡ true → (i : ℕ) × (i < length ds) × (get_or ds i 0 ≡ 48 → ⊥))
        → (i : ℕ) × (i < suc (length ds)) × (get_or (d ∷ ds) i 0 ≡ 48 → ⊥)
    go true q e f = let (i, h, k) = f e in (suc i, suc-le-suc h, k)
    go false q e f = (0, omega arith, eqb-false d 48 q)

place_nonzero : (ds : List ℕ) (i : ℕ) → i < length ds → (get_or ds i 0 ≡ 48 → ⊥) → nonzero ds ≡ true
unfolding nonzero
place_nonzero [] i h k = absurd (omega arith)
place_nonzero (d ∷ ds) zero h k = rw (ne_eqb d 48 k)
place_nonzero (d ∷ ds) (suc i) h k = go (eqb d 48) (place_nonzero ds i (omega arith) k)
  where
    go : (t : Bool) → nonzero ds ≡ true → cond t (nonzero ds) true ≡ true
    go true e = e
    go false e = refl

module _ (ds : List ℕ) where
  pub lost_place : lost ds ≡ true → (i : ℕ) × (9 ≤ i) × (i < length ds) × (get_or ds i 0 ≡ 48 → ⊥)
  unfolding lost
  lost_place e =
      let (i, h, k) = nonzero_place (drop 9 ds) e in
      let l = length-drop 9 ds in
      (9 + i, omega arith, omega arith, rw (get_or-drop 9 ds i 0) at k)

  pub place_lost : (i : ℕ) → 9 ≤ i → i < length ds → (get_or ds i 0 ≡ 48 → ⊥) → lost ds ≡ true
  unfolding lost
  place_lost i l h k =
      let z : 9 + (i - 9) ≡ i = omega arith in
      place_nonzero (drop 9 ds) (i - 9) (omega (arith, length-drop 9 ds)) (rw (get_or-drop 9 ds (i - 9) 0, z) k)

-- ---- what the digits tell of an item

-- What the reader of a fraction's digits tells by its answer a of an item that ends at n; d says whether the item lost a digit. Either the
-- digits end within the item, and d says whether they lose one. Or no digits end within the item, and it lost none.
pub data Told (a : Answer (List ℕ)) (n : ℕ) (d : Bool) : Type 0 where
  some_digits : (ds : List ℕ) (e : ℕ) → a ≡ matched ds e → e ≤ n → lost ds ≡ d → Told a n d
  no_digits : ((ds : List ℕ) (e : ℕ) → a ≡ matched ds e → e ≤ n → ⊥) → d ≡ false → Told a n d

pub none_told : (a : Answer (List ℕ)) (n : ℕ) (d : Bool) → a ≡ none → d ≡ false → Told a n d
none_told a n d e f = no_digits (λ ds k h w. let z : ◌≡◌ {A = ℕ} 0 1 = cc in clash z) f

-- ---- a fraction

module _ (text : List ℕ) (at : ℕ) where
  fraction_told : (d : Bool) (v l n : ℕ) → fraction text at ≡ carry d (matched v l) → l ≤ n → Told (fraction_digits text at) n d
  unfolding fraction fraction_digits
  fraction_told d v l n e h =
      from_rest point_whole text at _ d v l e
      λ u m p e. from_rest digits_whole text m _ d v l e
      λ ds i q e. let (a, b, c) = carried_same (lost ds) d (nanoseconds ds) v i l e in
      some_digits ds i (rw (p, q)) (omega arith) a

  fraction_none : fraction text at ≡ none → fraction_digits text at ≡ none
  unfolding fraction fraction_digits
  fraction_none e =
      no_match point_whole text at _ e (λ p. rw p)
      λ u m p e. no_match digits_whole text m _ e (λ q. rw (p, q))
      λ ds i q e. absurd (not_none (lost ds) (nanoseconds ds) i (sym e))

-- ---- seconds

module _ (text : List ℕ) (at : ℕ) where
  -- a number has digits, and its value is theirs
  pub number_digits : {C : Type 0} (max k n : ℕ) → dec_uint max text at ≡ matched k n → ((w : List ℕ) → dec_uint_str text at ≡ matched w n → decimal w ≡ k → leb (decimal w) max ≡ true → C) → C
  unfolding dec_uint parse_uint
  number_digits max k n e f =
      of_both (dec_uint_str text at) _ k n e
      λ w m p e. let (a, b, c) = tested (leb (decimal w) max) (decimal w) k m n e in
      f w (rw c at p) b a

  -- a number of seconds, and what the digits after it tell of an item that ends at n
  pub seconds_told : {C : Type 0} (d : Bool) (v : SecAndNsec ℕ) (l n : ℕ) → sec_and_nsec text at ≡ carry d (matched v l) → l ≤ n
      → ((w : List ℕ) (m : ℕ) → dec_uint_str text at ≡ matched w m → decimal w ≡ v.sec → Told (fraction_digits text m) n d → C) → C
  unfolding sec_and_nsec
  seconds_told d v l n e h f =
      from_rest (number_whole 18446744073709551615) text at _ d v l e
      λ sec m p e. from_first (or_else (fraction text m) (matched 0 m)) text (λ u. whole_pure _) d v l e
      λ nsec i q e. number_digits 18446744073709551615 sec m p
      λ w r s t.
      let z : sec ≡ v.sec = cc in
      let y : i ≡ l = cc in
      f w m r (s ∙ z)
      (either (fraction text m) (matched 0 m) d nsec i q (λ q. fraction_told text m d nsec i n q (omega arith))
      λ o q. let (a, b, c) = carried_same false d 0 nsec m i q in
      none_told (fraction_digits text m) n d (fraction_none text m o) (sym a))

-- a number of seconds, and the digits of the fraction after it
abbrev pub fractional : Reader (List ℕ)
fractional = spaced dec_uint_str >> fraction_digits

pub fractional_told : (text : List ℕ) (at : ℕ) (d : Bool) (v : SecAndNsec ℕ) (l n : ℕ) → sec_and_nsec text (space text at) ≡ carry d (matched v l) → l ≤ n → Told (fractional text at) n d
fractional_told text at d v l n e h = seconds_told text (space text at) d v l n e h λ w m p s t. rw p t
