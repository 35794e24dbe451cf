-- What a reader answers by the first byte that it meets, and that there is no more space behind space. Assumes nothing.
use borrow.Author.Tests.{le-ltb, le-leb, lt-leb, leb-true, eqb-true, eqb-false, ne_eqb}
use native.Mathlib.Omega.{arith}
use Prim.Native.Nat.{ℕ, zero, suc, ◌+◌, ◌-◌, ◌<◌, ◌≤◌}
use mathlib.Core.Path.{◌≡◌, refl, sym, ap, ◌∙◌}
use mathlib.Core.List.{List, [], ◌∷◌}
use mathlib.Core.Bool.{Bool, true, false, ◌&&◌, cond}
use native.Mathlib.Decide.{dec_lt}
use lib.Dec.{leb, eqb}
use lib.ListN.{length, get_or, drop, get_or-eq_default}
use lib.Seq.{get_or-drop, drop-drop}
use Rattle.primitive.specs.Answer.{Answer, matched, dropped, none, stop}
use Rattle.primitive.specs.Text.{lower, lowered, blank, digit, letter, run, past, some, starts, tag}
use Rattle.primitive.specs.Primitive.{dec_uint_str, dec_uint, alpha1, ignored, behind, skip, space}
use Rattle.primitive.proofs.Forward.{past_onward}
use Rattle.primitive.proofs.Spaces.{ignored_behind, ignored_end, space_above}
use Rattle.primitive.proofs.Lowered.{clash, get_or_lowered, beyond, digit_lower}

module _ (text : List ℕ) (at : ℕ) where
  first_byte : (b : ℕ) (bs : List ℕ) → drop at text ≡ b ∷ bs → get_or text at 0 ≡ b
  first_byte b bs e = let z : at + 0 ≡ at = omega arith in rw z at (sym (get_or-drop at text 0 0)) ∙ ap (λ (l : List ℕ). get_or l 0 0) e

  module _ (p : ℕ → Bool) (f : p (get_or text at 0) ≡ false) where
    run_none : run p (drop at text) ≡ 0
    unfolding run
    run_none = go (drop at text) refl
      where
        go : (l : List ℕ) → drop at text ≡ l → run p l ≡ 0
        go [] e = refl
        go (b ∷ bs) e = rw (rw (first_byte b bs e) at f)

    pub some_else : some p text at ≡ none
    unfolding some past
    some_else = rw (run_none, le-ltb at (at + 0) (omega arith))

  module _ (f : digit (get_or text at 0) ≡ false) where
    pub str_else : dec_uint_str text at ≡ none
    unfolding dec_uint_str
    str_else = some_else digit f

    pub number_else : (max : ℕ) → dec_uint max text at ≡ none
    unfolding dec_uint
    number_else max = rw str_else

  pub word_else : letter (get_or text at 0) ≡ false → alpha1 text at ≡ none
  unfolding alpha1
  word_else f = some_else letter f

  starts_else : (c : ℕ) (cs : List ℕ) → (get_or text at 0 ≡ c → ⊥) → starts (c ∷ cs) (drop at text) ≡ false
  unfolding starts
  starts_else c cs f = go (drop at text) refl
    where
      go : (l : List ℕ) → drop at text ≡ l → starts (c ∷ cs) l ≡ false
      go [] e = refl
      go (b ∷ bs) e = rw (ne_eqb b c (λ z. f (first_byte b bs e ∙ z)))

  pub tag_else : (c : ℕ) (cs : List ℕ) → (get_or text at 0 ≡ c → ⊥) → tag (c ∷ cs) text at ≡ none
  unfolding tag
  tag_else c cs f = rw (starts_else c cs f)

  -- the byte that a tag was found at
  pub tag_first : (c : ℕ) (cs : List ℕ) (n : ℕ) → tag (c ∷ cs) text at ≡ matched tt n → get_or text at 0 ≡ c
  tag_first c cs n e = go (eqb (get_or text at 0) c) refl
    where
      go : (t : Bool) → eqb (get_or text at 0) c ≡ t → get_or text at 0 ≡ c
      go true f = eqb-true (get_or text at 0) c f
      go false f = let z = tag_else c cs (eqb-false (get_or text at 0) c f) in let y : ◌≡◌ {A = ℕ} 0 1 = cc in absurd (clash y)

-- a byte below 48 is no digit and no letter, and one above 57 is no digit
module _ (s : List ℕ) (i : ℕ) where
  pub below_digits : get_or s i 0 < 48 → (digit (get_or (lowered s) i 0) ≡ false) × (letter (get_or (lowered s) i 0) ≡ false)
  unfolding digit letter lower
  below_digits h = rw (get_or_lowered s i, lt-leb 65 (get_or s i 0) (omega arith), lt-leb 48 (get_or s i 0) (omega arith), lt-leb 97 (get_or s i 0) (omega arith)) (refl, refl)

  pub above_digits : 57 < get_or s i 0 → digit (get_or (lowered s) i 0) ≡ false
  unfolding digit
  above_digits h = rw (get_or_lowered s i, digit_lower (get_or s i 0), lt-leb (get_or s i 0) 57 (omega arith), le-leb 48 (get_or s i 0) (omega arith))

  pub beyond_text : length s ≤ i → (digit (get_or (lowered s) i 0) ≡ false) × (letter (get_or (lowered s) i 0) ≡ false)
  unfolding digit letter
  beyond_text h = rw (get_or-eq_default (lowered s) 0 (beyond s i h)) (refl, refl)

digit_above : (b : ℕ) → digit b ≡ true → 47 < b
unfolding digit
digit_above b = go (leb 48 b) (leb b 57) refl
  where
    go : (t u : Bool) → leb 48 b ≡ t → (t && u) ≡ true → 47 < b
    go true u e f = let h = leb-true 48 b e in omega arith
    go false u e f = let z : ◌≡◌ {A = ℕ} 0 1 = cc in absurd (clash z)

within_text : (s : List ℕ) (i : ℕ) → 0 < get_or s i 0 → i < length s
within_text s i h = go (dec_lt i (length s))
  where
    go : Dec (i < length s) → i < length s
    go (yes l) = l
    go (no l) = let z = get_or-eq_default s 0 {n = i} (omega arith) in absurd (omega arith)

-- space begins at no digit
pub digit_here : (s : List ℕ) (at : ℕ) → digit (get_or (lowered s) at 0) ≡ true → at ≡ space (lowered s) at
digit_here s at e =
    let z = digit_above (get_or s at 0) (sym (digit_lower (get_or s at 0)) ∙ (rw (get_or_lowered s at) at e)) in
    space_above s at (within_text s at (omega arith)) (omega arith)

pub digit_in_front : (s : List ℕ) (at : ℕ) → digit (get_or (lowered s) (space (lowered s) at) 0) ≡ false → digit (get_or (lowered s) at 0) ≡ false
digit_in_front s at f = go (digit (get_or (lowered s) at 0)) refl
  where
    go : (t : Bool) → digit (get_or (lowered s) at 0) ≡ t → digit (get_or (lowered s) at 0) ≡ false
    go true e = rw (← digit_here s at e) at f
    go false e = e

-- ---- space ends where no more space is

run_ends : (p : ℕ → Bool) (l : List ℕ) → run p (drop (run p l) l) ≡ 0
unfolding run
run_ends p [] = refl
run_ends p (b ∷ bs) = go (p b) refl (run_ends p bs)
  where
    go : (t : Bool) → p b ≡ t → run p (drop (run p bs) bs) ≡ 0 → run p (drop (cond t (suc (run p bs)) 0) (b ∷ bs)) ≡ 0
    go true e h = h
    go false e h = rw e

past_again : (p : ℕ → Bool) (text : List ℕ) (at : ℕ) → past p text (past p text at) ≡ past p text at
unfolding past
past_again p text at = rw (← drop-drop (run p (drop at text)) at text, run_ends p (drop at text)) (omega arith)

skip_again : (k : ℕ) (text : List ℕ) (at : ℕ) → length text - at ≤ k → past blank text at ≡ at →
    (past blank text (skip k text at) ≡ skip k text at) × ((j : ℕ) → skip j text (skip k text at) ≡ skip k text at)
unfolding skip
skip_again zero text at h e = (e, still)
  where
    still : (j : ℕ) → skip j text at ≡ at
    still zero = refl
    still (suc j) = rw (ignored_end text at (omega arith))
skip_again (suc k) text at h e = go (ignored text at) refl (λ m g f. skip_again k text m g f)
  where
    stays : (a : Answer (Unit {0})) → ignored text at ≡ a → ((f : ℕ → ℕ) → behind a at f ≡ at) → (j : ℕ) → skip j text at ≡ at
    stays a q g zero = refl
    stays a q g (suc j) = rw q (g _)

    go : (a : Answer (Unit {0})) → ignored text at ≡ a → ((m : ℕ) → length text - m ≤ k → past blank text m ≡ m → (past blank text (skip k text m) ≡ skip k text m) × ((j : ℕ) → skip j text (skip k text m) ≡ skip k text m))
        → (past blank text (behind a at (λ n. skip k text (past blank text n))) ≡ behind a at (λ n. skip k text (past blank text n)))
        × ((j : ℕ) → skip j text (behind a at (λ n. skip k text (past blank text n))) ≡ behind a at (λ n. skip k text (past blank text n)))
    go (matched tt n) q f =
        let z = ignored_behind text at n q in
        let y = past_onward blank text n in
        let x = y.0 in
        f (past blank text n) (omega arith) (past_again blank text n)
    go (dropped u n) q f = (e, stays (dropped u n) q (λ g. refl))
    go none q f = (e, stays none q (λ g. refl))
    go stop q f = (e, stays stop q (λ g. refl))

pub space_again : (text : List ℕ) (at : ℕ) → space text (space text at) ≡ space text at
unfolding space
space_again text at =
    let z = skip_again (length text) text (past blank text at) (omega arith) (past_again blank text at) in
    rw z.0 (z.1 (length text))
