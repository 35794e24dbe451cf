-- The names of months by their second letter: where the first letter leaves one second letter, a word with another is no month, with a dot or
-- without one. Assumes nothing.
use borrow.Author.Tests.{ltb-true, ltb-false}
use lib.Dec.{eqb, ltb}
use lib.Seq.{slice}
use lib.ListN.{length, get_or, drop}
use mathlib.Core.Bool.{Bool, true, false, ◌&&◌, cond}
use mathlib.Core.List.{List, [], ◌∷◌, ◌++◌}
use mathlib.Core.Path.{◌≡◌, refl, sym, ◌∙◌}
use Prim.Native.Nat.{ℕ, ◌+◌, ◌<◌}
use Rattle.primitive.specs.Answer.{Answer, matched, none, and_then, or_else}
use Rattle.primitive.specs.Text.{lower, lowered, bytes, letter, past, some, starts, tag}
use Rattle.primitive.specs.Primitive.{space, spaced, alpha1, same, named}
use Rattle.primitive.proofs.Fronts.{space_again}
use Rattle.primitive.proofs.Lowered.{rest_cons, slice_first, slice_beyond, slice_over}
use Rattle.dates.specs.Date.{months, word_dot, literal_month}
use Rattle.dates.proofs.Months.{month_letters}

-- no month begins with b and another letter than c
abbrev pub Second : ℕ → ℕ → Type 0
Second b c = (d : ℕ) → eqb d c ≡ false → (w text : List ℕ) (at : ℕ) → named months (b ∷ d ∷ w) text at ≡ none

abbrev pub Alone : ℕ → Type 0
Alone b = (text : List ℕ) (at : ℕ) → named months (b ∷ []) text at ≡ none

and_true : (t : Bool) → t && true ≡ false → t ≡ false
and_true true h = h
and_true false h = refl

module _ (b c : ℕ) (alone : Alone b) (dot : eqb 46 c ≡ false) (second : Second b c) where
  no_name : (w : List ℕ) → starts (c ∷ []) w ≡ false → (text : List ℕ) (at : ℕ) → named months (b ∷ w) text at ≡ none
  unfolding starts
  no_name [] h text at = alone text at
  no_name (d ∷ ds) h text at = second d (and_true (eqb d c) h) ds text at

  no_dotted : (w : List ℕ) → starts (c ∷ []) w ≡ false → (text : List ℕ) (at : ℕ) → named months ((b ∷ w) ++ (46 ∷ [])) text at ≡ none
  unfolding starts
  no_dotted [] h text at = second 46 dot [] text at
  no_dotted (d ∷ ds) h text at = second d (and_true (eqb d c) h) (ds ++ (46 ∷ [])) text at

  none_left : starts (c ∷ []) [] ≡ false
  unfolding starts
  none_left = refl

  first_only : (d : ℕ) (w v : List ℕ) → starts (c ∷ []) (d ∷ w) ≡ false → starts (c ∷ []) (d ∷ v) ≡ false
  unfolding starts
  first_only d w v h = h

  module _ (s : List ℕ) (at start : ℕ) (e : start ≡ space (lowered s) at) where
    -- a word's second letter is the text's
    still_other : (end : ℕ) → starts (c ∷ []) (drop (start + 1) (lowered s)) ≡ false → starts (c ∷ []) (slice (start + 1) end (lowered s)) ≡ false
    still_other end h = go (ltb (start + 1) (length s)) refl (ltb (start + 1) end) refl
      where
        go : (t : Bool) → ltb (start + 1) (length s) ≡ t → (u : Bool) → ltb (start + 1) end ≡ u → starts (c ∷ []) (slice (start + 1) end (lowered s)) ≡ false
        go false q u r = rw (slice_beyond s (start + 1) end (ltb-false (start + 1) (length s) q)) none_left
        go true q false r = rw (slice_over s (start + 1) end (ltb-false (start + 1) end r)) none_left
        go true q true r =
            let k = ltb-true (start + 1) (length s) q in
            let z : starts (c ∷ []) (lower (get_or s (start + 1) 0) ∷ drop (start + 1 + 1) (lowered s)) ≡ false = rw (← rest_cons s (start + 1) k (lower (get_or s (start + 1) 0)) refl) h in
            rw (slice_first s (start + 1) end (ltb-true (start + 1) end r) k (lower (get_or s (start + 1) 0)) refl) (first_only _ _ _ z)

    module _ (h : start < length s) (k : b ≡ lower (get_or s start 0)) where
      no_month : starts (c ∷ []) (drop (start + 1) (lowered s)) ≡ false → and_then (word_dot (lowered s) start) (λ w n. named months w (lowered s) n) ≡ none
      unfolding word_dot alpha1 some tag
      no_month f = word (ltb start (past letter (lowered s) start)) refl
        where
          end : ℕ
          end = past letter (lowered s) start

          w : List ℕ
          w = slice (start + 1) end (lowered s)

          dotted : (t : Bool) → and_then (or_else (and_then (cond {A = Answer (Unit {0})} t (matched tt (end + 1)) none) (λ v i. matched ((b ∷ w) ++ (46 ∷ [])) i)) (matched (b ∷ w) end)) (λ v i. named months v (lowered s) i) ≡ none
          dotted true = no_dotted w (still_other end f) (lowered s) (end + 1)
          dotted false = no_name w (still_other end f) (lowered s) end

          word : (t : Bool) → ltb start end ≡ t → and_then (and_then (cond t (matched (slice start end (lowered s)) end) none) (λ w i. or_else (and_then (tag (46 ∷ []) (lowered s) i) (λ v l. matched (w ++ (46 ∷ [])) l)) (matched w i))) (λ v i. named months v (lowered s) i) ≡ none
          word true q = rw (slice_first s start end (ltb-true start end q) h b k) (dotted (starts (46 ∷ []) (drop end (lowered s))))
          word false q = refl

      by_second : (a : Answer ℕ) → a ≡ and_then (tag (c ∷ []) (lowered s) (start + 1)) (λ v i. and_then (word_dot (lowered s) start) (λ w n. named months w (lowered s) n)) → a ≡ literal_month (lowered s) at
      unfolding literal_month tag
      by_second a q = rw (← e) (go (starts (c ∷ []) (drop (start + 1) (lowered s))) refl q)
        where
          month : Answer ℕ
          month = and_then (word_dot (lowered s) start) (λ w n. named months w (lowered s) n)

          go : (t : Bool) → starts (c ∷ []) (drop (start + 1) (lowered s)) ≡ t → a ≡ and_then (cond {A = Answer (Unit {0})} t (matched tt (start + 1 + 1)) none) (λ v i. month) → a ≡ month
          go true f p = p
          go false f p = p ∙ sym (no_month f)

-- ---- the letters that begin words of relative items too

module _ (s : List ℕ) (at start : ℕ) (e : start ≡ space (lowered s) at) (h : start < length s) (l : ℕ) (k : l ≡ lower (get_or s start 0)) where
  abbrev Follows : ℕ → ℕ → Type 0
  Follows b c = l ≡ b → (a : Answer ℕ) → a ≡ and_then (tag (c ∷ []) (lowered s) (start + 1)) (λ v i. and_then (word_dot (lowered s) start) (λ w n. named months w (lowered s) n)) → a ≡ literal_month (lowered s) at

  pub m_then_a : Follows 109 97
  unfolding named months same bytes
  m_then_a q = by_second 109 97 (λ text at. refl) refl (λ d z w text at. rw z refl) s at start e h (sym q ∙ k)

  pub f_then_e : Follows 102 101
  unfolding named months same bytes
  f_then_e q = by_second 102 101 (λ text at. refl) refl (λ d z w text at. rw z refl) s at start e h (sym q ∙ k)

  pub n_then_o : Follows 110 111
  unfolding named months same bytes
  n_then_o q = by_second 110 111 (λ text at. refl) refl (λ d z w text at. rw z refl) s at start e h (sym q ∙ k)

  pub d_then_e : Follows 100 101
  unfolding named months same bytes
  d_then_e q = by_second 100 101 (λ text at. refl) refl (λ d z w text at. rw z refl) s at start e h (sym q ∙ k)

-- the space before a name is read once
pub spaced_once : (text : List ℕ) (at : ℕ) (a : Answer ℕ) → a ≡ literal_month text at → a ≡ spaced literal_month text at
unfolding literal_month
spaced_once text at a q = rw (space_again text at) q

pub ruleset letters = (spaced_once, m_then_a, f_then_e, n_then_o, d_then_e, month_letters)
