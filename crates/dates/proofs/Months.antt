-- The names of months, by their first letter: where it is known, the table of all names gives what the table of those with that letter
-- gives. Assumes nothing.
use borrow.Author.Rules.{rules}
use borrow.Author.Tests.{ne_eqb, ltb-true}
use Rattle.std.proofs.lemmas.Bool.{eqb-false}
use lib.Dec.{eqb, ltb}
use lib.Seq.{slice}
use mathlib.Core.Bool.{Bool, true, false, cond}
use native.Mathlib.Omega.{arith}
use Prim.Native.Nat.{ℕ, ◌+◌, ◌<◌, ◌≤◌}
use Prim.Native.String.{String}
use mathlib.Core.Path.{◌≡◌, refl, sym, ap, ◌∙◌}
use mathlib.Core.List.{List, [], ◌∷◌, ◌++◌}
use lib.ListN.{length, get_or, drop}
use Rattle.primitive.specs.Answer.{Answer, matched, none, and_then, or_else, found_at}
use Rattle.primitive.specs.Text.{lower, lowered, bytes, letter, past, some, starts, tag}
use Rattle.primitive.specs.Primitive.{space, alpha1, same, named, beside}
use Rattle.primitive.proofs.Lowered.{rest_cons, slice_first}
use Rattle.primitive.proofs.Fronts.{word_else, beyond_text}
use Rattle.primitive.proofs.Rows.{halves}
use Rattle.primitive.proofs.Tables.{in_lower, in_bytes, beside_named}
use Rattle.dates.specs.Date.{months, word_dot, literal_month}
use Rattle.std.specs.Prelude.{Option}
use Rattle.std.specs.List.{filter}

-- no byte is no month
pub no_word : (word text : List ℕ) (at : ℕ) → length word ≡ 0 → none ≡ named months (lowered word) text at
unfolding named months same bytes lowered
no_word [] text at e = refl
no_word (b ∷ bs) text at e = absurd (omega arith)

-- a word, by its first letter
by_first : (word : List ℕ) → eqb (length word) 0 ≡ false → (l : ℕ) → l ≡ lower (get_or word 0 0) → lowered word ≡ l ∷ drop 1 (lowered word)
by_first word h l e = let some = eqb-false (length word) 0 h in rest_cons word 0 (omega arith) l e

-- a table keeps what it gives a word if the words that are left out are others
named_filter : {A : Type 0} (p : String × A → Bool) (w text : List ℕ) (at : ℕ) → ((e : String × A) → same w (bytes e.0) ≡ true → p e ≡ true)
    → (es : List (String × A)) → named (filter p es) w text at ≡ named es w text at
unfolding named
named_filter p w text at f [] = refl
named_filter {A} p w text at f (e ∷ es) = go (p e) (same w (bytes e.0)) refl (f e) (named_filter p w text at f es)
  where
    go : (t u : Bool) → same w (bytes e.0) ≡ u → (u ≡ true → t ≡ true) → named (filter p es) w text at ≡ named es w text at
        → named (cond t (e ∷ filter p es) (filter p es)) w text at ≡ cond u (matched e.1 at) (named es w text at)
    go true u k i h = rw (k, h) refl
    go false true k i h = let z = i refl in cc
    go false false k i h = h

-- the names of months with a first letter
abbrev first_letter : ℕ → String × ℕ → Bool
first_letter l e = eqb l (get_or (bytes e.0) 0 0)

first_same : (l : ℕ) (w name : List ℕ) → same (l ∷ w) name ≡ true → eqb l (get_or name 0 0) ≡ true
unfolding same
first_same l w [] e = cc
first_same l w (b ∷ bs) e = (halves (eqb l b) (same w bs) e).0

pub by_letter : (l : ℕ) (rows : List (List ℕ × ℕ)) → in_lower rows ≡ in_bytes (filter (first_letter l) months) → (word : List ℕ) (r : Option ℕ)
    → r ≡ beside rows (lowered word) → eqb (length word) 0 ≡ false → l ≡ lower (get_or word 0 0) → (text : List ℕ) (at : ℕ) → found_at at r ≡ named months (lowered word) text at
by_letter l rows g word r q h e text at =
    let z = by_first word h l e in
    let w = drop 1 (lowered word) in
    let kept = named_filter (first_letter l) (l ∷ w) text at (λ e. first_same l w (bytes e.0)) months in
    rw z (ap (found_at at) (rw z at q) ∙ (beside_named text at (l ∷ w) _ rows g ∙ kept))

-- no other letter begins a month
named_other : (b : ℕ) → (b ≡ 106 → ⊥) → (b ≡ 109 → ⊥) → (b ≡ 97 → ⊥) → (b ≡ 102 → ⊥) → (b ≡ 115 → ⊥) → (b ≡ 111 → ⊥) → (b ≡ 110 → ⊥) → (b ≡ 100 → ⊥)
    → (w text : List ℕ) (at : ℕ) → named months (b ∷ w) text at ≡ none
unfolding named months same bytes
named_other b j m a f g o n d w text at =
    rw (ne_eqb b 106 j, ne_eqb b 109 m, ne_eqb b 97 a, ne_eqb b 102 f, ne_eqb b 115 g, ne_eqb b 111 o, ne_eqb b 110 n, ne_eqb b 100 d)

pub other_letter : (word : List ℕ) → eqb (length word) 0 ≡ false → (b : ℕ) → b ≡ lower (get_or word 0 0)
    → (b ≡ 106 → ⊥) → (b ≡ 109 → ⊥) → (b ≡ 97 → ⊥) → (b ≡ 102 → ⊥) → (b ≡ 115 → ⊥) → (b ≡ 111 → ⊥) → (b ≡ 110 → ⊥) → (b ≡ 100 → ⊥)
    → (text : List ℕ) (at : ℕ) → none ≡ named months (lowered word) text at
other_letter word h b e j m a f g o n d text at = rw (by_first word h b e) (sym (named_other b j m a f g o n d (drop 1 (lowered word)) text at))

module _ (s : List ℕ) (at start : ℕ) (e : start ≡ space (lowered s) at) where
  pub month_there : (a : Answer ℕ) → a ≡ and_then (word_dot (lowered s) start) (λ w n. named months w (lowered s) n) → a ≡ literal_month (lowered s) at
  unfolding literal_month
  month_there a q = rw (← e) q

  pub month_beyond : length s ≤ start → none ≡ literal_month (lowered s) at
  unfolding literal_month word_dot
  month_beyond h = let z = beyond_text s start h in rw (← e, word_else (lowered s) start z.1)

  pub no_month_letter : start < length s → (b : ℕ) → b ≡ lower (get_or s start 0)
      → (b ≡ 106 → ⊥) → (b ≡ 109 → ⊥) → (b ≡ 97 → ⊥) → (b ≡ 102 → ⊥) → (b ≡ 115 → ⊥) → (b ≡ 111 → ⊥) → (b ≡ 110 → ⊥) → (b ≡ 100 → ⊥) → none ≡ literal_month (lowered s) at
  unfolding literal_month word_dot alpha1 some tag
  no_month_letter h b k j m a f g o n d = rw (← e) (sym (go (ltb start (past letter (lowered s) start)) refl))
    where
      end : ℕ
      end = past letter (lowered s) start

      dot : (w : List ℕ) (t : Bool) → and_then (or_else (and_then (cond {A = Answer (Unit {0})} t (matched tt (end + 1)) none) (λ v i. matched ((b ∷ w) ++ (46 ∷ [])) i)) (matched (b ∷ w) end)) (λ v i. named months v (lowered s) i) ≡ none
      dot w true = named_other b j m a f g o n d (w ++ (46 ∷ [])) (lowered s) (end + 1)
      dot w false = named_other b j m a f g o n d w (lowered s) end

      go : (t : Bool) → ltb start end ≡ t → and_then (and_then (cond t (matched (slice start end (lowered s)) end) none) (λ w i. or_else (and_then (tag (46 ∷ []) (lowered s) i) (λ v l. matched (w ++ (46 ∷ [])) l)) (matched w i))) (λ v i. named months v (lowered s) i) ≡ none
      go true q = rw (slice_first s start end (ltb-true start end q) h b k) (dot (slice (start + 1) end (lowered s)) (starts (46 ∷ []) (drop end (lowered s))))
      go false q = refl

pub ruleset month_letters = (month_there, month_beyond, no_month_letter, rules)

pub ruleset month_names = (no_word, other_letter, rules)
