-- What a relative item loses. Where the text has a number with a fraction, only `seconds` reads it: `displacement` wants a word after the
-- number, and finds a point or a comma. Assumes nothing.
use Prim.Native.Nat.{ℕ}
use mathlib.Core.Path.{◌≡◌, refl, sym, ◌∙◌}
use mathlib.Core.List.{List, [], ◌∷◌}
use mathlib.Core.Bool.{Bool, true, false, cond}
use lib.Dec.{leb}
use lib.IntN.{ℤ, pos}
use lib.ListN.{get_or, drop}
use Rattle.primitive.specs.Answer.{matched, none, carry, and_then, or_else}
use Rattle.primitive.specs.Text.{blank, digit, letter, tag}
use Rattle.primitive.proofs.Forward.{next_forward, then_forward, verify_forward}
use Rattle.primitive.specs.Primitive.{sign, space, decimal, parse_uint, dec_uint_str, dec_uint, plus_or_minus, alpha1}
use Rattle.primitive.specs.Epoch.{point_or_comma, sec_and_nsec}
use Rattle.primitive.specs.Ordinal.{signed, signed_number, text_ordinal, number_ordinal, ordinal}
use Rattle.primitive.proofs.Lowered.{clash}
use Rattle.primitive.proofs.Fronts.{space_again, tag_first, str_else, word_else}
use Rattle.relative.specs.Relative.{signed_seconds, seconds, displaced, displacement, parse}
use Rattle.relative.specs.declared.Relative.{Relative}
use Rattle.theorems_forms.specs.Fractions.{fraction_digits, seconds_fraction}
use Rattle.primitive.proofs.Walk.{Fails, at_once, not_behind_space}
use Rattle.primitive.proofs.Leaves.{head, head_at, quiet, plain, still, digit_no_letter}
use Rattle.primitive.proofs.Leaves.{word_else as no_word}
use Rattle.relative.proofs.Forward.{direction_forward, second_word_forward}
use Rattle.theorems_forms.proofs.Undropped.{whole_then, whole_next, whole_verify, carried_same, not_none, none_lost, either, from_rest, from_first, of_both}
use Rattle.theorems_forms.proofs.WholeReaders.{optional_sign_whole, second_word_whole, direction_whole, displacement_whole}
use Rattle.theorems_forms.proofs.Fractions.{Told, no_digits, fractional_told}

-- ---- at a digit, a sign, a point or a comma

module _ (text : List ℕ) (at : ℕ) where
  digit_there : (w : List ℕ) (n : ℕ) → dec_uint_str text at ≡ matched w n → digit (get_or text at 0) ≡ true
  digit_there w n e = go (digit (get_or text at 0)) refl
    where
      go : (t : Bool) → digit (get_or text at 0) ≡ t → digit (get_or text at 0) ≡ true
      go true f = f
      go false f = let z = str_else text at f in let y : ◌≡◌ {A = ℕ} 0 1 = cc in absurd (clash y)

  -- a digit or a sign begins no word
  digit_no_word : (w : List ℕ) (n : ℕ) → dec_uint_str text at ≡ matched w n → alpha1 text at ≡ none
  digit_no_word w n e = word_else text at (digit_no_letter (get_or text at 0) (digit_there w n e))

  sign_no_word : (b : Bool) (n : ℕ) → sign text at ≡ matched b n → alpha1 text at ≡ none
  unfolding sign letter
  sign_no_word b n e =
      either (and_then (tag (43 ∷ []) text at) _) (and_then (tag (45 ∷ []) text at) _) false b n e
      (λ e. of_both (tag (43 ∷ []) text at) _ b n e λ u m f g. word_else text at (rw (tag_first text at 43 [] m f) refl))
      λ o e. of_both (tag (45 ∷ []) text at) _ b n e λ u m f g. word_else text at (rw (tag_first text at 45 [] m f) refl)

  -- no word follows a number that such a byte follows
  byte_displaced : (b n : ℕ) → tag (b ∷ []) text at ≡ matched tt n → quiet b ≡ true → letter b ≡ false → (k : ℤ) → displaced k text at ≡ none
  unfolding displaced
  byte_displaced b n e q l k =
      let z : head (drop at text) ≡ b = sym (head_at text at (drop at text) refl) ∙ tag_first text at b [] n e in
      let f : Fails (displaced k) (drop at text) = at_once _ (not_behind_space (still (plain (rw z q))) (no_word (rw z l))) in
      f.fails text at refl

  point_displaced : (u : Unit {0}) (n : ℕ) → point_or_comma text at ≡ matched u n → (k : ℤ) → displaced k text at ≡ none
  unfolding point_or_comma blank letter
  point_displaced u n e k =
      either (tag (46 ∷ []) text at) (tag (44 ∷ []) text at) false u n e (λ e. byte_displaced 46 n e refl refl k) λ o e. byte_displaced 44 n e refl refl k

-- ---- relative items

module _ (text : List ℕ) (at : ℕ) where
  -- `displacement` with an ordinal in digits or without one, where no word follows either
  unnamed : (t negative : Bool) (x m : ℕ) → ((n : ℤ) → displaced n text m ≡ none) → displaced (pos 1) text at ≡ none
      → and_then (or_else (and_then (cond t (matched x m) none) (λ n k. matched (signed negative n) k)) (matched (pos 1) at)) (λ n k. displaced n text k) ≡ none
  unnamed true negative x m f g = f (signed negative x)
  unnamed false negative x m f g = g

  wordless : alpha1 text (space text at) ≡ none → (k : ℤ) → displaced k text at ≡ none
  unfolding displaced
  wordless e k = rw e

  displacement_else : (ds : List ℕ) (j : ℕ) → seconds_fraction text at ≡ matched ds j → displacement text at ≡ none
  unfolding seconds_fraction fraction_digits plus_or_minus displacement ordinal text_ordinal number_ordinal signed_number dec_uint parse_uint
  displacement_else ds j e =
      of_both (or_else (sign text (space text at)) (matched false at)) _ ds j e
      λ negative i p e. of_both (dec_uint_str text (space text i)) _ ds j e
      λ w m q e. of_both (point_or_comma text m) _ ds j e
      λ u k r e. either (sign text (space text at)) (matched false at) false negative i p
      (λ p. let b = sign_no_word text (space text at) negative i p in
      rw (b, p, q) (unnamed (leb (decimal w) 2147483647) negative (decimal w) m (point_displaced text m u k r) (wordless b (pos 1))))
      λ o p.
      let (x, y, c) = carried_same false false false negative at i p in
      let g : dec_uint_str text (space text at) ≡ matched w m = rw (sym c) at q in
      let b = digit_no_word text (space text at) w m g in
      rw (b, o, space_again text at, g) (unnamed (leb (decimal w) 2147483647) false (decimal w) m (point_displaced text m u k r) (wordless b (pos 1)))

module _ (text : List ℕ) (at : ℕ) (d : Bool) (r : Relative) (n : ℕ) where
  seconds_told : seconds text at ≡ carry d (matched r n) → Told (seconds_fraction text at) n d
  unfolding seconds signed_seconds seconds_fraction
  seconds_told e =
      from_rest optional_sign_whole text at _ d r n e
      λ negative i p e. from_first (sec_and_nsec text (space text i)) text (λ v. whole_next second_word_whole (whole_then direction_whole (λ ago. whole_verify _ _))) d r n e
      λ v j q e.
      let h = (next_forward _ _ second_word_forward (then_forward _ _ direction_forward (λ ago. verify_forward _ _)) text j r n e).0 in
      rw p (fractional_told text i d v j n q h)

  pub relative_told : parse text at ≡ carry d (matched r n) → Told (seconds_fraction text at) n d
  unfolding parse
  relative_told e =
      either (seconds text at) (displacement text at) d r n e seconds_told
      λ o e. no_digits
      (λ ds j f w. let z = displacement_else text at ds j f in not_none d r n (sym z ∙ e))
      (none_lost _ (displacement_whole.whole text at) d r n e)
