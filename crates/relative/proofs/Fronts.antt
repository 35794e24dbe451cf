-- What a relative item can be by its first byte: a word is an ordinal or a unit; after a sign, or none, a number is read once for seconds and
-- for units. Assumes nothing.
use borrow.Author.Tests.{lt-ltb, le-ltb, le-leb, lt-leb, leb-false}
use native.Mathlib.Omega.{arith}
use Prim.Native.Nat.{ℕ, ◌+◌, ◌^◌, ◌<◌, ◌≤◌}
use Prim.Native.String.{String}
use mathlib.Core.Path.{◌≡◌, refl, sym}
use mathlib.Core.List.{List, [], ◌∷◌}
use mathlib.Core.Logic.{◌⊎◌, inl, inr}
use mathlib.Core.Bool.{Bool, true, false, not, cond}
use lib.ListN.{get_or, drop, length, get_or-eq_default}
use lib.Seq.{slice}
use lib.Dec.{ltb, leb}
use lib.IntN.{ℤ, pos, neg_ℤ, neg_ℤ-neg_ℤ}
use Rattle.primitive.specs.Answer.{Answer, matched, dropped, none, stop, and_then, or_else, verify}
use Rattle.primitive.specs.Text.{lower, lowered, bytes, digit, letter, past, some, starts, tag}
use Rattle.primitive.specs.Primitive.{sign, space, plus_or_minus, dec_uint_str, parse_uint, decimal, dec_uint, alpha1, same, named}
use Rattle.primitive.specs.Epoch.{point_or_comma, fraction, sec_and_nsec}
use Rattle.primitive.specs.Ordinal.{ordinals, signed, signed_number, text_ordinal, number_ordinal, ordinal}
use Rattle.primitive.proofs.Fronts.{number_else, word_else, tag_else, above_digits, beyond_text, space_again}
use Rattle.primitive.proofs.Lowered.{get_or_lowered, lower_above, beyond, clash}
use Rattle.relative.specs.Relative.{direction, rounded, second_words, second_word, signed_seconds, seconds, in_unit, displaced, displacement, parse}
use Rattle.relative.specs.Fronts.{united, counted, unit_of_number}
use Rattle.relative.specs.declared.Relative.{Relative}
use Rattle.relative.proofs.Spaced.{parse_behind}
use Rattle.relative.proofs.Chain.{relatives}

-- ---- a word in front

module _ (text : List ℕ) (at : ℕ) (g : at ≡ space text at) (f : digit (get_or text at 0) ≡ false) (p : get_or text at 0 ≡ 43 → ⊥) (m : get_or text at 0 ≡ 45 → ⊥) where
  no_sign : sign text at ≡ none
  unfolding sign
  no_sign = rw (tag_else text at 43 [] p, tag_else text at 45 [] m)

  no_number : (max : ℕ) → dec_uint max text (space text at) ≡ none
  no_number max = rw (← g) (number_else text at f max)

  no_seconds : seconds text at ≡ none
  unfolding seconds plus_or_minus signed_seconds sec_and_nsec
  no_seconds = rw (← g, no_sign, no_number 18446744073709551615)

  no_count : number_ordinal text at ≡ none
  unfolding number_ordinal signed_number
  no_count = rw (← g, no_sign, no_number 2147483647)

  displaced_alone : (a : Answer Relative) → a ≡ displacement text at → a ≡ parse text at
  unfolding parse
  displaced_alone a e = rw no_seconds e

  module _ (w : List ℕ) (n : ℕ) (e : matched w n ≡ alpha1 text at) (a : Answer Relative) where
    ordinal_word : (k : ℤ) → matched k n ≡ named ordinals w text n → a ≡ displaced k text n → a ≡ displacement text at
    unfolding displacement ordinal text_ordinal
    ordinal_word k h q = rw (← g, ← e, ← h) q

    unit_word : none ≡ named ordinals w text n → a ≡ united (pos 1) w text n → a ≡ displacement text at
    unfolding displacement ordinal text_ordinal displaced united
    unit_word h q = rw (← g, ← e, ← h, no_count, ← g, ← e) q

  no_word : none ≡ alpha1 text at → none ≡ displacement text at
  unfolding displacement ordinal text_ordinal displaced
  no_word e = rw (← g, ← e, no_count, ← g, ← e)

-- ---- a number in front

-- a number that was read, for another limit
module _ (text : List ℕ) (at big small : ℕ) where
  abbrev digits_read : List ℕ
  digits_read = slice at (past digit text at) text

  pub narrower : (n end : ℕ) → matched n end ≡ dec_uint big text at → dec_uint small text at ≡ cond (leb n small) (matched n end) none
  unfolding dec_uint parse_uint dec_uint_str some
  narrower n end = go (ltb at (past digit text at))
    where
      within : (u : Bool) → matched n end ≡ cond u (matched (decimal digits_read) (past digit text at)) none → cond (leb (decimal digits_read) small) (matched (decimal digits_read) (past digit text at)) none ≡ cond (leb n small) (matched n end) none
      within true e = let v : n ≡ decimal digits_read = cc in let z : end ≡ past digit text at = cc in rw (v, z)
      within false e = let z : ◌≡◌ {A = ℕ} 0 1 = cc in absurd (clash z)

      go : (t : Bool) → matched n end ≡ and_then (cond t (matched digits_read (past digit text at)) none) (λ w m. cond (leb (decimal w) big) (matched (decimal w) m) none)
          → and_then (cond t (matched digits_read (past digit text at)) none) (λ w m. cond (leb (decimal w) small) (matched (decimal w) m) none) ≡ cond (leb n small) (matched n end) none
      go true e = within (leb (decimal digits_read) big) e
      go false e = let z : ◌≡◌ {A = ℕ} 0 1 = cc in absurd (clash z)

  pub narrower_none : small ≤ big → none ≡ dec_uint big text at → dec_uint small text at ≡ none
  unfolding dec_uint parse_uint dec_uint_str some
  narrower_none h = go (ltb at (past digit text at))
    where
      beyond : (u : Bool) → leb (decimal digits_read) big ≡ u → ◌≡◌ {A = Answer ℕ} none (cond u (matched (decimal digits_read) (past digit text at)) none) → cond (leb (decimal digits_read) small) (matched (decimal digits_read) (past digit text at)) none ≡ none
      beyond true k e = let z : ◌≡◌ {A = ℕ} 0 1 = cc in absurd (clash z)
      beyond false k e = let l = leb-false (decimal digits_read) big k in rw (lt-leb (decimal digits_read) small (omega arith))

      go : (t : Bool) → ◌≡◌ {A = Answer ℕ} none (and_then (cond t (matched digits_read (past digit text at)) none) (λ w m. cond (leb (decimal w) big) (matched (decimal w) m) none))
          → and_then (cond t (matched digits_read (past digit text at)) none) (λ w m. cond (leb (decimal w) small) (matched (decimal w) m) none) ≡ none
      go true e = beyond (leb (decimal digits_read) big) refl e
      go false e = refl

-- a word stands in a table wherever it ends
named_moved : {A : Type 0} (es : List (String × A)) (w text : List ℕ) (m k : ℕ)
    → ((named es w text m ≡ none) × (named es w text k ≡ none)) ⊎ ((v : A) × (named es w text m ≡ matched v m) × (named es w text k ≡ matched v k))
unfolding named
named_moved {A = A} [] w text m k = inl (refl, refl)
named_moved {A = A} (e ∷ es) w text m k = go (same w (bytes e.0)) (named_moved es w text m k)
  where
    go : (t : Bool) → ((named es w text m ≡ none) × (named es w text k ≡ none)) ⊎ ((v : A) × (named es w text m ≡ matched v m) × (named es w text k ≡ matched v k))
        → ((cond t (matched e.1 m) (named es w text m) ≡ none) × (cond t (matched e.1 k) (named es w text k) ≡ none)) ⊎ ((v : A) × (cond t (matched e.1 m) (named es w text m) ≡ matched v m) × (cond t (matched e.1 k) (named es w text k) ≡ matched v k))
    go true h = inr (e.1, refl, refl)
    go false h = h

-- `ago`, `hence` or neither is always read
direction_read : (text : List ℕ) (at : ℕ) → (ago : Bool) × (n : ℕ) × (direction text at ≡ matched ago n)
unfolding direction tag
direction_read text at = go (starts (bytes "ago") (drop (space text at) text)) (starts (bytes "hence") (drop (space text at) text))
  where
    go : (t u : Bool) → (ago : Bool) × (n : ℕ)
        × (or_else (or_else (and_then (cond {A = Answer (Unit {0})} t (matched tt (space text at + length (bytes "ago"))) none) (λ v m. matched true m)) (and_then (cond {A = Answer (Unit {0})} u (matched tt (space text at + length (bytes "hence"))) none) (λ v m. matched false m))) (matched false at) ≡ matched ago n)
    go true u = (true, _, refl)
    go false true = (false, _, refl)
    go false false = (false, _, refl)

-- a word is there or not
word_read : (text : List ℕ) (at : ℕ) → (alpha1 text at ≡ none) ⊎ ((w : List ℕ) × (n : ℕ) × (alpha1 text at ≡ matched w n))
unfolding alpha1 some
word_read text at = go (ltb at (past letter text at))
  where
    go : (t : Bool) → (cond t (matched (slice at (past letter text at) text) (past letter text at)) none ≡ none)
        ⊎ ((w : List ℕ) × (n : ℕ) × (cond t (matched (slice at (past letter text at) text) (past letter text at)) none ≡ matched w n))
    go true = inr (_, _, refl)
    go false = inl refl

-- a number whose sign `ago` turns
turned_sign : (ago negative : Bool) (n : ℕ) → signed (cond ago (not negative) negative) n ≡ cond ago (neg_ℤ (signed negative n)) (signed negative n)
unfolding signed
turned_sign true true n = sym (neg_ℤ-neg_ℤ (pos n))
turned_sign true false n = refl
turned_sign false negative n = refl

module _ (text : List ℕ) (at : ℕ) (g : at ≡ space text at) (l : letter (get_or text at 0) ≡ false) (negative : Bool) (start : ℕ) (q : matched negative start ≡ or_else (sign text at) (matched false at)) where
  wordless : text_ordinal text at ≡ none
  unfolding text_ordinal
  wordless = rw (← g, word_else text at l)

  unitless : (n : ℤ) → displaced n text at ≡ none
  unfolding displaced
  unitless n = rw (← g, word_else text at l)

  sign_read : parse text at ≡ or_else (signed_seconds negative text start) (and_then (signed_number negative text start) (λ k m. displaced k text m))
  unfolding parse seconds displacement ordinal number_ordinal plus_or_minus
  sign_read = rw (← g, ← q, wordless) (go (signed_number negative text start))
    where
      go : (a : Answer ℤ) → or_else (signed_seconds negative text start) (and_then (or_else a (matched (pos 1) at)) (λ k m. displaced k text m)) ≡ or_else (signed_seconds negative text start) (and_then a (λ k m. displaced k text m))
      go (matched v n) = refl
      go (dropped v n) = refl
      go none = rw (unitless (pos 1))
      go stop = refl

  pub number_lost : none ≡ dec_uint 18446744073709551615 text (space text start) → none ≡ parse text at
  unfolding signed_seconds sec_and_nsec signed_number
  number_lost e = rw (sign_read, ← e, narrower_none text (space text start) 18446744073709551615 2147483647 (omega arith) e)

  module _ (n end : ℕ) (e : matched n end ≡ dec_uint 18446744073709551615 text (space text start)) (p : none ≡ point_or_comma text end) where
    abbrev seconds_after : Answer Relative
    seconds_after = and_then (second_word text end) (λ u m. and_then (direction text m) (λ ago k. verify (ltb n (2 ^ 63)) (rounded (cond ago (not negative) negative) (record { sec = n; nsec = 0 })) text k))

    abbrev unit_after : Answer Relative
    unit_after = cond (leb n 2147483647) (displaced (signed negative n) text end) none

    whole_seconds : signed_seconds negative text start ≡ seconds_after
    unfolding signed_seconds sec_and_nsec fraction
    whole_seconds = rw (← e, ← p)

    small_number : and_then (signed_number negative text start) (λ k m. displaced k text m) ≡ unit_after
    unfolding signed_number
    small_number = rw (narrower text (space text start) 18446744073709551615 2147483647 n end e) (go (leb n 2147483647))
      where
        go : (t : Bool) → and_then (and_then (cond t (matched n end) none) (λ k m. matched (signed negative k) m)) (λ k m. displaced k text m) ≡ cond t (displaced (signed negative n) text end) none
        go true = refl
        go false = refl

    tables : (w : List ℕ) (m : ℕ) → alpha1 text (space text end) ≡ matched w m → (ago : Bool) (k : ℕ) → direction text m ≡ matched ago k
        → ((named second_words w text m ≡ none) × (named second_words w text k ≡ none)) ⊎ ((v : Unit {0}) × (named second_words w text m ≡ matched v m) × (named second_words w text k ≡ matched v k))
        → unit_of_number negative n text end ≡ or_else seconds_after unit_after
    unfolding unit_of_number counted second_word displaced
    tables w m h ago k d (inl (x, y)) = rw (h, d, x, y, turned_sign ago negative n)
    tables w m h ago k d (inr (v, x, y)) = rw (h, x, d, y, turned_sign ago negative n)

    read_once : unit_of_number negative n text end ≡ or_else seconds_after unit_after
    unfolding unit_of_number second_word displaced
    read_once = go (word_read text (space text end))
      where
        nothing : (t : Bool) → none ≡ cond {A = Answer Relative} t none none
        nothing true = refl
        nothing false = refl

        go : (alpha1 text (space text end) ≡ none) ⊎ ((w : List ℕ) × (m : ℕ) × (alpha1 text (space text end) ≡ matched w m)) → unit_of_number negative n text end ≡ or_else seconds_after unit_after
        go (inl h) = rw h (nothing (leb n 2147483647))
        go (inr (w, m, h)) = let (ago, k, d) = direction_read text m in tables w m h ago k d (named_moved second_words w text m k)

    pub number_unit : (a : Answer Relative) → a ≡ unit_of_number negative n text end → a ≡ parse text at
    number_unit a f = rw (sign_read, whole_seconds, small_number, ← read_once) f

-- what such a number counts, by the word that follows it
module _ (negative : Bool) (n : ℕ) (w text : List ℕ) (at : ℕ) where
  pub second_counted : (v : Unit {0}) → matched v at ≡ named second_words w text at → n ≤ 9223372036854775807 → (r : Relative) → r ≡ rounded negative (record { sec = n; nsec = 0 }) → matched r at ≡ counted negative n w text at
  unfolding counted
  second_counted v e h r f = rw (← e, lt-ltb n 9223372036854775808 (omega arith), f)

  pub second_beyond : (v : Unit {0}) → matched v at ≡ named second_words w text at → 9223372036854775807 < n → none ≡ counted negative n w text at
  unfolding counted
  second_beyond v e h = rw (← e, le-ltb n 9223372036854775808 (omega arith), lt-leb n 2147483647 (omega arith))

  pub unit_beyond : none ≡ named second_words w text at → 2147483647 < n → none ≡ counted negative n w text at
  unfolding counted
  unit_beyond e h = rw (← e, lt-leb n 2147483647 h)

  pub unit_counted : none ≡ named second_words w text at → n ≤ 2147483647 → (k : ℤ) → k ≡ signed negative n → (a : Answer Relative) → a ≡ in_unit k w text at → a ≡ counted negative n w text at
  unfolding counted
  unit_counted e h k f a q = rw (← e, le-leb n 2147483647 h, ← f) q

pub ruleset counts = (second_counted, second_beyond, unit_beyond, relatives)

-- ---- the tests of the first byte

module _ (s : List ℕ) (at : ℕ) where
  above_9 : 57 < get_or s at 0 → (digit (get_or (lowered s) at 0) ≡ false) × (57 < get_or (lowered s) at 0)
  above_9 h = let l = lower_above (get_or s at 0) in (above_digits s at h, rw (get_or_lowered s at) (omega arith))

  upto_9 : get_or s at 0 ≤ 57 → letter (get_or (lowered s) at 0) ≡ false
  unfolding letter lower
  upto_9 h = rw (get_or_lowered s at, lt-leb 65 (get_or s at 0) (omega arith), lt-leb 97 (get_or s at 0) (omega arith))

  -- a word
  module _ (g : at ≡ space (lowered s) at) (h : 57 < get_or s at 0) where
    pub word_in_front : (a : Answer Relative) → a ≡ displacement (lowered s) at → a ≡ parse (lowered s) at
    word_in_front a e = let z = above_9 h in let y = z.1 in displaced_alone (lowered s) at g z.0 (λ x. omega arith) (λ x. omega arith) a e

    pub no_word_there : none ≡ alpha1 (lowered s) at → none ≡ displacement (lowered s) at
    no_word_there e = let z = above_9 h in let y = z.1 in no_word (lowered s) at g z.0 (λ x. omega arith) (λ x. omega arith) e

    module _ (w : List ℕ) (n : ℕ) (e : matched w n ≡ alpha1 (lowered s) at) (a : Answer Relative) where
      pub ordinal_there : (k : ℤ) → matched k n ≡ named ordinals w (lowered s) n → a ≡ displaced k (lowered s) n → a ≡ displacement (lowered s) at
      ordinal_there k q f = let z = above_9 h in let y = z.1 in ordinal_word (lowered s) at g z.0 (λ x. omega arith) (λ x. omega arith) w n e a k q f

      pub unit_there : none ≡ named ordinals w (lowered s) n → a ≡ united (pos 1) w (lowered s) n → a ≡ displacement (lowered s) at
      unit_there q f = let z = above_9 h in let y = z.1 in unit_word (lowered s) at g z.0 (λ x. omega arith) (λ x. omega arith) w n e a q f

  -- a number
  module _ (g : at ≡ space (lowered s) at) (h : get_or s at 0 ≤ 57) (negative : Bool) (start : ℕ) (q : matched negative start ≡ or_else (sign (lowered s) at) (matched false at)) where
    pub no_number_there : none ≡ dec_uint 18446744073709551615 (lowered s) (space (lowered s) start) → none ≡ parse (lowered s) at
    no_number_there e = number_lost (lowered s) at g (upto_9 h) negative start q e

    pub number_there : (n end : ℕ) → matched n end ≡ dec_uint 18446744073709551615 (lowered s) (space (lowered s) start) → none ≡ point_or_comma (lowered s) end
        → (a : Answer Relative) → a ≡ unit_of_number negative n (lowered s) end → a ≡ parse (lowered s) at
    number_there n end e p a f = number_unit (lowered s) at g (upto_9 h) negative start q n end e p a f

-- from the end of the space
module _ (s : List ℕ) (at start : ℕ) (g : start ≡ space (lowered s) at) where
  pub space_ends : start ≡ space (lowered s) start
  space_ends = rw g (sym (space_again (lowered s) at))

  pub starts_there : (a : Answer Relative) → a ≡ parse (lowered s) start → a ≡ parse (lowered s) at
  starts_there a e = rw (g, parse_behind (lowered s) at) at e

  pub nothing_there : length s ≤ start → none ≡ parse (lowered s) at
  nothing_there h =
      let z = beyond_text s start h in
      let y : get_or (lowered s) start 0 ≡ 0 = get_or-eq_default (lowered s) 0 (beyond s start h) in
      let p = no_sign (lowered s) start space_ends z.0 (λ x. omega arith) (λ x. omega arith) in
      let e = no_number (lowered s) start space_ends z.0 (λ x. omega arith) (λ x. omega arith) 18446744073709551615 in
      starts_there none (number_lost (lowered s) start space_ends z.1 false start (rw p) (sym e))

pub ruleset fronts = (starts_there, space_ends, nothing_there, word_in_front, no_word_there, ordinal_there, unit_there, no_number_there, number_there, relatives)
