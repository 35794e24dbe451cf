-- The laws of the space between tokens: for the loop that skips it, and that any limit from the text's length on gives the same
-- place. Assumes nothing.
use native.Mathlib.Omega.{arith}
use borrow.Author.Tests.{le-leb, lt-leb, ne_eqb}
use Prim.Native.Nat.{ℕ, zero, suc, ◌+◌, ◌-◌, ◌<◌, ◌≤◌}
use mathlib.Core.Path.{◌≡◌, refl, sym, ap, ◌∙◌}
use mathlib.Core.List.{List, [], ◌∷◌}
use mathlib.Core.Bool.{Bool, true, false}
use lib.ListN.{length, get_or, drop_of_length-le, get_or-eq_default}
use Rattle.primitive.specs.Answer.{Answer, matched, dropped, none, stop, and_then, or_else, place_answer}
use Rattle.primitive.specs.Text.{lower, lowered, blank, digit, past, starts, tag}
use Rattle.primitive.specs.Primitive.{multispace0, inside, comment, no_digit, sign, ignored_hyphen_or_plus, ignored, behind, skip, space}
use Rattle.primitive.proofs.Lowered.{length_lowered, get_or_lowered, beyond, rest_cons, clash, digit_lower, digit_no_blank, blank_lower, lower_above}
use Rattle.primitive.proofs.Runs.{past_end, past_here, past_more}
use Rattle.primitive.proofs.Comments.{inside_within, inside_done, inside_found, inside_next}
use Rattle.primitive.proofs.Forward.{tag_ends, then_forward, multispace0_forward, no_digit_forward, past_onward}
use borrow.Author.Rules.{rules}
use Rattle.primitive.proofs.Chain.{chain}
use Rattle.std.specs.Prelude.{Option, Some, None}
use Rattle.primitive.proofs.Dropped.{drops_never}

-- ---- a comment and an ignored sign end behind their start

byte_after : (b : ℕ) (text : List ℕ) (at n : ℕ) → tag (b ∷ []) text at ≡ matched tt n → at < n
byte_after b text at n e = let z = tag_ends (b ∷ []) text at n e in let y = z.0 in omega arith

comment_behind : (text : List ℕ) (at n : ℕ) → comment text at ≡ matched tt n → at < n
unfolding comment
comment_behind text at n = go (tag (40 ∷ []) text at) refl
  where
    go : (a : Answer (Unit {0})) → tag (40 ∷ []) text at ≡ a → and_then a (λ v m. inside text m) ≡ matched tt n → at < n
    go (matched tt m) e h = let z = byte_after 40 text at m e in let y = inside_within text m n h in let x = y.0 in omega arith
    go (dropped tt m) e h = absurd (drops_never (inside text m) tt n h)
    go none e h = let z : ◌≡◌ {A = ℕ} 0 1 = cc in omega arith
    go stop e h = let z : ◌≡◌ {A = ℕ} 0 1 = cc in omega arith

sign_behind : (text : List ℕ) (at n : ℕ) (v : Bool) → sign text at ≡ matched v n → at < n
unfolding sign
sign_behind text at n v = go (tag (43 ∷ []) text at) (tag (45 ∷ []) text at) refl refl
  where
    go : (a b : Answer (Unit {0})) → tag (43 ∷ []) text at ≡ a → tag (45 ∷ []) text at ≡ b
        → or_else (and_then a (λ u m. matched false m)) (and_then b (λ u m. matched true m)) ≡ matched v n → at < n
    go (matched tt m) b e f h = let z : m ≡ n = cc in let y = byte_after 43 text at m e in omega arith
    go (dropped tt m) b e f h = let z : ◌≡◌ {A = ℕ} 0 1 = cc in omega arith
    go none (matched tt m) e f h = let z : m ≡ n = cc in let y = byte_after 45 text at m f in omega arith
    go none (dropped tt m) e f h = let z : ◌≡◌ {A = ℕ} 0 1 = cc in omega arith
    go none none e f h = let z : ◌≡◌ {A = ℕ} 0 1 = cc in omega arith
    go none stop e f h = let z : ◌≡◌ {A = ℕ} 0 1 = cc in omega arith
    go stop b e f h = let z : ◌≡◌ {A = ℕ} 0 1 = cc in omega arith

ignored_sign_behind : (text : List ℕ) (at n : ℕ) → ignored_hyphen_or_plus text at ≡ matched tt n → at < n
unfolding ignored_hyphen_or_plus
ignored_sign_behind text at n = go (sign text at) refl
  where
    go : (a : Answer Bool) → sign text at ≡ a → and_then a (λ v m. and_then (multispace0 text m) (λ u k. no_digit text k)) ≡ matched tt n → at < n
    go (matched v m) e h =
        let z = sign_behind text at m v e in
        let y = then_forward _ _ multispace0_forward (λ u. no_digit_forward) text m tt n h in
        let x = y.0 in
        omega arith
    go (dropped v m) e h = absurd (drops_never (and_then (multispace0 text m) (λ u k. no_digit text k)) tt n h)
    go none e h = let z : ◌≡◌ {A = ℕ} 0 1 = cc in omega arith
    go stop e h = let z : ◌≡◌ {A = ℕ} 0 1 = cc in omega arith

pub ignored_behind : (text : List ℕ) (at n : ℕ) → ignored text at ≡ matched tt n → at < n
unfolding ignored
ignored_behind text at n = go (comment text at) refl
  where
    go : (a : Answer (Unit {0})) → comment text at ≡ a → or_else a (ignored_hyphen_or_plus text at) ≡ matched tt n → at < n
    go (matched tt m) e h = let z : m ≡ n = cc in comment_behind text at n (e ∙ h)
    go (dropped tt m) e h = let z : ◌≡◌ {A = ℕ} 0 1 = cc in omega arith
    go none e h = ignored_sign_behind text at n h
    go stop e h = let z : ◌≡◌ {A = ℕ} 0 1 = cc in omega arith

-- ---- what a comment or a sign begins with

-- no byte above 45 begins anything that is skipped
module _ (s : List ℕ) (i : ℕ) (h : i < length s) (g : 45 < get_or s i 0) where
  ignored_above : ignored (lowered s) i ≡ none
  unfolding ignored comment ignored_hyphen_or_plus sign tag starts
  ignored_above =
      let z = lower_above (get_or s i 0) in
      rw
      (rest_cons s i h (lower (get_or s i 0)) refl, ne_eqb (lower (get_or s i 0)) 40 (λ y. omega arith), ne_eqb (lower (get_or s i 0)) 43 (λ y. omega arith), ne_eqb (lower (get_or s i 0)) 45 (λ y. omega arith))

  blank_above : blank (lower (get_or s i 0)) ≡ false
  unfolding blank
  blank_above =
      let z = lower_above (get_or s i 0) in
      rw (ne_eqb (lower (get_or s i 0)) 32 (λ y. omega arith), le-leb 9 (lower (get_or s i 0)) (omega arith), lt-leb (lower (get_or s i 0)) 13 (omega arith))

-- ---- the limit

-- at the end of the text nothing is ignored
pub ignored_end : (text : List ℕ) (at : ℕ) → length text ≤ at → ignored text at ≡ none
unfolding ignored comment ignored_hyphen_or_plus sign tag starts
ignored_end text at h = rw (drop_of_length-le text h)

-- two limits that reach from `at` to the end of the text give the same place
enough_from : (text : List ℕ) (k j at : ℕ) → length text - at ≤ k → length text - at ≤ j → skip k text at ≡ skip j text at
unfolding skip
enough_from text zero zero at h g = refl
enough_from text zero (suc j) at h g = rw (ignored_end text at (omega arith))
enough_from text (suc k) zero at h g = rw (ignored_end text at (omega arith))
enough_from text (suc k) (suc j) at h g = go (ignored text at) refl (enough_from text k j)
  where
    go : (a : Answer (Unit {0})) → ignored text at ≡ a
        → ((m : ℕ) → length text - m ≤ k → length text - m ≤ j → skip k text m ≡ skip j text m)
        → behind a at (λ n. skip k text (past blank text n)) ≡ behind a at (λ n. skip j text (past blank text n))
    go (matched tt n) e f =
        let z = ignored_behind text at n e in
        let y = past_onward blank text n in
        let x = y.0 in
        f (past blank text n) (omega arith) (omega arith)
    go (dropped tt n) e f = refl
    go none e f = refl
    go stop e f = refl

pub enough : (text : List ℕ) (k at : ℕ) → length text ≤ k → skip k text at ≡ skip (length text) text at
enough text k at h = enough_from text k (length text) at (omega arith) (omega arith)

-- ---- the readers of blanks and of a sign that no digit follows

pub blanks_then : {B : Type 0} (f : Unit {0} → ℕ → Answer B) (text : List ℕ) (at end : ℕ) (q : Answer B) → end ≡ past blank text at → q ≡ f tt end → q ≡ and_then (multispace0 text at) f
unfolding multispace0
blanks_then f text at end q e k = rw (← e) k

module _ (s : List ℕ) (at : ℕ) where
  pub nothing_there : length s ≤ at → matched tt at ≡ no_digit (lowered s) at
  unfolding no_digit digit
  nothing_there h = rw (get_or-eq_default (lowered s) 0 (beyond s at h))

  module _ (t : Bool) (f : t ≡ digit (get_or s at 0)) where
    pub digit_there : t ≡ true → none ≡ no_digit (lowered s) at
    unfolding no_digit
    digit_there g = rw (get_or_lowered s at, digit_lower (get_or s at 0), ← f, g)

    pub no_digit_there : t ≡ false → matched tt at ≡ no_digit (lowered s) at
    unfolding no_digit
    no_digit_there g = rw (get_or_lowered s at, digit_lower (get_or s at 0), ← f, g)

-- ---- the loop of `space`

-- the end of the space from a place without blanks on
pub skip_from : List ℕ → ℕ → ℕ
skip_from s i = skip (length (lowered s)) (lowered s) i

pub skip_start : (s : List ℕ) (at i : ℕ) → i ≡ past blank (lowered s) at → skip_from s i ≡ space (lowered s) at
unfolding skip_from space
skip_start s at i e = rw e

module _ (s : List ℕ) (i at : ℕ) (inv : skip_from s i ≡ space (lowered s) at) where
  pub skip_done : length s ≤ i → i ≡ space (lowered s) at
  unfolding skip_from skip
  skip_done h =
      let l = length_lowered s in
      sym (enough_from (lowered s) (length (lowered s)) 0 i (omega arith) (omega arith)) ∙ inv

  module _ (h : i < length s) (r : Option ℕ) (e : place_answer r ≡ ignored (lowered s) i) where
    step : skip_from s i ≡ behind (ignored (lowered s) i) i (λ n. skip (length (lowered s) - 1) (lowered s) (past blank (lowered s) n))
    unfolding skip_from skip
    step =
        let l = length_lowered s in
        let z : length (lowered s) ≡ suc (length (lowered s) - 1) = omega arith in
        ap (λ (k : ℕ). skip k (lowered s) i) z

    pub skip_stop : r ≡ None → i ≡ space (lowered s) at
    skip_stop k = rw (sym e ∙ ap place_answer k) at (sym step) ∙ inv

    module _ (n m : ℕ) (k : r ≡ Some n) (g : m ≡ past blank (lowered s) n) where
      later : i < m
      later =
          let z = ignored_behind (lowered s) i n (sym e ∙ ap place_answer k) in
          let y = past_onward blank (lowered s) n in
          let x = y.0 in
          omega arith

      pub skip_next : skip_from s m ≡ space (lowered s) at
      unfolding skip_from
      skip_next =
          let l = length_lowered s in
          let z = later in
          enough_from (lowered s) (length (lowered s)) (length (lowered s) - 1) m (omega arith) (omega arith)
          ∙ (rw g (rw (sym e ∙ ap place_answer k) at (sym step)) ∙ inv)

-- a place where no space begins
module _ (s : List ℕ) (i at : ℕ) (inv : skip_from s i ≡ space (lowered s) at) where
  pub skip_above : i < length s → 45 < get_or s i 0 → i ≡ space (lowered s) at
  skip_above h g = skip_stop s i at inv h None (sym (ignored_above s i h g)) refl

module _ (s : List ℕ) (at : ℕ) where
  pub space_end : length s ≤ at → at ≡ space (lowered s) at
  space_end h = skip_done s at at (skip_start s at at (sym (past_end blank s at h))) h

  pub space_above : at < length s → 45 < get_or s at 0 → at ≡ space (lowered s) at
  space_above h g = skip_above s at at (skip_start s at at (sym (past_here blank s at h (lower (get_or s at 0)) refl (blank_above s at h g)))) h g

  -- a blank is passed over
  pub blank_passed : at < length s → get_or s at 0 ≡ 32 → space (lowered s) at ≡ space (lowered s) (at + 1)
  unfolding space lower blank
  blank_passed h e = rw (past_more blank s at h 32 (rw e) refl)

  pub space_blank : at < length s → get_or s at 0 ≡ 32 → at + 1 < length s → 45 < get_or s (at + 1) 0 → at + 1 ≡ space (lowered s) at
  unfolding lower blank
  space_blank h e k g =
      let z : past blank (lowered s) at ≡ past blank (lowered s) (at + 1) = past_more blank s at h 32 (rw e) refl in
      let y = past_here blank s (at + 1) k (lower (get_or s (at + 1) 0)) refl (blank_above s (at + 1) k g) in
      skip_above s (at + 1) at (skip_start s at (at + 1) (sym (z ∙ y))) k g

-- a sign with a digit behind it
module _ (s : List ℕ) (at : ℕ) (h : at < length s) (g : at + 1 < length s) (t : Bool) (f : t ≡ digit (get_or s (at + 1) 0)) (k : t ≡ true) where
  sign_kept : (c : ℕ) (v : Bool) → c ≡ lower (get_or s at 0) → comment (lowered s) at ≡ none → sign (lowered s) at ≡ matched v (at + 1) → blank c ≡ false → at ≡ space (lowered s) at
  unfolding ignored ignored_hyphen_or_plus multispace0
  sign_kept c v e p q b =
      let z = past_here blank s (at + 1) g (lower (get_or s (at + 1) 0)) refl (blank_lower (get_or s (at + 1) 0) ∙ digit_no_blank (get_or s (at + 1) 0) (sym f ∙ k)) in
      let i : ignored (lowered s) at ≡ none = rw (p, q, z) (sym (digit_there s (at + 1) t f k)) in
      skip_stop s at at (skip_start s at at (sym (past_here blank s at h c e b))) h None (sym i) refl

  pub hyphen_kept : get_or s at 0 ≡ 45 → at ≡ space (lowered s) at
  unfolding lower blank comment sign tag starts
  hyphen_kept e =
      let l : 45 ≡ lower (get_or s at 0) = rw e in
      sign_kept 45 true l (rw (rest_cons s at h 45 l)) (rw (rest_cons s at h 45 l)) refl

  pub plus_kept : get_or s at 0 ≡ 43 → at ≡ space (lowered s) at
  unfolding lower blank comment sign tag starts
  plus_kept e =
      let l : 43 ≡ lower (get_or s at 0) = rw e in
      sign_kept 43 false l (rw (rest_cons s at h 43 l)) (rw (rest_cons s at h 43 l)) refl

  pub hyphen_at_once : get_or s at 0 ≡ 45 → matched tt (at + 1) ≡ tag (45 ∷ []) (lowered s) (space (lowered s) at)
  unfolding lower tag starts
  hyphen_at_once e = rw (← hyphen_kept e, rest_cons s at h 45 (rw e))

-- a blank before such a sign
pub blank_sign : (s : List ℕ) (at : ℕ) → at < length s → get_or s at 0 ≡ 32 → at + 1 ≡ space (lowered s) (at + 1) → at + 1 ≡ space (lowered s) at
blank_sign s at h e f = rw (blank_passed s at h e) f

-- where it is not there, nothing is said
pub unsaid : {A : Type 0} → ◌≡◌ {A = Bool} false true → A
unsaid e = let z : ◌≡◌ {A = ℕ} 0 1 = cc in absurd (clash z)

pub skip_less : (s : List ℕ) (i n m : ℕ) (r : Option ℕ) → i < length s → place_answer r ≡ ignored (lowered s) i → r ≡ Some n → m ≡ past blank (lowered s) n → length s - m < length s - i
skip_less s i n m r h e k g =
    let z = ignored_behind (lowered s) i n (sym e ∙ ap place_answer k) in
    let y = past_onward blank (lowered s) n in
    let x = y.0 in
    omega arith

pub ruleset spaces = (blanks_then, digit_there, no_digit_there, nothing_there, skip_start, skip_done, skip_above, skip_stop, skip_next, skip_less, hyphen_at_once, chain)

-- the quick ways of `space`
pub ruleset ends = (space_end, space_above, space_blank, blank_sign, rules)

-- ---- the loop of `comment`

module _ (text : List ℕ) (at n : ℕ) where
  pub byte_later : (b : ℕ) → matched tt n ≡ tag (b ∷ []) text at → at < n
  byte_later b e = byte_after b text at n (sym e)

  pub comment_later : (start : ℕ) → start < at → matched tt n ≡ comment text at → start < n
  comment_later start h e = let z = comment_behind text at n (sym e) in omega arith

pub comment_less : (s text : List ℕ) (i n : ℕ) → i < length s → matched tt n ≡ comment text i → length s - n < length s - i
comment_less s text i n h e = let z = comment_behind text i n (sym e) in omega arith

pub ruleset comments = (inside_done, inside_found, inside_next, comment_less, chain)
