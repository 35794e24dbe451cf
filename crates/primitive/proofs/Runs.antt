-- The laws of `past` and `some`: the end of a run, by the byte at its start. Assumes nothing.
use borrow.Author.Rules.{rules}
use borrow.Author.Tests.{lt-ltb, le-ltb}
use Prim.Native.Nat.{ℕ, ◌+◌, ◌<◌, ◌≤◌}
use native.Mathlib.Nat.{add-zero, add-suc, suc-add}
use native.Mathlib.Numerals.{add-one}
use mathlib.Core.Path.{◌≡◌, refl, sym, ◌∙◌}
use mathlib.Core.List.{List}
use mathlib.Core.Bool.{Bool, true, false}
use lib.ListN.{length, get_or}
use lib.Seq.{slice}
use Rattle.primitive.specs.Answer.{matched, none}
use Rattle.primitive.specs.Text.{lower, lowered, digit, run, past, some}
use Rattle.primitive.proofs.Lowered.{rest_cons, rest_none, digit_lower}

module _ (p : ℕ → Bool) (s : List ℕ) (i : ℕ) where
  pub past_end : length s ≤ i → past p (lowered s) i ≡ i
  unfolding past run
  past_end h = rw (rest_none s i h) (add-zero _)

  module _ (h : i < length s) (b : ℕ) (e : b ≡ lower (get_or s i 0)) where
    pub past_here : p b ≡ false → past p (lowered s) i ≡ i
    unfolding past run
    past_here f = rw (rest_cons s i h b e, f) (add-zero _)

    pub past_more : p b ≡ true → past p (lowered s) i ≡ past p (lowered s) (i + 1)
    unfolding past run
    past_more f = rw (rest_cons s i h b e, f) (rw (add-one, add-suc, suc-add))

-- A loop that looks for the end of the run that starts at `at`.
module _ (p : ℕ → Bool) (s : List ℕ) (i at : ℕ) (inv : past p (lowered s) i ≡ past p (lowered s) at) where
  pub past_done : length s ≤ i → i ≡ past p (lowered s) at
  past_done h = cc (past_end p s i h)

  module _ (h : i < length s) (b : ℕ) (e : b ≡ lower (get_or s i 0)) (t : Bool) (f : t ≡ p b) where
    pub past_found : t ≡ false → i ≡ past p (lowered s) at
    past_found g = cc (past_here p s i h b e (cc))

    pub past_next : t ≡ true → past p (lowered s) (i + 1) ≡ past p (lowered s) at
    past_next g = cc (past_more p s i h b e (cc))

-- The same for digits, where the byte is asked before it is lowered, which is all one.
module _ (s : List ℕ) (i at : ℕ) (inv : past digit (lowered s) i ≡ past digit (lowered s) at) (h : i < length s) (t : Bool) (f : t ≡ digit (get_or s i 0)) where
  pub digits_found : t ≡ false → i ≡ past digit (lowered s) at
  digits_found = past_found digit s i at inv h (lower (get_or s i 0)) refl t (f ∙ sym (digit_lower (get_or s i 0)))

  pub digits_next : t ≡ true → past digit (lowered s) (i + 1) ≡ past digit (lowered s) at
  digits_next = past_next digit s i at inv h (lower (get_or s i 0)) refl t (f ∙ sym (digit_lower (get_or s i 0)))

-- A run of one byte or more.
module _ (p : ℕ → Bool) (text : List ℕ) (at end : ℕ) (e : end ≡ past p text at) where
  pub some_match : at < end → matched (slice at end text) end ≡ some p text at
  unfolding some
  some_match h = rw (← e, lt-ltb at end h)

  pub some_none : end ≤ at → none ≡ some p text at
  unfolding some
  some_none h = rw (← e, le-ltb at end h)

pub ruleset runs = (past_done, past_found, past_next, rules)
