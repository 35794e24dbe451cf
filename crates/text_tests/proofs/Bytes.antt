-- The bytes below 128 at the front of a text, byte by byte. Assumes nothing.
use borrow.Author.Rules.{rules}
use borrow.Author.Tests.{lt-ltb, le-ltb}
use native.Mathlib.Omega.{arith}
use native.Mathlib.Nat.{add-zero, add-suc, suc-add}
use native.Mathlib.Numerals.{add-one}
use Prim.Native.Nat.{ℕ, ◌+◌, ◌<◌, ◌≤◌}
use mathlib.Core.Path.{◌≡◌, refl, sym, ◌∙◌}
use mathlib.Core.List.{List}
use lib.ListN.{length, get_or, drop_of_length-le}
use lib.Seq.{drop-cons}
use Rattle.primitive.specs.Text.{run, past}
use Rattle.primitive.proofs.Forward.{run_le}
use Rattle.text_tests.specs.Tests.{ascii, ascii_end}

pub ascii_within : (s : List ℕ) → ascii_end s ≤ length s
unfolding ascii_end past
ascii_within s = omega (arith, run_le ascii s)

-- Up to the byte at i every byte is below 128.
abbrev pub Below : List ℕ → ℕ → Type 0
Below s i = past ascii s i ≡ ascii_end s

pub below_0 : (s : List ℕ) → Below s 0
unfolding ascii_end
below_0 s = refl

module _ (s : List ℕ) (i : ℕ) (inv : Below s i) where
  pub below_next : i < length s → get_or s i 0 < 128 → Below s (i + 1)
  unfolding past run ascii
  below_next h k = sym here ∙ inv
    where
      here : past ascii s i ≡ past ascii s (i + 1)
      here = rw (drop-cons s i 0 h, lt-ltb (get_or s i 0) 128 k) (rw (add-one, add-suc, suc-add))

  pub below_found : i < length s → 128 ≤ get_or s i 0 → i ≡ ascii_end s
  unfolding past run ascii
  below_found h k = sym here ∙ inv
    where
      here : past ascii s i ≡ i
      here = rw (drop-cons s i 0 h, le-ltb (get_or s i 0) 128 k) (add-zero _)

  pub below_all : length s ≤ i → length s ≡ ascii_end s
  unfolding past run
  below_all h = omega (arith, here, ascii_within s)
    where
      here : past ascii s i ≡ i
      here = rw (drop_of_length-le s {i = i} h) (add-zero _)

pub whole : (s : List ℕ) → length s ≤ ascii_end s → length s ≡ ascii_end s
whole s h = omega (arith, ascii_within s)

pub ruleset bytes = (below_0, below_next, below_found, below_all, whole, rules)
