-- What each test leaves, in the code's order. Assumes nothing.
use borrow.Author.Rules.{rules}
use borrow.Author.Tests.{lt-leb, le-leb}
use Prim.Native.Nat.{ℕ, ◌<◌, ◌≤◌}
use mathlib.Core.Path.{◌≡◌}
use mathlib.Core.List.{List}
use lib.ListN.{length}
use Rattle.answers.specs.Outcome.{accepted, refused}
use Rattle.answers.specs.Placed.{fine, refusal}
use Rattle.extended.specs.Extended.{test}
use Rattle.extended.specs.declared.ExtendedDateTime.{ExtendedDateTime}
use Rattle.text_tests.specs.Tests.{ascii_end, test_text}

module _ (text : List ℕ) (base : ExtendedDateTime) where
  pub base_refused : (n : ℕ) → refused n ≡ test base → refusal n 0 ≡ test_text text base
  unfolding test_text
  base_refused n e = rw (← e)

  module _ (u : Unit {0}) (e : accepted u ≡ test base) where
    pub oversize : 4096 < length text → refusal 1 0 ≡ test_text text base
    unfolding test_text
    oversize l = rw (← e, lt-leb (length text) 4096 l)

    module _ (l : length text ≤ 4096) (end : ℕ) (g : end ≡ ascii_end text) where
      pub foreign : end < length text → refusal 2 end ≡ test_text text base
      unfolding test_text
      foreign k = rw (← e, le-leb (length text) 4096 l, ← g, lt-leb (length text) end k)

      pub passed : length text ≤ end → fine tt ≡ test_text text base
      unfolding test_text
      passed k = rw (← e, le-leb (length text) 4096 l, ← g, le-leb (length text) end k)

pub ruleset steps = (base_refused, oversize, foreign, passed, rules)
