-- The laws of reading a text: what its tests leave. Assumes nothing.
use borrow.Author.Rules.{rules}
use Prim.Native.Nat.{ℕ}
use mathlib.Core.Path.{◌≡◌, sym}
use mathlib.Core.List.{List}
use Rattle.std.specs.Prelude.{Some}
use Rattle.primitive.specs.Text.{lowered}
use Rattle.answers.specs.Placed.{Placed, fine, refusal}
use Rattle.extended.specs.declared.ExtendedDateTime.{ExtendedDateTime}
use Rattle.text_tests.specs.Tests.{test_text}
use Rattle.text_tests.proofs.Tests.{lowered_tests, passed_tested}
use Rattle.text_quick.specs.Shapes.{AtOnce}
use Rattle.text_general.specs.Reading.{build_text, read_parsed, read_text}

module _ (s : List ℕ) (base : ExtendedDateTime) where
  pub tests_refused : (n at : ℕ) → refusal n at ≡ test_text s base → refusal n at ≡ read_text s base
  unfolding read_text read_parsed
  tests_refused n at e = rw (lowered_tests s base, ← e)

  module _ (u : Unit {0}) (e : fine u ≡ test_text s base) where
    pub general : (r : Placed ExtendedDateTime) → r ≡ build_text (lowered s) base → r ≡ read_text s base
    unfolding read_text read_parsed build_text
    general r q = rw (lowered_tests s base, ← e) q

    pub quick : (r : ExtendedDateTime) → AtOnce (lowered s) base (Some r) → fine r ≡ read_text s base
    quick r q = general (fine r) (sym (q (passed_tested s base (sym e)).accepted_base))

pub ruleset steps = (tests_refused, general, rules)
