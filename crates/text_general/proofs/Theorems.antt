-- What is proved of a text's answer beside the contracts. Assumes nothing.
use Prim.Native.Nat.{ℕ}
use mathlib.Core.Path.{◌≡◌, refl, ap}
use mathlib.Core.List.{List}
use Rattle.primitive.specs.Text.{lowered}
use Rattle.answers.specs.Placed.{Placed, fine, refusal, number_of, ◌>>◌}
use Rattle.extended.specs.declared.ExtendedDateTime.{ExtendedDateTime}
use Rattle.items.specs.Items.{Parsed, parse_items, rust_items}
use Rattle.items.proofs.Theorems.{same_items}
use Rattle.text_tests.specs.Tests.{test_text}
use Rattle.text_general.specs.Reading.{items_of, build_parsed, read_parsed, read_text, rust_text}

-- a step that does not fail leads to the rest, and one that fails is the answer whatever the rest is
module _ {A : Type 0} (k : ℕ) (p q : Placed A) where
  after_step : (s : Placed (Unit {0})) → ((number_of p ≡ k → ⊥) → p ≡ q) → (number_of (s >> p) ≡ k → ⊥) → (s >> p) ≡ (s >> q)
  after_step (fine u) f h = f h
  after_step (refusal n i) f h = refl

given : (p : Parsed) (base : ExtendedDateTime) → p.number ≡ 22 → number_of (build_parsed p base) ≡ 22
unfolding build_parsed items_of
given p base e = rw e

-- A text that is not given 22 has the answer of the Rust's reading.
pub same_text : (text : List ℕ) (base : ExtendedDateTime) → (number_of (read_text text base) ≡ 22 → ⊥) → read_text text base ≡ rust_text text base
unfolding read_text rust_text read_parsed
same_text text base = after_step 22 _ _ (test_text (lowered text) base) built
  where
    built : (number_of (build_parsed (parse_items (lowered text)) base) ≡ 22 → ⊥) → build_parsed (parse_items (lowered text)) base ≡ build_parsed (rust_items (lowered text)) base
    built h = ap (λ p. build_parsed p base) (same_items (lowered text) (λ e. h (given (parse_items (lowered text)) base e)))
