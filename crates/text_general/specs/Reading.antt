-- A text read under a base: docs/SCOPE.md, 'Domain and limits' and 'The order of tests'.
use Rattle.items.specs.declared.Item.{Item}
use Rattle.std.specs.Prelude.{ℕ, List, [], eqb, cond}
use Rattle.extended.specs.declared.ExtendedDateTime.{ExtendedDateTime}
use Rattle.primitive.specs.Text.{lowered}
use Rattle.items.specs.Items.{Parsed, parse_items, rust_items}
use Rattle.answers.specs.Placed.{Placed, fine, refusal, ◌>>=◌, ◌>>◌}
use Rattle.builder.specs.Building.{build}
use Rattle.text_tests.specs.Tests.{test_text}

-- the items, or the number and the place where their reading ended
unfoldable pub items_of : Parsed → Placed (List Item)
items_of p = cond (eqb p.number 0) (fine p.items) (refusal p.number p.place)

-- The items from left to right, the rules in item order, then the building. No text has an item that comes by packet only.
unfoldable pub build_parsed : Parsed → ExtendedDateTime → Placed ExtendedDateTime
build_parsed p base = do
  xs ← items_of p
  build [] xs base

unfoldable pub build_text : List ℕ → ExtendedDateTime → Placed ExtendedDateTime
build_text text base = build_parsed (parse_items text) base

-- the first tests, then the items
unfoldable pub read_parsed : Parsed → List ℕ → ExtendedDateTime → Placed ExtendedDateTime
read_parsed p text base = do
  test_text text base
  build_parsed p base

unfoldable pub read_text : List ℕ → ExtendedDateTime → Placed ExtendedDateTime
read_text text base = read_parsed (parse_items (lowered text)) (lowered text) base

-- the Rust's reading, which gives no 22: of each other text it is the same (proofs/Theorems.antt, `same_text`)
unfoldable pub rust_text : List ℕ → ExtendedDateTime → Placed ExtendedDateTime
rust_text text base = read_parsed (rust_items (lowered text)) (lowered text) base
