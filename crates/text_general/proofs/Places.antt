-- The place of a refusal is at most 4096, and where the reading of the items ends is never past the text. Assumes nothing.
use native.Mathlib.Omega.{arith}
use Prim.Native.Nat.{ℕ, zero, suc, ◌+◌, ◌≤◌}
use mathlib.Core.Path.{◌≡◌, refl}
use mathlib.Core.Bool.{Bool, true, false, cond}
use mathlib.Core.List.{List, [], ◌∷◌, ◌++◌}
use lib.Dec.{ltb, eqb}
use lib.ListN.{length, length-append}
use Rattle.extended.specs.declared.ExtendedDateTime.{ExtendedDateTime}
use Rattle.primitive.specs.Answer.{Answer, matched, dropped, none, stop}
use Rattle.primitive.specs.Text.{lowered}
use Rattle.primitive.specs.Primitive.{space}
use Rattle.items.specs.Items.{Parsed, ended, further, kept, items_from, parse_item, parse_items}
use Rattle.items.specs.declared.Item.{Item}
use Rattle.items.proofs.Forward.{parse_item_forward}
use Rattle.answers.specs.Placed.{Placed, fine, refusal, place_of, ◌>>=◌, ◌>>◌}
use Rattle.builder.specs.Building.{build}
use Rattle.builder.proofs.Places.{build_place}
use Rattle.text_tests.specs.Tests.{test_text}
use Rattle.text_tests.proofs.Tests.{passed_tested, tests_place}
use Rattle.text_general.specs.Reading.{items_of, build_parsed, read_parsed, read_text}

-- ---- the items

-- the place is in the text, and no more items are there than there was room for
pub record Ends (text : List ℕ) (most : ℕ) (p : Parsed) : Type 0 where
  pub within : p.place ≤ length text
  pub few : length p.items ≤ most

ends : (room : ℕ) (xs : List Item) (text : List ℕ) (at : ℕ) → at ≤ length text → Ends text (length xs + room) (items_from parse_item room xs text at)
unfolding items_from
ends zero xs text at h = go (ltb (space text at) (length text)) (kept (parse_item text at))
  where
    go : (t : Bool) (a : Answer Item) → Ends text (length xs + 0) (cond t (further a xs at (λ v n. ended xs 1 0)) (ended xs 0 0))
    go true (matched v n) = record { within = omega arith; few = omega arith }
    go true (dropped v n) = record { within = h; few = omega arith }
    go true none = record { within = h; few = omega arith }
    go true stop = record { within = h; few = omega arith }
    go false a = record { within = omega arith; few = omega arith }
ends (suc room) xs text at h = go (λ ys n. ends room ys text n) (ltb (space text at) (length text)) (parse_item text at) refl
  where
    go : ((ys : List Item) (n : ℕ) → n ≤ length text → Ends text (length ys + room) (items_from parse_item room ys text n)) → (t : Bool) (a : Answer Item) → parse_item text at ≡ a →
        Ends text (length xs + suc room) (cond t (further a xs at (λ v n. items_from parse_item room (xs ++ (v ∷ [])) text n)) (ended xs 0 0))
    go f true (matched v n) e =
        let w = f (xs ++ (v ∷ [])) n ((parse_item_forward text at v n e).1 h) in
        let l = length-append xs (v ∷ []) in
        record { within = w.within; few = omega (arith, w.few, l) }
    go f true (dropped v n) e = record { within = h; few = omega arith }
    go f true none e = record { within = h; few = omega arith }
    go f true stop e = record { within = h; few = omega arith }
    go f false a e = record { within = omega arith; few = omega arith }

pub items_end : (text : List ℕ) → Ends text 64 (parse_items text)
unfolding parse_items
items_end text = ends 64 [] text 0 (omega arith)

-- ---- the whole

build_parsed_place : (text : List ℕ) (base : ExtendedDateTime) (k : ℕ) → length text ≤ k → length (parse_items text).items ≤ k → place_of (build_parsed (parse_items text) base) ≤ k
unfolding build_parsed items_of
build_parsed_place text base k h few = go (parse_items text) (items_end text).within few
  where
    go : (p : Parsed) → p.place ≤ length text → length p.items ≤ k → place_of (cond (eqb p.number 0) (fine p.items) (refusal p.number p.place) >>= (λ xs. build [] xs base)) ≤ k
    go p end f = by (eqb p.number 0)
      where
        by : (t : Bool) → place_of (cond t (fine p.items) (refusal p.number p.place) >>= (λ xs. build [] xs base)) ≤ k
        by true = omega (arith, f, build_place [] p.items base)
        by false = omega (arith, h, end)

-- The place of a refusal is at most k, if the number of items is, and the length of a text that is not refused for its length.
pub read_parsed_place : (text : List ℕ) (base : ExtendedDateTime) (k : ℕ) → (length text ≤ 4096 → length text ≤ k) → length (parse_items text).items ≤ k → place_of (read_parsed (parse_items text) text base) ≤ k
unfolding read_parsed
read_parsed_place text base k long few = by (test_text text base) refl (tests_place text base k long)
  where
    by : (p : Placed (Unit {0})) → test_text text base ≡ p → place_of p ≤ k → place_of (p >> build_parsed (parse_items text) base) ≤ k
    by (fine tt) e h = build_parsed_place text base k (long (passed_tested text base e).short) few
    by (refusal n at) e h = h

pub place_within : (text : List ℕ) (base : ExtendedDateTime) → place_of (read_text text base) ≤ 4096
unfolding read_text
place_within text base = read_parsed_place (lowered text) base 4096 (λ h. h) (omega (arith, (items_end (lowered text)).few))
