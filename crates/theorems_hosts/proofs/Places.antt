-- The place of a text's refusal is at most the text's length. The place of a rule's refusal is the index of an item, and each item is at least
-- a byte. Assumes nothing.
use native.Mathlib.Omega.{arith}
use native.Mathlib.Nat.{le_refl}
use Prim.Native.Nat.{ℕ, zero, suc, ◌≤◌}
use mathlib.Core.Path.{◌≡◌, refl, sym}
use mathlib.Core.Bool.{Bool, true, false, cond}
use mathlib.Core.List.{List, [], ◌∷◌, ◌++◌}
use lib.Dec.{ltb}
use lib.ListN.{length, length-append}
use Rattle.answers.specs.Placed.{place_of}
use Rattle.extended.specs.declared.ExtendedDateTime.{ExtendedDateTime}
use Rattle.primitive.specs.Answer.{Answer, matched, dropped, none, stop}
use Rattle.primitive.specs.Primitive.{space}
use Rattle.primitive.specs.Text.{lowered}
use Rattle.primitive.proofs.Lowered.{length_lowered}
use Rattle.items.specs.Items.{ended, further, kept, items_from, parse_item, parse_items}
use Rattle.items.specs.declared.Item.{Item}
use Rattle.items.proofs.Forward.{parse_item_forward}
use Rattle.text_general.specs.Reading.{read_text}
use Rattle.text_general.proofs.Places.{read_parsed_place}
use Rattle.theorems_forms.proofs.Strict.{parse_item_strict}

-- ---- at most as many items as bytes

items_below : (room : ℕ) (xs : List Item) (text : List ℕ) (at : ℕ) → length xs ≤ at → at ≤ length text → length (items_from parse_item room xs text at).items ≤ length text
unfolding items_from
items_below zero xs text at h k = go (ltb (space text at) (length text)) (kept (parse_item text at))
  where
    go : (t : Bool) (a : Answer Item) → length (cond t (further a xs at (λ v n. ended xs 1 0)) (ended xs 0 0)).items ≤ length text
    go true (matched v n) = omega arith
    go true (dropped v n) = omega arith
    go true none = omega arith
    go true stop = omega arith
    go false a = omega arith
items_below (suc room) xs text at h k = go (λ ys n. items_below room ys text n) (ltb (space text at) (length text)) (parse_item text at) refl
  where
    go : ((ys : List Item) (n : ℕ) → length ys ≤ n → n ≤ length text → length (items_from parse_item room ys text n).items ≤ length text) → (t : Bool) (a : Answer Item) → parse_item text at ≡ a
        → length (cond t (further a xs at (λ v n. items_from parse_item room (xs ++ (v ∷ [])) text n)) (ended xs 0 0)).items ≤ length text
    go f true (matched v n) e =
        let s = parse_item_strict text at v n e in
        let l = length-append xs (v ∷ []) in
        f (xs ++ (v ∷ [])) n (omega arith) ((parse_item_forward text at v n e).1 k)
    go f true (dropped v n) e = omega arith
    go f true none e = omega arith
    go f true stop e = omega arith
    go f false a e = omega arith

-- A text has at most as many items as bytes.
pub items_few : (text : List ℕ) → length (parse_items text).items ≤ length text
unfolding parse_items
items_few text = items_below 64 [] text 0 (omega arith) (omega arith)

-- ---- the place

-- The place of a refusal is at most the length of the text.
pub text_place : (text : List ℕ) (base : ExtendedDateTime) → place_of (read_text text base) ≤ length text
unfolding read_text
text_place text base = rw (sym (length_lowered text)) (read_parsed_place (lowered text) base (length (lowered text)) (λ h. le_refl _) (items_few (lowered text)))
