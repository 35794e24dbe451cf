-- What is proved of a text's items beside the contracts. Assumes nothing.
use native.Mathlib.Omega.{arith}
use Prim.Native.Nat.{ℕ, zero, suc}
use mathlib.Core.Path.{◌≡◌, refl, ap}
use mathlib.Core.List.{List, [], ◌∷◌, ◌++◌}
use mathlib.Core.Bool.{Bool, true, false, cond}
use lib.Dec.{ltb}
use lib.ListN.{length}
use Rattle.primitive.specs.Answer.{Answer, matched, dropped, none, stop, drops, and_then, or_else, pure, cut}
use Rattle.primitive.specs.Text.{lowered}
use Rattle.primitive.specs.Primitive.{space}
use Rattle.primitive.proofs.Lowered.{lowered_twice}
use Rattle.times.specs.Offset.{without}
use Rattle.items.specs.Combined.{unstopped}
use Rattle.items.specs.Items.{ended, further, kept, parse_item, items_from, parse_items, rust_item, rust_items}
use Rattle.items.specs.declared.Item.{Item}

-- Upper case changes no item: for the bytes s a text has the items `parse_items (lowered s)`, and for their lower case those of the left side.
pub lower_case : (s : List ℕ) → parse_items (lowered (lowered s)) ≡ parse_items (lowered s)
lower_case s = ap parse_items (lowered_twice s)

-- ---- the Rust's reading

-- `kept` of a reader is the same reader with `kept` around its parts, and of `cut` it is `pure`. So `rust_item` is put together as the Rust's
-- reader is: of fractions that discard digits silently.
kept_drops : {A : Type 0} (a : Answer A) → kept (drops a) ≡ kept a
kept_drops (matched v n) = refl
kept_drops (dropped v n) = refl
kept_drops none = refl
kept_drops stop = refl

pub kept_cut : {A : Type 0} (t : Bool) (v : A) (text : List ℕ) (at : ℕ) → kept (cut t v text at) ≡ pure v text at
kept_cut true v text at = refl
kept_cut false v text at = refl

module _ {A B : Type 0} where
  pub kept_then : (a : Answer A) (f : A → ℕ → Answer B) → kept (and_then a f) ≡ and_then (kept a) (λ v n. kept (f v n))
  kept_then (matched v n) f = refl
  kept_then (dropped v n) f = kept_drops (f v n)
  kept_then none f = refl
  kept_then stop f = refl

  pub kept_without : (a : Answer A) (b : Answer B) → kept (without a b) ≡ without (kept a) (kept b)
  kept_without (matched v n) b = refl
  kept_without (dropped v n) b = refl
  kept_without none b = refl
  kept_without stop b = refl

module _ {A : Type 0} where
  pub kept_else : (a b : Answer A) → kept (or_else a b) ≡ or_else (kept a) (kept b)
  kept_else (matched v n) b = refl
  kept_else (dropped v n) b = refl
  kept_else none b = refl
  kept_else stop b = refl

  pub kept_unstopped : (a : Answer A) → kept (unstopped a) ≡ unstopped (kept a)
  kept_unstopped (matched v n) = refl
  kept_unstopped (dropped v n) = refl
  kept_unstopped none = refl
  kept_unstopped stop = refl

kept_twice : {A : Type 0} (a : Answer A) → kept (kept a) ≡ kept a
kept_twice (matched v n) = refl
kept_twice (dropped v n) = refl
kept_twice none = refl
kept_twice stop = refl

same_from : (room : ℕ) (xs : List Item) (text : List ℕ) (at : ℕ) → ((items_from parse_item room xs text at).number ≡ 22 → ⊥) → items_from parse_item room xs text at ≡ items_from rust_item room xs text at
unfolding items_from rust_item
same_from zero xs text at h = rw (kept_twice (parse_item text at)) refl
same_from (suc room) xs text at h = go (ltb (space text at) (length text)) (parse_item text at) (λ v n. same_from room (xs ++ (v ∷ [])) text n) h
  where
    go : (t : Bool) (a : Answer Item)
        → ((v : Item) (n : ℕ) → ((items_from parse_item room (xs ++ (v ∷ [])) text n).number ≡ 22 → ⊥) → items_from parse_item room (xs ++ (v ∷ [])) text n ≡ items_from rust_item room (xs ++ (v ∷ [])) text n)
        → ((cond t (further a xs at (λ v n. items_from parse_item room (xs ++ (v ∷ [])) text n)) (ended xs 0 0)).number ≡ 22 → ⊥)
        → cond t (further a xs at (λ v n. items_from parse_item room (xs ++ (v ∷ [])) text n)) (ended xs 0 0) ≡ cond t (further (kept a) xs at (λ v n. items_from rust_item room (xs ++ (v ∷ [])) text n)) (ended xs 0 0)
    go false a f h = refl
    go true (matched v n) f h = f v n h
    go true (dropped v n) f h = absurd (h refl)
    go true none f h = refl
    go true stop f h = refl

-- The Rust's reading never ends with 22.
rust_from : (room : ℕ) (xs : List Item) (text : List ℕ) (at : ℕ) → (items_from rust_item room xs text at).number ≡ 22 → ⊥
unfolding items_from rust_item
rust_from zero xs text at = go (ltb (space text at) (length text)) (parse_item text at)
  where
    go : (t : Bool) (a : Answer Item) → (cond t (further (kept (kept a)) xs at (λ v n. ended xs 1 0)) (ended xs 0 0)).number ≡ 22 → ⊥
    go true (matched v n) e = omega arith
    go true (dropped v n) e = omega arith
    go true none e = omega arith
    go true stop e = omega arith
    go false a e = omega arith
rust_from (suc room) xs text at = go (ltb (space text at) (length text)) (parse_item text at) (λ v n. rust_from room (xs ++ (v ∷ [])) text n)
  where
    go : (t : Bool) (a : Answer Item) → ((v : Item) (n : ℕ) → (items_from rust_item room (xs ++ (v ∷ [])) text n).number ≡ 22 → ⊥)
        → (cond t (further (kept a) xs at (λ v n. items_from rust_item room (xs ++ (v ∷ [])) text n)) (ended xs 0 0)).number ≡ 22 → ⊥
    go true (matched v n) f e = f v n e
    go true (dropped v n) f e = f v n e
    go true none f e = omega arith
    go true stop f e = omega arith
    go false a f e = omega arith

pub rust_without_22 : (text : List ℕ) → (rust_items text).number ≡ 22 → ⊥
unfolding rust_items
rust_without_22 text = rust_from 64 [] text 0

-- A text that is not given 22 has the items of the Rust's reading.
pub same_items : (text : List ℕ) → ((parse_items text).number ≡ 22 → ⊥) → parse_items text ≡ rust_items text
unfolding parse_items rust_items
same_items text h = same_from 64 [] text 0 h
