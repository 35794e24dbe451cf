-- Where the reading of a text ends with 22: exactly at an item that loses a digit, after fewer than 64 items that lose none. Assumes nothing.
use borrow.Author.Tests.{lt-ltb, ltb-true}
use native.Mathlib.Omega.{arith}
use Prim.Native.Nat.{ℕ, zero, suc, ◌<◌}
use mathlib.Core.Path.{◌≡◌, refl}
use mathlib.Core.List.{List, [], ◌∷◌, ◌++◌}
use mathlib.Core.Bool.{Bool, true, false, cond}
use lib.Dec.{ltb}
use lib.ListN.{length}
use Rattle.primitive.specs.Answer.{Answer, matched, dropped, none, stop}
use Rattle.primitive.specs.Primitive.{space}
use Rattle.items.specs.Items.{Parsed, ended, further, kept, parse_item, items_from, parse_items, rust_item}
use Rattle.items.specs.declared.Item.{Item}
use Rattle.theorems_forms.specs.Fractions.{Loses, Undropped, no_item, one_more, Drops}
use Rattle.theorems_forms.proofs.Losses.{loses, loses_none, item_loses, item_whole}

-- the reading ended with 22, at p
abbrev pub Refused : Parsed → ℕ → Type 0
Refused a p = (a.number ≡ 22) × (a.place ≡ p)

module _ (text : List ℕ) where
  given_from : (room : ℕ) (xs : List Item) (count at p : ℕ) → count < room → Undropped text count at p → (v : Item) (n : ℕ) → space text p < length text → rust_item text p ≡ matched v n → Loses text p v n
      → Refused (items_from parse_item room xs text at) p
  unfolding items_from
  given_from zero xs count at p h u v n m r l = absurd (omega arith)
  given_from (suc room) xs zero at p h (no_item e) v n m r l = rw e (rw (lt-ltb (space text p) (length text) m, item_loses text p v n r l) (refl, refl))
  given_from (suc room) xs (suc k) at p h (one_more {n = i} {v = w} o q f u) v n m r l =
      rw (lt-ltb (space text at) (length text) o, item_whole text at w i q f) (given_from room (xs ++ (w ∷ [])) k i p (omega arith) u v n m r l)

  -- The reading ends with 22 at an item that loses a digit, after fewer than 64 that lose none.
  pub drops_refused : (p : ℕ) → Drops text 64 0 p → Refused (parse_items text) p
  unfolding parse_items
  drops_refused p d = given_from 64 [] d.count 0 p d.few d.before d.value d.end d.more d.read d.loses

  there_from : (room : ℕ) (xs : List Item) (at p : ℕ) → Refused (items_from parse_item room xs text at) p → Drops text room at p
  unfolding items_from rust_item
  there_from zero xs at p h = go (ltb (space text at) (length text)) (parse_item text at) h.0
    where
      go : (t : Bool) (a : Answer Item) → (cond t (further (kept a) xs at (λ v n. ended xs 1 0)) (ended xs 0 0)).number ≡ 22 → Drops text 0 at p
      go true (matched v n) z = absurd (omega arith)
      go true (dropped v n) z = absurd (omega arith)
      go true none z = absurd (omega arith)
      go true stop z = absurd (omega arith)
      go false a z = absurd (omega arith)
  there_from (suc room) xs at p h = go (ltb (space text at) (length text)) refl (parse_item text at) refl (λ v n. there_from room (xs ++ (v ∷ [])) n p) h
    where
      go : (t : Bool) → ltb (space text at) (length text) ≡ t → (a : Answer Item) → parse_item text at ≡ a
          → ((v : Item) (n : ℕ) → Refused (items_from parse_item room (xs ++ (v ∷ [])) text n) p → Drops text room n p)
          → Refused (cond t (further a xs at (λ v n. items_from parse_item room (xs ++ (v ∷ [])) text n)) (ended xs 0 0)) p → Drops text (suc room) at p
      go true t (matched v n) e f h =
          let d = f v n h in
          record {
            count = suc d.count;
            few = omega (arith, d.few);
            before = one_more (ltb-true (space text at) (length text) t) (rw e refl) (loses_none text at v n e) d.before;
            more = d.more;
            value = d.value;
            end = d.end;
            read = d.read;
            loses = d.loses;
          }
      go true t (dropped v n) e f h =
          record {
            count = 0;
            few = omega arith;
            before = no_item h.1;
            more = rw (← h.1) (ltb-true (space text at) (length text) t);
            value = v;
            end = n;
            read = rw (← h.1, e) refl;
            loses = rw (← h.1) (loses text at v n e);
          }
      go true t none e f h = let z = h.0 in absurd (omega arith)
      go true t stop e f h = let z = h.0 in absurd (omega arith)
      go false t a e f h = let z = h.0 in absurd (omega arith)

  -- It ends so nowhere else.
  pub refused_drops : (p : ℕ) → Refused (parse_items text) p → Drops text 64 0 p
  unfolding parse_items
  refused_drops p h = there_from 64 [] 0 p h
