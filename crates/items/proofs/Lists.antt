-- How the list of items goes along a text: one item behind the other, to the end. Assumes nothing.
use native.Mathlib.Omega.{arith}
use borrow.Author.Tests.{lt-ltb, le-ltb}
use Prim.Native.Nat.{ℕ, zero, suc, ◌-◌, ◌<◌, ◌≤◌}
use mathlib.Core.Path.{◌≡◌, sym, ap, ◌∙◌}
use mathlib.Core.List.{List, [], ◌∷◌, ◌++◌}
use lib.ListN.{length, drop, length-drop}
use Rattle.primitive.specs.Primitive.{space}
use Rattle.items.specs.Items.{parse_item, ended, items_from}
use Rattle.items.specs.declared.Item.{Item}
use Rattle.primitive.proofs.Walk.{Reads, Spaces}

-- Where the text goes on as l, behind the items xs and with room for k more, it has the items ys in all, and nothing is left.
pub record Lists (k : ℕ) (xs : List Item) (l : List ℕ) (ys : List Item) : Type 0 where
  pub lists : (text : List ℕ) (at : ℕ) → drop at text ≡ l → items_from parse_item k xs text at ≡ ended ys 0 0

module _ (text : List ℕ) (i : ℕ) where
  outside : drop i text ≡ [] → length text ≤ i
  outside e = let z : length text - i ≡ 0 = sym (length-drop i text) ∙ ap length e in omega arith

  within : (m : List ℕ) → 0 < length m → drop i text ≡ m → i < length text
  within m h e = let z : length text - i ≡ length m = sym (length-drop i text) ∙ ap length e in omega arith

pub no_more_items : {k : ℕ} {xs : List Item} {l : List ℕ} → Spaces l [] → Lists k xs l xs
unfolding items_from
no_more_items {k} {xs} s = record { lists = λ text at e. go k text at (outside text (space text at) (s.spaces text at e)) }
  where
    go : (k : ℕ) (text : List ℕ) (at : ℕ) → length text ≤ space text at → items_from parse_item k xs text at ≡ ended xs 0 0
    go zero text at h = rw (le-ltb (space text at) (length text) h)
    go (suc k) text at h = rw (le-ltb (space text at) (length text) h)

pub one_item : {k : ℕ} {xs : List Item} {l m : List ℕ} {v : Item} {rest : List ℕ} {ys : List Item} → Spaces l m → 0 < length m → Reads parse_item l v rest → Lists k (xs ++ (v ∷ [])) rest ys → Lists (suc k) xs l ys
unfolding items_from
one_item {m = m} s h a r = record {
  lists = λ text at e.
      let (n, g, d) = a.reads text at e in
      rw (lt-ltb (space text at) (length text) (within text (space text at) m h (s.spaces text at e)), g) (r.lists text n d);
}
