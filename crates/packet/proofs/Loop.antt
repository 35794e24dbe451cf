-- The laws of the loop over a packet's items: what is left behind the items that are gathered. Assumes nothing.
use Rattle.relative.specs.declared.Relative.{Relative}
use native.Mathlib.Omega.{arith}
use native.Mathlib.Numerals.{add-one}
use Prim.Native.Nat.{ℕ, zero, suc, ◌+◌, ◌-◌, ◌<◌, ◌≤◌}
use mathlib.Core.Path.{◌≡◌, refl, sym, ap, ◌∙◌}
use mathlib.Core.Bool.{Bool, true, false}
use mathlib.Core.List.{List, [], ◌∷◌, ◌++◌, append-nil, append_assoc}
use lib.ListN.{length, length-append, length-drop, drop}
use lib.Dec.{leb}
use borrow.Author.Tests.{lt-leb, le-leb, leb-true}
use Rattle.answers.specs.Outcome as outcome
use Rattle.answers.specs.Outcome.{Outcome, accepted, refused, check}
use Rattle.extended.specs.declared.ExtendedDateTime.{ExtendedDateTime}
use Rattle.primitive.specs.Text.{digit, past}
use Rattle.primitive.proofs.Forward.{run_le}
use Rattle.items.specs.declared.Item.{Item}
use Rattle.answers.specs.Placed.{Placed, fine, refusal, placed, ◌>>=◌, ◌>>◌}
use Rattle.rules.specs.Rules.{empty, gather, add_item, relative_of, relatives}
use Rattle.rules.specs.declared.DateTimeBuilder.{DateTimeBuilder}
use Rattle.rules.proofs.Order.{rules_more, relatives_more}
use Rattle.builder.specs.Building.{built, build}
use Rattle.packet_fields.specs.Fields.{digits_used, unpacked, fields_at}
use Rattle.packet.specs.Packet.{digits_stand, item_at, items_from, build_items}

module _ (bytes area : List ℕ) (base : ExtendedDateTime) where
  -- the answer, with n items from the index i on, behind those of which p and rs were made
  pub rest : ℕ → ℕ → ℕ → Placed DateTimeBuilder → List Relative → Placed ExtendedDateTime
  rest zero i used p rs = placed i (check (leb (length area) used) 5) >> built p rs base
  rest (suc n) i used p rs = placed i (item_at bytes area i used) >>= (λ x. rest n (suc i) (used + digits_used x) (add_item area i x p) (rs ++ relative_of x))

  -- an item in front of the others is one behind those before it
  shifted : (xs : List Item) (x : Item) (q : Placed (List Item)) →
      ((q >>= (λ ys. fine (x ∷ ys))) >>= (λ ys. build area (xs ++ ys) base)) ≡ (q >>= (λ ys. build area ((xs ++ (x ∷ [])) ++ ys) base))
  shifted xs x (fine ys) = ap (λ (zs : List Item). build area zs base) (sym (append_assoc xs (x ∷ []) ys))
  shifted xs x (refusal n at) = refl

  more : (n i used : ℕ) (xs : List Item) (x : Item) (v : Placed ExtendedDateTime) → length xs ≡ i →
      v ≡ rest n (suc i) used (gather area 0 empty (xs ++ (x ∷ []))) (relatives (xs ++ (x ∷ []))) →
      v ≡ rest n (suc i) used (add_item area i x (gather area 0 empty xs)) (relatives xs ++ relative_of x)
  more n i used xs x v l e = rw (rules_more area xs x, relatives_more xs x, l) at e

  longer : (xs : List Item) (x : Item) (i : ℕ) → length xs ≡ i → length (xs ++ (x ∷ [])) ≡ suc i
  longer xs x i l = length-append xs (x ∷ []) ∙ add-one (length xs) ∙ ap suc l

  -- the definition reads all items first
  whole : (n i used : ℕ) (xs : List Item) → length xs ≡ i → (items_from bytes area n i used >>= (λ ys. build area (xs ++ ys) base)) ≡ rest n i used (gather area 0 empty xs) (relatives xs)
  unfolding items_from build rest
  whole zero i used xs l = by (leb (length area) used)
    where
      by : (t : Bool) → ((placed i (check t 5) >> fine []) >>= (λ ys. build area (xs ++ ys) base)) ≡ (placed i (check t 5) >> built (gather area 0 empty xs) (relatives xs) base)
      by true = ap (λ (zs : List Item). build area zs base) (append-nil xs)
      by false = refl
  whole (suc n) i used xs l = by (λ x. whole n (suc i) (used + digits_used x) (xs ++ (x ∷ [])) (longer xs x i l)) (item_at bytes area i used)
    where
      by :
          ((x : Item) →
          (items_from bytes area n (suc i) (used + digits_used x) >>= (λ ys. build area ((xs ++ (x ∷ [])) ++ ys) base))
          ≡ rest n (suc i) (used + digits_used x) (gather area 0 empty (xs ++ (x ∷ []))) (relatives (xs ++ (x ∷ [])))) → (o : Outcome Item) →
          ((placed i o >>= (λ x. items_from bytes area n (suc i) (used + digits_used x) >>= (λ ys. fine (x ∷ ys)))) >>= (λ ys. build area (xs ++ ys) base))
          ≡ (placed i o >>= (λ x. rest n (suc i) (used + digits_used x) (add_item area i x (gather area 0 empty xs)) (relatives xs ++ relative_of x)))
      by later (accepted x) = shifted xs x (items_from bytes area n (suc i) (used + digits_used x)) ∙ more n i (used + digits_used x) xs x _ l (later x)
      by later (refused k) = refl

  -- ---- the loop

  -- what is left of `count` items, the first i of which used up so many digits
  pub left : ℕ → ℕ → ℕ → Placed DateTimeBuilder → List Relative → Placed ExtendedDateTime
  left count i used p rs = rest (count - i) i used p rs

  pub left_start : (count : ℕ) (p : Placed DateTimeBuilder) (rs : List Relative) → p ≡ fine empty → rs ≡ [] → left count 0 0 p rs ≡ build_items bytes area count base
  unfolding left build_items gather relatives
  left_start count p rs e k = let z : count - 0 ≡ count = omega arith in rw (z, e, k) (sym (whole count 0 0 [] refl))

  module _ (count i used : ℕ) (p : Placed DateTimeBuilder) (rs : List Relative) (v : Placed ExtendedDateTime) (inv : left count i used p rs ≡ v) where
    module _ (low : i ≤ count) (h : count ≤ i) where
      pub left_over : used < length area → refusal 5 count ≡ v
      unfolding left rest
      left_over d = let z : count - i ≡ 0 = omega arith in let c : i ≡ count = omega arith in rw (z, lt-leb (length area) used d, c) at inv

      pub left_built : length area ≤ used → (r : Placed ExtendedDateTime) → r ≡ built p rs base → r ≡ v
      unfolding left rest
      left_built d r q = let z : count - i ≡ 0 = omega arith in rw q (rw (z, le-leb (length area) used d) at inv)

    module _ (h : i < count) where
      read : (placed i (item_at bytes area i used) >>= (λ x. rest (count - suc i) (suc i) (used + digits_used x) (add_item area i x p) (rs ++ relative_of x))) ≡ v
      unfolding left rest
      read = let z : count - i ≡ suc (count - suc i) = omega arith in rw z at inv

      pub left_bad : refused 5 ≡ item_at bytes area i used → refusal 5 i ≡ v
      left_bad e = rw (← e) at read

      pub left_next : (x : Item) → accepted x ≡ item_at bytes area i used → (q : Placed DateTimeBuilder) → q ≡ add_item area i x p → (ys : List Relative) → ys ≡ rs ++ relative_of x → (n : ℕ) → n ≡ digits_used x → left count (i + 1) (used + n) q ys ≡ v
      unfolding left
      left_next x e q f ys g n m = rw (add-one i, f, g, m) (rw (← e) at read)

-- ---- digits

past_within : (area : List ℕ) (from : ℕ) → from ≤ length area → past digit area from ≤ length area
unfolding past
past_within area from h = omega (arith, run_le digit (drop from area), length-drop from area)

-- the digits of an item end within the area
pub digits_within : (bytes area : List ℕ) (i used : ℕ) (x : Item) → used ≤ length area → accepted x ≡ item_at bytes area i used → used + digits_used x ≤ length area
unfolding item_at digits_stand
digits_within bytes area i used x h e = by (unpacked (fields_at bytes i) used) e
  where
    stand : (y : Item) (t : Bool) → leb (used + digits_used y) (past digit area used) ≡ t → accepted x ≡ outcome.◌>>◌ (check t 5) (accepted y) → used + digits_used x ≤ length area
    stand y true q g = let s : x ≡ y = cc in rw s (omega (arith, leb-true (used + digits_used y) (past digit area used) q, past_within area used h))
    stand y false q g = let z : ◌≡◌ {A = ℕ} 0 1 = cc in absurd (omega arith)

    by : (o : Outcome Item) → accepted x ≡ outcome.◌>>=◌ o (λ y. outcome.◌>>◌ (check (leb (used + digits_used y) (past digit area used)) 5) (accepted y)) → used + digits_used x ≤ length area
    by (accepted y) g = stand y (leb (used + digits_used y) (past digit area used)) refl g
    by (refused n) g = let z : ◌≡◌ {A = ℕ} 0 1 = cc in absurd (omega arith)
