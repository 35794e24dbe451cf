-- The record that no record is before is the only one of its kind, and a board with a record has one. Assumes nothing.
use Prim.Native.Nat.{ℕ, zero, suc, ◌+◌, ◌<◌, ◌≤◌}
use mathlib.Core.Path.{◌≡◌, refl, sym, ap, subst, ◌∙◌}
use mathlib.Core.Bool.{Bool, true, false, cond, not, true≢false}
use mathlib.Core.List.{List, [], ◌∷◌}
use lib.ListN.{length, get_or}
use native.Mathlib.Omega.{arith}
use borrow.Author.Count.{below_more}
use borrow.Author.Rules.{rules}
use Rattle.std.proofs.lemmas.Bool.{not-true}
use Rattle.std.proofs.lemmas.List.{get_or_default}
use Rattle.std.proofs.lemmas.List.Recursion.{or_at, or_from_places}
use Rattle.std.specs.Prelude.{Contains, find, Some, None}
use Rattle.board.specs.Order.{before, any_before, first}
use Rattle.board.specs.Board.{zeros}
use Rattle.board.specs.declared.Deadline.{Deadline}
use Rattle.board.proofs.TotalOrder.{never_itself, before_chain, same_record}

-- a is not after any of the first n records
abbrev pub Upto : List Deadline → ℕ → Deadline → Type 0
Upto records n a = (k : ℕ) → k < n → before (get_or records k zeros) a ≡ false

-- a is one of the records, and is not after any of them
abbrev pub Least : List Deadline → Deadline → Type 0
Least records a = Contains records a × Upto records (length records) a

-- ---- `any_before` by places

none_before : (records : List Deadline) (a : Deadline) → Upto records (length records) a → any_before records a ≡ false
unfolding any_before
none_before records a h = or_from_places (λ l. any_before l a) (λ b. before b a) refl (λ b l. refl) records zeros h

not_before : (records : List Deadline) (a : Deadline) → any_before records a ≡ false → Upto records (length records) a
unfolding any_before
not_before records a e k l = by (before (get_or records k zeros) a) refl
  where
    by : (t : Bool) → before (get_or records k zeros) a ≡ t → t ≡ false
    by false q = refl
    by true q = absurd (true≢false (sym (or_at (λ m. any_before m a) (λ b. before b a) refl (λ b m. refl) records k zeros l q) ∙ e))

pub not_after_member : (records : List Deadline) (a b : Deadline) → Upto records (length records) a → Contains records b → before b a ≡ false
not_after_member records a b h (k, l, e) = subst (λ r. before r a ≡ false) (get_or_default records k zeros b l ∙ e) (h k l)

-- ---- what a search finds
record Found (f : Deadline → Bool) (records : List Deadline) : Type 0 where
  it : Deadline
  is : find f records ≡ Some it
  within : Contains records it
  passes : f it ≡ true

later : (r : Deadline) (records : List Deadline) (a : Deadline) → Contains records a → Contains (r ∷ records) a
later r records a (k, l, e) = (suc k, omega arith, e)

skipped : (f : Deadline → Bool) (r : Deadline) (records : List Deadline) → f r ≡ false → Found f records → Found f (r ∷ records)
skipped f r records e rest =
    record { it = rest.it; is = ap (λ t. cond t (Some r) (find f records)) e ∙ rest.is; within = later r records rest.it rest.within; passes = rest.passes }

found : (f : Deadline → Bool) (records : List Deadline) (k : ℕ) (a : Deadline) → k < length records → get_or records k a ≡ a → f a ≡ true → Found f records
found f [] k a l e p = absurd (omega arith)
found f (r ∷ records) zero a l e p =
    let passes : f r ≡ true = ap f e ∙ p in
    record { it = r; is = ap (λ t. cond t (Some r) (find f records)) passes; within = (0, omega arith, refl); passes = passes }
found f (r ∷ records) (suc k) a l e p = by (f r) refl (found f records k a (omega arith) e p)
  where
    by : (t : Bool) → f r ≡ t → Found f records → Found f (r ∷ records)
    by true q rest = record { it = r; is = ap (λ t. cond t (Some r) (find f records)) q; within = (0, omega arith, refl); passes = q }
    by false q rest = skipped f r records q rest

pub first_is : (records : List Deadline) (a : Deadline) → Least records a → first records ≡ Some a
unfolding first
first_is records a (within, least) =
    let search = found (λ b. not (any_before records b)) records within.0 a within.1 within.2 (ap not (none_before records a least)) in
    let it = not_before records search.it (not-true (any_before records search.it) search.passes) in
    let same : search.it ≡ a = same_record search.it a (not_after_member records a search.it least search.within) (not_after_member records search.it a it within) in
    search.is ∙ ap Some same

-- ---- a board with a record has a least one

before_back : (a b : Deadline) → before a b ≡ true → before b a ≡ false
before_back a b e = by (before b a) refl
  where
    by : (t : Bool) → before b a ≡ t → t ≡ false
    by false q = refl
    by true q = absurd (true≢false (sym (before_chain a b a e q) ∙ never_itself a))

-- if c is not before b, and b is not before a, then c is not before a
not_chain : (c b a : Deadline) → before c b ≡ false → before b a ≡ false → before c a ≡ false
not_chain c b a h k = by (before c a) (before a b) refl refl
  where
    by : (t u : Bool) → before c a ≡ t → before a b ≡ u → t ≡ false
    by false u p q = refl
    by true true p q = absurd (true≢false (sym (before_chain c a b p q) ∙ h))
    by true false p q = absurd (true≢false (sym p ∙ ap (before c) (same_record a b q k) ∙ h))

with_least : (r : Deadline) (records : List Deadline) → (a : Deadline) × Least (r ∷ records) a
with_least r [] = (r, ((0, omega arith, refl), only))
  where
    only : Upto (r ∷ []) (length (r ∷ [])) r
    only zero l = never_itself r
    only (suc k) l = absurd (omega arith)
with_least r (x ∷ records) = by (with_least x records)
  where
    by : ((a : Deadline) × Least (x ∷ records) a) → (a : Deadline) × Least (r ∷ x ∷ records) a
    by (b, (within, least)) = on (before r b) refl
      where
        on : (t : Bool) → before r b ≡ t → (a : Deadline) × Least (r ∷ x ∷ records) a
        on false e = (b, (later r (x ∷ records) b within, all))
          where
            all : Upto (r ∷ x ∷ records) (length (r ∷ x ∷ records)) b
            all zero l = e
            all (suc k) l = least k (omega arith)
        on true e = (r, ((0, omega arith, refl), all))
          where
            b_not : before b r ≡ false
            b_not = before_back r b e

            all : Upto (r ∷ x ∷ records) (length (r ∷ x ∷ records)) r
            all zero l = never_itself r
            all (suc k) l = not_chain (get_or (x ∷ records) k zeros) b r (least k (omega arith)) b_not

pub first_least : (records : List Deadline) → 0 < length records → (a : Deadline) × (first records ≡ Some a) × Least records a
first_least [] h = absurd (omega arith)
first_least (r ∷ records) h = let it = with_least r records in (it.0, first_is (r ∷ records) it.0 it.1, it.1)

-- ---- `order::first`, record by record

pub first_of_none : (records : List Deadline) → length records ≡ 0 → None ≡ first records
unfolding first
first_of_none [] e = refl
first_of_none (r ∷ records) e = absurd (omega arith)

-- a is one of the records, and is not after any that was looked at
pub record Sofar (records : List Deadline) (i : ℕ) (a : Deadline) : Type 0 where
  pub within : Contains records a
  pub least : Upto records i a

pub sofar_0 : (records : List Deadline) → (length records ≡ 0 → ⊥) → Sofar records 0 (get_or records 0 zeros)
sofar_0 records n = record { within = (0, omega arith, get_or_default records 0 _ zeros (omega arith)); least = λ k l. absurd (omega arith) }

module _ (records : List Deadline) (i : ℕ) (a : Deadline) (inv : Sofar records i a) where
  replaced : before (get_or records i zeros) a ≡ true → Upto records (i + 1) (get_or records i zeros)
  replaced e = below_more _ _ (λ k l. not_later k (inv.least k l)) (never_itself (get_or records i zeros))
    where
      not_later : (k : ℕ) → before (get_or records k zeros) a ≡ false → before (get_or records k zeros) (get_or records i zeros) ≡ false
      not_later k n = by (before (get_or records k zeros) (get_or records i zeros)) refl
        where
          by : (t : Bool) → before (get_or records k zeros) (get_or records i zeros) ≡ t → t ≡ false
          by false q = refl
          by true q = absurd (true≢false (sym (before_chain _ _ _ q e) ∙ n))

  pub sofar_next : (b : Deadline) → i < length records → b ≡ cond (before (get_or records i zeros) a) (get_or records i zeros) a → Sofar records (i + 1) b
  sofar_next b h e = by (before (get_or records i zeros) a) refl
    where
      by : (t : Bool) → before (get_or records i zeros) a ≡ t → Sofar records (i + 1) b
      by true q = let is : b ≡ get_or records i zeros = e ∙ ap (λ t. cond t (get_or records i zeros) a) q in
          subst (Sofar records (i + 1)) (sym is) (record { within = (i, h, get_or_default records i _ zeros h); least = replaced q })
      by false q = let is : b ≡ a = e ∙ ap (λ t. cond t (get_or records i zeros) a) q in
          subst (Sofar records (i + 1)) (sym is) (record { within = inv.within; least = below_more _ _ inv.least q })

pub sofar_end : (records : List Deadline) (i : ℕ) (a : Deadline) → Sofar records i a → length records ≤ i → Some a ≡ first records
sofar_end records i a inv h = sym (first_is records a (inv.within, λ k l. inv.least k (omega arith)))

pub ruleset least = (first_of_none, sofar_0, rules)
