-- The loops over the ids of a board: what was found so far, with what is in the records not yet seen, is the whole answer. Assumes nothing.
use borrow.Author.Rules.{rules}
use borrow.Author.Tests.{eq-eqb, ne_eqb}
use native.Mathlib.Omega.{arith}
use native.Mathlib.Nat.{add-zero, zero-add, add-suc, suc-add}
use native.Mathlib.Numerals.{add-one}
use Prim.Native.Nat.{ℕ, suc, ◌+◌, ◌<◌, ◌≤◌}
use mathlib.Core.Path.{◌≡◌, refl, sym, ap, ◌∙◌}
use mathlib.Core.Bool.{Bool, true, false, ◌||◌, or-false, or-true, or_assoc, true≢false}
use mathlib.Core.List.{List, [], ◌∷◌, ◌++◌}
use lib.Dec.{eqb}
use lib.ListN.{length, get_or, take, drop, drop_of_length-le, take-append-drop}
use lib.Seq.{drop-cons, take-suc, take_all}
use Rattle.std.proofs.lemmas.Cmp.{nat_eq_equiv}
use Rattle.std.proofs.lemmas.List.Recursion.{or_push}
use Rattle.board.specs.Ids.{has_id, has_twice, place_of}
use Rattle.board.specs.Board.{zeros}
use Rattle.board.specs.declared.Deadline.{Deadline}

-- ---- `has_id`

abbrev pub Unseen : List Deadline → ℕ → ℕ → Bool → Type 0
Unseen records id i found = (found || has_id (drop i records) id) ≡ has_id records id

pub unseen_0 : (records : List Deadline) (id : ℕ) → Unseen records id 0 false
unseen_0 records id = refl

module _ (records : List Deadline) (id i : ℕ) (has : Bool) (inv : Unseen records id i has) where
  pub unseen_next : i < length records → Unseen records id (i + 1) (has || eqb (get_or records i zeros).id id)
  unfolding has_id
  unseen_next h = rw (add-one i) (or_assoc has (eqb (get_or records i zeros).id id) (has_id (drop (suc i) records) id) ∙ ap (λ (l : List Deadline). has || has_id l id) (sym (drop-cons records i zeros h)) ∙ inv)

  pub unseen_end : length records ≤ i → has ≡ has_id records id
  unfolding has_id
  unseen_end h = sym (or-false has) ∙ ap (λ (l : List Deadline). has || has_id l id) (sym (drop_of_length-le records {i = i} h)) ∙ inv

-- ---- `place_of`

abbrev pub Place : List Deadline → ℕ → ℕ → Type 0
Place records id i = i + place_of (drop i records) id ≡ place_of records id

pub place_0 : (records : List Deadline) (id : ℕ) → Place records id 0
place_0 records id = zero-add _

module _ (records : List Deadline) (id i : ℕ) (inv : Place records id i) where
  pub place_here : i < length records → (get_or records i zeros).id ≡ id → i ≡ place_of records id
  unfolding place_of
  place_here h e = sym (add-zero i) ∙ here ∙ inv
    where
      here : i + 0 ≡ i + place_of (drop i records) id
      here = rw (drop-cons records i zeros h, eq-eqb _ _ e) refl

  pub place_next : i < length records → ((get_or records i zeros).id ≡ id → ⊥) → Place records id (i + 1)
  unfolding place_of
  place_next h n = here ∙ inv
    where
      here : i + 1 + place_of (drop (i + 1) records) id ≡ i + place_of (drop i records) id
      here = rw (drop-cons records i zeros h, ne_eqb _ _ n, add-one, add-suc, suc-add) refl

  pub place_end : length records ≤ i → i ≤ length records → length records ≡ place_of records id
  unfolding place_of
  place_end h k = omega (arith, here)
    where
      here : i + 0 ≡ place_of records id
      here = ap (λ (l : List Deadline). i + place_of l id) (sym (drop_of_length-le records {i = i} h)) ∙ inv

-- ---- `has_twice`

or_front : (t u v : Bool) → (u ≡ true → v ≡ true) → (t || u) ≡ true → (t || v) ≡ true
or_front true u v f e = refl
or_front false u v f e = f e

or_both : (t u v w : Bool) → (t ≡ true → v ≡ true) → (u ≡ true → w ≡ true) → (t || u) ≡ true → (v || w) ≡ true
or_both true u v w f g e = rw (f refl) refl
or_both false u v w f g e = rw (g e) (or-true v)

pub ids_joined : (l : List Deadline) (r : Deadline) (id : ℕ) → has_id (l ++ r ∷ []) id ≡ (has_id l id || eqb r.id id)
unfolding has_id
ids_joined l r id = or_push (λ m. has_id m id) (λ x. eqb x.id id) refl (λ x m. refl) l r

id_front : (a b : List Deadline) (id : ℕ) → has_id a id ≡ true → has_id (a ++ b) id ≡ true
unfolding has_id
id_front [] b id e = absurd (true≢false (sym e))
id_front (r ∷ a) b id e = or_front (eqb r.id id) (has_id a id) (has_id (a ++ b) id) (id_front a b id) e

twice_front : (a b : List Deadline) → has_twice a ≡ true → has_twice (a ++ b) ≡ true
unfolding has_twice
twice_front [] b e = absurd (true≢false (sym e))
twice_front (r ∷ a) b e = or_both (has_id a r.id) (has_twice a) (has_id (a ++ b) r.id) (has_twice (a ++ b)) (id_front a b r.id) (twice_front a b) e

regroup : (a b c d e : Bool) → c ≡ d → ((a || c) || (b || e)) ≡ ((a || b) || (d || e))
regroup true b c d e q = refl
regroup false true c d e q = or-true c
regroup false false c d e q = ap (λ t. t || e) q

pub twice_snoc : (l : List Deadline) (r : Deadline) → has_twice (l ++ r ∷ []) ≡ (has_twice l || has_id l r.id)
unfolding has_twice has_id
twice_snoc [] r = refl
twice_snoc (x ∷ l) r = rw (ids_joined l r x.id, twice_snoc l r) (regroup (has_id l x.id) (has_twice l) (eqb r.id x.id) (eqb x.id r.id) (has_id l r.id) (nat_eq_equiv.symm r.id x.id))

-- ---- no id is twice among the records that were looked at

abbrev pub Apart : List Deadline → ℕ → Type 0
Apart records i = has_twice (take i records) ≡ false

pub apart_0 : has_twice [] ≡ false
unfolding has_twice
apart_0 = refl

module _ (records : List Deadline) (i : ℕ) (inv : Apart records i) (h : i < length records) where
  one_more : has_twice (take (i + 1) records) ≡ has_id (take i records) (get_or records i zeros).id
  one_more = rw (add-one i, take-suc records i zeros h, twice_snoc, inv) refl

  pub apart_next : has_id (take i records) (get_or records i zeros).id ≡ false → Apart records (i + 1)
  apart_next e = one_more ∙ e

  pub apart_found : has_id (take i records) (get_or records i zeros).id ≡ true → true ≡ has_twice records
  apart_found e = sym (ap has_twice (sym (take-append-drop (i + 1) records)) ∙ twice_front (take (i + 1) records) (drop (i + 1) records) (one_more ∙ e))

pub apart_end : (records : List Deadline) (i : ℕ) → Apart records i → length records ≤ i → false ≡ has_twice records
apart_end records i inv h = sym (ap has_twice (sym (take_all i records h)) ∙ inv)

pub ruleset ids = (unseen_0, unseen_next, unseen_end, place_0, place_here, place_next, place_end, apart_0, apart_next, apart_found, apart_end, rules)
