-- The run after a record joins or leaves: what the code stores is what the definitions say. Assumes nothing.
use native.Mathlib.Omega.{arith}
use native.Mathlib.Nat.{le_of_lt}
use native.Mathlib.Nat.{suc-add}
use native.Mathlib.Numerals.{add-one}
use Prim.Native.Nat.{ℕ, suc, ◌+◌, ◌-◌, ◌<◌, ◌≤◌}
use mathlib.Core.Path.{◌≡◌, refl, sym, ap, subst, ◌∙◌}
use mathlib.Core.Bool.{Bool, true, false, cond, not, ◌||◌, true≢false}
use mathlib.Core.List.{List, [], ◌∷◌, ◌++◌}
use borrow.Author.Tests.{eqb-true}
use lib.Dec.{eqb}
use lib.ListN.{length, get_or, take, drop, set, length-append, length-drop}
use lib.Seq.{drop-cons, set_split, set_at, paste, length_paste_head, take-take, append_snoc, length-take-le}
use Rattle.board.specs.Ids.{has_id, has_twice, without, place_of}
use Rattle.board.specs.Board.{zeros}
use Rattle.board.specs.declared.Deadline.{Deadline}
use Rattle.std.proofs.lemmas.Bool.{or_parts}
use Rattle.std.proofs.lemmas.List.{drop-take}

-- ---- the records without an id

without_none : (l : List Deadline) (id : ℕ) → has_id l id ≡ false → without l id ≡ l
unfolding without has_id
without_none [] id e = refl
without_none (r ∷ l) id e =
    let parts = or_parts (eqb r.id id) (has_id l id) e in
    ap (λ t. cond (not t) (r ∷ without l id) (without l id)) parts.0 ∙ ap (λ (m : List Deadline). r ∷ m) (without_none l id parts.1)

-- where no id is twice, one record goes
without_one : (l : List Deadline) (id : ℕ) → has_twice l ≡ false → without l id ≡ take (place_of l id) l ++ drop (suc (place_of l id)) l
unfolding without place_of has_twice
without_one [] id e = refl
without_one (r ∷ l) id e = by (eqb r.id id) refl (or_parts (has_id l r.id) (has_twice l) e) (λ f. without_one l id f)
  where
    by : (t : Bool) → eqb r.id id ≡ t → (has_id l r.id ≡ false) × (has_twice l ≡ false) → (has_twice l ≡ false → without l id ≡ take (place_of l id) l ++ drop (suc (place_of l id)) l)
        → without (r ∷ l) id ≡ take (place_of (r ∷ l) id) (r ∷ l) ++ drop (suc (place_of (r ∷ l) id)) (r ∷ l)
    by true q parts rest = rw (q) (without_none l id (ap (has_id l) (sym (eqb-true r.id id q)) ∙ parts.0))
    by false q parts rest = rw (q) (ap (λ (m : List Deadline). r ∷ m) (rest parts.1))

-- ---- places and lengths

pub placed : (l : List Deadline) (id : ℕ) → has_id l id ≡ true → place_of l id < length l
unfolding has_id place_of
placed [] id e = absurd (true≢false (sym e))
placed (r ∷ l) id e = by (eqb r.id id) refl e (placed l id)
  where
    by : (t : Bool) → eqb r.id id ≡ t → (eqb r.id id || has_id l id) ≡ true → (has_id l id ≡ true → place_of l id < length l) → cond (eqb r.id id) 0 (suc (place_of l id)) < length (r ∷ l)
    by true q e rest = rw q (omega arith)
    by false q e rest = let h : place_of l id < length l = rest (sym (ap (λ t. t || has_id l id) q) ∙ e) in rw q (omega arith)

pub no_place : (l : List Deadline) (id : ℕ) → has_id l id ≡ false → place_of l id ≡ length l
unfolding has_id place_of
no_place [] id e = refl
no_place (r ∷ l) id e = let parts = or_parts (eqb r.id id) (has_id l id) e in rw (parts.0) (ap suc (no_place l id parts.1))

-- one record goes
pub one_fewer : (l : List Deadline) (id : ℕ) → has_twice l ≡ false → has_id l id ≡ true → length (without l id) + 1 ≡ length l
one_fewer l id e f =
    let p = place_of l id in
    let at : p < length l = placed l id f in
    let whole : length (without l id) ≡ length (take p l) + length (drop (suc p) l) = ap length (without_one l id e) ∙ length-append (take p l) (drop (suc p) l) in
    omega (arith, whole, length-take-le p l (le_of_lt at), length-drop (suc p) l, at)

-- ---- a record leaves from place p, and m records are after it
module _ (run : List Deadline) (p m : ℕ) (h : p + m < length run) where
  abbrev kept : List Deadline
  kept = take p run ++ take m (drop (suc p) run)

  kept_length : length kept ≡ p + m
  kept_length = length_paste_head run p (drop (suc p) run) m (omega arith) (subst (λ k. m ≤ k) (sym (length-drop (suc p) run)) (omega arith))

  stored : set (paste run p (drop (suc p) run) m) (p + m) zeros ≡ kept ++ zeros ∷ drop (suc (p + m)) run
  stored = ap (λ r. set (kept ++ r) (p + m) zeros) (drop-cons run (p + m) zeros h) ∙ set_at kept (get_or run (p + m) zeros) (drop (suc (p + m)) run) zeros (p + m) kept_length

  module _ (id : ℕ) (apart : has_twice (take (suc (p + m)) run) ≡ false) (is : p ≡ place_of (take (suc (p + m)) run) id) where
    without_kept : without (take (suc (p + m)) run) id ≡ kept
    without_kept =
        without_one (take (suc (p + m)) run) id apart
        ∙ ap (λ k. take k (take (suc (p + m)) run) ++ drop (suc k) (take (suc (p + m)) run)) (sym is)
        ∙ ap (λ l. l ++ drop (suc p) (take (suc (p + m)) run)) (take-take p (suc (p + m)) run (omega arith))
        ∙ ap (λ k. take p run ++ drop (suc p) (take k run)) (sym (suc-add p m))
        ∙ ap (λ l. take p run ++ l) (drop-take (suc p) m run)

-- The run after record p of the first `count` has left, as the code stores it: the later records copied down by one place, then zeros.
abbrev TakenOut : List Deadline → ℕ → ℕ → ℕ → Type 0
TakenOut run p id count =
    has_twice (take count run) ≡ false → p ≡ place_of (take count run) id → count ≤ length run
    → (set (paste run p (drop (p + 1) run) (count - (p + 1))) (count - 1) zeros ≡ without (take count run) id ++ zeros ∷ drop count run) × (length (without (take count run) id) ≡ count - 1)

taken_out_by : (run : List Deadline) (p m id : ℕ) → TakenOut run p id (suc (p + m))
taken_out_by run p m id apart is h =
    let within : p + m < length run = omega arith in
    let less : suc (p + m) - (p + 1) ≡ m = omega arith in
    let one : suc (p + m) - 1 ≡ p + m = omega arith in
    let gone : without (take (suc (p + m)) run) id ≡ kept run p m within = without_kept run p m within id apart is in (
      rw (less, one, gone, add-one p) (stored run p m within),
      rw (gone, one) (kept_length run p m within),
    )

pub taken_out : (run : List Deadline) (p id count : ℕ) → p < count → TakenOut run p id count
taken_out run p id count l = let is : suc (p + (count - suc p)) ≡ count = omega arith in subst (TakenOut run p id) is (taken_out_by run p (count - suc p) id)

-- the run after a record has joined
pub joined : (run : List Deadline) (count : ℕ) (r : Deadline) → count < length run → set run count r ≡ take count run ++ r ∷ [] ++ drop (suc count) run
joined run count r h = set_split run count r h ∙ sym (append_snoc (take count run) r (drop (suc count) run))
