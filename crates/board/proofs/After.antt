-- The board after a call: which ids are on it, that no id is twice, and what the next call finds. Assumes nothing.
use borrow.Author.Tests.{eqb-true, eqb-false, ne_eqb, eq-eqb, le-leb}
use native.Mathlib.Omega.{arith}
use Prim.Native.Nat.{ℕ, suc, ◌+◌, ◌≤◌}
use mathlib.Core.Path.{◌≡◌, refl, sym, ap, ◌∙◌}
use mathlib.Core.Bool.{Bool, true, false, not, ◌&&◌, ◌||◌, or-true}
use mathlib.Core.List.{List, [], ◌∷◌, ◌++◌}
use lib.Dec.{eqb}
use lib.ListN.{length, take, drop, set, length-append, length-drop}
use lib.Seq.{length-take-le, take-append_seam, drop-append_seam, set_split}
use Rattle.answers.specs.Outcome.{accepted}
use Rattle.board.specs.Ids.{has_id, has_twice, without}
use Rattle.board.specs.Board.{zeros, test_run, test_join, test_leave, next, join, leave, run_joined, run_left}
use Rattle.board.specs.declared.Deadline.{Deadline}
use Rattle.answers.proofs.Outcomes.{first_passed, same}
use Rattle.board.proofs.Runs.{one_fewer}
use Rattle.std.proofs.lemmas.Bool.{or_parts}
use Rattle.board.proofs.IdLoops.{ids_joined, twice_snoc}
use Rattle.board.proofs.CallTests.{Tested, tested, Joins, joining, Leaves, leaving}

-- ---- which ids are on the board

none_of : (t : Bool) → false ≡ (not t && false)
none_of true = refl
none_of false = refl

gone : (t h : Bool) → (not t && h) ≡ (not t && (t || h))
gone true h = refl
gone false h = refl

stayed : (t u h : Bool) → (t ≡ true → u ≡ false) → (u || (not t && h)) ≡ (not t && (u || h))
stayed true u h f = rw (f refl) refl
stayed false u h f = refl

-- after a plug-in has left: the same, without its id
pub ids_left : (l : List Deadline) (id x : ℕ) → has_id (without l id) x ≡ (not (eqb id x) && has_id l x)
unfolding has_id without
ids_left [] id x = none_of (eqb id x)
ids_left (r ∷ l) id x = by (eqb r.id id) refl (ids_left l id x)
  where
    by : (t : Bool) → eqb r.id id ≡ t → has_id (without l id) x ≡ (not (eqb id x) && has_id l x) → has_id (without (r ∷ l) id) x ≡ (not (eqb id x) && (eqb r.id x || has_id l x))
    by true q ih = let is : r.id ≡ id = eqb-true r.id id q in rw (q, is, ih) (gone (eqb id x) (has_id l x))
    by false q ih =
        let apart : eqb id x ≡ true → eqb r.id x ≡ false = λ f. ne_eqb r.id x (λ (g : r.id ≡ x). eqb-false r.id id q (g ∙ sym (eqb-true id x f))) in
        rw (q, ih) (stayed (eqb id x) (eqb r.id x) (has_id l x) apart)

-- ---- no id is twice

apart_left : (l : List Deadline) (id : ℕ) → has_twice l ≡ false → has_twice (without l id) ≡ false
unfolding has_twice without
apart_left [] id e = refl
apart_left (r ∷ l) id e = by (eqb r.id id) refl (or_parts (has_id l r.id) (has_twice l) e) (λ f. apart_left l id f)
  where
    by : (t : Bool) → eqb r.id id ≡ t → (has_id l r.id ≡ false) × (has_twice l ≡ false) → (has_twice l ≡ false → has_twice (without l id) ≡ false) → has_twice (without (r ∷ l) id) ≡ false
    by true q parts ih = rw q (ih parts.1)
    by false q parts ih = rw (q, ids_left l id r.id, parts.0, ih parts.1) (ap (λ t. t || false) (sym (none_of (eqb id r.id))))

apart_joined : (l : List Deadline) (r : Deadline) → has_twice l ≡ false → has_id l r.id ≡ false → has_twice (l ++ r ∷ []) ≡ false
apart_joined l r e f = rw (twice_snoc l r, e, f) refl

-- ---- the next call

-- a board whose records are at the front of its run
seated : (records rest : List Deadline) → length (records ++ rest) ≤ 128 → has_twice records ≡ false → next (records ++ rest) (length records) ≡ accepted records
unfolding next test_run
seated records rest h e =
    let within : length records ≤ length (records ++ rest) = omega (arith, length-append records rest) in
    rw (le-leb (length (records ++ rest)) 128 h, le-leb (length records) (length (records ++ rest)) within, take-append_seam records rest, e) refl

-- ---- what is known of an accepted call

module _ (run : List Deadline) (count : ℕ) where
  pub next_tested : (records : List Deadline) → next run count ≡ accepted records → test_run run count ≡ accepted tt
  unfolding next
  next_tested records e = (first_passed (test_run run count) (accepted (take count run)) e).0

  pub next_seated : (records : List Deadline) → next run count ≡ accepted records → Tested run count × (records ≡ take count run)
  unfolding next
  next_seated records e = let both = first_passed (test_run run count) (accepted (take count run)) e in (tested run count both.0, same (sym both.1))

  module _ (r : Deadline) (records : List Deadline) (e : join run count r ≡ accepted records) where
    pub joined_is : Joins run count r × (records ≡ take count run ++ r ∷ [])
    unfolding join
    joined_is = let both = first_passed (test_join run count r) (accepted (take count run ++ r ∷ [])) e in (joining run count r both.0, same (sym both.1))

    pub joined_length : length records ≡ count + 1
    joined_length = ap length joined_is.1 ∙ length-append (take count run) (r ∷ []) ∙ ap (λ k. k + 1) (length-take-le count run (omega (arith, joined_is.0.room)))

    pub joined_over : run_joined run count r ≡ records ++ drop (suc count) run
    unfolding run_joined
    joined_over = rw e refl

    pub joined_places : length (run_joined run count r) ≡ length run
    joined_places = ap length joined_over ∙ length-append records (drop (suc count) run) ∙ omega (arith, joined_length, length-drop (suc count) run, joined_is.0.room)

    joined_apart : has_twice records ≡ false
    joined_apart = ap has_twice joined_is.1 ∙ apart_joined (take count run) r joined_is.0.tested.apart joined_is.0.absent

    pub joined_next : next (run_joined run count r) (length records) ≡ accepted records
    joined_next =
        let places : length (records ++ drop (suc count) run) ≤ 128 = omega (arith, joined_places, ap length joined_over, joined_is.0.tested.places) in
        rw joined_over (seated records (drop (suc count) run) places joined_apart)

  module _ (id : ℕ) (records : List Deadline) (e : leave run count id ≡ accepted records) where
    pub left_is : Leaves run count id × (records ≡ without (take count run) id)
    unfolding leave
    left_is = let both = first_passed (test_leave run count id) (accepted (without (take count run) id)) e in (leaving run count id both.0, same (sym both.1))

    pub left_length : length records + 1 ≡ count
    left_length = ap (λ l. length l + 1) left_is.1 ∙ one_fewer (take count run) id left_is.0.tested.apart left_is.0.present ∙ length-take-le count run left_is.0.tested.within

    pub left_over : run_left run count id ≡ records ++ zeros ∷ drop count run
    unfolding run_left
    left_over = rw e refl

    pub left_places : length (run_left run count id) ≡ length run
    left_places = ap length left_over ∙ length-append records (zeros ∷ drop count run) ∙ omega (arith, left_length, length-drop count run, left_is.0.tested.within)

    pub left_next : next (run_left run count id) (length records) ≡ accepted records
    left_next =
        let places : length (records ++ zeros ∷ drop count run) ≤ 128 = omega (arith, left_places, ap length left_over, left_is.0.tested.places) in
        let apart : has_twice records ≡ false = ap has_twice left_is.1 ∙ apart_left (take count run) id left_is.0.tested.apart in
        rw left_over (seated records (zeros ∷ drop count run) places apart)

-- the tests that a plug-in that leaves has passed
pub leave_tested : (run : List Deadline) (count id : ℕ) (records : List Deadline) → leave run count id ≡ accepted records → test_run run count ≡ accepted tt
unfolding leave test_leave
leave_tested run count id records e =
    let tests = (first_passed (test_leave run count id) (accepted (without (take count run) id)) e).0 in
    (first_passed (test_run run count) _ tests).0

-- ---- a plug-in that joins and leaves again

without_last : (l : List Deadline) (r : Deadline) → has_id l r.id ≡ false → without (l ++ r ∷ []) r.id ≡ l
unfolding without has_id
without_last [] r e = rw (eq-eqb r.id r.id refl) refl
without_last (x ∷ l) r e =
    let parts = or_parts (eqb x.id r.id) (has_id l r.id) e in
    rw parts.0 (ap (λ (m : List Deadline). x ∷ m) (without_last l r parts.1))

-- the plug-in that joined leaves again: the others are on the board, and the run is as it was, but for zeros in the place after them
module _ (run : List Deadline) (count : ℕ) (r : Deadline) (records : List Deadline) (e : join run count r ≡ accepted records) where
  there : Joins run count r × (records ≡ take count run ++ r ∷ [])
  there = joined_is run count r records e

  seen : next (run_joined run count r) (length records) ≡ accepted records
  seen = joined_next run count r records e

  front : take (length records) (run_joined run count r) ≡ records
  front = sym (next_seated (run_joined run count r) (length records) records seen).1

  back_tested : test_leave (run_joined run count r) (length records) r.id ≡ accepted tt
  unfolding test_leave
  back_tested =
      let present : has_id records r.id ≡ true = ap (λ l. has_id l r.id) there.1 ∙ ids_joined (take count run) r r.id ∙ ap (λ t. has_id (take count run) r.id || t) (eq-eqb r.id r.id refl) ∙ or-true _ in
      rw (next_tested (run_joined run count r) (length records) records seen, front, present) refl

  pub back : leave (run_joined run count r) (length records) r.id ≡ accepted (take count run)
  unfolding leave
  back = rw (back_tested, front) (ap accepted (ap (λ l. without l r.id) there.1 ∙ without_last (take count run) r there.0.absent))

  pub back_run : run_left (run_joined run count r) (length records) r.id ≡ set run count zeros
  unfolding run_left
  back_run =
      rw (back, joined_over run count r records e, drop-append_seam records (drop (suc count) run)) (sym (set_split run count zeros there.0.room))

  pub next_before : next run count ≡ accepted (take count run)
  unfolding join test_join next
  next_before =
      let tests = (first_passed (test_join run count r) (accepted (take count run ++ r ∷ [])) e).0 in
      rw (first_passed (test_run run count) _ tests).0 refl
