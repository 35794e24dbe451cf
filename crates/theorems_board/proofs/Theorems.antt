-- What the deadline board promises a host, over its calls, for any run, count and record. Assumes nothing.
use native.Mathlib.Omega.{arith}
use borrow.Author.Rules.{rules}
use borrow.Author.Tests.{le-leb, eq-eqb}
use mathlib.Core.Logic.{◌⊎◌, inl, inr}
use Prim.Native.Nat.{ℕ, zero, suc, ◌+◌, ◌<◌, ◌≤◌, zero-le}
use mathlib.Core.Path.{◌≡◌, refl, sym, ap, subst, ◌∙◌}
use mathlib.Core.Bool.{Bool, true, false, cond, not, or-true}
use mathlib.Core.List.{List, [], ◌∷◌, ◌++◌}
use lib.Dec.{eqb}
use lib.ListN.{length, get_or, take, drop, set}
use lib.Seq.{length-take-le}
use Rattle.std.specs.Prelude.{Option, Some, unwrap_or, Contains}
use Rattle.std.proofs.lemmas.List.{get_or_default}
use Rattle.answers.specs.Outcome.{Outcome, accepted, refused}
use Rattle.answers.proofs.Outcomes.{same}
use Rattle.board.specs.Order.{before, first}
use Rattle.board.specs.Ids.{has_id, has_twice, without}
use Rattle.board.specs.Board.{zeros, test_run, test_join, test_leave, next, join, leave, held_of, answered, run_joined, run_left}
use Rattle.board.specs.declared.Deadline.{Deadline}
use Rattle.board.proofs.TotalOrder.{same_record}
use Rattle.board.proofs.Least.{Least, first_is, first_least, first_of_none, not_after_member}
use Rattle.board.proofs.IdLoops.{ids_joined}
use Rattle.board.proofs.CallTests.{Tested, tested, Joins, Leaves}
use Rattle.board.proofs.Runs.{joined as set_joined}
use Rattle.board.proofs.After.{ids_left, next_tested, next_seated, joined_is, joined_over, joined_length, joined_places, joined_next, left_is, left_over, left_length, left_places, left_next, leave_tested, back, back_run, next_before}
use Rattle.host_answers.specs.Hosts.{board_answer}
use Rattle.host_answers.specs.declared.BoardAnswer.{BoardAnswer}
use Rattle.host_calls.specs.Calls.{BoardCall, Join, Leave, Next, records_after, board_of, run_after}
use Rattle.host_calls.specs.Given.{has, board_numbers}
use Rattle.host_calls.proofs.Numbered.{Numbered, value, by_number, next as then_next, check_numbered, positive}
use Rattle.theorems_board.specs.Promises.{run_of, count_of, on_board, Answers, a_board, no_board, First, Reached, empty, after, written, reached_numbers}

-- ---- which numbers a call can give

run_numbered : (g : List ℕ) → has g 1 ≡ true → has g 5 ≡ true → (run : List Deadline) (count : ℕ) → Numbered g (test_run run count)
unfolding test_run
run_numbered g e f run count = search (then_next, check_numbered, rules)

numbered : (call : BoardCall) → Numbered (board_numbers call) (records_after call)
unfolding next join test_join leave test_leave
numbered (Join run count r) = search (then_next, check_numbered, run_numbered, value, rules)
numbered (Leave run count id) = search (then_next, check_numbered, run_numbered, value, rules)
numbered (Next run count) = search (then_next, run_numbered, value, rules)

no_0 : (call : BoardCall) → has (board_numbers call) 0 ≡ false
no_0 (Join run count r) = refl
no_0 (Leave run count id) = refl
no_0 (Next run count) = refl

-- the same where the run, the count and the ids have passed their tests
numbered_tested : (call : BoardCall) → test_run (run_of call) (count_of call) ≡ accepted tt → Numbered (reached_numbers call) (records_after call)
unfolding next join test_join leave test_leave
numbered_tested (Join run count r) t = rw t (search (then_next, check_numbered, value, rules))
numbered_tested (Leave run count id) t = rw t (search (then_next, check_numbered, value, rules))
numbered_tested (Next run count) t = rw t (value _)

-- ---- an accepted call, and the records on the board after it

record Accepted (call : BoardCall) : Type 0 where
  records : List Deadline
  is : records_after call ≡ accepted records
  answer : board_of call ≡ board_answer (accepted (held_of records))

accepted_call : (call : BoardCall) → (board_of call).number ≡ 0 → Accepted call
unfolding board_answer answered
accepted_call call e = by (records_after call) refl (numbered call) e
  where
    by : (o : Outcome (List Deadline)) → records_after call ≡ o → Numbered (board_numbers call) o → (board_answer (answered o)).number ≡ 0 → Accepted call
    by (accepted records) q n z = record { records = records; is = q; answer = ap (λ o. board_answer (answered o)) q }
    by o q (by_number k h) z = absurd (omega (arith, positive (board_numbers call) k (no_0 call) h))

-- What a call leaves is a board that `next` finds the same records on.
left_seated : (call : BoardCall) (records : List Deadline) → records_after call ≡ accepted records → next (run_after call) (length records) ≡ accepted records
left_seated (Join run count r) records e = joined_next run count r records e
left_seated (Leave run count id) records e = left_next run count id records e
left_seated (Next run count) records e = same_board (next_seated run count records e)
  where
    same_board : Tested run count × (records ≡ take count run) → next run (length records) ≡ accepted records
    same_board (t, is) = ap (next run) (ap length is ∙ length-take-le count run t.within) ∙ e

-- what a call leaves passes the tests of the next one
left_tested : (call : BoardCall) (records : List Deadline) → records_after call ≡ accepted records → Tested (run_after call) (length records) × (records ≡ take (length records) (run_after call))
left_tested call records e = next_seated (run_after call) (length records) records (left_seated call records e)

-- a run keeps its places
as_long : (call : BoardCall) (records : List Deadline) → records_after call ≡ accepted records → length (run_after call) ≡ length (run_of call)
as_long (Join run count r) records e = joined_places run count r records e
as_long (Leave run count id) records e = left_places run count id records e
as_long (Next run count) records e = refl

-- ---- every call is answered

unchanged : (call : BoardCall) (k : ℕ) → records_after call ≡ refused k → run_after call ≡ run_of call
unfolding run_joined run_left
unchanged (Join run count r) k e = rw e refl
unchanged (Leave run count id) k e = rw e refl
unchanged (Next run count) k e = refl

-- Every call of the board is answered: number 0, or one refusal with a number of its list, no plug-in, zeros, and every place as it was.
pub one_answer : (call : BoardCall) → Answers call
unfolding board_answer answered held_of
one_answer call = by (records_after call) refl (numbered call)
  where
    by : (o : Outcome (List Deadline)) → records_after call ≡ o → Numbered (board_numbers call) o → Answers call
    by (accepted records) e n =
        let t = left_tested call records e in
        let long = as_long call records e in
        let within : length records ≤ length (run_of call) = omega (arith, t.0.within, long) in
        let places : length (run_of call) ≤ 128 = omega (arith, t.0.places, long) in
        a_board (rw e refl) (rw e within) places
    by o e (by_number k h) = no_board (rw e h) (rw e refl) (rw e refl) (unchanged call k e)

-- Every call leaves as many places as were lent.
pub same_places : (call : BoardCall) → length (run_after call) ≡ length (run_of call)
same_places call = by (records_after call) refl (numbered call)
  where
    by : (o : Outcome (List Deadline)) → records_after call ≡ o → Numbered (board_numbers call) o → length (run_after call) ≡ length (run_of call)
    by (accepted records) e n = as_long call records e
    by o e (by_number k h) = ap length (unchanged call k e)

-- ---- one call after another

module _ (call : BoardCall) (e : (board_of call).number ≡ 0) where
  done : Accepted call
  done = accepted_call call e

  counted : (board_of call).count ≡ length done.records
  unfolding board_answer held_of
  counted = ap (λ (a : BoardAnswer). a.count) done.answer

  -- a call after it passes the tests of the run
  passes : test_run (run_after call) (board_of call).count ≡ accepted tt
  passes = ap (test_run (run_after call)) counted ∙ next_tested (run_after call) (length done.records) done.records (left_seated call done.records done.is)

  -- After an accepted call no id is twice within the count that was answered.
  pub ids_apart : has_twice (on_board call) ≡ false
  ids_apart = ap (λ k. has_twice (take k (run_after call))) counted ∙ (left_tested call done.records done.is).0.apart

  -- After an accepted call `next` answers what that call answered.
  pub next_after : board_of (Next (run_after call) (board_of call).count) ≡ board_of call
  unfolding answered
  next_after =
      ap (λ k. board_of (Next (run_after call) k)) counted ∙ ap (λ o. board_answer (answered o)) (left_seated call done.records done.is) ∙ sym done.answer

-- If the plug-in that joined leaves again, the run is as it was before, but for zeros in the place that it had, and the answer is that of `next`
-- before it joined.
module _ (run : List Deadline) (count : ℕ) (r : Deadline) (e : (board_of (Join run count r)).number ≡ 0) where
  -- the call that takes it out again
  abbrev again : BoardCall
  again = Leave (run_after (Join run count r)) (board_of (Join run count r)).count r.id

  pub there_and_back : (run_after again ≡ set run count zeros) × (board_of again ≡ board_of (Next run count))
  there_and_back =
      let join = done (Join run count r) e in
      let seen = counted (Join run count r) e in (
        ap (λ k. run_left (run_joined run count r) k r.id) seen ∙ back_run run count r join.records join.is,
        ap (λ k. board_of (Leave (run_joined run count r) k r.id)) seen ∙ ap (λ o. board_answer (answered o)) (back run count r join.records join.is ∙ sym (next_before run count r join.records join.is)),
      )

-- ---- a board that begins empty

empty_tested : (run : List Deadline) → length run ≤ 128 → test_run run 0 ≡ accepted tt
unfolding test_run has_twice
empty_tested run h = rw (le-leb (length run) 128 h, le-leb 0 (length run) zero-le) refl

rewritten : (run other : List Deadline) (count : ℕ) → test_run run count ≡ accepted tt → length other ≡ length run → has_twice (take count other) ≡ false → test_run other count ≡ accepted tt
unfolding test_run
rewritten run other count t long apart =
    let passed = tested run count t in
    rw (long, le-leb (length run) 128 passed.places, le-leb count (length run) passed.within, apart) refl

reached_tested : {run : List Deadline} {count : ℕ} → Reached run count → test_run run count ≡ accepted tt
reached_tested (empty run h) = empty_tested run h
reached_tested (after call b e) = passes call e
reached_tested (written run other count b long apart) = rewritten run other count (reached_tested b) long apart

-- A board of at most 128 places that begins empty, and that accepted calls change, gets no 1 and no 5: a join may be refused with 16, 23 or 24, a
-- leave with 25, and `next` is answered.
pub reached_answers : (call : BoardCall) → Reached (run_of call) (count_of call) → ((board_of call).number ≡ 0) ⊎ (has (reached_numbers call) (board_of call).number ≡ true)
unfolding board_answer answered
reached_answers call b = by (records_after call) refl (numbered_tested call (reached_tested b))
  where
    by : (o : Outcome (List Deadline)) → records_after call ≡ o → Numbered (reached_numbers call) o → ((board_of call).number ≡ 0) ⊎ (has (reached_numbers call) (board_of call).number ≡ true)
    by (accepted records) q n = inl (rw q refl)
    by o q (by_number k h) = inr (rw q h)

-- ---- the plug-ins on the board

board_is : (call : BoardCall) (e : (board_of call).number ≡ 0) → on_board call ≡ (done call e).records
board_is call e = ap (λ k. take k (run_after call)) (counted call e) ∙ sym (left_tested call (done call e).records (done call e).is).1

present_again : (run : List Deadline) (count : ℕ) (r : Deadline) → test_run run count ≡ accepted tt → r.nanosecond ≤ 999999999 → has_id (take count run) r.id ≡ true → (board_of (Join run count r)).number ≡ 23
unfolding board_answer answered join test_join
present_again run count r t h i = rw (t, le-leb r.nanosecond 999999999 h, i) refl

absent_again : (run : List Deadline) (count id : ℕ) → test_run run count ≡ accepted tt → has_id (take count run) id ≡ false → (board_of (Leave run count id)).number ≡ 25
unfolding board_answer answered leave test_leave
absent_again run count id t i = rw (t, i) refl

-- A plug-in that joins is the last one on the board, and its place is the only one that changes.
module _ (run : List Deadline) (count : ℕ) (r : Deadline) (e : (board_of (Join run count r)).number ≡ 0) where
  abbrev joined : Accepted (Join run count r)
  joined = done (Join run count r) e

  facts : Joins run count r × (joined.records ≡ take count run ++ r ∷ [])
  facts = joined_is run count r joined.records joined.is

  pub joins_last : on_board (Join run count r) ≡ take count run ++ r ∷ []
  joins_last = board_is (Join run count r) e ∙ facts.1

  pub one_more : (board_of (Join run count r)).count ≡ count + 1
  one_more = counted (Join run count r) e ∙ joined_length run count r joined.records joined.is

  pub one_place : run_after (Join run count r) ≡ set run count r
  one_place = joined_over run count r joined.records joined.is ∙ ap (λ l. l ++ drop (suc count) run) facts.1 ∙ sym (set_joined run count r facts.0.room)

  pub is_there : has_id (on_board (Join run count r)) r.id ≡ true
  is_there = ap (λ l. has_id l r.id) joins_last ∙ ids_joined (take count run) r r.id ∙ rw (eq-eqb r.id r.id refl) (or-true _)

  -- It can't join again.
  pub joins_once : (board_of (Join (run_after (Join run count r)) (board_of (Join run count r)).count r)).number ≡ 23
  joins_once = present_again (run_after (Join run count r)) (board_of (Join run count r)).count r (passes (Join run count r) e) facts.0.nanosecond is_there

-- A plug-in that leaves is gone, the others keep their order, the place after them is zeros, and no other place changes.
module _ (run : List Deadline) (count id : ℕ) (e : (board_of (Leave run count id)).number ≡ 0) where
  abbrev gone : Accepted (Leave run count id)
  gone = done (Leave run count id) e

  leaving : Leaves run count id × (gone.records ≡ without (take count run) id)
  leaving = left_is run count id gone.records gone.is

  pub leaves_others : on_board (Leave run count id) ≡ without (take count run) id
  leaves_others = board_is (Leave run count id) e ∙ leaving.1

  pub one_fewer : (board_of (Leave run count id)).count + 1 ≡ count
  one_fewer = ap (λ k. k + 1) (counted (Leave run count id) e) ∙ left_length run count id gone.records gone.is

  pub rest_left : run_after (Leave run count id) ≡ on_board (Leave run count id) ++ zeros ∷ drop count run
  rest_left = left_over run count id gone.records gone.is ∙ ap (λ l. l ++ zeros ∷ drop count run) (sym (board_is (Leave run count id) e))

  pub is_gone : has_id (on_board (Leave run count id)) id ≡ false
  is_gone = ap (λ l. has_id l id) leaves_others ∙ ids_left (take count run) id id ∙ rw (eq-eqb id id refl) refl

  -- It can't leave again.
  pub leaves_once : (board_of (Leave (run_after (Leave run count id)) (board_of (Leave run count id)).count id)).number ≡ 25
  leaves_once = absent_again (run_after (Leave run count id)) (board_of (Leave run count id)).count id (passes (Leave run count id) e) is_gone

-- What is in the places after the count changes no answer.
module _ (run other : List Deadline) (count : ℕ) (long : length run ≡ length other) (front : take count run ≡ take count other) where
  tests_alike : test_run run count ≡ test_run other count
  unfolding test_run
  tests_alike = rw (long, front) refl

  pub next_alike : board_of (Next run count) ≡ board_of (Next other count)
  unfolding next
  next_alike = rw (tests_alike, front) refl

  pub join_alike : (r : Deadline) → board_of (Join run count r) ≡ board_of (Join other count r)
  unfolding join test_join
  join_alike r = rw (tests_alike, long, front) refl

  pub leave_alike : (id : ℕ) → board_of (Leave run count id) ≡ board_of (Leave other count id)
  unfolding leave test_leave
  leave_alike id = rw (tests_alike, front) refl

-- ---- the next to stop

first_of : (records : List Deadline) → 0 < length records → First records (unwrap_or (first records) zeros)
first_of records h = by (first_least records h)
  where
    by : ((a : Deadline) × (first records ≡ Some a) × Least records a) → First records (unwrap_or (first records) zeros)
    by (a, is, (within, least)) = subst (First records) (sym (ap (λ (o : Option Deadline). unwrap_or o zeros) is)) (within, λ b c. not_after_member records a b least c)

only_first : (records : List Deadline) (a : Deadline) → First records a → unwrap_or (first records) zeros ≡ a
only_first records a (within, none) =
    ap (λ (o : Option Deadline). unwrap_or o zeros) (first_is records a (within, λ k l. none (get_or records k zeros) (k, l, get_or_default records k _ zeros l)))

module _ (call : BoardCall) (e : (board_of call).number ≡ 0) where
  next_of : (board_of call).next ≡ unwrap_or (first (on_board call)) zeros
  unfolding board_answer held_of
  next_of = ap (λ (a : BoardAnswer). a.next) (done call e).answer ∙ ap (λ l. unwrap_or (first l) zeros) (sym (board_is call e))

  length_of : (board_of call).count ≡ length (on_board call)
  length_of = counted call e ∙ ap length (sym (board_is call e))

  -- The next to stop is on the board, and no plug-in there is before it.
  pub next_is_first : 0 < (board_of call).count → First (on_board call) (board_of call).next
  next_is_first h = subst (First (on_board call)) (sym next_of) (first_of (on_board call) (omega (arith, length_of)))

  -- It is the only such one.
  pub only_next : (a : Deadline) → First (on_board call) a → (board_of call).next ≡ a
  only_next a f = next_of ∙ only_first (on_board call) a f

  -- It is before every other plug-in on the board.
  pub before_others : (b : Deadline) → Contains (on_board call) b → (b ≡ (board_of call).next → ⊥) → before (board_of call).next b ≡ true
  before_others b c n = by (before (board_of call).next b) refl
    where
      some : Contains (on_board call) b → 0 < length (on_board call)
      some (k, l, q) = omega (arith, l)

      by : (t : Bool) → before (board_of call).next b ≡ t → t ≡ true
      by true q = refl
      by false q = absurd (n (same_record b (board_of call).next ((next_is_first (omega (arith, length_of, some c))).1 b c) q))

  -- Where no plug-in is on the board it is zeros.
  pub nobody : (board_of call).count ≡ 0 → (board_of call).next ≡ zeros
  nobody z = next_of ∙ ap (λ (o : Option Deadline). unwrap_or o zeros) (sym (first_of_none (on_board call) (sym length_of ∙ z)))

-- what is among the records without an id is among them all
of_without : (l : List Deadline) (id : ℕ) (a : Deadline) → Contains (without l id) a → Contains l a
unfolding without
of_without [] id a c = c
of_without (r ∷ l) id a c = by (eqb r.id id) refl (of_without l id a)
  where
    on : Contains l a → Contains (r ∷ l) a
    on (k, h, e) = (suc k, omega arith, e)

    front : (Contains (without l id) a → Contains l a) → Contains (r ∷ without l id) a → Contains (r ∷ l) a
    front f (zero, h, e) = (zero, omega arith, e)
    front f (suc k, h, e) = on (f (k, omega arith, e))

    by : (t : Bool) → eqb r.id id ≡ t → (Contains (without l id) a → Contains l a) → Contains (r ∷ l) a
    by true q f = on (f (subst (λ u. Contains (cond (not u) (r ∷ without l id) (without l id)) a) q c))
    by false q f = front f (subst (λ u. Contains (cond (not u) (r ∷ without l id) (without l id)) a) q c)

-- After a plug-in has left, the next to stop is not before the one that was next: so if each leaves when it is the next to stop, they leave in the
-- order of their deadlines.
module _ (run : List Deadline) (count id : ℕ) (e : (board_of (Leave run count id)).number ≡ 0) where
  as_next : next run count ≡ accepted (take count run)
  unfolding next
  as_next = rw (leave_tested run count id (gone run count id e).records (gone run count id e).is) refl

  shown : (board_of (Next run count)).number ≡ 0
  unfolding board_answer answered
  shown = rw as_next refl

  shown_board : on_board (Next run count) ≡ take count run
  shown_board = board_is (Next run count) shown ∙ same (sym (done (Next run count) shown).is ∙ as_next)

  pub in_order : 0 < (board_of (Leave run count id)).count → before (board_of (Leave run count id)).next (board_of (Next run count)).next ≡ false
  in_order h =
      let some : 0 < (board_of (Next run count)).count = omega (arith, length_of (Next run count) shown, ap length shown_board, length-take-le count run (leaving run count id e).0.tested.within, one_fewer run count id e) in
      let here : Deadline = (board_of (Leave run count id)).next in
      let left : Contains (without (take count run) id) here = subst (λ (l : List Deadline). Contains l here) (leaves_others run count id e) (next_is_first (Leave run count id) e h).0 in
      (next_is_first (Next run count) shown some).1 here (subst (λ (l : List Deadline). Contains l here) (sym shown_board) (of_without (take count run) id here left))
