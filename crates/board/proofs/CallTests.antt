-- The tests of the calls, in the code's order: what each answers if it fails, and what is known where all are passed. Assumes nothing.
use borrow.Author.Rules.{rules}
use borrow.Author.Tests.{lt-leb, le-leb, lt-ltb, le-ltb, leb-true, ltb-true}
use native.Mathlib.Omega.{arith}
use Prim.Native.Nat.{ℕ, ◌<◌, ◌≤◌}
use mathlib.Core.Path.{◌≡◌, refl, ◌∙◌}
use mathlib.Core.Bool.{Bool, true, false, not}
use mathlib.Core.List.{List}
use lib.Dec.{leb}
use lib.ListN.{length, take}
use lib.Seq.{length-take-le}
use Rattle.answers.specs.Outcome.{accepted, refused, check}
use Rattle.std.proofs.lemmas.Bool.{not-true}
use Rattle.answers.proofs.Outcomes.{first_passed, check_true}
use Rattle.board.specs.Ids.{has_id, has_twice, place_of}
use Rattle.board.specs.Board.{test_run, test_join, test_leave, place_left}
use Rattle.board.specs.declared.Deadline.{Deadline}
use Rattle.board.proofs.Runs.{placed, no_place}

module _ (run : List Deadline) (count : ℕ) where
  -- ---- test by test

  pub long : 128 < length run → refused 1 ≡ test_run run count
  unfolding test_run
  long h = rw (lt-leb (length run) 128 h)

  module _ (h : length run ≤ 128) where
    pub above : length run < count → refused 1 ≡ test_run run count
    unfolding test_run
    above k = rw (le-leb (length run) 128 h, lt-leb count (length run) k)

    module _ (k : count ≤ length run) (t : Bool) (e : t ≡ has_twice (take count run)) where
      pub twice : t ≡ true → refused 5 ≡ test_run run count
      unfolding test_run
      twice q = rw (le-leb (length run) 128 h, le-leb count (length run) k, ← e, q)

      pub apart : t ≡ false → accepted tt ≡ test_run run count
      unfolding test_run
      apart q = rw (le-leb (length run) 128 h, le-leb count (length run) k, ← e, q)

  module _ (r : Deadline) where
    pub join_stopped : (n : ℕ) → refused n ≡ test_run run count → refused n ≡ test_join run count r
    unfolding test_join
    join_stopped n e = rw (← e)

    module _ (u : Unit {0}) (e : accepted u ≡ test_run run count) where
      pub nanosecond : 999999999 < r.nanosecond → refused 16 ≡ test_join run count r
      unfolding test_join
      nanosecond h = rw (← e, lt-leb r.nanosecond 999999999 h)

      module _ (h : r.nanosecond ≤ 999999999) (t : Bool) (f : t ≡ has_id (take count run) r.id) where
        pub present : t ≡ true → refused 23 ≡ test_join run count r
        unfolding test_join
        present q = rw (← e, le-leb r.nanosecond 999999999 h, ← f, q)

        module _ (q : t ≡ false) where
          pub full : count ≡ length run → refused 24 ≡ test_join run count r
          unfolding test_join
          full k = let l : length run ≤ count = omega arith in rw (← e, le-leb r.nanosecond 999999999 h, ← f, q, le-ltb count (length run) l)

          pub joins : count < length run → accepted tt ≡ test_join run count r
          unfolding test_join
          joins k = rw (← e, le-leb r.nanosecond 999999999 h, ← f, q, lt-ltb count (length run) k)

  module _ (id : ℕ) where
    pub leave_stopped : (n : ℕ) → refused n ≡ test_run run count → refused n ≡ place_left run count id
    unfolding place_left test_leave
    leave_stopped n e = rw (← e)

    module _ (u : Unit {0}) (e : accepted u ≡ test_run run count) (k : count ≤ length run) (p : ℕ) (is : p ≡ place_of (take count run) id) where
      pub absent : p ≡ count → refused 25 ≡ place_left run count id
      unfolding place_left test_leave
      absent q = rw (← e, is_not (has_id (take count run) id) refl)
        where
          is_not : (t : Bool) → has_id (take count run) id ≡ t → has_id (take count run) id ≡ false
          is_not false f = f
          is_not true f = absurd (omega (arith, placed (take count run) id f, length-take-le count run k))

      pub leaves : (p ≡ count → ⊥) → accepted p ≡ place_left run count id
      unfolding place_left test_leave
      leaves n = rw (← e, is_there (has_id (take count run) id) refl, is)
        where
          is_there : (t : Bool) → has_id (take count run) id ≡ t → has_id (take count run) id ≡ true
          is_there true f = f
          is_there false f = absurd (n (is ∙ no_place (take count run) id f ∙ length-take-le count run k))

  -- ---- what is known where all tests are passed

  pub record Tested : Type 0 where
    pub places : length run ≤ 128
    pub within : count ≤ length run
    pub apart : has_twice (take count run) ≡ false

  pub tested : test_run run count ≡ accepted tt → Tested
  unfolding test_run
  tested e =
      let long = first_passed (check (leb (length run) 128) 1) _ e in
      let above = first_passed (check (leb count (length run)) 1) _ long.1 in
      record {
        places = leb-true (length run) 128 (check_true _ 1 long.0);
        within = leb-true count (length run) (check_true _ 1 above.0);
        apart = not-true (has_twice (take count run)) (check_true _ 5 above.1);
      }

  pub record Joins (r : Deadline) : Type 0 where
    pub tested : Tested
    pub nanosecond : r.nanosecond ≤ 999999999
    pub absent : has_id (take count run) r.id ≡ false
    pub room : count < length run

  pub joining : (r : Deadline) → test_join run count r ≡ accepted tt → Joins r
  unfolding test_join
  joining r e =
      let board = first_passed (test_run run count) _ e in
      let nanosecond = first_passed (check (leb r.nanosecond 999999999) 16) _ board.1 in
      let present = first_passed (check (not (has_id (take count run) r.id)) 23) _ nanosecond.1 in
      record {
        tested = tested board.0;
        nanosecond = leb-true r.nanosecond 999999999 (check_true _ 16 nanosecond.0);
        absent = not-true (has_id (take count run) r.id) (check_true _ 23 present.0);
        room = ltb-true count (length run) (check_true _ 24 present.1);
      }

  pub record Leaves (id : ℕ) : Type 0 where
    pub tested : Tested
    pub present : has_id (take count run) id ≡ true

  pub leaving : (id : ℕ) → test_leave run count id ≡ accepted tt → Leaves id
  unfolding test_leave
  leaving id e =
      let board = first_passed (test_run run count) _ e in
      record { tested = tested board.0; present = check_true _ 25 board.1 }

pub ruleset steps = (long, above, twice, apart, join_stopped, nanosecond, present, full, joins, leave_stopped, absent, leaves, rules)
