-- `join`, `leave` and `next`: what the code answers and stores is what the definitions say. Assumes nothing.
use borrow.Author.Rules.{rules}
use native.Mathlib.Omega.{arith}
use Prim.Native.Nat.{ℕ, suc, ◌+◌, ◌-◌, ◌<◌}
use mathlib.Core.Path.{◌≡◌, sym, ap, ◌∙◌}
use mathlib.Core.List.{List, [], ◌∷◌, ◌++◌}
use lib.ListN.{length, take, drop, set, length-append}
use lib.Seq.{paste, length-take-le, take_at}
use Rattle.answers.specs.Outcome.{Outcome, accepted, refused, number, ◌>>◌}
use Rattle.answers.proofs.Outcomes.{apart, first_passed, same}
use Rattle.board.specs.Ids.{without, place_of}
use Rattle.board.specs.Board.{zeros, test_run, test_join, test_leave, place_left, next, join, leave, held_of, answered, run_joined, run_left}
use Rattle.board.specs.declared.Deadline.{Deadline}
use Rattle.board.specs.declared.Held.{Held}
use Rattle.board.proofs.Runs.{joined, taken_out}
use Rattle.board.proofs.CallTests.{Joins, joining, Leaves, leaving}

-- tests before a value: what is refused was refused by them
refused_first : {A : Type 0} (t : Outcome (Unit {0})) (a : A) (n : ℕ) → refused n ≡ t >> accepted a → t ≡ refused n
refused_first (accepted u) a n e = apart e
refused_first (refused m) a n e = ap (λ o. refused (number o)) (sym e)

module _ (run : List Deadline) (count : ℕ) where
  -- ---- `next`

  pub next_refused : (n : ℕ) → refused n ≡ test_run run count → refused n ≡ answered (next run count)
  unfolding next answered
  next_refused n e = rw (← e)

  pub next_held : (u : Unit {0}) → accepted u ≡ test_run run count → (h : Held) → h ≡ held_of (take count run) → accepted h ≡ answered (next run count)
  unfolding next answered
  next_held u e h is = rw (← e, is)

  -- ---- `join`

  module _ (r : Deadline) where
    pub join_refused : (n : ℕ) → refused n ≡ test_join run count r → refused n ≡ answered (join run count r)
    unfolding join answered
    join_refused n e = rw (← e)

    pub join_kept : (n : ℕ) → refused n ≡ test_join run count r → run ≡ run_joined run count r
    unfolding join run_joined
    join_kept n e = rw (← e)

    module _ (u : Unit {0}) (e : accepted u ≡ test_join run count r) where
      passed : Joins run count r
      passed = joining run count r (sym e)

      length_joined : length (take count run ++ r ∷ []) ≡ count + 1
      length_joined = length-append (take count run) (r ∷ []) ∙ ap (λ k. k + 1) (length-take-le count run (omega (arith, passed.room)))

      pub join_run : set run count r ≡ run_joined run count r
      unfolding join run_joined
      join_run = rw (← e) (joined run count r passed.room)

      pub join_held : (h : Held) → h ≡ held_of (take (count + 1) (set run count r)) → accepted h ≡ answered (join run count r)
      unfolding join answered
      join_held h is = rw (← e, is, joined run count r passed.room) (ap (λ l. accepted (held_of l)) (take_at (take count run ++ r ∷ []) (drop (suc count) run) (count + 1) length_joined))

  -- ---- `leave`

  module _ (id : ℕ) where
    not_leaving : (n : ℕ) → refused n ≡ place_left run count id → test_leave run count id ≡ refused n
    unfolding place_left
    not_leaving n e = refused_first (test_leave run count id) (place_of (take count run) id) n e

    pub leave_refused : (n : ℕ) → refused n ≡ place_left run count id → refused n ≡ answered (leave run count id)
    unfolding leave answered
    leave_refused n e = rw (not_leaving n e)

    pub leave_kept : (n : ℕ) → refused n ≡ place_left run count id → run ≡ run_left run count id
    unfolding leave run_left
    leave_kept n e = rw (not_leaving n e)

    module _ (p : ℕ) (e : accepted p ≡ place_left run count id) where
      parts : (test_leave run count id ≡ accepted tt) × (p ≡ place_of (take count run) id)
      unfolding place_left
      parts = let both = first_passed (test_leave run count id) (accepted (place_of (take count run) id)) (sym e) in (both.0, sym (same both.1))

      module _ (l : p < count) where
        gone : (set (paste run p (drop (p + 1) run) (count - (p + 1))) (count - 1) zeros ≡ without (take count run) id ++ zeros ∷ drop count run) × (length (without (take count run) id) ≡ count - 1)
        gone = let passed : Leaves run count id = leaving run count id parts.0 in taken_out run p id count l passed.tested.apart parts.1 passed.tested.within

        pub leave_run : set (paste run p (drop (p + 1) run) (count - (p + 1))) (count - 1) zeros ≡ run_left run count id
        unfolding leave run_left
        leave_run = rw parts.0 gone.0

        pub leave_held : (h : Held) → h ≡ held_of (take (count - 1) (set (paste run p (drop (p + 1) run) (count - (p + 1))) (count - 1) zeros)) → accepted h ≡ answered (leave run count id)
        unfolding leave answered
        leave_held h is = rw (parts.0, is, gone.0) (ap (λ k. accepted (held_of k)) (take_at (without (take count run) id) (zeros ∷ drop count run) (count - 1) gone.1))

pub ruleset calls = (next_refused, next_held, join_refused, join_kept, join_run, join_held, leave_refused, leave_kept, leave_run, leave_held, rules)
