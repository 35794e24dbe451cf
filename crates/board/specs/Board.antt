-- The deadline board: docs/SCOPE.md, 'The board'. A board is a run of places and a count, and the records before the count are on the board.
-- `join`, `leave` and `next` give the records on the board after the call, or the number of its refusal. The answer and the run after the call
-- follow from these.
use Rattle.std.specs.Prelude.{ℕ, suc, not, ltb, leb, pos, List, [], ◌∷◌, ◌++◌, length, take, drop}
use Rattle.answers.specs.Numbers as refusal
use Rattle.answers.specs.Limits.{most_places}
use Rattle.answers.specs.Outcome.{Outcome, accepted, refused, check, ◌>>=◌, ◌>>◌}
use Rattle.board.specs.Order.{first}
use Rattle.board.specs.Ids.{has_id, has_twice, without, place_of}
use Rattle.board.specs.declared.Deadline.{Deadline}
use Rattle.board.specs.declared.Held.{Held}

-- what a freed place becomes
abbrev pub zeros : Deadline
zeros = record { id = 0; moment = pos 0; nanosecond = 0 }

-- ---- the tests, in their order

unfoldable pub test_run : List Deadline → ℕ → Outcome (Unit {0})
test_run run count = do
  check (leb (length run) most_places) refusal.oversize
  check (leb count (length run)) refusal.oversize
  check (not (has_twice (take count run))) refusal.packet

unfoldable pub test_join : List Deadline → ℕ → Deadline → Outcome (Unit {0})
test_join run count joining = do
  test_run run count
  check (leb joining.nanosecond 999999999) refusal.nanosecond
  check (not (has_id (take count run) joining.id)) refusal.present
  check (ltb count (length run)) refusal.full

unfoldable pub test_leave : List Deadline → ℕ → ℕ → Outcome (Unit {0})
test_leave run count id = do
  test_run run count
  check (has_id (take count run) id) refusal.absent

-- ---- the records on the board after a call

unfoldable pub next : List Deadline → ℕ → Outcome (List Deadline)
next run count = do
  test_run run count
  accepted (take count run)

-- a plug-in joins after the last record
unfoldable pub join : List Deadline → ℕ → Deadline → Outcome (List Deadline)
join run count joining = do
  test_join run count joining
  accepted (take count run ++ joining ∷ [])

unfoldable pub leave : List Deadline → ℕ → ℕ → Outcome (List Deadline)
leave run count id = do
  test_leave run count id
  accepted (without (take count run) id)

-- the place of the record that leaves, which the function of this name finds
unfoldable pub place_left : List Deadline → ℕ → ℕ → Outcome ℕ
place_left run count id = do
  test_leave run count id
  accepted (place_of (take count run) id)

-- ---- what is answered

-- how many records are on the board, and the next to stop, if there is one
unfoldable pub held_of : List Deadline → Held
held_of records = record { count = length records; next = first records }

unfoldable pub answered : Outcome (List Deadline) → Outcome Held
answered outcome = do
  records ← outcome
  accepted (held_of records)

-- ---- the run after a call

-- the records on the board, and the rest of the run after them; a refusal changes nothing
abbrev pub stored : Outcome (List Deadline) → (rest run : List Deadline) → List Deadline
stored (accepted records) rest run = records ++ rest
stored (refused n) rest run = run

-- place `count` is taken
unfoldable pub run_joined : List Deadline → ℕ → Deadline → List Deadline
run_joined run count joining = stored (join run count joining) (drop (suc count) run) run

-- the last of the `count` places is freed
unfoldable pub run_left : List Deadline → ℕ → ℕ → List Deadline
run_left run count id = stored (leave run count id) (zeros ∷ drop count run) run
