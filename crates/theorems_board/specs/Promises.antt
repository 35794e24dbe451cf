-- The words of proofs/Theorems.antt: what a call of the board may answer, and which of its records is the next to stop.
use Rattle.std.specs.Prelude.{ℕ, ◌≤◌, true, false, List, [], ◌∷◌, length, take, ◌≡◌, Contains}
use Rattle.answers.specs.Numbers as refusal
use Rattle.answers.specs.Limits.{most_places}
use Rattle.board.specs.Order.{before}
use Rattle.board.specs.Ids.{has_twice}
use Rattle.board.specs.Board.{zeros}
use Rattle.board.specs.declared.Deadline.{Deadline}
use Rattle.host_calls.specs.Calls.{BoardCall, Join, Leave, Next, board_of, run_after}
use Rattle.host_calls.specs.Given.{has, board_numbers}

-- the run as it is lent, and the count
abbrev pub run_of : BoardCall → List Deadline
run_of (Join run count joining) = run
run_of (Leave run count id) = run
run_of (Next run count) = run

abbrev pub count_of : BoardCall → ℕ
count_of (Join run count joining) = count
count_of (Leave run count id) = count
count_of (Next run count) = count

-- the plug-ins on the board after an accepted call
abbrev pub on_board : BoardCall → List Deadline
on_board call = take (board_of call).count (run_after call)

-- number 0 and no more plug-ins than places, of which there are at most 128; or a number of the list, no plug-in and zeros, and every place as
-- it was
pub data Answers (call : BoardCall) : Type 0 where
  a_board : (board_of call).number ≡ 0 → (board_of call).count ≤ length (run_of call) → length (run_of call) ≤ most_places → Answers call
  no_board : has (board_numbers call) (board_of call).number ≡ true → (board_of call).count ≡ 0 → (board_of call).next ≡ zeros → run_after call ≡ run_of call → Answers call

-- a is one of the records, and none of them is before it
abbrev pub First : List Deadline → Deadline → Type 0
First records a = Contains records a × ((b : Deadline) → Contains records b → before b a ≡ false)

-- A board of at most 128 places that begins empty, and that accepted calls change: the host keeps the count that was answered. The host may also
-- write into its run, if no id comes to be twice within the count.
pub data Reached : List Deadline → ℕ → Type 0 where
  empty : (run : List Deadline) → length run ≤ most_places → Reached run 0
  after : (call : BoardCall) → Reached (run_of call) (count_of call) → (board_of call).number ≡ 0 → Reached (run_after call) (board_of call).count
  written : (run other : List Deadline) (count : ℕ) → Reached run count → length other ≡ length run → has_twice (take count other) ≡ false → Reached other count

-- the numbers that are left for the calls on such a board
abbrev pub reached_numbers : BoardCall → List ℕ
reached_numbers (Join run count joining) = refusal.nanosecond ∷ refusal.present ∷ refusal.full ∷ []
reached_numbers (Leave run count id) = refusal.absent ∷ []
reached_numbers (Next run count) = []
