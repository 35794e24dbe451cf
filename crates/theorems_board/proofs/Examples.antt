-- Examples of the calls of the board, each with its whole answer and its run, all computed. Assumes nothing.
use Prim.Native.Nat.{ℕ}
use mathlib.Core.Path.{◌≡◌, refl}
use mathlib.Core.List.{List, [], ◌∷◌}
use lib.IntN.{ℤ, pos, negsuc}
use lib.ListN.{replicate}
use Rattle.answers.specs.Numbers as refusal
use Rattle.board.specs.Order.{before, any_before, first}
use Rattle.board.specs.Ids.{has_id, has_twice, without}
use Rattle.board.specs.Board.{zeros, test_run, test_join, test_leave, next, join, leave, held_of, answered, run_joined, run_left}
use Rattle.board.specs.declared.Deadline.{Deadline}
use Rattle.host_answers.specs.Hosts.{board_answer}
use Rattle.host_answers.specs.declared.BoardAnswer.{BoardAnswer}
use Rattle.host_calls.specs.Calls.{BoardCall, Join, Leave, Next, board_of, run_after}

abbrev record_at : ℕ → ℤ → ℕ → Deadline
record_at id moment nanosecond = record { id = id; moment = moment; nanosecond = nanosecond }

-- three plug-ins: the last one stops first
abbrev a : Deadline
a = record_at 7 (pos 300) 0

abbrev b : Deadline
b = record_at 8 (pos 200) 5

abbrev c : Deadline
c = record_at 9 (negsuc 0) 999999999

-- what is in a place after the count
abbrev old : Deadline
old = record_at 7 (pos 1) 1

abbrev answer : ℕ → Deadline → BoardAnswer
answer count next = record { number = 0; count = count; next = next }

abbrev refused_with : ℕ → BoardAnswer
refused_with n = record { number = n; count = 0; next = zeros }

-- a call with its answer, and the run after it
abbrev Gives : BoardCall → BoardAnswer → List Deadline → Type 0
Gives call given left = (board_of call ≡ given) × (run_after call ≡ left)

-- a call that is refused, and leaves the run
abbrev Refused : BoardCall → ℕ → List Deadline → Type 0
Refused call n run = Gives call (refused_with n) run

-- Three join: each after the last one, and the third stops before the others, since its moment is below 0.
pub joining :
    Gives (Join (old ∷ old ∷ old ∷ []) 0 a) (answer 1 a) (a ∷ old ∷ old ∷ []) ×
    Gives (Join (a ∷ old ∷ old ∷ []) 1 b) (answer 2 b) (a ∷ b ∷ old ∷ []) ×
    Gives (Join (a ∷ b ∷ old ∷ []) 2 c) (answer 3 c) (a ∷ b ∷ c ∷ [])
unfolding board_answer answered held_of join test_join test_run run_joined has_id has_twice first any_before before
joining = ((refl, refl), (refl, refl), (refl, refl))

-- They leave: the later ones move up, and the place that is freed becomes zeros.
pub leaving :
    Gives (Leave (a ∷ b ∷ c ∷ old ∷ []) 3 7) (answer 2 c) (b ∷ c ∷ zeros ∷ old ∷ []) ×
    Gives (Leave (b ∷ c ∷ zeros ∷ old ∷ []) 2 9) (answer 1 b) (b ∷ zeros ∷ zeros ∷ old ∷ []) ×
    Gives (Leave (b ∷ zeros ∷ zeros ∷ old ∷ []) 1 8) (answer 0 zeros) (zeros ∷ zeros ∷ zeros ∷ old ∷ [])
unfolding board_answer answered held_of leave test_leave test_run run_left has_id has_twice without first any_before before
leaving = ((refl, refl), (refl, refl), (refl, refl))

-- The order: by moment, then nanosecond, then id. A nanosecond that is on the board already is not tested.
pub ordering :
    Gives (Next (record_at 1 (pos 5) 0 ∷ record_at 2 (negsuc 9) 9 ∷ []) 2) (answer 2 (record_at 2 (negsuc 9) 9)) (record_at 1 (pos 5) 0 ∷ record_at 2 (negsuc 9) 9 ∷ []) ×
    Gives (Next (record_at 1 (pos 5) 4294967295 ∷ record_at 2 (pos 5) 1000000000 ∷ []) 2) (answer 2 (record_at 2 (pos 5) 1000000000)) (record_at 1 (pos 5) 4294967295 ∷ record_at 2 (pos 5) 1000000000 ∷ []) ×
    Gives (Next (record_at 2 (pos 5) 3 ∷ record_at 1 (pos 5) 3 ∷ []) 2) (answer 2 (record_at 1 (pos 5) 3)) (record_at 2 (pos 5) 3 ∷ record_at 1 (pos 5) 3 ∷ [])
unfolding board_answer answered held_of next test_run has_id has_twice first any_before before
ordering = ((refl, refl), (refl, refl), (refl, refl))

-- a nanosecond that no record may join with
abbrev late : Deadline
late = record_at 7 (pos 300) 1000000000

-- The tests of a join, in their order: a count above the places; an id twice; the nanosecond; an id that is there already, on a full board too;
-- a full board. On a run of 0 places nobody joins.
pub not_joining :
    Refused (Join (a ∷ a ∷ []) 3 late) refusal.oversize (a ∷ a ∷ []) ×
    Refused (Join (a ∷ a ∷ []) 2 late) refusal.packet (a ∷ a ∷ []) ×
    Refused (Join (a ∷ b ∷ []) 2 late) refusal.nanosecond (a ∷ b ∷ []) ×
    Refused (Join (a ∷ b ∷ []) 2 a) refusal.present (a ∷ b ∷ []) ×
    Refused (Join (a ∷ b ∷ []) 2 c) refusal.full (a ∷ b ∷ []) ×
    Refused (Join [] 0 a) refusal.full []
unfolding board_answer answered join test_join test_run run_joined has_id has_twice
not_joining = ((refl, refl), (refl, refl), (refl, refl), (refl, refl), (refl, refl), (refl, refl))

-- An id after the count is on no board: it does not leave, and it may join. On a run of 0 places nobody leaves, and `next` is zeros.
pub after_the_count :
    Refused (Leave (b ∷ old ∷ []) 1 7) refusal.absent (b ∷ old ∷ []) ×
    Gives (Join (b ∷ old ∷ old ∷ []) 1 a) (answer 2 b) (b ∷ a ∷ old ∷ []) ×
    Refused (Leave [] 0 7) refusal.absent [] ×
    Gives (Next [] 0) (answer 0 zeros) []
unfolding board_answer answered held_of join test_join leave test_leave next test_run run_joined run_left has_id has_twice without first any_before before
after_the_count = ((refl, refl), (refl, refl), (refl, refl), (refl, refl))

-- The tests of a leave, in their order: a count above the places; an id twice; an id that is not there.
pub not_leaving :
    Refused (Leave (a ∷ a ∷ []) 3 8) refusal.oversize (a ∷ a ∷ []) ×
    Refused (Leave (a ∷ a ∷ []) 2 8) refusal.packet (a ∷ a ∷ []) ×
    Refused (Leave (a ∷ b ∷ []) 2 9) refusal.absent (a ∷ b ∷ [])
unfolding board_answer answered leave test_leave test_run run_left has_id has_twice
not_leaving = ((refl, refl), (refl, refl), (refl, refl))

-- A run of 128 places is accepted, and one of 129 is refused before anything else is tested.
pub places :
    Gives (Next (replicate 128 a) 1) (answer 1 a) (replicate 128 a) ×
    Refused (Next (replicate 129 a) 2) refusal.oversize (replicate 129 a) ×
    Refused (Next (replicate 128 a) 2) refusal.packet (replicate 128 a)
unfolding board_answer answered held_of next test_run has_id has_twice first any_before before
places = ((refl, refl), (refl, refl), (refl, refl))
