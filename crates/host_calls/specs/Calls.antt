-- What the library answers, a clause for each call but `seqtullo_days_in_month`, which is `month_days` alone: docs/SCOPE.md, 'The functions for
-- hosts'. The contracts of the crate `seqtullo` cite this file, and what is proved of the calls (theorems_hosts, theorems_round_trip,
-- theorems_packets, theorems_profile, theorems_board) is said of it.
use Rattle.std.specs.Prelude.{ℕ, ℤ, List, length, ◌≡◌}
use Rattle.extended.specs.Extended.{make, date, time, accept, from_unix_seconds, unix_seconds, add_days, add_hours, add_minutes, add_seconds, add_years, add_months, weekday_monday0, day_of_year}
use Rattle.extended.specs.declared.ExtendedDateTime.{ExtendedDateTime}
use Rattle.text_general.specs.Reading.{read_text}
use Rattle.text_profile.specs.Profile.{read_profile}
use Rattle.packet.specs.Packet.{read_packet}
use Rattle.writer.specs.Writer.{written, bytes_of, written_answer, over}
use Rattle.writer.specs.declared.Written.{Written}
use Rattle.answers.specs.Outcome.{Outcome}
use Rattle.board.specs.Board.{join, leave, next, answered, run_joined, run_left}
use Rattle.board.specs.declared.Deadline.{Deadline}
use Rattle.host_answers.specs.Hosts.{record_answer, moment_answer, number_answer, placed_answer, board_answer}
use Rattle.host_answers.specs.declared.Answer.{Answer}
use Rattle.host_answers.specs.declared.BoardAnswer.{BoardAnswer}
use Rattle.host_answers.specs.declared.Moment.{Moment}
use Rattle.host_answers.specs.declared.Number.{Number}

-- ---- the calls that are answered by a record

-- a call, `seqtullo_new` for New and so on, with its arguments in their order
pub data Call : Type 0 where
  New : (year month day hour minute second nanosecond : ℕ) → (offset_seconds : ℤ) → Call
  FromUnixSeconds : (unix_seconds : ℤ) → (nanosecond : ℕ) → (offset_seconds : ℤ) → Call
  AddDays : ExtendedDateTime → (days : ℤ) → Call
  AddHours : ExtendedDateTime → (hours : ℤ) → Call
  AddMinutes : ExtendedDateTime → (minutes : ℤ) → Call
  AddSeconds : ExtendedDateTime → (seconds : ℤ) → (nanoseconds : ℕ) → Call
  AddYears : ExtendedDateTime → (years : ℤ) → Call
  AddMonths : ExtendedDateTime → (months : ℤ) → Call
  ReadText : (text : List ℕ) → (base : ExtendedDateTime) → Call
  ReadProfile : (text : List ℕ) → (base : ExtendedDateTime) → Call
  ReadPacket : (packet : List ℕ) → (base : ExtendedDateTime) → Call

abbrev pub answer : Call → Answer
answer (New year month day hour minute second nanosecond offset) = record_answer (accept (make (date year month day) (time hour minute second nanosecond) offset))
answer (FromUnixSeconds seconds nanosecond offset) = record_answer (from_unix_seconds seconds nanosecond offset)
answer (AddDays r n) = record_answer (add_days r n)
answer (AddHours r n) = record_answer (add_hours r n)
answer (AddMinutes r n) = record_answer (add_minutes r n)
answer (AddSeconds r n k) = record_answer (add_seconds r n k)
answer (AddYears r n) = record_answer (add_years r n)
answer (AddMonths r n) = record_answer (add_months r n)
answer (ReadText text base) = placed_answer (read_text text base)
answer (ReadProfile text base) = placed_answer (read_profile text base)
answer (ReadPacket packet base) = placed_answer (read_packet packet base)

-- ---- the others

-- `seqtullo_unix_seconds`
abbrev pub moment_of : ExtendedDateTime → Moment
moment_of r = moment_answer (unix_seconds r)

-- the calls that are answered by a number: `seqtullo_weekday`, from Monday, 0, and `seqtullo_day_of_year`, from 1
pub data Question : Type 0 where
  Weekday : ExtendedDateTime → Question
  DayOfYear : ExtendedDateTime → Question

abbrev pub number_of : Question → Number
number_of (Weekday r) = number_answer (weekday_monday0 r)
number_of (DayOfYear r) = number_answer (day_of_year r)

-- `seqtullo_write` was called with r and the bytes `out`, answered w and left the bytes `left`
pub record Wrote (r : ExtendedDateTime) (out : List ℕ) (w : Written) (left : List ℕ) : Type 0 where
  pub answered : w ≡ written_answer (written r (length out))
  pub bytes : left ≡ over (bytes_of (written r (length out))) out

-- ---- the calls of the board

-- `seqtullo_board_join` for Join and so on, with the run as it is lent, the count, and what joins or leaves
pub data BoardCall : Type 0 where
  Join : (run : List Deadline) → (count : ℕ) → (joining : Deadline) → BoardCall
  Leave : (run : List Deadline) → (count : ℕ) → (id : ℕ) → BoardCall
  Next : (run : List Deadline) → (count : ℕ) → BoardCall

-- the records on the board after the call, or the number of its refusal
abbrev pub records_after : BoardCall → Outcome (List Deadline)
records_after (Join run count joining) = join run count joining
records_after (Leave run count id) = leave run count id
records_after (Next run count) = next run count

abbrev pub board_of : BoardCall → BoardAnswer
board_of call = board_answer (answered (records_after call))

-- every place of the run after the call
abbrev pub run_after : BoardCall → List Deadline
run_after (Join run count joining) = run_joined run count joining
run_after (Leave run count id) = run_left run count id
run_after (Next run count) = run
