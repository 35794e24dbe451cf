-- What hosts are answered: docs/SCOPE.md, 'Answers by number'.
use Rattle.std.specs.Prelude.{ℕ, ℤ, pos, unwrap_or}
use Rattle.answers.specs.Outcome.{Outcome, accepted, refused, number, value_or}
use Rattle.extended.specs.Extended.{blank_record}
use Rattle.extended.specs.declared.ExtendedDateTime.{ExtendedDateTime}
use Rattle.answers.specs.Placed as placed
use Rattle.answers.specs.Placed.{Placed, number_of, place_of}
use Rattle.board.specs.Board.{zeros}
use Rattle.board.specs.declared.Held.{Held}
use Rattle.host_answers.specs.declared.Answer.{Answer}
use Rattle.host_answers.specs.declared.BoardAnswer.{BoardAnswer}
use Rattle.host_answers.specs.declared.Moment.{Moment}
use Rattle.host_answers.specs.declared.Number.{Number}

-- number 0 and the record, or the number of a refusal and the blank record; the place is 0
unfoldable pub record_answer : Outcome ExtendedDateTime → Answer
record_answer o = record { number = number o; place = 0; «record» = value_or blank_record o }

-- the same of an answer that has a place
unfoldable pub placed_answer : Placed ExtendedDateTime → Answer
placed_answer p = record { number = number_of p; place = place_of p; «record» = placed.value_or blank_record p }

-- number 0 and the moment, or the number of a refusal and 0
unfoldable pub moment_answer : Outcome ℤ → Moment
moment_answer o = record { number = number o; seconds = value_or (pos 0) o }

unfoldable pub number_answer : Outcome ℕ → Number
number_answer o = record { number = number o; value = value_or 0 o }

-- number 0, how many records are on the board and the next to stop, which is zeros if there is none; or the number of a refusal, 0 and zeros
unfoldable pub board_answer : Outcome Held → BoardAnswer
board_answer (accepted held) = record { number = 0; count = held.count; next = unwrap_or held.next zeros }
board_answer (refused n) = record { number = n; count = 0; next = zeros }
