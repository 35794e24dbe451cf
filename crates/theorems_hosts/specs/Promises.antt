-- The words of proofs/Theorems.antt: what each kind of call may answer.
use Rattle.std.specs.Prelude.{ℕ, ◌≤◌, true, List, length, take, drop, ◌≡◌, pos}
use Rattle.answers.specs.Outcome.{accepted}
use Rattle.extended.specs.Extended.{blank_record, test, moment}
use Rattle.extended.specs.declared.ExtendedDateTime.{ExtendedDateTime}
use Rattle.writer.specs.Writer.{text_of}
use Rattle.writer.specs.declared.Written.{Written}
use Rattle.host_answers.specs.declared.Answer.{Answer}
use Rattle.host_answers.specs.declared.Moment.{Moment}
use Rattle.host_answers.specs.declared.Number.{Number}
use Rattle.host_calls.specs.Given.{has}

-- number 0, place 0 and an accepted record; or a number of the list, a place that is at most the last one, and the blank record
pub data Answers (numbers : List ℕ) (last : ℕ) (a : Answer) : Type 0 where
  a_record : a.number ≡ 0 → a.place ≡ 0 → test a.«record» ≡ accepted tt → Answers numbers last a
  no_record : has numbers a.number ≡ true → a.place ≤ last → a.«record» ≡ blank_record → Answers numbers last a

-- number 0 and the moment of r; or a number of the list, and 0
pub data AnswersMoment (numbers : List ℕ) (r : ExtendedDateTime) (m : Moment) : Type 0 where
  a_moment : m.number ≡ 0 → m.seconds ≡ moment r → AnswersMoment numbers r m
  no_moment : has numbers m.number ≡ true → m.seconds ≡ pos 0 → AnswersMoment numbers r m

-- number 0 and a number from `first` to `last`; or a number of the list, and 0
pub data AnswersNumber (numbers : List ℕ) (first last : ℕ) (n : Number) : Type 0 where
  a_number : n.number ≡ 0 → first ≤ n.value → n.value ≤ last → AnswersNumber numbers first last n
  no_number : has numbers n.number ≡ true → n.value ≡ 0 → AnswersNumber numbers first last n

-- number 0, and the first lent bytes are the text of r, 35 to 41 bytes, and those after it as they were; or a number of the list, length 0, and
-- every lent byte as it was
pub data Writes (numbers : List ℕ) (r : ExtendedDateTime) (out : List ℕ) (w : Written) (left : List ℕ) : Type 0 where
  a_text : w.number ≡ 0 → 35 ≤ w.length → w.length ≤ 41 → w.length ≤ length out → take w.length left ≡ text_of r → drop w.length left ≡ drop w.length out → Writes numbers r out w left
  no_text : has numbers w.number ≡ true → w.length ≡ 0 → left ≡ out → Writes numbers r out w left
