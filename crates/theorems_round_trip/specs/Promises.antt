-- The words of proofs/Theorems.antt, what is written, what is put after it and what is answered then, and of proofs/LongFractions.antt.
use Rattle.std.specs.Prelude.{ℕ, ◌<◌, ◌≤◌, Bool, true, List, ◌∷◌, ◌++◌, length, take, ℤ, ◌≡◌}
use Rattle.answers.specs.Limits.{max_length, most_items}
use Rattle.answers.specs.Outcome.{accepted}
use Rattle.extended.specs.Extended.{Recorded, blank_record, test, moment}
use Rattle.extended.specs.declared.ExtendedDateTime.{ExtendedDateTime}
use Rattle.primitive.specs.Text.{bytes, lowered}
use Rattle.theorems_forms.specs.Fractions.{Drops}
use Rattle.text_tests.specs.Tests.{ascii_end}
use Rattle.writer.specs.Writer.{digits, sign_of, whole_minutes}
use Rattle.writer.specs.declared.Written.{Written}
use Rattle.host_answers.specs.declared.Answer.{Answer}

-- an accepted record with an offset of whole minutes
pub record Writable (r : ExtendedDateTime) : Type 0 where
  pub accepted_record : test r ≡ accepted tt
  pub whole : whole_minutes r.offset_seconds ≡ true

-- a blank, the sign, N in decimal without leading zeros, a blank and `seconds`; a blank is 32, `-` is 45 for true and `+` is 43
abbrev pub seconds : Bool → ℕ → List ℕ
seconds minus n = 32 ∷ (sign_of minus ∷ (digits n ++ (32 ∷ bytes "seconds")))

-- SCOPE, 'The writer': a record's text is the first lent bytes, of the length that the writer answers
abbrev pub text_in : Written → List ℕ → List ℕ
text_in w left = take w.length left

-- The answer to a text whose moment should be u: the one accepted record there, with the nanosecond and the offset of r, or a refusal, and
-- then no accepted record has that moment and offset.
pub data Answered (r : ExtendedDateTime) (u : ℤ) (a : Answer) : Type 0 where
  there : a.number ≡ 0 → Recorded u r.nanosecond r.offset_seconds a.«record» → Answered r u a
  nowhere : 0 < a.number → a.«record» ≡ blank_record → ((s : ExtendedDateTime) → test s ≡ accepted tt → moment s ≡ u → s.offset_seconds ≡ r.offset_seconds → ⊥) → Answered r u a

-- The base is accepted, and the text has at most 4096 bytes, each below 128: what is tested before any item is read.
pub record Admitted (text : List ℕ) (base : ExtendedDateTime) : Type 0 where
  pub accepted_base : test base ≡ accepted tt
  pub short : length (lowered text) ≤ max_length
  pub ascii : length (lowered text) ≤ ascii_end (lowered text)

-- As the Rust reads the text, an item at p loses a digit, after fewer than 64 items that lose none.
abbrev pub LosesAt : List ℕ → ℕ → Type 0
LosesAt text p = Drops (lowered text) most_items 0 p
