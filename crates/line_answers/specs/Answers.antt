-- What the line program prints for one line: docs/SCOPE.md, 'The line program'.
use Rattle.answers.specs.Limits.{longest_text}
use Rattle.std.specs.Prelude.{ℕ, List, [], ◌∷◌, ◌++◌, ltb, cond}
use Rattle.answers.specs.Outcome.{Outcome, number}
use Rattle.extended.specs.declared.ExtendedDateTime.{ExtendedDateTime}
use Rattle.answers.specs.Placed.{Placed, fine, refusal}
use Rattle.writer.specs.Writer.{digits, written, bytes_of}
pub use Rattle.line_ends.specs.Put.{Put}
unfoldable pub use Rattle.line_ends.specs.Put.{put_at}

-- the number, a blank and the place of a refusal; a blank is 32, and byte 10 ends the line
unfoldable pub refusal_line : ℕ → ℕ → List ℕ
refusal_line n at = digits n ++ (32 ∷ (digits at ++ (10 ∷ [])))

-- `0`, which is 48, a blank and the text of the record; a record that can't be written is refused at place 0
unfoldable pub written_line : Outcome (List ℕ) → List ℕ
written_line o = cond (ltb 0 (number o)) (refusal_line (number o) 0) (48 ∷ 32 ∷ (bytes_of o ++ (10 ∷ [])))

-- no text has more than 41 bytes
unfoldable pub line_answer : Placed ExtendedDateTime → List ℕ
line_answer (fine r) = written_line (written r longest_text)
line_answer (refusal n at) = refusal_line n at
