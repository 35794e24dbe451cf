-- What the line program prints for the whole of its input: docs/SCOPE.md, 'The line program'.
use Rattle.std.specs.Prelude.{ℕ, ◌-◌, Bool, ◌&&◌, List, [], ◌∷◌, ◌++◌, ltb, length, pos, cond}
use Rattle.extended.specs.Extended.{make, date, time}
use Rattle.extended.specs.declared.ExtendedDateTime.{ExtendedDateTime}
use Rattle.answers.specs.Placed.{Placed, fine, refusal}
use Rattle.text_general.specs.Reading.{read_text}
use Rattle.line_answers.specs.Answers.{refusal_line, line_answer}
unfoldable pub use Rattle.line_ends.specs.Lines.{in_front, lines, line_length, in_front_of_ended, whole_lines, unlines, kept}

-- the answers to texts, one after the other
unfoldable pub answers : ExtendedDateTime → List (List ℕ) → List ℕ
answers base [] = []
answers base (line ∷ later) = line_answer (read_text line base) ++ answers base later

-- the lines that are answered in a room: each while 44 bytes of it are free, which is enough for any answer
unfoldable pub fitting : ExtendedDateTime → ℕ → List (List ℕ) → List (List ℕ)
fitting base room [] = []
fitting base room (line ∷ later) = cond (ltb room 44) [] (line ∷ fitting base (room - length (line_answer (read_text line base))) later)

-- the lines of a chunk that are answered in a room
unfoldable pub answered : List ℕ → ExtendedDateTime → ℕ → List (List ℕ)
answered chunk base room = fitting base room (whole_lines chunk)

-- whether the answers stopped for want of room: with bytes of the chunk left, and less than 44 bytes of room
unfoldable pub wanting : ℕ → ℕ → Bool
wanting left room = ltb 0 left && ltb room 44

-- 1970-01-01 00:00:00 at offset 0
unfoldable pub epoch : ExtendedDateTime
epoch = make (date 1970 1 1) (time 0 0 0 0) (pos 0)

-- a refused base prints its number and place, and ends the program
unfoldable pub under_base : Placed ExtendedDateTime → List (List ℕ) → List ℕ
under_base (fine base) later = answers base later
under_base (refusal n at) later = refusal_line n at

-- Line 1 is the base, and every line after it a text. Without a line 1 nothing is printed.
unfoldable pub output_of : List (List ℕ) → List ℕ
output_of [] = []
output_of (first ∷ later) = under_base (read_text first epoch) later

unfoldable pub output : List ℕ → List ℕ
output input = output_of (lines input)
