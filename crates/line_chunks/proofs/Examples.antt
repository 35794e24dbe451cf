-- The example of docs/SCOPE.md, 'The line program', computed: its lines, its answers, and its output from what its texts are read as. What they
-- are read as is tested by the run of crates/lines, since the calendar counts too far to be computed here. Assumes nothing.
use Prim.Native.Nat.{ℕ}
use mathlib.Core.Path.{◌≡◌, refl}
use mathlib.Core.List.{List, [], ◌∷◌, ◌++◌}
use lib.IntN.{pos}
use Rattle.primitive.specs.Text.{bytes}
use Rattle.extended.specs.Calendar.{leap, month_days}
use Rattle.extended.specs.Extended.{make, date, time, test_date, test_time, test_offset, test}
use Rattle.extended.specs.declared.ExtendedDateTime.{ExtendedDateTime}
use Rattle.answers.specs.Placed.{fine, refusal}
use Rattle.text_general.specs.Reading.{read_text}
use Rattle.writer.specs.Writer.{fixed, width_up_to, width, digits, padded, text_of, written}
use Rattle.line_answers.specs.Answers.{refusal_line, written_line, line_answer}
use Rattle.line_chunks.specs.Lines.{in_front, lines, answers, epoch, under_base, output_of, output}

abbrev base : List ℕ
base = bytes "2024-03-13 09:30:00.000000000+00:00"

abbrev second : List ℕ
second = bytes "2024-01-31 +1 month"

abbrev third : List ℕ
third = bytes "sept. 3"

abbrev fourth : List ℕ
fourth = bytes "10:00 +2 hours"

abbrev input : List ℕ
input = base ++ (10 ∷ (second ++ (10 ∷ (third ++ (10 ∷ (fourth ++ (10 ∷ [])))))))

pub four_lines : lines input ≡ base ∷ second ∷ third ∷ fourth ∷ []
unfolding lines in_front bytes
four_lines = refl

-- no byte 10 after the last line, an empty line, and nothing
pub ends : (lines (49 ∷ 10 ∷ 50 ∷ []) ≡ (49 ∷ []) ∷ (50 ∷ []) ∷ []) × (lines (10 ∷ 10 ∷ []) ≡ [] ∷ [] ∷ []) × (lines [] ≡ [])
unfolding lines in_front
ends = (refl, refl, refl)

abbrev wednesday : ExtendedDateTime
wednesday = make (date 2024 3 13) (time 9 30 0 0) (pos 0)

abbrev saturday : ExtendedDateTime
saturday = make (date 2024 3 2) (time 0 0 0 0) (pos 0)

abbrev later : ExtendedDateTime
later = make (date 2024 3 13) (time 11 0 0 0) (pos 7200)

abbrev saturday_line : List ℕ
saturday_line = bytes "0 2024-03-02 00:00:00.000000000+00:00" ++ (10 ∷ [])

abbrev refused_line : List ℕ
refused_line = bytes "3 0" ++ (10 ∷ [])

abbrev later_line : List ℕ
later_line = bytes "0 2024-03-13 11:00:00.000000000+02:00" ++ (10 ∷ [])

pub three_answers : (line_answer (fine saturday) ≡ saturday_line) × (line_answer (refusal 3 0) ≡ refused_line) × (line_answer (fine later) ≡ later_line)
unfolding line_answer written_line refusal_line written make leap month_days test_date test_time test_offset test bytes fixed width_up_to width digits padded text_of
three_answers = (refl, refl, refl)

-- seam: a record whose offset is not whole minutes
pub unwritten : line_answer (fine (make (date 2024 3 13) (time 9 30 0 0) (pos 30))) ≡ bytes "20 0" ++ (10 ∷ [])
unfolding line_answer written_line refusal_line written make leap month_days test_date test_time test_offset test bytes fixed width_up_to width digits padded text_of
unwritten = refl

pub whole_output : read_text base epoch ≡ fine wednesday → read_text second wednesday ≡ fine saturday → read_text third wednesday ≡ refusal 3 0 → read_text fourth wednesday ≡ fine later → output input ≡ saturday_line ++ (refused_line ++ (later_line ++ []))
unfolding output output_of under_base answers
whole_output a b c d = rw (four_lines, a, b, c, d, three_answers.0, three_answers.1, three_answers.2)

-- a refused base prints its number and place, and ends the program; without a line 1 nothing is printed
pub refused_base : (rest : List ℕ) (n at : ℕ) → read_text third epoch ≡ refusal n at → output_of (third ∷ rest ∷ []) ≡ refusal_line n at
unfolding output_of under_base
refused_base rest n at e = rw e

pub nothing : output [] ≡ []
unfolding output output_of lines
nothing = refl
