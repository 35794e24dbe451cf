-- The lines of an input that comes in chunks: what is answered of a chunk, and what may be dropped of a line that has not ended. Assumes
-- nothing.
use native.Mathlib.Omega.{arith}
use borrow.Author.Tests.{ltb-true, ltb-false, lt-ltb}
use Prim.Native.Nat.{ℕ, zero, suc, ◌+◌, ◌-◌, ◌<◌, ◌≤◌}
use native.Mathlib.Nat.{sub-zero}
use mathlib.Core.Path.{◌≡◌, refl, ◌∙◌, sym, ap}
use mathlib.Core.Bool.{Bool, true, false, ◌&&◌, cond}
use mathlib.Core.List.{List, [], ◌∷◌, ◌++◌, append_assoc, append-nil}
use lib.Dec.{ltb, eqb}
use lib.ListN.{length, take, drop, length-append, length-drop, length-take}
use lib.Seq.{length-take-le, take_all, drop-drop}
use Rattle.extended.specs.Extended.{test}
use Rattle.extended.specs.declared.ExtendedDateTime.{ExtendedDateTime}
use Rattle.primitive.specs.Text.{lowered}
use Rattle.primitive.proofs.Lowered.{length_lowered}
use Rattle.answers.specs.Placed.{Placed, refusal, placed, ◌>>◌}
use Rattle.text_tests.proofs.Tests as tests
use Rattle.text_general.specs.Reading.{read_parsed, read_text}
use Rattle.line_answers.specs.Answers.{line_answer}
use Rattle.line_chunks.specs.Lines.{in_front, lines, line_length, answers, answered, unlines, wanting, epoch, output_of, output}
use Rattle.line_ends.proofs.Splitting.{line_inside}
use Rattle.line_chunks.proofs.Answering.{answered_full, answered_none, answered_more}

-- ---- a text that is too long
-- refused with 1 at place 0, whatever bytes it has; a base that is no record is refused before it
abbrev too_long : ExtendedDateTime → Placed ExtendedDateTime
too_long base = placed 0 (test base) >> refusal 1 0

pub long_refused : (text : List ℕ) (base : ExtendedDateTime) → 4096 < length text → read_text text base ≡ too_long base
unfolding read_text read_parsed
long_refused text base h = tests.too_long (lowered text) base _ (rw (length_lowered text) h)

-- of a line that has not ended 4097 bytes decide its answer
pub kept_text : (line more : List ℕ) (base : ExtendedDateTime) → read_text (take 4097 line ++ more) base ≡ read_text (line ++ more) base
kept_text line more base = by (ltb 4097 (length line)) refl where
  by : (t : Bool) → ltb 4097 (length line) ≡ t → read_text (take 4097 line ++ more) base ≡ read_text (line ++ more) base
  by true e =
      let h : 4097 < length line = ltb-true 4097 (length line) e in
      let l : length (take 4097 line) ≡ 4097 = length-take-le 4097 line (omega arith) in
      long_refused (take 4097 line ++ more) base (omega (arith, length-append (take 4097 line) more)) ∙ sym (long_refused (line ++ more) base (omega (arith, length-append line more)))
  by false e = rw (take_all 4097 line (ltb-false 4097 (length line) e))

-- ---- a line that has not ended, in front of more input
-- the first line of more, and those behind it
first_of : List (List ℕ) → List ℕ
first_of [] = []
first_of (line ∷ later) = line

later_of : List (List ℕ) → List (List ℕ)
later_of [] = []
later_of (line ∷ later) = later

pub unended_later : (b : ℕ) (s : List ℕ) → line_length (b ∷ s) ≡ length (b ∷ s) → (eqb b 10 ≡ false) × (line_length s ≡ length s)
unfolding line_length
unended_later b s h = by (eqb b 10) h where
  by : (t : Bool) → cond t 0 (suc (line_length s)) ≡ suc (length s) → (t ≡ false) × (line_length s ≡ length s)
  by true h = absurd (omega arith)
  by false h = (refl, omega arith)

front : (b : ℕ) (s : List ℕ) (ls : List (List ℕ)) → in_front b ((s ++ first_of ls) ∷ later_of ls) ≡ ((b ∷ s) ++ first_of ls) ∷ later_of ls
unfolding in_front
front b s ls = refl

lines_unended : (line more : List ℕ) → line_length line ≡ length line → 0 < length line → lines (line ++ more) ≡ (line ++ first_of (lines more)) ∷ later_of (lines more)
unfolding lines in_front first_of later_of
lines_unended [] more h g = absurd (omega arith)
lines_unended (b ∷ []) more h g = let e = unended_later b [] h in rw e.0 (by (lines more)) where
  by : (ls : List (List ℕ)) → in_front b ls ≡ (b ∷ first_of ls) ∷ later_of ls
  by [] = refl
  by (l ∷ later) = refl
lines_unended (b ∷ a ∷ s) more h g =
    let e = unended_later b (a ∷ s) h in
    let i = lines_unended (a ∷ s) more e.1 (omega arith) in
    rw e.0 (ap (in_front b) i)

pub unended_take : (n : ℕ) (line : List ℕ) → line_length line ≡ length line → line_length (take n line) ≡ length (take n line)
unfolding line_length
unended_take zero line h = refl
unended_take (suc n) [] h = refl
unended_take (suc n) (b ∷ s) h = let e = unended_later b s h in rw e.0 (ap suc (unended_take n s e.1))

-- what is kept of it decides its answer, and no later one
module _ (line more : List ℕ) (h : line_length line ≡ length line) where
  kept_lines : 0 < length line → lines (take 4097 line ++ more) ≡ (take 4097 line ++ first_of (lines more)) ∷ later_of (lines more)
  kept_lines g = lines_unended (take 4097 line) more (unended_take 4097 line h) (simp length-take (omega arith))

  module _ (base : ExtendedDateTime) where
    pub kept_answers : answers base (lines (take 4097 line ++ more)) ≡ answers base (lines (line ++ more))
    unfolding answers
    kept_answers = by line h kept_lines where
      by : (l : List ℕ) → line_length l ≡ length l → (0 < length l → lines (take 4097 l ++ more) ≡ (take 4097 l ++ first_of (lines more)) ∷ later_of (lines more)) → answers base (lines (take 4097 l ++ more)) ≡ answers base (lines (l ++ more))
      by [] h k = refl
      by (b ∷ s) h k = rw (k (omega arith), lines_unended (b ∷ s) more h (omega arith), kept_text (b ∷ s) (first_of (lines more)) base)

  pub kept_output : output (take 4097 line ++ more) ≡ output (line ++ more)
  unfolding output output_of
  kept_output = by line h kept_lines where
    by : (l : List ℕ) → line_length l ≡ length l → (0 < length l → lines (take 4097 l ++ more) ≡ (take 4097 l ++ first_of (lines more)) ∷ later_of (lines more)) → output (take 4097 l ++ more) ≡ output (l ++ more)
    by [] h k = refl
    by (b ∷ s) h k = rw (k (omega arith), lines_unended (b ∷ s) more h (omega arith), kept_text (b ∷ s) (first_of (lines more)) epoch)

-- ---- the first line, where it has ended, in front of more input
pub lines_more : (s more : List ℕ) → line_length s < length s → lines (s ++ more) ≡ take (line_length s) s ∷ lines (drop (suc (line_length s)) s ++ more)
unfolding line_length lines in_front
lines_more [] more h = absurd (omega arith)
lines_more (b ∷ s) more h = by (eqb b 10) h (lines_more s more) where
  by : (t : Bool) → cond t 0 (suc (line_length s)) < suc (length s) → (line_length s < length s → lines (s ++ more) ≡ take (line_length s) s ∷ lines (drop (suc (line_length s)) s ++ more)) → cond t ([] ∷ lines (s ++ more)) (in_front b (lines (s ++ more))) ≡ take (cond t 0 (suc (line_length s))) (b ∷ s) ∷ lines (drop (cond t 0 (suc (line_length s))) s ++ more)
  by true h e = refl
  by false h e = rw (e (omega arith))

-- ---- what is answered of a chunk
-- the answers to a chunk with more input behind it are those that are put, and those to what is left with more behind it; where the answers
-- did not stop for want of room, what is left is a line that has not ended
pub record Covers (base : ExtendedDateTime) (chunk : List ℕ) (room : ℕ) (ls : List (List ℕ)) : Type 0 where
  pub answered_first : (more : List ℕ) → answers base (lines (chunk ++ more)) ≡ answers base ls ++ answers base (lines (drop (length (unlines ls)) chunk ++ more))
  pub unended : wanting (length chunk - length (unlines ls)) (room - length (answers base ls)) ≡ false → line_length (drop (length (unlines ls)) chunk) ≡ length (drop (length (unlines ls)) chunk)

covers_full : (base : ExtendedDateTime) (chunk : List ℕ) (room : ℕ) → room < 44 → Covers base chunk room []
unfolding answers unlines wanting line_length
covers_full base [] room h = record { answered_first = λ more. refl; unended = λ w. refl }
covers_full base (b ∷ s) room h = record { answered_first = λ more. refl; unended = λ w. absurd (never w) } where
  never : (ltb 0 (suc (length s) - 0) && ltb (room - 0) 44) ≡ false → ⊥
  never w =
      let e : ltb (room - 0) 44 ≡ true = rw (sub-zero room) (lt-ltb room 44 h) in
      let f : ltb 0 (suc (length s) - 0) ≡ true = lt-ltb 0 (suc (length s) - 0) (omega arith) in
      let z : true ≡ false = rw (f, e) at w in
      let y : ◌≡◌ {A = ℕ} 0 1 = cc in
      omega arith

covers_unended : (base : ExtendedDateTime) (chunk : List ℕ) (room : ℕ) → line_length chunk ≡ length chunk → Covers base chunk room []
unfolding answers unlines
covers_unended base chunk room h = record { answered_first = λ more. refl; unended = λ w. h }

module _ (base : ExtendedDateTime) (chunk : List ℕ) (room : ℕ) (h : line_length chunk < length chunk) where
  covers_more : (ls : List (List ℕ)) → Covers base (drop (suc (line_length chunk)) chunk) (room - length (line_answer (read_text (take (line_length chunk) chunk) base))) ls → Covers base chunk room (take (line_length chunk) chunk ∷ ls)
  unfolding answers unlines
  covers_more ls v =
      let n = line_length chunk in
      let line = take n chunk in
      let a = line_answer (read_text line base) in
      let k : length line ≡ n = length-take-le n chunk (omega arith) in
      let l : length (line ++ (10 ∷ unlines ls)) ≡ suc n + length (unlines ls) = omega (arith, k, length-append line (10 ∷ unlines ls)) in
      let d : drop (length (line ++ (10 ∷ unlines ls))) chunk ≡ drop (length (unlines ls)) (drop (suc n) chunk) = ap (λ (i : ℕ). drop i chunk) l ∙ sym (drop-drop (length (unlines ls)) (suc n) chunk) in
      let p : length chunk - length (line ++ (10 ∷ unlines ls)) ≡ length (drop (suc n) chunk) - length (unlines ls) = omega (arith, l, length-drop (suc n) chunk) in
      let q : room - length (a ++ answers base ls) ≡ room - length a - length (answers base ls) = omega (arith, length-append a (answers base ls)) in
      record {
        answered_first = λ (more : List ℕ). rw (lines_more chunk more h, d, append_assoc a (answers base ls) (answers base (lines (drop (length (unlines ls)) (drop (suc n) chunk) ++ more)))) (ap (λ (t : List ℕ). a ++ t) (v.answered_first more));
        unended = λ w. rw d (v.unended (rw (p, q) at w));
      }

step : (base : ExtendedDateTime) (chunk : List ℕ) (room : ℕ) → ((shorter : List ℕ) (r : ℕ) → length shorter < length chunk → Covers base shorter r (answered shorter base r)) → Covers base chunk room (answered chunk base room)
step base chunk room later = by_room (ltb room 44) refl where
  by_line : 44 ≤ room → (t : Bool) → ltb (line_length chunk) (length chunk) ≡ t → Covers base chunk room (answered chunk base room)
  by_line g true e =
      let n = line_length chunk in
      let h : n < length chunk = ltb-true n (length chunk) e in
      rw (answered_more chunk base room n refl h g) (covers_more base chunk room h (answered (drop (suc n) chunk) base (room - length (line_answer (read_text (take n chunk) base)))) (later (drop (suc n) chunk) (room - length (line_answer (read_text (take n chunk) base))) (rw (length-drop (suc n) chunk) (omega arith))))
  by_line g false e =
      let h : length chunk ≤ line_length chunk = ltb-false (line_length chunk) (length chunk) e in
      rw (answered_none chunk base room h) (covers_unended base chunk room (omega (arith, line_inside chunk)))

  by_room : (t : Bool) → ltb room 44 ≡ t → Covers base chunk room (answered chunk base room)
  by_room true e = let h : room < 44 = ltb-true room 44 e in rw (answered_full chunk base room h) (covers_full base chunk room h)
  by_room false e = by_line (ltb-false room 44 e) (ltb (line_length chunk) (length chunk)) refl

up_to : (bound : ℕ) (base : ExtendedDateTime) (chunk : List ℕ) (room : ℕ) → length chunk ≤ bound → Covers base chunk room (answered chunk base room)
up_to zero base chunk room b = step base chunk room (λ (shorter : List ℕ) (r : ℕ) (h : length shorter < length chunk). absurd (omega arith))
up_to (suc k) base chunk room b = step base chunk room (λ (shorter : List ℕ) (r : ℕ) (h : length shorter < length chunk). up_to k base shorter r (omega arith))

pub covers : (base : ExtendedDateTime) (chunk : List ℕ) (room : ℕ) → Covers base chunk room (answered chunk base room)
covers base chunk room = up_to (length chunk) base chunk room (omega arith)

-- ---- the end of the input ends a line
pub closed_lines : (line : List ℕ) → line_length line ≡ length line → 0 < length line → lines (line ++ (10 ∷ [])) ≡ lines line
unfolding lines in_front first_of later_of
closed_lines line h g = lines_unended line (10 ∷ []) h g ∙ sym (lines_unended line [] h g) ∙ ap lines (append-nil line)
