-- The lines of an input: docs/SCOPE.md, 'The line program'.
use Rattle.std.specs.Prelude.{ℕ, suc, ◌+◌, ◌-◌, List, [], ◌∷◌, ◌++◌, ltb, eqb, length, take, drop, cond}
use Rattle.answers.specs.Limits.{max_length}

-- a byte in front of the first line
unfoldable pub in_front : ℕ → List (List ℕ) → List (List ℕ)
in_front b [] = (b ∷ []) ∷ []
in_front b (line ∷ later) = (b ∷ line) ∷ later

-- Byte 10 ends a line. Bytes after the last byte 10 are a line too; if there are none, there is no such line.
unfoldable pub lines : List ℕ → List (List ℕ)
lines [] = []
lines (b ∷ input) = cond (eqb b 10) ([] ∷ lines input) (in_front b (lines input))

-- how many bytes the first line has: those before the first byte 10, or all of them
unfoldable pub line_length : List ℕ → ℕ
line_length [] = 0
line_length (b ∷ input) = cond (eqb b 10) 0 (suc (line_length input))

-- ---- by chunks: a byte in front of the first line that has ended, if one has
unfoldable pub in_front_of_ended : ℕ → List (List ℕ) → List (List ℕ)
in_front_of_ended b [] = []
in_front_of_ended b (line ∷ later) = (b ∷ line) ∷ later

-- the lines of a chunk that have ended
unfoldable pub whole_lines : List ℕ → List (List ℕ)
whole_lines [] = []
whole_lines (b ∷ chunk) = cond (eqb b 10) ([] ∷ whole_lines chunk) (in_front_of_ended b (whole_lines chunk))

-- the bytes of lines, each with the byte 10 that ends it
unfoldable pub unlines : List (List ℕ) → List ℕ
unlines [] = []
unlines (line ∷ later) = line ++ (10 ∷ unlines later)

-- what is kept of a line that has not ended, from one place to another: at most one byte more than the longest text; nothing where there are
-- no such places
unfoldable pub kept : List ℕ → ℕ → ℕ → List ℕ
kept buffer from end = cond (ltb (length buffer) end) [] (take (max_length + 1) (take (end - from) (drop from buffer)))
