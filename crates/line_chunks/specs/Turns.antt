-- The turns of the line program, by what `put_answers`, `keep` and `first_line_end` promise: what it prints, from the bytes in its buffer and
-- the chunks that it has yet to read. At the end of the input a read gives nothing. `room` is that of the buffer for answers.
use Rattle.std.specs.Prelude.{ℕ, suc, ◌+◌, ◌-◌, ◌<◌, ◌≡◌, Bool, true, false, List, [], ◌∷◌, ◌++◌, length, take, drop}
use Rattle.extended.specs.declared.ExtendedDateTime.{ExtendedDateTime}
use Rattle.answers.specs.Limits.{max_length}
use Rattle.answers.specs.Placed.{fine, refusal}
use Rattle.text_general.specs.Reading.{read_text}
use Rattle.line_answers.specs.Answers.{refusal_line}
use Rattle.line_chunks.specs.Lines.{line_length, answers, answered, unlines, wanting, epoch}

-- what a turn prints, what it leaves, and whether it stopped for want of room
abbrev pub printed : ℕ → ExtendedDateTime → List ℕ → List ℕ
printed room base held = answers base (answered held base room)

abbrev pub rest : ℕ → ExtendedDateTime → List ℕ → List ℕ
rest room base held = drop (length (unlines (answered held base room))) held

abbrev pub full : ℕ → ExtendedDateTime → List ℕ → Bool
full room base held = wanting (length held - length (unlines (answered held base room))) (room - length (printed room base held))

-- the turns under a base
pub data Prints (room : ℕ) (base : ExtendedDateTime) : List ℕ → List (List ℕ) → List ℕ → Type 0 where
  again : {held : List ℕ} {reads : List (List ℕ)} {text : List ℕ} → full room base held ≡ true → Prints room base (rest room base held) reads text → Prints room base held reads (printed room base held ++ text)
  read : {held chunk : List ℕ} {reads : List (List ℕ)} {text : List ℕ} → full room base held ≡ false → Prints room base (take (max_length + 1) (rest room base held) ++ chunk) reads text → Prints room base held (chunk ∷ reads) (printed room base held ++ text)
  close : {held text : List ℕ} → full room base held ≡ false → 0 < length (rest room base held) → Prints room base (take (max_length + 1) (rest room base held) ++ (10 ∷ [])) [] text → Prints room base held [] (printed room base held ++ text)
  end : {held : List ℕ} → full room base held ≡ false → rest room base held ≡ [] → Prints room base held [] (printed room base held)

-- the turns before them, which look for line 1
pub data Begins (room : ℕ) : List ℕ → List (List ℕ) → List ℕ → Type 0 where
  seek : {held chunk : List ℕ} {reads : List (List ℕ)} {text : List ℕ} → line_length held ≡ length held → Begins room (take (max_length + 1) held ++ chunk) reads text → Begins room held (chunk ∷ reads) text
  close_first : {held text : List ℕ} → line_length held ≡ length held → 0 < length held → Begins room (take (max_length + 1) held ++ (10 ∷ [])) [] text → Begins room held [] text
  nothing : Begins room [] [] []
  begin : {held : List ℕ} {reads : List (List ℕ)} {text : List ℕ} {base : ExtendedDateTime} → line_length held < length held → read_text (take (line_length held) held) epoch ≡ fine base → Prints room base (drop (suc (line_length held)) held) reads text → Begins room held reads text
  refuse : {held : List ℕ} {reads : List (List ℕ)} {n at : ℕ} → line_length held < length held → read_text (take (line_length held) held) epoch ≡ refusal n at → Begins room held reads (refusal_line n at)

-- the chunks, one after the other
unfoldable pub joined : List (List ℕ) → List ℕ
joined [] = []
joined (chunk ∷ reads) = chunk ++ joined reads
