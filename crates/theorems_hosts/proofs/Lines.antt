-- The line program never prints 20, nor 19: its base is read under the epoch, whose offset is 0, so every offset after it is one of whole
-- minutes, and 41 bytes are lent for each text. Assumes nothing.
use Prim.Native.Nat.{ℕ}
use mathlib.Core.Path.{◌≡◌, refl}
use mathlib.Core.Bool.{true}
use mathlib.Core.List.{List, [], ◌∷◌, ◌++◌}
use lib.ListN.{length}
use borrow.Author.Tests.{le-leb}
use Rattle.answers.specs.Outcome.{accepted}
use Rattle.answers.specs.Placed.{fine}
use Rattle.extended.specs.Extended.{make, test}
use Rattle.extended.specs.declared.ExtendedDateTime.{ExtendedDateTime}
use Rattle.extended.proofs.Records.{facts}
use Rattle.text_general.specs.Reading.{read_text}
use Rattle.writer.specs.Writer.{whole_minutes, text_of, written}
use Rattle.writer.proofs.Texts.{text_long}
use Rattle.line_answers.specs.Answers.{written_line, line_answer}
use Rattle.line_chunks.specs.Lines.{epoch}
use Rattle.theorems_hosts.proofs.Theorems.{text_whole, text_accepted}

all_written : (r : ExtendedDateTime) → test r ≡ accepted tt → whole_minutes r.offset_seconds ≡ true → written r 41 ≡ accepted (text_of r)
unfolding written
all_written r t k = rw (t, k, le-leb (length (text_of r)) 41 (text_long r (facts r t)).1)

-- A line whose text is read under the base of line 1 prints `0 ` and the record's text; `0` is 48, a blank 32, and byte 10 ends the line.
pub line_written : (first line : List ℕ) (base r : ExtendedDateTime) → read_text first epoch ≡ fine base → read_text line base ≡ fine r → line_answer (read_text line base) ≡ 48 ∷ (32 ∷ (text_of r ++ (10 ∷ [])))
unfolding line_answer written_line epoch make
line_written first line base r b e =
    let k = text_whole first epoch base refl b in
    rw (e, all_written r (text_accepted line base r e) (text_whole line base r k e)) refl
