-- Whatever chunks an input comes in, the turns of the line program print its output. Assumes nothing.
use Prim.Native.Nat.{ℕ}
use mathlib.Core.Path.{◌≡◌, refl, ◌∙◌, sym, ap}
use mathlib.Core.List.{List, [], ◌∷◌, ◌++◌, append_assoc, append-nil}
use lib.ListN.{take}
use Rattle.extended.specs.declared.ExtendedDateTime.{ExtendedDateTime}
use Rattle.line_chunks.specs.Lines.{lines, answers, under_base, output_of, output}
use Rattle.line_chunks.specs.Turns.{printed, rest, Prints, again, read, close, end, Begins, seek, close_first, nothing, begin, refuse, joined}
use Rattle.line_chunks.proofs.Chunks.{covers, kept_answers, kept_output, closed_lines, lines_more}

-- one turn: what is printed, and the answers to what is left with more input behind it, are those to what was held
turn : (room : ℕ) (base : ExtendedDateTime) (held more : List ℕ) → printed room base held ++ answers base (lines (rest room base held ++ more)) ≡ answers base (lines (held ++ more))
turn room base held more = sym ((covers base held room).answered_first more)

module _ (room : ℕ) (base : ExtendedDateTime) where
  pub prints : {held : List ℕ} {reads : List (List ℕ)} {text : List ℕ} → Prints room base held reads text → text ≡ answers base (lines (held ++ joined reads))
  unfolding joined lines answers
  prints (again {held} {reads} f p) = ap (λ (t : List ℕ). printed room base held ++ t) (prints p) ∙ turn room base held (joined reads)
  prints (read {held} {chunk} {reads} f p) =
      let line = rest room base held in
      let u = (covers base held room).unended f in
      let k : answers base (lines ((take 4097 line ++ chunk) ++ joined reads)) ≡ answers base (lines (line ++ (chunk ++ joined reads))) = rw (append_assoc (take 4097 line) chunk (joined reads)) (kept_answers line (chunk ++ joined reads) u base) in
      ap (λ (t : List ℕ). printed room base held ++ t) (prints p ∙ k) ∙ turn room base held (chunk ++ joined reads)
  prints (close {held} f g p) =
      let line = rest room base held in
      let u = (covers base held room).unended f in
      let k : answers base (lines ((take 4097 line ++ (10 ∷ [])) ++ [])) ≡ answers base (lines (line ++ [])) = rw (append-nil (take 4097 line ++ (10 ∷ [])), append-nil line) (kept_answers line (10 ∷ []) u base ∙ ap (answers base) (closed_lines line u g)) in
      ap (λ (t : List ℕ). printed room base held ++ t) (prints p ∙ k) ∙ turn room base held []
  prints (end {held} f e) =
      let k : printed room base held ++ answers base (lines (rest room base held ++ [])) ≡ printed room base held = rw e (append-nil (printed room base held)) in
      sym k ∙ turn room base held []

pub begins : (room : ℕ) {held : List ℕ} {reads : List (List ℕ)} {text : List ℕ} → Begins room held reads text → text ≡ output (held ++ joined reads)
unfolding joined lines output output_of under_base
begins room (seek {held} {chunk} {reads} u p) = begins room p ∙ rw (append_assoc (take 4097 held) chunk (joined reads)) (kept_output held (chunk ++ joined reads) u)
begins room (close_first {held} u g p) = begins room p ∙ rw (append-nil (take 4097 held ++ (10 ∷ [])), append-nil held) (kept_output held (10 ∷ []) u ∙ ap output_of (closed_lines held u g))
begins room nothing = refl
begins room (begin {held} {reads} {text} {base} h e p) = prints room base p ∙ rw (lines_more held (joined reads) h, e)
begins room (refuse {held} {reads} h e) = rw (lines_more held (joined reads) h, e)

-- the program begins with nothing held
pub whole : (room : ℕ) {reads : List (List ℕ)} {text : List ℕ} → Begins room [] reads text → text ≡ output (joined reads)
whole room p = begins room p
