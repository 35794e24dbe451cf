-- The text of a record, written to a part of an answer. Assumes nothing.
use native.Mathlib.Omega.{arith}
use borrow.Author.Tests.{leb-true}
use borrow.Rule.Slice.PartMut.{mid_of, put_mid, mid_len}
use Prim.Native.Nat.{ℕ, ◌+◌, ◌≤◌}
use mathlib.Core.Path.{◌≡◌, refl, ◌∙◌, ap}
use mathlib.Core.Bool.{Bool, true, false}
use mathlib.Core.List.{List}
use lib.Dec.{leb}
use lib.ListN.{length}
use Rattle.answers.specs.Outcome.{Outcome, accepted, refused, number, value_or, check, ◌>>◌}
use Rattle.extended.specs.Extended.{test}
use Rattle.extended.specs.declared.ExtendedDateTime.{ExtendedDateTime}
use Rattle.writer.specs.Writer.{text_of, whole_minutes, written, bytes_of, written_length, over}
use Rattle.line_answers.specs.Answers.{Put}
use Rattle.line_answers.proofs.Putting.{part_put}

fit : (t : Outcome (Unit {0})) (w : Bool) (x : List ℕ) (n : ℕ) (l : Bool) → leb (length x) n ≡ l → length (bytes_of (t >> (check w 20 >> (check l 19 >> accepted x)))) ≤ n
fit (refused k) w x n l e = omega arith
fit (accepted u) false x n l e = omega arith
fit (accepted u) true x n false e = omega arith
fit (accepted u) true x n true e = leb-true (length x) n e

-- what is written fits its room
pub bytes_fit : (r : ExtendedDateTime) (n : ℕ) → length (bytes_of (written r n)) ≤ n
unfolding written
bytes_fit r n = fit (test r) (whole_minutes r.offset_seconds) (text_of r) n (leb (length (text_of r)) n) refl

-- how many bytes are written, and under which number
counted : (o : Outcome (List ℕ)) → (number (written_length o) ≡ number o) × (value_or 0 (written_length o) ≡ length (bytes_of o))
counted (accepted text) = (refl, refl)
counted (refused n) = (refl, refl)

module _ (r : ExtendedDateTime) (out ys : List ℕ) (w : Outcome ℕ) (h : 43 ≤ length out) where
  room : length (mid_of 2 41 out) ≡ 41
  room = mid_len 2 43 out h

  pub text_number : w ≡ written_length (written r (length (mid_of 2 41 out))) → (number w ≡ number (written r 41)) × (value_or 0 w ≤ 41)
  text_number e =
      let f : w ≡ written_length (written r 41) = rw room at e in
      let k = counted (written r 41) in
      (rw f k.0, rw (f, k.1) (bytes_fit r 41))

  pub text_put : w ≡ written_length (written r (length (mid_of 2 41 out))) → ys ≡ over (bytes_of (written r (length (mid_of 2 41 out)))) (mid_of 2 41 out) → Put (bytes_of (written r 41)) 2 out (2 + value_or 0 w) (put_mid 2 41 out ys)
  text_put e f =
      let g : w ≡ written_length (written r 41) = rw room at e in
      let k : ys ≡ over (bytes_of (written r 41)) (mid_of 2 41 out) = f ∙ ap (λ (n : ℕ). over (bytes_of (written r n)) (mid_of 2 41 out)) room in
      let l : length (bytes_of (written r 41)) ≤ length (mid_of 2 41 out) = rw room (bytes_fit r 41) in
      record { place = rw (g, (counted (written r 41)).1); bytes = rw k (part_put (bytes_of (written r 41)) out 2 41 l) }
