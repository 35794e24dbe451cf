-- What a written text says of the tests of writing, and that its length is answered. Assumes nothing.
use Prim.Native.Nat.{ℕ, ◌≤◌, min}
use mathlib.Core.Path.{◌≡◌, refl}
use mathlib.Core.Bool.{true}
use mathlib.Core.List.{List}
use native.Mathlib.Omega.{arith}
use lib.Dec.{leb}
use lib.ListN.{length}
use borrow.Author.Tests.{leb-true}
use Rattle.answers.specs.Outcome.{Outcome, accepted, refused, check, ◌>>◌}
use Rattle.extended.specs.Extended.{test}
use Rattle.extended.specs.declared.ExtendedDateTime.{ExtendedDateTime}
use Rattle.extended.proofs.Records.{facts}
use Rattle.answers.proofs.Outcomes.{check_true, first_passed, same}
use Rattle.writer.specs.Writer.{text_of, whole_minutes, written, written_length, length_answer, written_answer}
use Rattle.writer.proofs.Texts.{text_long}

-- what a written text says of the record and of the room
pub record Facts (r : ExtendedDateTime) (room : ℕ) (l : List ℕ) : Type 0 where
  pub tested : test r ≡ accepted tt
  pub whole : whole_minutes r.offset_seconds ≡ true
  pub fits : length (text_of r) ≤ room
  pub text : text_of r ≡ l

pub written_facts : (r : ExtendedDateTime) (room : ℕ) (text : List ℕ) → written r room ≡ accepted text → Facts r room text
unfolding written
written_facts r room text e =
    let w = whole_minutes r.offset_seconds in
    let l = leb (length (text_of r)) room in
    let a = first_passed (test r) (check w 20 >> (check l 19 >> accepted (text_of r))) e in
    let b = first_passed (check w 20) (check l 19 >> accepted (text_of r)) a.1 in
    let c = first_passed (check l 19) (accepted (text_of r)) b.1 in
    record { tested = a.0; whole = check_true w 20 b.0; fits = leb-true (length (text_of r)) room (check_true l 19 c.0); text = same c.1 }

-- no text is so long that its length is not answered
pub length_kept : (r : ExtendedDateTime) (room : ℕ) → length_answer (written_length (written r room)) ≡ written_answer (written r room)
unfolding length_answer
length_kept r room = by (written r room) refl
  where
    by : (o : Outcome (List ℕ)) → written r room ≡ o → length_answer (written_length o) ≡ written_answer o
    by (accepted text) e =
        let f = written_facts r room text e in
        let l : length text ≤ 41 = rw f.text at (text_long r (facts r f.tested)).1 in
        let m : min (length text) 4294967295 ≡ length text = omega arith in
        rw m
    by (refused n) e = refl
