-- What writing and reading promise together, on the calls of hosts: read this file first. `Wrote` is the contract of `seqtullo_write`, and
-- `answer (ReadText text base)` what `seqtullo_read_text` returns by its contract. `test r ≡ accepted tt` says that `new` refuses none of the
-- numbers of r; `moment` is the counted calendar's, in whole numbers without bound. Assumes nothing.
use native.Mathlib.Omega.{arith}
use borrow.Author.Tests.{le-leb}
use lib.Dec.{leb}
use Prim.Native.Nat.{ℕ, ◌+◌, ◌/◌, ◌%◌, ◌<◌, ◌≤◌}
use mathlib.Core.Path.{◌≡◌, refl, sym, ap, ap₂, ◌∙◌}
use mathlib.Core.Bool.{Bool, true, false}
use mathlib.Core.List.{List, ◌++◌}
use lib.IntN.{ℤ, pos, ◌+ℤ◌, +ℤ_idr}
use lib.ListN.{length, drop}
use lib.Seq.{take-append_seam, drop-append_seam}
use Rattle.answers.specs.Outcome.{Outcome, accepted, refused, number, check, ◌>>◌}
use Rattle.extended.specs.Extended.{Recorded, test, moment, add_seconds}
use Rattle.extended.specs.declared.ExtendedDateTime.{ExtendedDateTime}
use Rattle.answers.proofs.Outcomes.{same}
use Rattle.extended.proofs.Records.{facts}
use Rattle.extended.proofs.Theorems.{from_unix_seconds_exact, seconds_exact, seconds_refused}
use Rattle.primitive.specs.Ordinal.{signed}
use Rattle.answers.specs.Placed.{placed}
use Rattle.writer.specs.Writer.{whole_minutes, text_of, written, bytes_of, written_answer, over}
use Rattle.writer.specs.declared.Written.{Written}
use Rattle.writer.proofs.Texts.{text_long}
use Rattle.writer.proofs.Theorems.{one_owner}
use Rattle.text_general.specs.Reading.{read_text}
use Rattle.theorems_round_trip.proofs.Texts.{shift, read_alone, read_moved}
use Rattle.host_calls.proofs.Numbered.{Numbered, value, by_number, not_in, positive, given}
use Rattle.theorems_round_trip.proofs.Refusals.{test_numbered, not_among, Among, a_value, placed_among, add_seconds_numbered}
use Rattle.theorems_round_trip.proofs.TextRefusals.{any_base}
use Rattle.host_answers.specs.Hosts.{placed_answer}
use Rattle.host_calls.specs.Given.{record_numbers, sum_numbers}
use Rattle.host_calls.specs.Calls.{answer, ReadText, Wrote}
use Rattle.theorems_round_trip.specs.Promises.{Writable, seconds, text_in, Answered, there, nowhere}
use Rattle.host_answers.specs.declared.Answer.{Answer}

seconds_are : (minus : Bool) (n : ℕ) → shift minus n ≡ seconds minus n
unfolding shift
seconds_are true n = refl
seconds_are false n = refl

-- ---- sums without nanoseconds

no_carry : (r : ExtendedDateTime) (z : ℤ) → test r ≡ accepted tt → z +ℤ pos ((r.nanosecond + 0) / 1000000000) ≡ z
no_carry r z t = let e : (r.nanosecond + 0) / 1000000000 ≡ 0 = omega (arith, (facts r t).nanosecond_high) in rw e (+ℤ_idr z)

recorded : (r : ExtendedDateTime) (z : ℤ) (s : ExtendedDateTime) → test r ≡ accepted tt → Recorded (z +ℤ pos ((r.nanosecond + 0) / 1000000000)) ((r.nanosecond + 0) % 1000000000) r.offset_seconds s → Recorded z r.nanosecond r.offset_seconds s
recorded r z s t w =
    let e : (r.nanosecond + 0) % 1000000000 ≡ r.nanosecond = omega (arith, (facts r t).nanosecond_high) in
    record { is_accepted = w.is_accepted; has_moment = w.has_moment ∙ no_carry r z t; has_nanosecond = w.has_nanosecond ∙ e; has_offset = w.has_offset }

-- ---- writing

written_whole : (r : ExtendedDateTime) (room : ℕ) → Writable r → 41 ≤ room → written r room ≡ accepted (text_of r)
unfolding written
written_whole r room k h = rw (k.accepted_record, k.whole, le-leb (length (text_of r)) room (omega (arith, text_long r (facts r k.accepted_record))))

-- what is answered with 0 is written whole, and its record can be written
written_done : (r : ExtendedDateTime) (room : ℕ) → number (written r room) ≡ 0 → Writable r × (written r room ≡ accepted (text_of r))
unfolding written
written_done r room e = by (test r) refl (test_numbered r) (whole_minutes r.offset_seconds) refl (leb (length (text_of r)) room) e
  where
    next : Bool → Bool → Outcome (List ℕ)
    next u v = check u 20 >> (check v 19 >> accepted (text_of r))

    by : (o : Outcome (Unit {0})) → test r ≡ o → Numbered record_numbers o → (u : Bool) → whole_minutes r.offset_seconds ≡ u → (v : Bool) → number (o >> next u v) ≡ 0 →
        Writable r × ((o >> next u v) ≡ accepted (text_of r))
    by o t (value a) true h true f = (record { accepted_record = t; whole = h }, refl)
    by o t (value a) true h false f = absurd (omega (arith, f))
    by o t (value a) false h v f = absurd (omega (arith, f))
    by o t (by_number n m) u h v f = absurd (not_in record_numbers n 0 refl m f)

-- Every accepted record with an offset of whole minutes is written where 41 bytes or more are lent: in 35 to 41 bytes, and the bytes after them
-- stay.
pub is_written : (r : ExtendedDateTime) → Writable r → (out : List ℕ) → 41 ≤ length out → (w : Written) (left : List ℕ) → Wrote r out w left →
    (w.number ≡ 0) × (35 ≤ w.length) × (w.length ≤ 41) × (drop w.length left ≡ drop w.length out)
is_written r k out room w left call =
    let e = written_whole r (length out) k room in
    let a : w ≡ record { number = 0; length = length (text_of r) } = call.answered ∙ ap written_answer e in
    let b : left ≡ text_of r ++ drop (length (text_of r)) out = call.bytes ∙ ap (λ o. over (bytes_of o) out) e in
    let l = text_long r (facts r k.accepted_record) in
    (rw a, rw a l.0, rw a l.1, rw (a, b) (drop-append_seam (text_of r) (drop (length (text_of r)) out)))

-- A call that was answered with 0, however many bytes were lent.
module _ (r : ExtendedDateTime) (out : List ℕ) (w : Written) (left : List ℕ) (call : Wrote r out w left) (done : w.number ≡ 0) where
  facts_written : Writable r × (written r (length out) ≡ accepted (text_of r))
  facts_written = written_done r (length out) (sym (ap (λ (x : Written). x.number) call.answered) ∙ done)

  k : Writable r
  k = facts_written.0

  answered : w ≡ record { number = 0; length = length (text_of r) }
  answered = call.answered ∙ ap written_answer facts_written.1

  lent : left ≡ text_of r ++ drop (length (text_of r)) out
  lent = call.bytes ∙ ap (λ o. over (bytes_of o) out) facts_written.1

  text_in_lem : text_in w left ≡ text_of r
  text_in_lem = rw (answered, lent) (take-append_seam (text_of r) (drop (length (text_of r)) out))

  -- ---- reading it back

  module _ (base : ExtendedDateTime) (b : test base ≡ accepted tt) where
    -- The text, read under any accepted base, is the record.
    pub reads_back : answer (ReadText (text_in w left) base) ≡ record { number = 0; place = 0; «record» = r }
    unfolding placed_answer
    reads_back = ap placed_answer (ap (λ l. read_text l base) text_in_lem ∙ read_alone base r b k.accepted_record k.whole)

    -- The text with N seconds behind it, N from 0 to 9223372036854775807, read under any accepted base.
    pub reads_moved : (minus : Bool) (n : ℕ) → n ≤ 9223372036854775807 → Answered r (moment r +ℤ signed minus n) (answer (ReadText (text_in w left ++ seconds minus n) base))
    unfolding placed_answer
    reads_moved minus n h = by (answer (ReadText (text_in w left ++ seconds minus n) base)) e (add_seconds r d 0) refl
      where
        d : ℤ
        d = signed minus n

        t : test r ≡ accepted tt
        t = k.accepted_record

        small : r.nanosecond + 0 < 2000000000
        small = omega (arith, (facts r t).nanosecond_high)

        e : answer (ReadText (text_in w left ++ seconds minus n) base) ≡ placed_answer (placed 0 (add_seconds r d 0))
        e = ap placed_answer (ap₂ (λ (l : List ℕ) (m : List ℕ). read_text (l ++ m) base) text_in_lem (sym (seconds_are minus n)) ∙ read_moved base r b t k.whole minus n (omega arith))

        by : (a : Answer) → a ≡ placed_answer (placed 0 (add_seconds r d 0)) → (o : Outcome ExtendedDateTime) → add_seconds r d 0 ≡ o → Answered r (moment r +ℤ d) a
        by a e (accepted s) q = there (rw (e, q)) (rw (e, q) (recorded r (moment r +ℤ d) s t ((seconds_exact r d 0 s t small).0 q)))
        by a e (refused j) q = nowhere (rw (e, q) (positive sum_numbers j refl (given (rw q at (add_seconds_numbered r d 0))))) (rw (e, q)) (λ s ts m o. seconds_refused r d 0 j t small q s ts (m ∙ sym (no_carry r (moment r +ℤ d) t)) o)

  -- ---- no digit of it is lost

  module _ (base : ExtendedDateTime) where
    undropped : (text : List ℕ) → (test base ≡ accepted tt → Among sum_numbers (read_text text base)) → (answer (ReadText text base)).number ≡ 22 → ⊥
    unfolding placed_answer
    undropped text h = not_among 22 refl (any_base sum_numbers refl text base h)

    -- The text, read under any base, be it refused or not, is never answered with 22.
    pub written_undropped : (answer (ReadText (text_in w left) base)).number ≡ 22 → ⊥
    written_undropped = undropped (text_in w left) (λ b. rw (text_in_lem, read_alone base r b k.accepted_record k.whole) (a_value r))

    -- Nor is the text with N seconds after it, N from 0 to 9223372036854775807.
    pub moved_undropped : (minus : Bool) (n : ℕ) → n ≤ 9223372036854775807 → (answer (ReadText (text_in w left ++ seconds minus n) base)).number ≡ 22 → ⊥
    moved_undropped minus n h =
        undropped (text_in w left ++ seconds minus n)
        (λ b. rw (text_in_lem, ← seconds_are minus n, read_moved base r b k.accepted_record k.whole minus n (omega arith)) (placed_among 0 (add_seconds_numbered r (signed minus n) 0)))

-- No two records are written as one text.
pub one_text : (r s : ExtendedDateTime) (out out' : List ℕ) (w w' : Written) (left left' : List ℕ) → Wrote r out w left → w.number ≡ 0 → Wrote s out' w' left' → w'.number ≡ 0 →
    text_in w left ≡ text_in w' left' → r ≡ s
one_text r s out out' w w' left left' c d c' d' e =
    let k = facts_written r out w left c d in
    let l = facts_written s out' w' left' c' d' in
    one_owner r s k.0.accepted_record l.0.accepted_record k.0.whole l.0.whole (sym (text_in_lem r out w left c d) ∙ e ∙ text_in_lem s out' w' left' c' d')

-- There is at most one accepted record of a moment, a nanosecond and an offset.
pub one_record : (u : ℤ) (n : ℕ) (o : ℤ) (r s : ExtendedDateTime) → Recorded u n o r → Recorded u n o s → r ≡ s
one_record u n o r s p q = same (sym ((from_unix_seconds_exact u n o r).1 p) ∙ (from_unix_seconds_exact u n o s).1 q)
