-- What every call of the library promises, for all arguments. A call that is answered by a record: number 0, place 0 and an accepted record, or
-- one refusal with a number that this call can give, a place within its bounds and the blank record; the others in the same way. Read this file
-- with host_calls/specs/Calls and Given. Assumes nothing.
use native.Mathlib.Omega.{arith}
use Prim.Native.Nat.{ℕ, ◌<◌, ◌+◌, ◌-◌, ◌≤◌}
use mathlib.Core.Path.{◌≡◌, refl, sym, ap, ◌∙◌}
use mathlib.Core.List.{List, []}
use lib.ListN.{length, drop}
use lib.Dec.{leb}
use Rattle.answers.proofs.Outcomes.{no_value}
use Rattle.builder.specs.Building.{build}
use Rattle.items.specs.declared.Item.{Item}
use mathlib.Core.Bool.{Bool, true, false}
use Rattle.answers.specs.Outcome.{Outcome, accepted, refused, check}
use Rattle.answers.specs.Outcome as outcome
use Rattle.answers.proofs.Outcomes.{apart, first_passed, same}
use borrow.Author.Tests.{leb-true}
use lib.Seq.{take-append_seam, drop-append_seam}
use mathlib.Core.Logic.{◌⊎◌, inl, inr}
use Rattle.calendar.proofs.Counting.{weekday_closed, months_step, months_le, months_of_year, year_bounds, month_bounds, month_zero, month_beyond}
use Rattle.extended.specs.Calendar.{month_days, days_of_months, day_number, weekday, monday_weekday}
use Rattle.extended.proofs.Records.{facts}
use Rattle.writer.specs.Writer.{whole_minutes, text_of, written, bytes_of, written_answer, over}
use Rattle.writer.specs.declared.Written.{Written}
use Rattle.writer.proofs.Texts.{text_long}
use Rattle.answers.specs.Placed.{Placed, fine, refusal, placed, place_of, ◌>>=◌, ◌>>◌}
use Rattle.extended.specs.Extended.{make, date, time, test, accept, moment, unix_seconds, weekday_monday0, day_of_year, from_unix_seconds, add_days, add_hours, add_minutes, add_seconds, add_years, add_months}
use Rattle.extended.specs.declared.ExtendedDateTime.{ExtendedDateTime}
use Rattle.host_answers.specs.Hosts.{record_answer, placed_answer, moment_answer, number_answer}
use Rattle.host_calls.specs.Calls.{Call, New, FromUnixSeconds, AddDays, AddHours, AddMinutes, AddSeconds, AddYears, AddMonths, ReadText, ReadProfile, ReadPacket, answer, moment_of, Question, Weekday, DayOfYear, number_of, Wrote}
use Rattle.host_calls.specs.Given.{first_value, last_value, has, written_numbers, record_numbers, moment_numbers, sum_numbers, text_numbers, profile_numbers, packet_numbers, numbers, place_limit}
use Rattle.packet.proofs.Places.{place_within}
use Rattle.packet.specs.Packet.{count, header, digits, items_from, build_items, read_packet}
use Rattle.items.specs.Items.{parse_items}
use Rattle.primitive.specs.Text.{lowered}
use Rattle.text_tests.specs.Tests.{test_text}
use Rattle.text_general.specs.Reading.{items_of, build_parsed, read_parsed, read_text}
use native.Mathlib.Nat.{le_refl}
use Rattle.text_profile.specs.Profile.{read_profile}
use Rattle.text_profile.proofs.Places.{profile_place}
use Rattle.theorems_profile.proofs.Refusals.{profile_among, profile_accepted}
use Rattle.theorems_hosts.proofs.Places.{text_place}
use Rattle.theorems_packets.proofs.Refusals.{packet_among}
use Rattle.theorems_round_trip.proofs.TextRefusals.{text_among}
use Rattle.host_calls.proofs.Numbered.{Numbered, value, by_number, next, wider}
use Rattle.theorems_round_trip.proofs.Refusals.{steps, test_numbered, Among, a_value, a_refusal, accept_numbered, from_unix_seconds_numbered, add_seconds_numbered, add_units_numbered, add_years_numbered, add_months_numbered}
use Rattle.theorems_round_trip.proofs.Accepted.{Good, Any, whole_built, accept_good, unix_good, days_good, hours_good, minutes_good, seconds_good, years_good, months_good, accepted_built}
use Rattle.theorems_hosts.specs.Promises.{Answers, a_record, no_record, AnswersMoment, a_moment, no_moment, AnswersNumber, a_number, no_number, Writes, a_text, no_text}

-- an outcome whose refusals are known, and whose records are accepted
of_outcome : (g : List ℕ) (last : ℕ) (o : Outcome ExtendedDateTime) → Numbered g o → Good Any o → Answers g last (record_answer o)
unfolding record_answer
of_outcome g last o (value r) a = a_record refl refl (a r refl).0
of_outcome g last o (by_number k e) a = no_record e (omega arith) refl

pub of_placed : (g : List ℕ) (last : ℕ) (p : Placed ExtendedDateTime) → Among g p → place_of p ≤ last → ((r : ExtendedDateTime) → p ≡ fine r → test r ≡ accepted tt) → Answers g last (placed_answer p)
unfolding placed_answer
of_placed g last p (a_value r) l a = a_record refl refl (a r refl)
of_placed g last p (a_refusal k at e) l a = no_record e l refl

-- ---- what is read is accepted, and has an offset of whole minutes if the base has one

-- an answer whose record, if it has one, has the property P
abbrev Fine : (ExtendedDateTime → Type 0) → Placed ExtendedDateTime → Type 0
Fine P p = (r : ExtendedDateTime) → p ≡ fine r → P r

abbrev Accepted : ExtendedDateTime → Type 0
Accepted r = test r ≡ accepted tt

abbrev Whole : ExtendedDateTime → Type 0
Whole r = whole_minutes r.offset_seconds ≡ true

module _ (P : ExtendedDateTime → Type 0) where
  first_fine : {A : Type 0} (p : Placed A) (f : A → Placed ExtendedDateTime) → ((a : A) → Fine P (f a)) → Fine P (p >>= f)
  first_fine (fine a) f g = g a
  first_fine (refusal n at) f g = λ r e. no_value e

  step_fine : (p : Placed (Unit {0})) (q : Placed ExtendedDateTime) → Fine P q → Fine P (p >> q)
  step_fine (fine a) q g = g
  step_fine (refusal n at) q g = λ r e. no_value e

  module _ (base : ExtendedDateTime) (built : (digits : List ℕ) (xs : List Item) → Fine P (build digits xs base)) where
    text_fine : (text : List ℕ) → Fine P (read_text text base)
    unfolding read_text read_parsed build_parsed
    text_fine text = step_fine (test_text (lowered text) base) _ (first_fine (items_of (parse_items (lowered text))) (λ xs. build [] xs base) (built []))

    packet_fine : (bytes : List ℕ) → Fine P (read_packet bytes base)
    unfolding read_packet build_items
    packet_fine bytes =
        let items = first_fine (items_from bytes (digits bytes) (count bytes) 0 0) (λ xs. build (digits bytes) xs base) (built (digits bytes)) in
        step_fine (placed 0 (test base)) _ (step_fine (placed 0 (header bytes)) _ items)

accepted_always : (base : ExtendedDateTime) (digits : List ℕ) (xs : List Item) → Fine Accepted (build digits xs base)
accepted_always base digits xs r e = accepted_built digits xs base r e

whole_always : (base : ExtendedDateTime) → Whole base → (digits : List ℕ) (xs : List Item) → Fine Whole (build digits xs base)
whole_always base k digits xs r e = whole_built digits xs base r k e

-- Under a base with an offset of whole minutes, every offset that is read is one of whole minutes too: what a text or a packet gives can be
-- written.
pub text_whole : (text : List ℕ) (base r : ExtendedDateTime) → whole_minutes base.offset_seconds ≡ true → read_text text base ≡ fine r → whole_minutes r.offset_seconds ≡ true
text_whole text base r k e = text_fine Whole base (whole_always base k) text r e

pub packet_whole : (bytes : List ℕ) (base r : ExtendedDateTime) → whole_minutes base.offset_seconds ≡ true → read_packet bytes base ≡ fine r → whole_minutes r.offset_seconds ≡ true
packet_whole bytes base r k e = packet_fine Whole base (whole_always base k) bytes r e

pub text_accepted : (text : List ℕ) (base r : ExtendedDateTime) → read_text text base ≡ fine r → test r ≡ accepted tt
text_accepted text base = text_fine Accepted base (accepted_always base) text

pub packet_accepted : (bytes : List ℕ) (base r : ExtendedDateTime) → read_packet bytes base ≡ fine r → test r ≡ accepted tt
packet_accepted bytes base = packet_fine Accepted base (accepted_always base) bytes

-- ---- the calls

-- Whatever is asked: an accepted record, or one refusal of this call, with a place that is within its bounds, and the blank record.
pub one_answer : (c : Call) → Answers (numbers c) (place_limit c) (answer c)
unfolding add_days add_hours add_minutes
one_answer (New y m d h n s k o) = of_outcome record_numbers 0 (accept (make (date y m d) (time h n s k) o)) (accept_numbered (make (date y m d) (time h n s k) o)) (accept_good Any (make (date y m d) (time h n s k) o) tt)
one_answer (FromUnixSeconds u n o) = of_outcome moment_numbers 0 (from_unix_seconds u n o) (from_unix_seconds_numbered u n o) (unix_good Any u n o tt)
one_answer (AddDays r n) = of_outcome sum_numbers 0 (add_days r n) (add_units_numbered r 86400 n) (days_good Any r tt n)
one_answer (AddHours r n) = of_outcome sum_numbers 0 (add_hours r n) (add_units_numbered r 3600 n) (hours_good Any r tt n)
one_answer (AddMinutes r n) = of_outcome sum_numbers 0 (add_minutes r n) (add_units_numbered r 60 n) (minutes_good Any r tt n)
one_answer (AddSeconds r n k) = of_outcome sum_numbers 0 (add_seconds r n k) (add_seconds_numbered r n k) (seconds_good Any r tt n k)
one_answer (AddYears r n) = of_outcome sum_numbers 0 (add_years r n) (add_years_numbered r n) (years_good Any r tt n)
one_answer (AddMonths r n) = of_outcome sum_numbers 0 (add_months r n) (add_months_numbered r n) (months_good Any r tt n)
one_answer (ReadText text base) = of_placed text_numbers (length text) (read_text text base) (text_among text base) (text_place text base) (text_accepted text base)
one_answer (ReadProfile text base) = of_placed profile_numbers (length text) (read_profile text base) (profile_among text base) (profile_place text base (length text) (λ h. le_refl _)) (profile_accepted text base)
one_answer (ReadPacket packet base) = of_placed packet_numbers 64 (read_packet packet base) (packet_among packet base) (place_within packet base) (packet_accepted packet base)

-- ---- a moment, a number, a text

-- A record that is tested first: its own refusal, or what is computed of an accepted record.
tested_first : {A : Type 0} (P : Outcome A → Type 0) (r : ExtendedDateTime) (a : A) → ((k : ℕ) → has record_numbers k ≡ true → P (refused k)) → (test r ≡ accepted tt → P (accepted a)) → P (outcome.◌>>◌ (test r) (accepted a))
tested_first P r a f g = by (test r) refl (test_numbered r)
  where
    by : (o : Outcome (Unit {0})) → test r ≡ o → Numbered record_numbers o → P (outcome.◌>>◌ o (accepted a))
    by o e (value u) = g e
    by o e (by_number k n) = f k n

pub one_moment : (r : ExtendedDateTime) → AnswersMoment record_numbers r (moment_of r)
unfolding unix_seconds moment_answer
one_moment r = tested_first (λ o. AnswersMoment record_numbers r (moment_answer o)) r (moment r) (λ k e. no_moment e refl) (λ t. a_moment refl refl)

pub one_number : (q : Question) → AnswersNumber record_numbers (first_value q) (last_value q) (number_of q)
unfolding weekday_monday0 monday_weekday day_of_year number_answer
one_number (Weekday r) =
    let n = day_number r.year r.month r.day in
    tested_first (λ o. AnswersNumber record_numbers 0 6 (number_answer o)) r (weekday 5 n) (λ k e. no_number e refl) (λ t. a_number refl (omega arith) (omega (arith, weekday_closed 5 n (omega arith))))
one_number (DayOfYear r) = tested_first (λ o. AnswersNumber record_numbers 1 366 (number_answer o)) r (days_of_months r.year (r.month - 1) + r.day) (λ k e. no_number e refl) within
  where
    within : test r ≡ accepted tt → AnswersNumber record_numbers 1 366 (number_answer (accepted (days_of_months r.year (r.month - 1) + r.day)))
    within t =
        let v = (facts r t).date in
        let a = months_step r.year r.month v.month_low in
        let b = months_le r.year r.month 12 v.month_high in
        a_number refl (omega (arith, v.day_low)) (omega (arith, a, b, v.day_high, months_of_year r.year, year_bounds r.year))

-- `seqtullo_days_in_month`: 28 to 31 days, and 0 outside the months
pub month_length : (year month : ℕ) → 1 ≤ month → month ≤ 12 → (28 ≤ month_days year month) × (month_days year month ≤ 31)
month_length = month_bounds

pub no_month : (year month : ℕ) → (month < 1) ⊎ (12 < month) → month_days year month ≡ 0
no_month year month (inl h) = month_zero year month h
no_month year month (inr h) = month_beyond year month h

written_numbered : (r : ExtendedDateTime) (room : ℕ) → Numbered written_numbers (written r room)
unfolding written
written_numbered r room = next (wider written_numbers refl (test_numbered r)) (search steps)

checked : (b : Bool) (k : ℕ) → check b k ≡ accepted tt → b ≡ true
checked true k e = refl
checked false k e = apart e

-- a text that is written
record Long (r : ExtendedDateTime) (room : ℕ) (l : List ℕ) : Type 0 where
  bounds : (35 ≤ length l) × (length l ≤ 41)
  fits : length l ≤ room
  text : text_of r ≡ l

written_long : (r : ExtendedDateTime) (room : ℕ) (l : List ℕ) → written r room ≡ accepted l → Long r room l
unfolding written
written_long r room l e =
    let a = first_passed (test r) _ e in
    let b = first_passed (check (whole_minutes r.offset_seconds) 20) _ a.1 in
    let c = first_passed (check (leb (length (text_of r)) room) 19) _ b.1 in
    let f : text_of r ≡ l = same c.1 in
    let d = text_long r (facts r a.0) in
    let h = leb-true (length (text_of r)) room (checked (leb (length (text_of r)) room) 19 c.0) in
    record { bounds = rw f at d; fits = rw f at h; text = f }

-- The text of a record, in 35 to 41 bytes; a refusal writes nothing, and changes no lent byte.
pub one_writing : (r : ExtendedDateTime) (out : List ℕ) (w : Written) (left : List ℕ) → Wrote r out w left → Writes written_numbers r out w left
one_writing r out w left c = by (written r (length out)) refl (written_numbered r (length out)) c.answered c.bytes
  where
    by : (o : Outcome (List ℕ)) → written r (length out) ≡ o → Numbered written_numbers o → w ≡ written_answer o → left ≡ over (bytes_of o) out → Writes written_numbers r out w left
    by o e (value l) a b =
        let d = written_long r (length out) l e in
        let t = take-append_seam l (drop (length l) out) ∙ sym d.text in
        rw (a, b) (a_text refl d.bounds.0 d.bounds.1 d.fits t (drop-append_seam l (drop (length l) out)))
    by o e (by_number k n) a b = rw a (no_text n refl b)

-- ---- letters

-- Upper case changes nothing: two texts with the same lower case have one answer, under every base.
pub same_letters : (s t : List ℕ) → lowered s ≡ lowered t → (base : ExtendedDateTime) → answer (ReadText s base) ≡ answer (ReadText t base)
unfolding read_text
same_letters s t e base = ap (λ (l : List ℕ). placed_answer (read_parsed (parse_items l) l base)) e
