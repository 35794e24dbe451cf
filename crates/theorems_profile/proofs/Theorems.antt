-- What the interchange profile promises a host, over its call: a date of the years 0 to 9999 has one plain text, a day from 0000-01-03 to 10000-01-02
-- one week text, each is read as midnight of its day, and no other text is read. Assumes nothing.
use Prim.Native.Nat.{ℕ, ◌+◌, ◌<◌, ◌≤◌}
use mathlib.Core.Path.{◌≡◌, refl}
use mathlib.Core.List.{List}
use mathlib.Core.Logic.{◌⊎◌}
use native.Mathlib.Omega.{arith}
use mathlib.Core.Bool.{Bool, true, false}
use lib.Dec.{leb}
use lib.ListN.{length}
use Rattle.answers.specs.Outcome.{Outcome, accepted, refused, check}
use Rattle.answers.specs.Placed.{Placed, fine, placed, ◌>>=◌, ◌>>◌}
use Rattle.calendar.specs.declared.Civil.{Civil}
use Rattle.calendar.specs.Calendar.{Valid, civil, day_number}
use Rattle.calendar.proofs.Counting.{years_le}
use Rattle.calendar.proofs.Dates.{place, between}
use Rattle.extended.specs.Extended.{make, date_of, test, test_date}
use Rattle.extended.specs.declared.ExtendedDateTime.{ExtendedDateTime}
use Rattle.host_answers.specs.Hosts.{placed_answer}
use Rattle.host_calls.specs.Calls.{answer, ReadProfile}
use Rattle.host_calls.specs.Given.{profile_numbers}
use Rattle.host_calls.proofs.Numbered.{positive}
use Rattle.theorems_round_trip.proofs.Refusals.{Among, a_refusal}
use Rattle.answers.specs.Numbers as refusal
use Rattle.std.specs.Prelude.{Option, Some, None}
use Rattle.weeks.specs.declared.WeekDate.{WeekDate}
use Rattle.weeks.proofs.Theorems.{which_have_days}
use Rattle.theorems_profile.proofs.Texts.{week_form, plain_form}
use Rattle.weeks.specs.Weeks.{week_date, weeks_in, day_of}
use Rattle.text_tests.specs.Tests.{ascii_end, test_text}
use Rattle.text_profile.specs.Forms.{formed, plain_pattern, week_pattern, form, date_in, week_day, plain_date}
use Rattle.text_profile.specs.Profile.{midnight, read_profile}
use Rattle.theorems_profile.specs.Texts.{plain_text, week_text, answered, refused_with}
use Rattle.theorems_profile.proofs.Dates.{plain_tested, plain_in, week_tested, week_in, in_only, years_9999}
use Rattle.theorems_profile.proofs.Refusals.{Read, profile_read, profile_among}

-- ---- the two texts of a day

-- Every date of the years 0 to 9999 has a plain text, which is read as it.
pub plain_read : (d : Civil ℕ) → Valid d → d.year < 10000 → (base : ExtendedDateTime) → test base ≡ accepted tt →
    answer (ReadProfile (plain_text d) base) ≡ answered (midnight d base.offset_seconds)
unfolding read_profile placed_answer
plain_read d v h base t = rw (plain_tested d base, t, plain_in d v h) refl

-- Every day from 0000-01-03, day 2, to 10000-01-02, day 3652426, has a week text, which is read as it.
pub week_read : (n : ℕ) → 2 ≤ n → n < 3652427 → (base : ExtendedDateTime) → test base ≡ accepted tt →
    answer (ReadProfile (week_text (week_date n)) base) ≡ answered (midnight (civil n) base.offset_seconds)
unfolding read_profile placed_answer
week_read n h k base t = rw (week_tested (week_date n) base, t, week_in n h k) refl

-- The two texts of one day have one answer, under every base.
pub same_day : (n : ℕ) → 2 ≤ n → (civil n).year < 10000 → (base : ExtendedDateTime) →
    answer (ReadProfile (plain_text (civil n)) base) ≡ answer (ReadProfile (week_text (week_date n)) base)
unfolding read_profile
same_day n h k base =
    let b = between n in
    let y = years_le ((civil n).year + 1) 10000 (omega arith) in
    rw (plain_tested (civil n) base, week_tested (week_date n) base, plain_in (civil n) (place n).0 k, week_in n h (omega (arith, b.1, y, years_9999))) refl

-- ---- no other text

-- a text under number 0 was read as the record
taken : (text : List ℕ) (base : ExtendedDateTime) → (answer (ReadProfile text base)).number ≡ 0 → Read text base (answer (ReadProfile text base)).«record»
unfolding placed_answer
taken text base e = by (read_profile text base) refl (profile_among text base) e
  where
    by : (p : Placed ExtendedDateTime) → read_profile text base ≡ p → Among profile_numbers p → (placed_answer p).number ≡ 0 → Read text base (placed_answer p).«record»
    by (fine r) f a z = profile_read text base r f
    by p f (a_refusal k at g) z = absurd (omega (arith, positive profile_numbers k refl g))

-- What is read is midnight of its date, at the offset of the base.
pub at_midnight : (text : List ℕ) (base : ExtendedDateTime) → (answer (ReadProfile text base)).number ≡ 0 →
    let r = (answer (ReadProfile text base)).«record» in r ≡ midnight (date_of r) base.offset_seconds
unfolding make
at_midnight text base e = let p = taken text base e in rw p.is_midnight refl

-- And the text is one of the two texts of this date.
pub no_other_text : (text : List ℕ) (base : ExtendedDateTime) → (answer (ReadProfile text base)).number ≡ 0 →
    let r = (answer (ReadProfile text base)).«record» in (text ≡ plain_text (date_of r)) ⊎ (text ≡ week_text (week_date (day_number r.year r.month r.day)))
unfolding make plain_text
no_other_text text base e = let p = taken text base e in rw p.is_midnight (in_only text p.date p.date_read)

-- ---- refusals

-- A week text is refused with 21 where its year has no such week, or its day is not 1 to 7.
pub week_refused : (w : WeekDate) → w.year < 10000 → w.week < 100 → w.day < 10 → ((1 ≤ w.week) × (w.week ≤ weeks_in w.year) × (1 ≤ w.day) × (w.day ≤ 7) → ⊥) →
    (base : ExtendedDateTime) → test base ≡ accepted tt → answer (ReadProfile (week_text w) base) ≡ refused_with refusal.week
unfolding read_profile placed_answer date_in week_day
week_refused w h k l f base t = rw (week_tested w base, t, week_form w h k l, none (day_of w) refl) refl
  where
    none : (o : Option ℕ) → day_of w ≡ o → day_of w ≡ None
    none (Some n) e = absurd (f ((which_have_days w.year w.week w.day).0 (n, e)))
    none None e = e

-- A plain text is refused as its date is.
pub plain_refused : (d : Civil ℕ) → d.year < 10000 → d.month < 100 → d.day < 100 → (n : ℕ) → test_date d ≡ refused n →
    (base : ExtendedDateTime) → test base ≡ accepted tt → answer (ReadProfile (plain_text d) base) ≡ refused_with n
unfolding read_profile placed_answer date_in plain_date
plain_refused d h k l n e base t = rw (plain_tested d base, t, plain_form d h k l, e) refl

-- A text of neither form is refused with 3 at place 0.
pub neither_form : (text : List ℕ) (base : ExtendedDateTime) → test_text text base ≡ fine tt → formed plain_pattern text ≡ false → formed week_pattern text ≡ false →
    answer (ReadProfile text base) ≡ refused_with refusal.unread
unfolding read_profile placed_answer date_in form
neither_form text base t p q = rw (t, p, q) refl

-- ---- places

-- Only a foreign byte has a place.
pub place_0 : (text : List ℕ) (base : ExtendedDateTime) → ((answer (ReadProfile text base)).number ≡ 2 → ⊥) → (answer (ReadProfile text base)).place ≡ 0
unfolding read_profile test_text placed_answer
place_0 text base = by (test base) (leb (length text) 4096) (leb (length text) (ascii_end text)) (date_in text)
  where
    door : Outcome (Unit {0}) → Bool → Bool → Outcome (Civil ℕ) → Placed ExtendedDateTime
    door o s t d = (placed 0 o >> (placed 0 (check s 1) >> placed (ascii_end text) (check t 2))) >> (placed 0 d >>= (λ e. fine (midnight e base.offset_seconds)))

    by : (o : Outcome (Unit {0})) (s t : Bool) (d : Outcome (Civil ℕ)) → ((placed_answer (door o s t d)).number ≡ 2 → ⊥) → (placed_answer (door o s t d)).place ≡ 0
    by (accepted u) true true (accepted e) h = refl
    by (accepted u) true true (refused n) h = refl
    by (accepted u) true false d h = absurd (h refl)
    by (accepted u) false t d h = refl
    by (refused n) s t d h = refl
