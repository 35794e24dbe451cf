-- Which numbers a text of the profile can get, and that what it is read as is an accepted record at midnight. Assumes nothing.
use native.Mathlib.Omega.{arith}
use Prim.Native.Nat.{ℕ, ◌≤◌, ◌<◌}
use mathlib.Core.Path.{◌≡◌, refl}
use mathlib.Core.List.{List, [], ◌∷◌}
use borrow.Author.Tests.{le-leb}
use Rattle.std.specs.Prelude.{Option, Some, None}
use Rattle.answers.specs.Numbers as refusal
use Rattle.answers.specs.Outcome.{Outcome, accepted, refused}
use Rattle.answers.specs.Placed.{Placed, fine, refusal, placed, ◌>>=◌, ◌>>◌}
use Rattle.calendar.specs.declared.Civil.{Civil}
use Rattle.calendar.specs.Calendar.{Valid, ymd, civil}
use Rattle.extended.specs.Extended.{make, test, test_date}
use Rattle.extended.specs.declared.ExtendedDateTime.{ExtendedDateTime}
use Rattle.extended.proofs.Records.{facts, tested}
use Rattle.weeks.specs.Weeks as week
use Rattle.weeks.specs.declared.WeekDate.{WeekDate}
use Rattle.text_tests.specs.Tests.{test_text}
use Rattle.text_tests.proofs.Tests.{Tested, passed_tested}
use Rattle.text_profile.specs.Forms.{day_date, form_date, form, plain_date, week_day, date_in}
use Rattle.text_profile.specs.Profile.{midnight, read_profile}
use Rattle.text_profile.specs.declared.Form.{Form}
use Rattle.text_profile.specs.declared.Form.TheVariants as variant
use Rattle.text_profile.proofs.Forms.{plain_year}
use Rattle.host_calls.specs.Given.{profile_numbers, profile_numbers_accepted}
use Rattle.host_calls.proofs.Numbered.{Numbered, value, by_number, wider}
use Rattle.theorems_round_trip.proofs.Refusals.{steps, test_numbered, Among, a_value, first_then, step_then, placed_among}
use Rattle.theorems_round_trip.proofs.TextRefusals.{tests_among}
use Rattle.theorems_profile.proofs.Dates.{in_valid}

-- ---- numbers

abbrev date_numbers : List ℕ
date_numbers = refusal.unread ∷ refusal.month ∷ refusal.day ∷ refusal.week ∷ []

plain_numbered : (d : Civil ℕ) → d.year < 10000 → Numbered date_numbers (plain_date d)
unfolding plain_date test_date
plain_numbered d h = rw (le-leb d.year 2147485547 (omega arith)) (search steps)

week_numbered : (w : WeekDate) → Numbered date_numbers (week_day w)
unfolding week_day
week_numbered w = by (week.day_of w)
  where
    by : (o : Option ℕ) → Numbered date_numbers (day_date o)
    by (Some n) = value (civil n)
    by None = by_number refusal.week refl

-- A text is refused with 3, 11, 12 or 21. Its year has four digits, so 9 does not occur.
date_numbered : (text : List ℕ) → Numbered date_numbers (date_in text)
unfolding date_in
date_numbered text = by (form text) refl
  where
    by : (f : Option Form) → form text ≡ f → Numbered date_numbers (form_date f)
    by (Some (variant.Plain d)) e = plain_numbered d (plain_year text d e)
    by (Some (variant.Week w)) e = week_numbered w
    by None e = by_number refusal.unread refl

module _ (text : List ℕ) (base : ExtendedDateTime) where
  pub profile_among : Among profile_numbers (read_profile text base)
  unfolding read_profile
  profile_among =
      step_then (tests_among text base (wider profile_numbers refl (test_numbered base)) refl refl)
      (first_then (placed_among 0 (wider profile_numbers refl (date_numbered text))) (λ d. a_value _))

  pub profile_under_accepted : test base ≡ accepted tt → Among profile_numbers_accepted (read_profile text base)
  unfolding read_profile
  profile_under_accepted t =
      step_then (tests_among text base (rw t (value tt)) refl refl)
      (first_then (placed_among 0 (wider profile_numbers_accepted refl (date_numbered text))) (λ d. a_value _))

-- ---- records

-- midnight of a date of these years is accepted, at the offset of an accepted base
midnight_accepted : (d : Civil ℕ) (base : ExtendedDateTime) → Valid (ymd d.year d.month d.day) → d.year ≤ 10000 → test base ≡ accepted tt → test (midnight d base.offset_seconds) ≡ accepted tt
unfolding make
midnight_accepted d base v h t =
    tested (midnight d base.offset_seconds) (record {
      date = v;
      year_high = omega arith;
      hour_high = omega arith;
      minute_high = omega arith;
      second_high = omega arith;
      nanosecond_high = omega arith;
      offset_in = (facts base t).offset_in;
    })

-- what a text is read as
pub record Read (text : List ℕ) (base r : ExtendedDateTime) : Type 0 where
  pub date : Civil ℕ
  pub is_tested : Tested text base
  pub date_read : date_in text ≡ accepted date
  pub is_midnight : r ≡ midnight date base.offset_seconds

pub profile_read : (text : List ℕ) (base r : ExtendedDateTime) → read_profile text base ≡ fine r → Read text base r
unfolding read_profile
profile_read text base r e = by (test_text text base) refl (date_in text) refl e
  where
    by : (p : Placed (Unit {0})) → test_text text base ≡ p → (o : Outcome (Civil ℕ)) → date_in text ≡ o →
        (p >> (placed 0 o >>= (λ d. fine (midnight d base.offset_seconds)))) ≡ fine r → Read text base r
    by (fine tt) f (accepted d) g q = record { date = d; is_tested = passed_tested text base f; date_read = g; is_midnight = cc }
    by (fine tt) f (refused n) g q = cc
    by (refusal n at) f o g q = cc

pub profile_accepted : (text : List ℕ) (base r : ExtendedDateTime) → read_profile text base ≡ fine r → test r ≡ accepted tt
profile_accepted text base r e =
    let p = profile_read text base r e in
    let v = in_valid text p.date p.date_read in
    rw p.is_midnight (midnight_accepted p.date base v.0 v.1 p.is_tested.accepted_base)
