-- The four moments and the three ends of months and years of docs/SCOPE.md, 'Thirteen examples', which are with the six years in one table of
-- crate dates; and definitions tried by computing. Assumes nothing.
use Prim.Native.Nat.{ℕ}
use mathlib.Core.Path.{◌≡◌, refl, sym, ap, ◌∙◌}
use lib.IntN.{ℤ, pos, negsuc, ◌+ℤ◌, ◌*ℤ◌}
use Rattle.integers.specs.Integers.{sum, natural_of}
use Rattle.answers.specs.Outcome.{accepted, refused}
use Rattle.calendar.specs.Calendar.{leap, year_days, days_before_year, month_days, days_of_months, day_number, ymd, next_day, civil}
use Rattle.extended.specs.Extended.{make, date, time, test, test_date, test_time, test_offset, test_year, accept, clock_seconds, moment, from_unix_seconds, with_date, clamp, add_days, add_years, add_months}
use Rattle.extended.specs.declared.ExtendedDateTime.{ExtendedDateTime}
use Rattle.extended.proofs.Records.{facts}
use Rattle.extended.proofs.Moments.{from_moment}
use Rattle.extended.proofs.Adding.{units_to}

-- a date at offset 0, and midnight of it
abbrev pub at : ℕ → ℕ → ℕ → ℕ → ℕ → ℕ → ExtendedDateTime
at y m d h n s = make (date y m d) (time h n s 0) (pos 0)

abbrev pub midnight : ℕ → ℕ → ℕ → ExtendedDateTime
midnight y m d = at y m d 0 0 0

-- the moment of a date computes quickly, and the way back is the only one
back : (r : ExtendedDateTime) → test r ≡ accepted tt → (u : ℤ) → moment r ≡ u → from_unix_seconds u r.nanosecond r.offset_seconds ≡ accepted r
back r t u e = ap (λ (x : ℤ). from_unix_seconds x r.nanosecond r.offset_seconds) (sym e) ∙ from_moment r (facts r t)

-- SCOPE, 'Thirteen examples': 0, -1, -62167219200 and -62167219201 seconds at offset 0
pub epoch : from_unix_seconds (pos 0) 0 (pos 0) ≡ accepted (midnight 1970 1 1)
unfolding make test test_date test_time test_offset moment clock_seconds day_number days_before_year year_days leap days_of_months month_days
epoch = back (midnight 1970 1 1) refl (pos 0) refl

pub before : from_unix_seconds (negsuc 0) 0 (pos 0) ≡ accepted (at 1969 12 31 23 59 59)
unfolding make test test_date test_time test_offset moment clock_seconds day_number days_before_year year_days leap days_of_months month_days
before = back (at 1969 12 31 23 59 59) refl (negsuc 0) refl

pub first : from_unix_seconds (negsuc 62167219199) 0 (pos 0) ≡ accepted (midnight 0 1 1)
unfolding make test test_date test_time test_offset moment clock_seconds day_number days_before_year year_days leap days_of_months month_days
first = back (midnight 0 1 1) refl (negsuc 62167219199) refl

pub below : from_unix_seconds (negsuc 62167219200) 0 (pos 0) ≡ refused 10
unfolding from_unix_seconds test_offset sum natural_of
below = refl

-- n days from one midnight to another
later : (y m d n y' m' d' : ℕ) → test (midnight y m d) ≡ accepted tt → test (midnight y' m' d') ≡ accepted tt →
    moment (midnight y' m' d') ≡ moment (midnight y m d) +ℤ pos n *ℤ pos 86400 → add_days (midnight y m d) (pos n) ≡ accepted (midnight y' m' d')
unfolding add_days make
later y m d n y' m' d' t t' e =
    units_to 86400 (midnight y m d) (pos n) (midnight y' m' d') (facts (midnight y m d) t)
    (record { accepted_record = facts (midnight y' m' d') t'; moment_moved = e; nanosecond_kept = refl; offset_kept = refl })

-- SCOPE, 'Thirteen examples': the end of January plus a month in 2023 and in 2024, and 29 February 2024 plus a year
pub march_2023 : add_months (midnight 2023 1 31) (pos 1) ≡ accepted (midnight 2023 3 3)
unfolding add_months clamp with_date accept make test test_date test_time test_offset test_year sum natural_of moment clock_seconds day_number days_before_year year_days leap days_of_months month_days
march_2023 = later 2023 2 28 3 2023 3 3 refl refl refl

pub march_2024 : add_months (midnight 2024 1 31) (pos 1) ≡ accepted (midnight 2024 3 2)
unfolding add_months clamp with_date accept make test test_date test_time test_offset test_year sum natural_of moment clock_seconds day_number days_before_year year_days leap days_of_months month_days
march_2024 = later 2024 2 29 2 2024 3 2 refl refl refl

pub march_2025 : add_years (midnight 2024 2 29) (pos 1) ≡ accepted (midnight 2025 3 1)
unfolding add_years clamp with_date accept make test test_date test_time test_offset test_year sum natural_of moment clock_seconds day_number days_before_year year_days leap days_of_months month_days
march_2025 = later 2025 2 28 1 2025 3 1 refl refl refl

-- ---- the counted calendar, computed
number_1970 : day_number 1970 1 1 ≡ 719528
unfolding day_number days_before_year year_days leap days_of_months month_days
number_1970 = refl

counted : civil 800 ≡ ymd 2 3 11
unfolding civil next_day month_days leap
counted = refl
