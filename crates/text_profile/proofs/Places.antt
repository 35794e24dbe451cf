-- How far the place of a refusal can be: only a foreign byte has a place. Assumes nothing.
use Prim.Native.Nat.{ℕ, ◌≤◌}
use native.Mathlib.Omega.{arith}
use mathlib.Core.List.{List}
use lib.ListN.{length}
use Rattle.answers.specs.Outcome.{Outcome, accepted, refused}
use Rattle.answers.specs.Placed.{Placed, fine, refusal, placed, place_of, ◌>>=◌, ◌>>◌}
use Rattle.calendar.specs.declared.Civil.{Civil}
use Rattle.extended.specs.declared.ExtendedDateTime.{ExtendedDateTime}
use Rattle.text_tests.specs.Tests.{test_text}
use Rattle.text_tests.proofs.Tests.{tests_place}
use Rattle.text_profile.specs.Forms.{date_in}
use Rattle.text_profile.specs.Profile.{midnight, read_profile}

-- at most k, if every text that is not too long has at most k bytes
pub profile_place : (text : List ℕ) (base : ExtendedDateTime) (k : ℕ) → (length text ≤ 4096 → length text ≤ k) → place_of (read_profile text base) ≤ k
unfolding read_profile
profile_place text base k long = by (test_text text base) (tests_place text base k long) (date_in text)
  where
    by : (p : Placed (Unit {0})) → place_of p ≤ k → (o : Outcome (Civil ℕ)) → place_of (p >> (placed 0 o >>= (λ d. fine (midnight d base.offset_seconds)))) ≤ k
    by (fine u) h (accepted d) = omega arith
    by (fine u) h (refused n) = omega arith
    by (refusal n at) h o = h

pub place_within : (text : List ℕ) (base : ExtendedDateTime) → place_of (read_profile text base) ≤ 4096
place_within text base = profile_place text base 4096 (λ h. h)
