-- Which numbers the calendar refuses with. Each law is named after the definition whose refusals it bounds, and `search` puts it together as
-- that definition is put together. Assumes nothing.
use Prim.Native.Nat.{ℕ}
use mathlib.Core.Path.{◌≡◌, refl}
use mathlib.Core.List.{List, [], ◌∷◌}
use lib.Dec.{eqb}
use mathlib.Core.Bool.{Bool, true, false, ◌||◌}
use lib.IntN.{ℤ}
use borrow.Author.Rules.{rules}
use Rattle.std.specs.Prelude.{Option, Some, None}
use Rattle.answers.specs.Outcome.{Outcome}
use Rattle.host_calls.proofs.Numbered.{Numbered, value, by_number, covers, has_covers, not_in, then, next, check_numbered, cond_numbered, wider}
use Rattle.host_calls.specs.Given.{has, record_numbers, moment_numbers, sum_numbers}
use Rattle.extended.specs.Extended.{checked, from_zero, test_date, test_time, test_offset, test, test_year, date, accept, from_clock, from_unix_seconds, with_date, with_time, with_offset, carried, add_seconds, add_units, add_days, add_hours, add_minutes, clamp, add_years, add_months}
use Rattle.answers.specs.Placed as placing
use Rattle.answers.specs.Placed.{Placed, fine, refusal, placed, number_of}
use Rattle.extended.specs.declared.TimeParts.{TimeParts}
use Rattle.extended.specs.declared.ExtendedDateTime.{ExtendedDateTime}
use Rattle.primitive.specs.Answer.{Answer, matched, dropped, none, stop}
use Rattle.relative.specs.declared.Relative.{Relative}
use Rattle.relative.specs.declared.Relative.TheVariants as relative
use Rattle.rules.specs.Rules.{wanted}
use Rattle.builder.specs.Building.{add_relative}

module _ {g : List ℕ} where
  pub checked_numbered : (c : Option ℤ) → has g 18 ≡ true → Numbered g (checked c)
  checked_numbered (Some z) e = value z
  checked_numbered None e = by_number 18 e

  pub from_zero_numbered : (c : Option ℕ) → has g 10 ≡ true → Numbered g (from_zero c)
  from_zero_numbered (Some k) e = value k
  from_zero_numbered None e = by_number 10 e

  pub wanted_numbered : (k : ℕ) → has g k ≡ true → (a : Answer ℕ) → Numbered g (wanted k a)
  wanted_numbered k e (matched v n) = value v
  wanted_numbered k e (dropped v n) = by_number k e
  wanted_numbered k e none = by_number k e
  wanted_numbered k e stop = by_number k e

pub ruleset steps = (value, by_number, then, next, check_numbered, cond_numbered, checked_numbered, from_zero_numbered, wanted_numbered, rules)

-- ---- answers with a place

or_0 : (g : List ℕ) (k : ℕ) → has g k ≡ true → has (0 ∷ g) k ≡ true
or_0 g k e = rw e (by (eqb k 0))
  where
    by : (t : Bool) → t || true ≡ true
    by true = refl
    by false = refl

-- a value, or a refusal whose number is one of the list
pub data Among (g : List ℕ) {A : Type 0} : Placed A → Type 0 where
  a_value : (a : A) → Among g (fine a)
  a_refusal : (k at : ℕ) → has g k ≡ true → Among g (refusal k at)

module _ {g : List ℕ} where
  pub first_then : {A B : Type 0} {p : Placed A} {f : A → Placed B} → Among g p → ((a : A) → Among g (f a)) → Among g (placing.◌>>=◌ p f)
  first_then (a_value a) f = f a
  first_then (a_refusal k at e) f = a_refusal k at e

  pub step_then : {A B : Type 0} {p : Placed A} {q : Placed B} → Among g p → Among g q → Among g (placing.◌>>◌ p q)
  step_then (a_value a) h = h
  step_then (a_refusal k at e) h = a_refusal k at e

  pub placed_among : {A : Type 0} (at : ℕ) {o : Outcome A} → Numbered g o → Among g (placed at o)
  placed_among at (value a) = a_value a
  placed_among at (by_number k e) = a_refusal k at e

  pub among_wider : {A : Type 0} {p : Placed A} (h : List ℕ) → covers g h ≡ true → Among g p → Among h p
  among_wider h c (a_value a) = a_value a
  among_wider h c (a_refusal k at e) = a_refusal k at (has_covers g h k c e)

  -- a number that is neither 0 nor in the list is not given
  pub not_among : {A : Type 0} {p : Placed A} (n : ℕ) → has (0 ∷ g) n ≡ false → Among g p → number_of p ≡ n → ⊥
  not_among n f (a_value a) z = not_in (0 ∷ g) 0 n f refl z
  not_among n f (a_refusal k at e) z = not_in (0 ∷ g) k n f (or_0 g k e) z

pub ruleset answers = (a_value, first_then, step_then, placed_among, steps)

-- ---- the calendar

test_offset_numbered : (o : ℤ) → Numbered (17 ∷ []) (test_offset o)
unfolding test_offset
test_offset_numbered o = search steps

pub test_numbered : (r : ExtendedDateTime) → Numbered record_numbers (test r)
unfolding test test_date test_time test_offset
test_numbered r = search steps

test_year_numbered : (y : ℕ) → Numbered (9 ∷ (10 ∷ [])) (test_year y)
unfolding test_year
test_year_numbered y = search steps

pub accept_numbered : (r : ExtendedDateTime) → Numbered record_numbers (accept r)
unfolding accept
accept_numbered r = search (steps, test_numbered)

pub from_unix_seconds_numbered : (u : ℤ) (n : ℕ) (o : ℤ) → Numbered moment_numbers (from_unix_seconds u n o)
unfolding from_unix_seconds from_clock test_offset test_year
from_unix_seconds_numbered u n o = search steps

-- among the numbers of sums
pub test_sum : (r : ExtendedDateTime) → Numbered sum_numbers (test r)
test_sum r = wider sum_numbers refl (test_numbered r)

pub accept_sum : (r : ExtendedDateTime) → Numbered sum_numbers (accept r)
accept_sum r = wider sum_numbers refl (accept_numbered r)

test_year_sum : (y : ℕ) → Numbered sum_numbers (test_year y)
test_year_sum y = wider sum_numbers refl (test_year_numbered y)

from_unix_seconds_sum : (u : ℤ) (n : ℕ) (o : ℤ) → Numbered sum_numbers (from_unix_seconds u n o)
from_unix_seconds_sum u n o = wider sum_numbers refl (from_unix_seconds_numbered u n o)

module _ (r : ExtendedDateTime) where
  pub with_date_numbered : (y m d : ℕ) → Numbered sum_numbers (with_date r (date y m d))
  unfolding with_date
  with_date_numbered y m d = search (steps, test_sum, accept_sum)

  pub with_time_numbered : (t : TimeParts) → Numbered sum_numbers (with_time r t)
  unfolding with_time
  with_time_numbered t = search (steps, test_sum, accept_sum)

  pub with_offset_numbered : (o : ℤ) → Numbered sum_numbers (with_offset r o)
  unfolding with_offset
  with_offset_numbered o = search (steps, test_sum, accept_sum)

  pub add_seconds_numbered : (d : ℤ) (k : ℕ) → Numbered sum_numbers (add_seconds r d k)
  unfolding add_seconds carried
  add_seconds_numbered d k = search (steps, test_sum, from_unix_seconds_sum)

  pub add_units_numbered : (worth : ℕ) (n : ℤ) → Numbered sum_numbers (add_units worth r n)
  unfolding add_units
  add_units_numbered worth n = search (steps, test_sum, add_seconds_numbered)

module _ (r : ExtendedDateTime) where
  clamp_numbered : (y m : ℕ) → Numbered sum_numbers (clamp r y m)
  unfolding clamp add_days
  clamp_numbered y m = search (steps, test_year_sum, with_date_numbered, add_units_numbered)

  pub add_years_numbered : (n : ℤ) → Numbered sum_numbers (add_years r n)
  unfolding add_years
  add_years_numbered n = search (steps, test_sum, clamp_numbered)

  pub add_months_numbered : (n : ℤ) → Numbered sum_numbers (add_months r n)
  unfolding add_months
  add_months_numbered n = search (steps, test_sum, clamp_numbered)

  pub add_relative_numbered : (x : Relative) → Numbered sum_numbers (add_relative x r)
  unfolding add_relative add_days add_hours add_minutes
  add_relative_numbered (relative.Years n) = add_years_numbered n
  add_relative_numbered (relative.Months n) = add_months_numbered n
  add_relative_numbered (relative.Days n) = add_units_numbered r 86400 n
  add_relative_numbered (relative.Hours n) = add_units_numbered r 3600 n
  add_relative_numbered (relative.Minutes n) = add_units_numbered r 60 n
  add_relative_numbered (relative.Seconds n k) = add_seconds_numbered r n k
