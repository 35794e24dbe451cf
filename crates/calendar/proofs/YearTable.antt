-- The table of the cycle gives the days before each year: it begins with 0, and its rule is one test of all steps from one entry to the next.
-- Assumes nothing.
use Prim.Native.Nat.{ℕ, zero, suc, ◌+◌, ◌*◌, ◌/◌, ◌%◌, ◌<◌}
use mathlib.Core.Path.{◌≡◌, refl, sym, ap, ◌∙◌}
use mathlib.Core.Bool.{Bool, true}
use native.Mathlib.Omega.{arith}
use lib.Dec.{eqb}
use lib.ListN.{get_or}
use borrow.Author.Tests.{eqb-true}
use Rattle.calendar.specs.Calendar.{leap, year_days, days_before_year}
use Rattle.calendar.specs.declared.cycle.TheConstants.{DAYS_BEFORE_YEAR}
use Rattle.calendar.proofs.Counting.{each, blocks}

entry : ℕ → ℕ
entry k = get_or DAYS_BEFORE_YEAR k 0

-- each entry is the one before it and the days of the year between
counts : ℕ → Bool
counts k = eqb (entry (suc k)) (entry k + year_days k)

rule : (k : ℕ) → k < 399 → counts k ≡ true
unfolding counts entry year_days leap
rule = each 399 counts refl

pub year_entry : (k : ℕ) → k < 400 → get_or DAYS_BEFORE_YEAR k 0 ≡ days_before_year k
unfolding days_before_year counts entry
year_entry zero h = refl
year_entry (suc k) h = eqb-true (entry (suc k)) (entry k + year_days k) (rule k (omega arith)) ∙ ap (λ (n : ℕ). n + year_days k) (year_entry k (omega arith))

-- a year of any block
pub any_year : (y : ℕ) → y / 400 * 146097 + get_or DAYS_BEFORE_YEAR (y % 400) 0 ≡ days_before_year y
any_year y =
    let e : y / 400 * 400 + y % 400 ≡ y = omega arith in
    ap (λ (n : ℕ). y / 400 * 146097 + n) (year_entry (y % 400) (omega arith)) ∙ sym (blocks (y / 400) (y % 400)) ∙ ap days_before_year e
