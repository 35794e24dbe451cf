-- `weeks::has_week` meets its contract: the weeks of a year are those up to it without those before it, and never less than 52. Assumes nothing.
use native.Mathlib.Omega.{arith}
use Prim.Native.Nat.{ℕ, ◌+◌}
use mathlib.Core.Path.{◌≡◌, refl, sym, ◌∙◌}
use mathlib.Core.Bool.{Bool, true, false}
use lib.Dec.{leb}
use borrow.Author.Tests.{le-leb, lt-leb, leb-true, leb-false}
use Rattle.calendar.specs.Calendar.{days_before_year}
use Rattle.weeks.specs.Weeks.{weeks_in}
use Rattle.weeks.proofs.Thursdays.{weeks_by, thursdays_from, weeks_counted, weeks_52_or_53}
use Rattle.weeks.proofs.has_week.Goals as goal

pub returns-then-week-le-WEEKS : goal.returns-then-week-le-WEEKS
returns-then-week-le-WEEKS c = let b = weeks_52_or_53 c.args.year in sym (le-leb c.args.week (weeks_in c.args.year) (omega (arith, b.0, c.if-week-le-WEEKS.true)))

-- k more weeks than before a year are at most those up to it exactly if the year has k
so_many : (y k n m : ℕ) → n ≡ weeks_by y → m ≡ weeks_by (y + 1) → leb (n + k) m ≡ leb k (weeks_in y)
so_many y k n m e f = by (leb (n + k) m) refl
  where
    by : (b : Bool) → leb (n + k) m ≡ b → b ≡ leb k (weeks_in y)
    by true g = sym (le-leb k (weeks_in y) (omega (arith, weeks_counted y, leb-true (n + k) m g)))
    by false g = sym (lt-leb k (weeks_in y) (omega (arith, weeks_counted y, leb-false (n + k) m g)))

pub returns : goal.returns
returns c =
    let y = c.args.year in
    so_many y c.args.week c.weeks_before.result c.weeks_through.result
    (c.weeks_before.ensures.0 ∙ sym (thursdays_from (days_before_year y)))
    (c.weeks_through.ensures ∙ sym (thursdays_from (days_before_year (y + 1))))
