-- `moments::from_clock` meets its contract: a year that is accepted is small.
use mathlib.Core.Path.{◌≡◌}
use native.Mathlib.Omega.{arith}
use borrow.Author.Rules.{rules}
use Rattle.extended.proofs.Records.{year_fact}
use Rattle.extended.specs.Extended.{test_year}
use Rattle.answers.specs.Outcome.{accepted}
use Rattle.moments.proofs.from_clock.Goals as goal

pub overflow_cast-date : goal.overflow_cast-date
overflow_cast-date c =
    let year = c.civil_from_days-civil.result.year in
    let ok : test_year c.civil_from_days-civil.result.year ≡ accepted tt = search rules in
    record { fits = omega (arith, year_fact year ok) }
