-- `checked_add_months` meets its contract: an accepted record has a month.
use mathlib.Core.Path.{◌≡◌}
use borrow.Author.Rules.{rules}
use Rattle.extended.proofs.Records.{facts}
use Rattle.extended.specs.Extended.{test}
use Rattle.answers.specs.Outcome.{accepted}
use Rattle.sums.proofs.checked_add_months.Goals as goal

pub months_before-before-requires : goal.months_before-before-requires
months_before-before-requires c =
    let ok : test c.args.dt ≡ accepted tt = search rules in
    (facts c.args.dt ok).date.month_low
