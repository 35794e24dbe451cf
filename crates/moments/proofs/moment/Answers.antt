-- `moment` meets its contract: an accepted record's clock is small, and the moment is that of the clock. Assumes nothing.
use Prim.Native.Nat.{◌<◌}
use mathlib.Core.Path.{◌≡◌, ◌∙◌}
use native.Mathlib.Omega.{arith}
use mir.Syntax.{w32, w64}
use mir.Val.{SFits}
use mir.Facts.{to_z-of_z}
use borrow.Author.Rules.{rules}
use Rattle.calendar.specs.Calendar.{day_number}
use Rattle.calendar.proofs.Counting.{day_bound, month_bound}
use Rattle.answers.specs.Outcome.{accepted}
use Rattle.extended.proofs.Records.{facts}
use Rattle.extended.specs.Extended.{clock_seconds, moment, test}
use Rattle.extended.specs.declared.ExtendedDateTime.{ExtendedDateTime}
use Rattle.moments.proofs.moment.Goals as goal

days_small : (r : ExtendedDateTime) → test r ≡ accepted tt → day_number r.year r.month r.day < 1000000000000
days_small r ok =
    let a = facts r ok in
    omega (arith, day_bound r.year r.month r.day, month_bound r.year r.month, a.year_high, a.date.month_high, a.date.day_high)

pub overflow_mul-clock : goal.overflow_mul-clock
overflow_mul-clock c = omega (arith, days_small c.args.dt c.requires)

pub overflow_add-clock : goal.overflow_add-clock
overflow_add-clock c = omega (arith, days_small c.args.dt c.requires)

pub overflow_add-clock-2 : goal.overflow_add-clock-2
overflow_add-clock-2 c = omega (arith, days_small c.args.dt c.requires)

pub overflow_add-clock-3 : goal.overflow_add-clock-3
overflow_add-clock-3 c = omega (arith, days_small c.args.dt c.requires)

pub since_epoch-requires : goal.since_epoch-requires
since_epoch-requires c = omega (arith, days_small c.args.dt c.requires)

pub returns : goal.returns
unfolding moment clock_seconds
returns c =
    let offset_fits : SFits w32 c.args.dt.offset_seconds = search rules in
    let result_fits : SFits w64 c.since_epoch.result = search rules in
    to_z-of_z result_fits ∙ rw (to_z-of_z offset_fits, c.days.ensures) at c.since_epoch.ensures
