-- `calendar::is_leap_year` meets its contract: its tests are those of `leap`. Assumes nothing.
use mathlib.Core.Path.{refl}
use Rattle.calendar.specs.Calendar.{leap}
use Rattle.calendar.proofs.is_leap_year.Goals as goal

pub returns : goal.returns
unfolding leap
returns c = refl
