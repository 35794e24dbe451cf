-- `times` is its definition. Assumes nothing.
use mir.Facts.{to_z-of_z}
use Rattle.relative_readers.specs.Unit.{times}
use Rattle.relative_readers.proofs.unit.Unit.times.Goals as goal

pub returns-in-Fortnight : goal.returns-in-Fortnight
unfolding times
returns-in-Fortnight c = λ text at. rw c.in-Fortnight.is (rw (to_z-of_z c.ranges.n) at (c.days.ensures text at))

pub returns-in-Week : goal.returns-in-Week
unfolding times
returns-in-Week c = λ text at. rw c.in-Week.is (rw (to_z-of_z c.ranges.n) at (c.days-in-Week.ensures text at))
