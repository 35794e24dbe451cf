-- `extended::from_parts` meets its contract, field by field. Assumes nothing.
use mir.Facts.{to_z-of_z}
use Rattle.extended.specs.Extended.{make}
use Rattle.extended.proofs.from_parts.Goals as goal

pub returns : goal.returns
unfolding make
returns c = simp (to_z-of_z c.ranges.offset_seconds)
