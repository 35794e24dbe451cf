-- What `other_shape` answers is what the definitions read: a date alone, or a date and a time. Assumes nothing.
use Rattle.primitive.proofs.Lowered.{length_lowered}
use Rattle.text_quick.proofs.Fronts.{other_day, other_half}
use Rattle.text_quick.proofs.other_shape.Goals as goal

pub returns-then-not-clocked : goal.returns-then-not-clocked
returns-then-not-clocked c = rw c.midnight.ensures (other_day c.in_ok-date.ensures (rw length_lowered c.requires))

pub returns : goal.returns
returns c = other_half c.in_ok-date.ensures (rw length_lowered c.requires) c.in_ok-time.ensures
