-- What `iso_shape` answers is what the definitions read: an ISO date alone, or with its time. Assumes nothing.
use native.Mathlib.Omega.{arith}
use mathlib.Core.Path.{refl}
use Rattle.primitive.specs.Text.{lower}
use Rattle.primitive.proofs.Lowered.{length_lowered}
use Rattle.text_quick.proofs.Places.{mark}
use Rattle.text_quick.proofs.Fronts.{iso_end, iso_inside, iso_day, iso_clock}
use Rattle.text_quick.proofs.iso_shape.Goals as goal

pub returns-then-at-s : goal.returns-then-at-s
returns-then-at-s c = let k = c in rw c.midnight.ensures (iso_end k.in_ok-date.ensures (rw length_lowered c.if-at-s.true))

pub bounds-s-at : goal.bounds-s-at
bounds-s-at c = let k = c in iso_inside _ k.in_ok-date.ensures c.if-at-s.false

pub timed-requires : goal.timed-requires
timed-requires c = let k = c in iso_inside _ k.in_ok-date.ensures c.if-at-s.false

pub returns-then-timed : goal.returns-then-timed
returns-then-timed c =
    let w = c in
    let k = w in
    iso_clock k.in_ok-date.ensures (w.timed.ensures c.if-timed.true) c.in_ok-time.ensures

pub returns-then-b-eq32 : goal.returns-then-b-eq32
unfolding lower
returns-then-b-eq32 c =
    let e = c in
    let k = e in
    let a = k.in_ok-date.ensures in
    let g = iso_inside _ a e.if-at-s.false in
    rw c.midnight-then-b-eq32.ensures (iso_day a (mark _ _ 32 g c.if-b-eq32.true refl) (rw length_lowered (omega arith)))
