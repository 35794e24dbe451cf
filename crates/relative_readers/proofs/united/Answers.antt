-- `united` is its definition's chain: a direction, and the unit of the word.
use mathlib.Core.Bool.{cond}
use mathlib.Core.Path.{◌≡◌}
use lib.IntN.{neg_ℤ}
use mir.Syntax.{w32}
use mir.Val.{SFits}
use mir.Facts.{to_z-of_z}
use Rattle.primitive.specs.Text.{lowered}
use Rattle.relative.proofs.Signed.{turned_fits}
use Rattle.relative.proofs.Units.{turned}
use Rattle.relative.specs.Fronts.{united}
use Rattle.relative_readers.proofs.united.Goals as goal

pub returns : goal.returns
unfolding united
returns c =
    let s = c in
    let m = c.multiplier.result in
    let e : m ≡ cond c.direction-ago.result.0 (neg_ℤ s.args.n) s.args.n = rw (to_z-of_z s.ranges.n) at c.multiplier.ensures in
    let f : SFits w32 m = turned_fits c.direction-ago.result.0 s.args.n m s.ranges.n s.requires e in
    let q = rw (to_z-of_z f) at (c.in_unit.ensures (lowered s.args.s.now)) in
    search turned
