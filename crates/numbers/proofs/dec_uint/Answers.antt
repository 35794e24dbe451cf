-- `dec_uint` is its definition: the loop ends where the digits do. Assumes nothing.
use native.Mathlib.Omega.{arith}
use mathlib.Core.Path.{◌≡◌}
use Rattle.primitive.proofs.Scans.{scan_end}
use Rattle.numbers.proofs.dec_uint.Goals as goal

pub returns : goal.returns
returns c =
    let end : c.max.result ≡ c.loop-i.i = omega arith in
    scan_end _ _ _ _ _ c.loop-i.invariant.3 c.loop-i.invariant.2 _ (rw end at c.number_of-2.ensures) c.loop-i-test.false
