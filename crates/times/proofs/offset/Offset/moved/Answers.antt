-- `Offset::moved` is its definition: the hours beyond 23 fit an i64, and so does their negative. Assumes nothing.
use Prim.Native.Nat.{◌-◌, ◌<◌}
use mir.Facts.{to_z_pos}
use mir.Syntax.{w64}
use Rattle.times.proofs.Signed.{minus_value}
use Rattle.primitive.specs.Ordinal.{signed}
use Rattle.times.specs.Offset.{moved}
use borrow.Author.Rules.{rules}
use Rattle.times.proofs.offset.Offset.moved.Goals as goal

pub returns-then-self : goal.returns-then-self
unfolding moved signed
returns-then-self c =
    let o = c.args.self in
    let h : o.hours - 23 < 9223372036854775808 = search rules in
    rw (to_z_pos w64 h, c.if-self.true)

pub returns : goal.returns
unfolding moved signed
returns c =
    let o = c.args.self in
    let h : o.hours - 23 < 9223372036854775808 = search rules in
    rw (minus_value w64 (o.hours - 23) h, c.if-self.false)
