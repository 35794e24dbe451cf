-- `Offset::total_seconds` is its definition: the sum fits an i32, and so does its negative. Assumes nothing.
use mir.Facts.{to_z_pos}
use Prim.Native.Nat.{◌+◌, ◌*◌, ◌<◌}
use mir.Syntax.{w32}
use Rattle.times.proofs.Signed.{minus_value}
use Rattle.primitive.specs.Ordinal.{signed}
use Rattle.times.specs.Offset.{total_seconds}
use borrow.Author.Rules.{rules}
use Rattle.times.proofs.offset.Offset.total_seconds.Goals as goal

pub returns-then-self : goal.returns-then-self
unfolding total_seconds signed
returns-then-self c =
    let o = c.args.self in
    let h : o.hours * 3600 + o.minutes * 60 < 2147483648 = search rules in
    rw (minus_value w32 (o.hours * 3600 + o.minutes * 60) h, c.if-self.true)

pub returns-else-self : goal.returns-else-self
unfolding total_seconds signed
returns-else-self c =
    let o = c.args.self in
    let h : o.hours * 3600 + o.minutes * 60 < 2147483648 = search rules in
    rw (to_z_pos w32 h, c.if-self.false)
