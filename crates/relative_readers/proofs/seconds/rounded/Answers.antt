-- `rounded` is its definition: each negative that it makes fits an i64.
use Rattle.relative.proofs.Signed.{negated, below_zero, minus_fits}
use borrow.Author.Tests.{eq-eqb, ne_eqb}
use mir.Facts.{to_z-of_z, to_z_pos}
use mir.Syntax.{w64}
use lib.IntN.{pos}
use Prim.Native.Nat.{◌+◌}
use Rattle.primitive.specs.Ordinal.{signed}
use Rattle.relative.specs.Relative.{rounded}
use borrow.Author.Rules.{rules}
use Rattle.relative_readers.proofs.seconds.rounded.Goals as goal

pub returns-then-nsec-eq0 : goal.returns-then-nsec-eq0
unfolding rounded signed
returns-then-nsec-eq0 c =
    let s = c in
    rw (to_z_pos w64 s.requires.0, negated (pos s.args.v.sec), to_z-of_z (minus_fits s.args.v.sec (search rules)), c.if-negative.true, eq-eqb s.args.v.nsec 0 c.if-nsec-eq0.true)

pub returns-then-negative : goal.returns-then-negative
unfolding rounded signed
returns-then-negative c =
    let s = c in
    rw (to_z_pos w64 s.requires.0, below_zero s.args.v.sec, to_z-of_z (minus_fits (s.args.v.sec + 1) (search rules)), c.if-negative.true, ne_eqb s.args.v.nsec 0 c.if-nsec-eq0.false)

pub returns : goal.returns
unfolding rounded
returns c = rw (to_z_pos w64 c.requires.0, c.if-negative.false)
