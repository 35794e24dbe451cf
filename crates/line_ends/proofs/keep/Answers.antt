-- `line_ends::keep` meets its contract: there are no such places, or the bytes from there on are copied. Assumes nothing.
use native.Mathlib.Omega.{arith}
use Prim.Native.Nat.{◌-◌, min}
use mathlib.Core.Path.{◌≡◌}
use Rattle.line_ends.proofs.Keeping.{kept_none, kept_some}
use Rattle.line_ends.proofs.keep.Goals as goal

pub returns-in_default-clause-put : goal.returns-in_default-clause-put
returns-in_default-clause-put c = kept_none c.args.buffer.now c.args.from c.args.end c.in_default.ensures.lookup.0

pub returns-clause-put : goal.returns-clause-put
returns-clause-put c =
    let a = c.args in
    let l = c.in-Some.ensures.lookup.0 in
    let e : c.min-n.result ≡ min (a.end - a.from) 4097 = omega (arith, c.min-n.ensures, l.3) in
    rw c.copy_within.ensures.after (kept_some a.buffer.now a.from a.end c.min-n.result l.0 l.1 e)
