-- `writer::year_width` meets its contract: a u32 has no more than 10 digits. Assumes nothing.
use native.Mathlib.Omega.{arith}
use borrow.Author.Rules.{rules}
use Prim.Native.Nat.{◌<◌, max}
use mathlib.Core.Path.{◌≡◌}
use Rattle.writer.specs.Writer.{width}
use Rattle.writer.proofs.Digits.{year_width}
use Rattle.writer.proofs.year_width.Goals as goal

pub returns : goal.returns
returns c =
    let y = c.args.year in
    let fits : y < 4294967296 = search rules in
    let w : c.decimal_width.result ≡ width y = rw c.from.ensures at c.decimal_width.ensures.0 in
    let e : c.max.result ≡ max 4 (width y) = omega (arith, c.max.ensures) in
    (e, omega (arith, (year_width y (omega arith)).1))
