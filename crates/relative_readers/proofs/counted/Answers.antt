-- `counted` is its definition: seconds fit an i64, and other units an i32.
use borrow.Author.Rules.{rules}
use mir.Syntax.{w32, w64}
use mir.Val.{SFits}
use mir.Facts.{to_z-of_z}
use native.Mathlib.Omega.{arith}
use Rattle.primitive.proofs.Numbers.{signed_fits}
use Rattle.relative.proofs.Fronts.{unit_counted}
use Rattle.relative_readers.proofs.counted.Goals as goal

pub overflow_cast-with_sign : goal.overflow_cast-with_sign
overflow_cast-with_sign c =
    let wide : SFits w64 c.with_sign.result = search rules in
    let small : SFits w32 c.with_sign.result = rw c.with_sign.ensures (signed_fits _ _ (omega arith)) in
    rw (to_z-of_z wide) small

pub returns-else-n-gt-MOST_UNITS : goal.returns-else-n-gt-MOST_UNITS
returns-else-n-gt-MOST_UNITS c =
    λ text.
    let s = c in
    let wide : SFits w64 s.with_sign.result = search rules in
    let small : SFits w32 s.with_sign.result = rw s.with_sign.ensures (signed_fits _ _ (omega arith)) in
    let q = rw (to_z-of_z wide, to_z-of_z small) at (s.in_unit.ensures text) in
    unit_counted _ _ _ text _ (s.in-None.ensures text s.args.next) (omega arith) _ s.with_sign.ensures _ q
