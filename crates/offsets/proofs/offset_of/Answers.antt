-- `offset_of` is its definition; hours and minutes in range fit their fields.
use native.Mathlib.Omega.{arith}
use mathlib.Core.Path.{sym, ◌∙◌}
use Rattle.times.proofs.Offsets.{hours_in_range, minutes_in_range}
use Rattle.offsets.proofs.offset_of.Goals as goal

pub overflow_cast-offset : goal.overflow_cast-offset
overflow_cast-offset c =
    let a = c.args in
    let h = hours_in_range a.hours a.minutes (sym c.in_range.ensures ∙ c.if-in_range.true) in
    record { fits = omega arith }

pub overflow_cast-offset-then-in_range : goal.overflow_cast-offset-then-in_range
overflow_cast-offset-then-in_range c =
    let a = c.args in
    let h = minutes_in_range a.hours a.minutes (sym c.in_range.ensures ∙ c.if-in_range.true) in
    record { fits = omega arith }
