-- A record that `at_once` makes is the one that the text builds. Assumes nothing.
use borrow.Author.Rules.{rules}
use mathlib.Core.Path.{◌≡◌}
use mir.Syntax.{w32}
use mir.Val.{SFits}
use mir.Facts.{to_z-of_z}
use Rattle.answers.specs.Outcome.{accepted}
use Rattle.extended.specs.Extended.{accept}
use Rattle.primitive.proofs.Lowered.{length_lowered}
use Rattle.text_quick.specs.Shapes.{record_of}
use Rattle.text_quick.proofs.Whole.{whole_at_once, moved_if, held}
use Rattle.text_quick.proofs.at_once.Goals as goal

pub returns-then-s-x : goal.returns-then-s-x
returns-then-s-x c =
    let base_fits : SFits w32 c.args.base.offset_seconds = search rules in
    let made : accepted c.in_ok-dt.dt ≡ accept (record_of c.in_ok-x.x c.args.base.offset_seconds) = held {a = c.in_ok-dt.dt} c.moment.result c.in_ok-dt.ensures.value (rw (to_z-of_z base_fits) at c.moment.ensures) in
    whole_at_once c.args.base c.in_ok-x.ensures _ made (rw length_lowered c.if-s-x.true)

pub returns : goal.returns
returns c =
    let base_fits : SFits w32 c.args.base.offset_seconds = search rules in
    let made : accepted c.in_ok-dt.dt ≡ accept (record_of c.in_ok-x.x c.args.base.offset_seconds) = held {a = c.in_ok-dt.dt} c.moment.result c.in_ok-dt.ensures.value (rw (to_z-of_z base_fits) at c.moment.ensures) in
    rw c.ok-2.ensures.value (moved_if c.args.base c.in_ok-x.ensures _ made c.in_ok-relative.ensures _ c.add_relative.ensures)
