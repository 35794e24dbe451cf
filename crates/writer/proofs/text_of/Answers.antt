-- `writer::text_of` meets its contract: its parts, one behind the other. Assumes nothing.
use mir.Syntax.{w32}
use mir.Val.{SFits}
use mir.Facts.{to_z-of_z}
use borrow.Author.Rules.{rules}
use Rattle.writer.specs.Writer.{padded}
use Rattle.writer.proofs.Texts.{fields_joined}
use Rattle.writer.proofs.text_of.Goals as goal

pub returns : goal.returns
unfolding padded
returns c =
    let offset_fits : SFits w32 c.args.«record».offset_seconds = search rules in
    let size = rw (to_z-of_z offset_fits) at c.unsigned_abs-offset.ensures.value in
    let sign = rw (to_z-of_z offset_fits) at c.sign.ensures in
    rw (
      c.push_field-8.ensures.text,
      c.push_field-7.ensures.text,
      c.push_field-6.ensures.text,
      c.push_field-5.ensures.text,
      c.push_field-4.ensures.text,
      c.push_field-3.ensures.text,
      c.push_field-2.ensures.text,
      c.push_field.ensures.text,
      c.push_digits.ensures.text,
      c.new-text.ensures,
      c.year_width.ensures.0,
      c.from.ensures,
      c.from-2.ensures,
      c.from-3.ensures,
      c.from-4.ensures,
      c.from-5.ensures,
      size,
      sign,
    ) (fields_joined c.args.«record»)
