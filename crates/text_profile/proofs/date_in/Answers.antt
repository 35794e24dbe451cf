-- `text_profile::date_in` meets its contract: a week date that is read has a year of four digits. Assumes nothing.
use mathlib.Core.Path.{sym, ap, ◌∙◌}
use Rattle.std.specs.Prelude.{Some}
use Rattle.text_profile.proofs.Forms.{week_year}
use Rattle.text_profile.proofs.date_in.Goals as goal

pub week_day-requires : goal.week_day-requires
week_day-requires c = week_year c.args.text.now c.in-Week.date (sym c.read_form.ensures ∙ c.in-Some.is ∙ ap Some c.in-Week.is)
