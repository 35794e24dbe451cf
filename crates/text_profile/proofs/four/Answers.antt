-- `text_profile::four` meets its contract: four digits are two numbers of two. Assumes nothing.
use native.Mathlib.Omega.{arith}
use Rattle.text_profile.proofs.Forms.{number_four}
use Rattle.text_profile.proofs.four.Goals as goal

pub returns : goal.returns
returns c = omega (arith, c.two.ensures.0, c.two-2.ensures.0, number_four c.args.text.now c.args.at c.requires.3.0)
