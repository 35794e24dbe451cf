-- `text_profile::two` meets its contract: the second digit's place is one on, and both are below 10. Assumes nothing.
use native.Mathlib.Omega.{arith}
use Rattle.text_profile.proofs.Forms.{number_two}
use Rattle.text_profile.proofs.two.Goals as goal

pub returns : goal.returns
returns c = (omega (arith, c.one.ensures.0, c.one-2.ensures.0, number_two c.args.text.now c.args.at c.requires.1.0), omega (arith, c.one.ensures.1, c.one-2.ensures.1))
