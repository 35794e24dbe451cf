-- `text_profile::one` meets its contract: a digit is at most `9`. Assumes nothing.
use Rattle.text_profile.proofs.Forms.{digit_value, number_one}
use mathlib.Core.Path.{sym}
use Rattle.text_profile.proofs.one.Goals as goal

pub overflow_sub-result : goal.overflow_sub-result
overflow_sub-result c = (digit_value _ c.requires.1).0

pub returns : goal.returns
returns c = (sym (number_one c.args.text.now c.args.at c.requires.0), (digit_value _ c.requires.1).1)
