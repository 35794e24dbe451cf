-- `line_answers::put_byte` meets its contract. Assumes nothing.
use Rattle.line_answers.proofs.Putting.{byte_put}
use mathlib.Core.Path.{refl}
use borrow.Author.Rules.{rules}
use Rattle.line_answers.proofs.put_byte.Goals as goal

pub returns : goal.returns
returns c = record { place = refl; bytes = byte_put c.args.out.now c.args.at c.args.byte (search rules) }
