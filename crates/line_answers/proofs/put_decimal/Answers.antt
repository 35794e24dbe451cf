-- `line_answers::put_decimal` meets its contract: the part at the place is filled with the digits. Assumes nothing.
use borrow.Author.Rules.{rules}
use Rattle.line_answers.proofs.Putting.{digits_put}
use Rattle.line_answers.proofs.put_decimal.Goals as goal

pub returns-clause-put : goal.returns-clause-put
returns-clause-put c =
    let a = c.args in
    let k = c.decimal_width in
    digits_put a.out.now c.fill_digits.new.row a.at k.result a.number k.ensures.0 (search rules) c.fill_digits.ensures
