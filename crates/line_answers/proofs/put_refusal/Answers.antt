-- `line_answers::put_refusal` meets its contract: its four steps are one. Assumes nothing.
use Rattle.answers.specs.Refusals.{code}
use Rattle.line_answers.proofs.Putting.{refusal_put}
use Rattle.line_answers.proofs.put_refusal.Goals as goal

pub returns-clause-put : goal.returns-clause-put
returns-clause-put c =
    let first = rw (c.from.ensures, c.from-number.ensures) at c.put_decimal-at.ensures.put in
    refusal_put (code c.args.refused.refusal) c.args.refused.place first c.put_byte-at.ensures c.put_decimal-at-2.ensures.put c.put_byte.ensures
