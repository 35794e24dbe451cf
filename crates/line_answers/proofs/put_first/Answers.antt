-- `line_answers::put_first` meets its contract: what is put into the first 44 bytes is put into the whole. Assumes nothing.
use Rattle.line_answers.proofs.Putting.{front_put}
use Rattle.line_answers.proofs.put_first.Goals as goal

pub returns-clause-put : goal.returns-clause-put
returns-clause-put c h =
    let p = c.put_answer.ensures in
    front_put 44 h p.upper_bound c.in-Some.ensures.cases.same p.put
