-- `line_answers::put_record` meets its contract: a refusal covers the two bytes in front. Assumes nothing.
use native.Mathlib.Omega.{arith}
use Rattle.writer.specs.Writer.{written}
use Rattle.line_answers.proofs.Putting.{zero_put, code_some, record_refused, record_written}
use Rattle.line_answers.proofs.put_record.Goals as goal

pub returns-in-Err-clause-put : goal.returns-in-Err-clause-put
returns-in-Err-clause-put c =
    let w = c.put_text in
    let n = rw c.in-Err.is at w.ensures.number_value.0 in
    let d = rw c.at.ensures at c.put_refusal.ensures.put in
    record_refused (written c.args.«record» 41) (zero_put c.args.out.now c.copy_from_slice.new.self c.copy_from_slice.ensures.after) w.ensures.put n (code_some c.in-Err.refusal) d

pub returns-in-Ok-clause-put : goal.returns-in-Ok-clause-put
returns-in-Ok-clause-put c =
    let w = c.put_text in
    let n = rw c.in-Ok.is at w.ensures.number_value.0 in
    let p = rw c.in-Ok.is at w.ensures.put in
    record_written (written c.args.«record» 41) (zero_put c.args.out.now c.copy_from_slice.new.self c.copy_from_slice.ensures.after) p n (omega arith) c.put_byte.ensures
