-- `line_answers::put_text` meets its contract: the room is 41 bytes. Assumes nothing.
use borrow.Author.Rules.{rules}
use Prim.Native.Nat.{◌≤◌}
use lib.ListN.{length}
use Rattle.answers.specs.Refusals.{outcome_of}
use Rattle.line_answers.proofs.Part.{text_number, text_put}
use Rattle.line_answers.proofs.put_text.Goals as goal

pub returns : goal.returns
returns c =
    let a = c.args in
    let w = c.write in
    let h : 43 ≤ length a.out.now = search rules in
    record {
      number_value = text_number a.«record» a.out.now w.new.out (outcome_of w.result) h w.ensures.value;
      put = text_put a.«record» a.out.now w.new.out (outcome_of w.result) h w.ensures.value w.ensures.out_after;
    }
