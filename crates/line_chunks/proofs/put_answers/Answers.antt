-- `line_chunks::put_answers` meets its contract: what is answered and what is left to answer are the whole, at each turn. Assumes nothing.
use borrow.Author.Rules.{rules}
use Rattle.line_chunks.proofs.Answering.{going_on, stopped_full, stopped_unended, stopped_none}
use Rattle.line_chunks.proofs.put_answers.Goals as goal

pub returns-then-out-progress-lt-LONGEST_ANSWER : goal.returns-then-out-progress-lt-LONGEST_ANSWER
returns-then-out-progress-lt-LONGEST_ANSWER c =
    let s = stopped_full c.loop-progress.invariant.0 c.loop-progress-test.true c.if-out-progress-lt-LONGEST_ANSWER.true in
    record { taken_in_bounds = s.0; taken_value = s.1.0; put = s.1.1.0; full_value = s.1.1.1 }

pub returns-then-end-chunk : goal.returns-then-end-chunk
returns-then-end-chunk c =
    let g = c.loop-progress.invariant in
    let e = c.line_end-end in
    let s = stopped_unended g.0 e.result e.ensures.0 c.if-end-chunk.true c.if-out-progress-lt-LONGEST_ANSWER.false in
    record { taken_in_bounds = s.0; taken_value = s.1.0; put = s.1.1.0; full_value = rw g.1 s.1.1.1 }

pub loop-progress-preserved : goal.loop-progress-preserved
loop-progress-preserved c =
    let g = c.loop-progress.invariant in
    let e = c.line_end-end in
    let p = c.put_line in
    (going_on g.0 e.result p.result p.new.out e.ensures.0 c.if-end-chunk.false (search rules) (search rules) p.ensures.upper_bound p.ensures.put, g.1)

pub returns-after-loop-progress : goal.returns-after-loop-progress
returns-after-loop-progress c =
    let g = c.loop-progress.invariant in
    let s = stopped_none g.0 c.loop-progress-test.false in
    record { taken_in_bounds = s.0; taken_value = s.1.0; put = s.1.1.0; full_value = rw g.1 s.1.1.1 }
