-- `ascii_end`: the bytes so far are below 128.
use Rattle.text_tests.proofs.Bytes.{Below}
use Rattle.text_tests.proofs.ascii_end.Given as goal

abbrev pub invariant-loop-i : goal.invariant-loop-i
invariant-loop-i l = Below l.text l.i
