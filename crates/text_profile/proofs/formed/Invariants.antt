-- `formed`: what is left says what the whole does.
use Rattle.text_profile.proofs.Forms.{Left}
use Rattle.text_profile.proofs.formed.Given as goal

abbrev pub invariant-loop-i : goal.invariant-loop-i
invariant-loop-i l = Left l.pattern l.text l.i
