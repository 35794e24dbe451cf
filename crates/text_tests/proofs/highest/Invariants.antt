-- Where the answer is below 128 every byte is: so it is up to the byte at hand.
use Prim.Native.Nat.{◌<◌}
use Rattle.text_tests.proofs.Bytes.{Below}
use Rattle.text_tests.proofs.highest.Given as goal

abbrev pub invariant-loop-byte : goal.invariant-loop-byte
invariant-loop-byte l = (l.most < 128 → Below l.text l.byte-index)
