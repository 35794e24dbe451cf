-- An answer that another reader refuses, which never stood there. Assumes nothing.
use mathlib.Core.Path.{◌≡◌, refl}
use Rattle.primitive.specs.Answer.{Answer, matched, dropped, none, stop}
use Rattle.times.specs.Offset.{without}

pub nothing_left : {A B : Type 0} (a : Answer A) → ◌≡◌ {A = Answer B} none (without a none)
nothing_left (matched v n) = refl
nothing_left (dropped v n) = refl
nothing_left none = refl
nothing_left stop = refl
