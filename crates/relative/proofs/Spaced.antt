-- A relative item is read behind space: from the end of the space it is the same. Assumes nothing.
use Prim.Native.Nat.{ℕ}
use mathlib.Core.Path.{◌≡◌, refl}
use mathlib.Core.List.{List}
use mathlib.Core.Bool.{Bool, false}
use lib.IntN.{ℤ, pos}
use Rattle.primitive.specs.Answer.{Answer, matched, dropped, none, stop, and_then, or_else}
use Rattle.primitive.specs.Primitive.{sign, space, plus_or_minus}
use Rattle.primitive.specs.Ordinal.{text_ordinal, number_ordinal, ordinal}
use Rattle.primitive.proofs.Fronts.{space_again}
use Rattle.relative.specs.Relative.{signed_seconds, seconds, displaced, displacement, parse}

module _ (text : List ℕ) (at : ℕ) where
  seconds_behind : seconds text (space text at) ≡ seconds text at
  unfolding seconds plus_or_minus signed_seconds
  seconds_behind = rw (space_again text at) (go (sign text (space text at)))
    where
      go : (a : Answer Bool) → and_then (or_else a (matched false (space text at))) (λ v n. signed_seconds v text n) ≡ and_then (or_else a (matched false at)) (λ v n. signed_seconds v text n)
      go (matched v n) = refl
      go (dropped v n) = refl
      go none = rw (space_again text at)
      go stop = refl

  ordinal_behind : ordinal text (space text at) ≡ ordinal text at
  unfolding ordinal text_ordinal number_ordinal
  ordinal_behind = rw (space_again text at)

  displacement_behind : displacement text (space text at) ≡ displacement text at
  unfolding displacement displaced
  displacement_behind = rw ordinal_behind (go (ordinal text at))
    where
      go : (a : Answer ℤ) → and_then (or_else a (matched (pos 1) (space text at))) (λ n m. displaced n text m) ≡ and_then (or_else a (matched (pos 1) at)) (λ n m. displaced n text m)
      go (matched v n) = refl
      go (dropped v n) = refl
      go none = rw (space_again text at)
      go stop = refl

  pub parse_behind : parse text (space text at) ≡ parse text at
  unfolding parse
  parse_behind = rw (seconds_behind, displacement_behind)
