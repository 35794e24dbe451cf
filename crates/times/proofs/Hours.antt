-- What follows an hour: behind a colon there is no offset, and without one there are no minutes. Assumes nothing.
use native.Mathlib.Omega.{arith}
use Prim.Native.Nat.{ℕ}
use mathlib.Core.Path.{◌≡◌, refl, sym, ◌∙◌}
use mathlib.Core.List.{List, []}
use Rattle.primitive.specs.Answer.{Answer, matched, dropped, none, stop, or_else}
use Rattle.primitive.specs.Primitive.{sign, space, colon, plus_or_minus}
use Rattle.primitive.proofs.Fronts.{tag_first, tag_else}
use Rattle.relative.specs.Relative as relative
use Rattle.times.specs.Offset.{any_offset, timezone_offset, timezone_offset_colon, timezone_offset_colonless}
use Rattle.times.specs.Time.{hour24, offset_behind, minutes_behind, hour_offset, clock, iso}
use Rattle.times.specs.declared.time.Time.{Time}
use Rattle.times.proofs.Chain.{nothing_left}
use Rattle.times.proofs.Times.{times}

or_none : {A : Type 0} (p : Answer A) → p ≡ or_else p none
or_none (matched v n) = refl
or_none (dropped v n) = refl
or_none none = refl
or_none stop = refl

-- a colon is no sign
module _ (text : List ℕ) (at n : ℕ) (e : colon text at ≡ matched tt n) where
  pub no_correction : any_offset text at ≡ none
  unfolding any_offset timezone_offset_colon timezone_offset_colonless plus_or_minus sign colon
  no_correction =
      let z = tag_first text (space text at) 58 [] n e in
      rw (tag_else text (space text at) 43 [] (λ y. omega arith), tag_else text (space text at) 45 [] (λ y. omega arith))

  pub no_offset : timezone_offset text at ≡ none
  unfolding timezone_offset
  no_offset = rw no_correction (sym (nothing_left (relative.parse text at)))

module _ (text : List ℕ) (at : ℕ) where
  pub hourless : none ≡ hour24 text at → none ≡ iso text at
  unfolding iso hour_offset clock
  hourless e = rw (← e)

  module _ (h n : ℕ) (e : matched h n ≡ hour24 text at) (a : Answer Time) where
    pub hour_minutes : (m : ℕ) → matched tt m ≡ colon text n → a ≡ minutes_behind h text m → a ≡ iso text at
    unfolding iso hour_offset clock
    hour_minutes m f p = rw (← e, no_offset text n m (sym f), ← f) p

    pub hour_alone : none ≡ colon text n → a ≡ offset_behind h text n → a ≡ iso text at
    unfolding iso hour_offset clock
    hour_alone f p = rw (← e, ← f) (p ∙ or_none (offset_behind h text n))

pub ruleset hours = (hourless, hour_minutes, hour_alone, times)
