-- Negatives of unsigned numbers, and the offset that is moved into range. Assumes nothing.
use borrow.Author.Rules.{rules}
use native.Mathlib.Omega.{arith}
use borrow.Author.Tests.{lt-ltb, le-ltb, eq-eqb, ne_eqb}
use Prim.Native.Nat.{ℕ, zero, suc, ◌^◌, ◌<◌, ◌≤◌}
use mathlib.Core.Path.{◌≡◌}
use lib.IntN.{pos, neg_ℤ, ◌-ℤ◌, +ℤ_idl}
use mir.Syntax.{Width}
use mir.Val.{SFits, hbits, to_z, of_z}
use mir.Facts.{to_z_pos, to_z-of_z}
use Rattle.times.specs.Offset.{moved, normalized}
use Rattle.times.specs.declared.offset.Offset.{Offset}
use Rattle.times.specs.declared.offset.Normalized.{Normalized}

-- for every width
module _ (w : Width) where
  pub minus_fits : (v : ℕ) → v < 2 ^ hbits w → SFits w (neg_ℤ (pos v))
  minus_fits zero h = record { sfits = h }
  minus_fits (suc k) h = record { sfits = omega arith }

  pub minus_is : (v : ℕ) → v < 2 ^ hbits w → pos 0 -ℤ to_z w v ≡ neg_ℤ (pos v)
  minus_is v h = rw (to_z_pos w h) (+ℤ_idl (neg_ℤ (pos v)))

  pub minus_value : (v : ℕ) → v < 2 ^ hbits w → to_z w (of_z w (pos 0 -ℤ to_z w v)) ≡ neg_ℤ (pos v)
  minus_value v h = rw (minus_is v h) (to_z-of_z (minus_fits v h))

module _ (o : Offset) where
  pub below_day : o.hours < 24 → record { offset = o; hour_adjustment = pos 0 } ≡ normalized o
  unfolding normalized
  below_day h = rw (lt-ltb o.hours 24 h)

  pub whole_day : o.hours ≤ 24 → 24 ≤ o.hours → o.minutes ≡ 0 → record { offset = o; hour_adjustment = pos 0 } ≡ normalized o
  unfolding normalized
  whole_day h k e = rw (le-ltb o.hours 24 k, eq-eqb o.hours 24 (omega arith), eq-eqb o.minutes 0 e)

  pub above_day : (r : Normalized) → 24 < o.hours → r ≡ moved o → r ≡ normalized o
  unfolding normalized
  above_day r h e = rw (le-ltb o.hours 24 (omega arith), ne_eqb o.hours 24 (λ z. omega arith)) e

  pub day_and_minutes : (r : Normalized) → 24 ≤ o.hours → o.hours ≤ 24 → (o.minutes ≡ 0 → ⊥) → r ≡ moved o → r ≡ normalized o
  unfolding normalized
  day_and_minutes r h k n e = rw (le-ltb o.hours 24 h, eq-eqb o.hours 24 (omega arith), ne_eqb o.minutes 0 n) e

pub ruleset days = (below_day, whole_day, above_day, day_and_minutes, rules)
