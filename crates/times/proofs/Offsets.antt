-- The laws of an offset's hours and minutes: their range, and what digits say. Assumes nothing.
use native.Mathlib.Omega.{arith}
use borrow.Author.Tests.{lt-ltb, le-leb, lt-leb, leb-true}
use Prim.Native.Nat.{ℕ, ◌/◌, ◌%◌, ◌<◌, ◌≤◌}
use mathlib.Core.Path.{◌≡◌, refl, ◌∙◌}
use mathlib.Core.List.{List, []}
use mathlib.Core.Bool.{Bool, true, false, ◌&&◌, ◌||◌, cond}
use lib.ListN.{length}
use lib.Dec.{ltb, leb, eqb}
use Rattle.primitive.specs.Answer.{Answer, matched, stop}
use Rattle.primitive.specs.Text.{lowered}
use Rattle.primitive.proofs.Limits.{limits}
use Rattle.primitive.proofs.Lowered.{length_lowered}
use Rattle.relative.proofs.Chain.{relatives}
use Rattle.times.specs.Offset.{in_range, offset_of, digits_offset}
use Rattle.times.specs.declared.offset.Offset.{Offset}
use Rattle.times.proofs.Chain.{nothing_left}

clash : ◌≡◌ {A = ℕ} 0 1 → ⊥
clash z = omega arith

-- ---- the range

module _ (hours minutes : ℕ) where
  pub too_many_hours : 24 < hours → false ≡ in_range hours minutes
  unfolding in_range
  too_many_hours h = rw (lt-leb hours 24 h)

  pub too_many_minutes : hours ≤ 24 → 60 < minutes → false ≡ in_range hours minutes
  unfolding in_range
  too_many_minutes h k = rw (le-leb hours 24 h, lt-leb minutes 60 k)

  module _ (k : minutes ≤ 60) where
    pub full_day : (t : Bool) → hours ≡ 24 → t ≡ eqb minutes 0 → t ≡ in_range hours minutes
    unfolding in_range
    full_day t h e = rw (h, le-leb minutes 60 k) e

    pub part_of_day : hours ≤ 24 → (hours ≡ 24 → ⊥) → true ≡ in_range hours minutes
    unfolding in_range
    part_of_day h n = rw (le-leb hours 24 h, le-leb minutes 60 k, lt-ltb hours 24 (omega arith))

  pub hours_in_range : in_range hours minutes ≡ true → hours ≤ 24
  unfolding in_range
  hours_in_range = go (leb hours 24) refl
    where
      go : (t : Bool) → leb hours 24 ≡ t → t && (leb minutes 60 && (ltb hours 24 || eqb minutes 0)) ≡ true → hours ≤ 24
      go true e f = leb-true hours 24 e
      go false e f = let z : ◌≡◌ {A = ℕ} 0 1 = cc in absurd (clash z)

  pub minutes_in_range : in_range hours minutes ≡ true → minutes ≤ 60
  unfolding in_range
  minutes_in_range = go (leb hours 24) (leb minutes 60) refl
    where
      go : (t u : Bool) → leb minutes 60 ≡ u → t && (u && (ltb hours 24 || eqb minutes 0)) ≡ true → minutes ≤ 60
      go true true e f = leb-true minutes 60 e
      go true false e f = let z : ◌≡◌ {A = ℕ} 0 1 = cc in absurd (clash z)
      go false u e f = let z : ◌≡◌ {A = ℕ} 0 1 = cc in absurd (clash z)

-- ---- the offset

module _ (negative : Bool) (hours minutes next : ℕ) (t : Bool) (e : t ≡ in_range hours minutes) where
  pub offset_in : t ≡ true → matched (record { negative = negative; hours = hours; minutes = minutes }) next ≡ offset_of negative hours minutes [] next
  unfolding offset_of
  offset_in h = rw (← e, h)

  pub offset_out : t ≡ false → stop ≡ offset_of negative hours minutes [] next
  unfolding offset_of
  offset_out h = rw (← e, h)

-- it reads nothing, so that any text will do
pub offset_anywhere : (q : Answer Offset) (negative : Bool) (hours minutes : ℕ) (text : List ℕ) (next : ℕ) → q ≡ offset_of negative hours minutes [] next → q ≡ offset_of negative hours minutes text next
unfolding offset_of
offset_anywhere q negative hours minutes text next e = e

-- ---- its digits

module _ (negative : Bool) (digits n next : ℕ) (q : Answer Offset) where
  pub hours_alone : digits ≤ 2 → q ≡ offset_of negative n 0 [] next → q ≡ digits_offset negative digits n [] next
  unfolding digits_offset
  hours_alone h e = rw (le-leb digits 2 h) e

  pub hours_and_minutes : 2 < digits → q ≡ offset_of negative (n / 100) (n % 100) [] next → q ≡ digits_offset negative digits n [] next
  unfolding digits_offset
  hours_and_minutes h e = rw (lt-leb digits 2 h) e

digits_anywhere : (q : Answer Offset) (negative : Bool) (digits n : ℕ) (text : List ℕ) (next : ℕ) → q ≡ digits_offset negative digits n [] next → q ≡ digits_offset negative digits n text next
unfolding digits_offset offset_of
digits_anywhere q negative digits n text next e = e ∙ go (leb digits 2)
  where
    go : (t : Bool) → cond t (offset_of negative n 0) (offset_of negative (n / 100) (n % 100)) [] next ≡ cond t (offset_of negative n 0) (offset_of negative (n / 100) (n % 100)) text next
    go true = refl
    go false = refl

-- as many digits as were read
pub digits_counted : (d : List ℕ) (q : Answer Offset) (negative : Bool) (n : ℕ) (text : List ℕ) (next : ℕ) → q ≡ digits_offset negative (length d) n [] next → q ≡ digits_offset negative (length (lowered d)) n text next
digits_counted d q negative n text next f = rw (length_lowered d) (digits_anywhere q negative (length d) n text next f)

pub ruleset offsets = (too_many_hours, too_many_minutes, full_day, part_of_day, offset_in, offset_out, offset_anywhere, hours_alone, hours_and_minutes, digits_counted, nothing_left, limits, relatives)
