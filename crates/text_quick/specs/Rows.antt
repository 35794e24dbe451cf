-- Rows of digits in a text.
use Rattle.std.specs.Prelude.{Option, Some, None, ◌^◌, ℕ, ◌+◌, ◌-◌, ◌<◌, ◌≤◌, ◌≡◌, true, false, List, length, get_or}
use Rattle.std.proofs.Math.Seq.{slice}
use Rattle.primitive.specs.Text.{digit}
use Rattle.primitive.specs.Primitive.{decimal}
use Rattle.primitive.proofs.Rows.{Number}

-- the value of the digit b, where b is one
abbrev pub DigitOf : ℕ → Option ℕ → Type 0
DigitOf b (Some r) = (digit b ≡ true) × (r ≡ b - 48) × (r < 10)
DigitOf b None = digit b ≡ false

-- the row of digits from one place up to another, whose value is v
pub record Digits (text : List ℕ) (from to v : ℕ) : Type 0 where
  pub number : Number (slice from to text)
  pub value : decimal (slice from to text) ≡ v
  pub forward : from ≤ to
  pub within : to ≤ length text

-- so many digits at a place, of which the value is below 10 to their number
abbrev pub RowAt : List ℕ → ℕ → ℕ → Option ℕ → Type 0
RowAt text at n (Some v) = (v < 10 ^ n) × Digits text at (at + n) v
RowAt text at n None = Unit {0}

-- a number of one digit or two, with a byte after it that is no digit
pub record Short (text : List ℕ) (at v n : ℕ) : Type 0 where
  pub row : Digits text at n v
  pub small : v < 100
  pub near : n ≤ at + 2
  pub more : n < length text
  pub ends : digit (get_or text n 0) ≡ false

abbrev pub ShortAt : List ℕ → ℕ → Option (ℕ × ℕ) → Type 0
ShortAt text at (Some p) = Short text at p.0 p.1
ShortAt text at None = Unit {0}
