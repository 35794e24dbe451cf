-- What is known of a relative item where a quick reader answers one: the definitions read the same item.
use Rattle.std.specs.Prelude.{Option, Some, None, ℕ, ◌+◌, ◌<◌, ◌≤◌, ◌≡◌, ◌⊎◌, Bool, true, false, not, List, [], ◌∷◌, ◌++◌, eqb, length, drop, ℤ, pos, ◌*ℤ◌, cond}
use Rattle.primitive.specs.Text.{bytes, blank}
use Rattle.primitive.specs.Ordinal.{signed}
use Rattle.primitive.proofs.Rows.{all}
use Rattle.dates.specs.declared.date.Date.{Date}
use Rattle.relative.specs.declared.Relative.{Relative}
use Rattle.relative.specs.declared.Relative.TheVariants as relative
use Rattle.items.specs.Combined.{parse_time_after_date}
use Rattle.items.specs.Items.{parse_item}
use Rattle.items.specs.declared.Item.TheVariants as item
use Rattle.primitive.proofs.Walk.{Reads, Fails}
use Rattle.primitive.proofs.Leaves.{Still, sign_of}
use Rattle.relative.proofs.Forms.{plural}
use Rattle.relative_readers.specs.declared.unit.Unit.{Unit as TimeUnit}
use Rattle.relative_readers.specs.declared.unit.Unit.TheVariants as unit

-- so many units
abbrev pub relative_of : TimeUnit → ℤ → Relative
relative_of unit.Year n = relative.Years n
relative_of unit.Month n = relative.Months n
relative_of unit.Fortnight n = relative.Days (n *ℤ pos 14)
relative_of unit.Week n = relative.Days (n *ℤ pos 7)
relative_of unit.Day n = relative.Days n
relative_of unit.Hour n = relative.Hours n
relative_of unit.Minute n = relative.Minutes n
relative_of unit.Second n = relative.Seconds n 0

-- a relative item that ends the text, after any blanks; with a blank before it, it is no time after a date
pub record Shift (text : List ℕ) (at : ℕ) (v : Relative) : Type 0 where
  pub still : Still (drop at text)
  pub there : at < length text
  pub reads : (bs : List ℕ) → all blank bs ≡ true → Reads parse_item (bs ++ drop at text) (item.Relative v) []
  pub no_time : (d : Date) → Fails (parse_time_after_date d) (32 ∷ drop at text)

abbrev pub ShiftAt : List ℕ → ℕ → Option Relative → Type 0
ShiftAt text at (Some v) = Shift text at v
ShiftAt text at None = Unit {0}

-- ---- the parts

-- where the digits begin, with the byte b at the place: there, if b is no minus, or after b, if b is a sign
abbrev pub BehindSign : ℕ → ℕ → ℕ → Type 0
BehindSign b at n = ((n ≡ at) × (eqb b 45 ≡ false)) ⊎ ((n ≡ at + 1) × (b ≡ sign_of (eqb b 45)))

abbrev pub word_of : TimeUnit → List ℕ
word_of unit.Year = bytes "year"
word_of unit.Month = bytes "month"
word_of unit.Fortnight = bytes "fortnight"
word_of unit.Week = bytes "week"
word_of unit.Day = bytes "day"
word_of unit.Hour = bytes "hour"
word_of unit.Minute = bytes "minute"
word_of unit.Second = bytes "second"

-- fortnights are not read at once: their days may be more than an i32 can represent
abbrev pub Short : TimeUnit → Type 0
Short unit.Fortnight = ⊥
Short unit.Year = Unit {0}
Short unit.Month = Unit {0}
Short unit.Week = Unit {0}
Short unit.Day = Unit {0}
Short unit.Hour = Unit {0}
Short unit.Minute = Unit {0}
Short unit.Second = Unit {0}

-- the name of a unit, up to the place n
abbrev pub UnitAt : List ℕ → ℕ → Option (TimeUnit × ℕ) → Type 0
UnitAt text at (Some p) = Short p.0 × (drop at text ≡ word_of p.0 ++ drop p.1 text)
UnitAt text at None = Unit {0}

-- a blank and `ago`, or nothing
abbrev pub way_of : Bool → List ℕ
way_of true = 32 ∷ bytes "ago"
way_of false = []

-- whether `ago` ends the text, or nothing
abbrev pub WayAt : List ℕ → ℕ → Option Bool → Type 0
WayAt text at (Some ago) = drop at text ≡ way_of ago
WayAt text at None = Unit {0}

-- an `s` or none
pub record Plural (text : List ℕ) (at n : ℕ) : Type 0 where
  pub many : Bool
  pub written : drop at text ≡ plural many ++ drop n text

-- what follows a number
pub record Counted (text : List ℕ) (at : ℕ) (negative : Bool) (n : ℕ) (v : Relative) : Type 0 where
  pub small : n ≤ 300000000
  pub unit : TimeUnit
  pub short : Short unit
  pub many : Bool
  pub ago : Bool
  pub written : drop at text ≡ 32 ∷ (word_of unit ++ (plural many ++ way_of ago))
  pub amount : v ≡ relative_of unit (signed (cond ago (not negative) negative) n)

abbrev pub CountAt : List ℕ → ℕ → Bool → ℕ → Option Relative → Type 0
CountAt text at negative n (Some v) = Counted text at negative n v
CountAt text at negative n None = Unit {0}
