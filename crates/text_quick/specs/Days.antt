-- What is known of a date where a quick reader answers one: the definitions read the same date.
use Rattle.std.specs.Prelude.{Option, Some, None}
use Rattle.std.specs.Prelude.{ℕ, ◌+◌, ◌<◌, ◌≤◌, ◌≡◌, true, false, List, ◌∷◌, ◌++◌, length, drop}
use Rattle.std.proofs.Math.Seq.{slice}
use Rattle.primitive.specs.Text.{blank, digit}
use Rattle.primitive.proofs.Rows.{all}
use Rattle.dates.specs.Date.{date_of, exists}
use Rattle.dates.specs.declared.date.Date.{Date}
use Rattle.calendar.specs.declared.Civil.{Civil}
use Rattle.items.specs.Items.{iso_date, parse_item}
use Rattle.items.specs.declared.Item.TheVariants as item
use Rattle.primitive.proofs.Walk.{Reads}
use Rattle.primitive.proofs.Leaves.{head, Still}
use Rattle.dates.proofs.Forms.{Ending}
use Rattle.dates.proofs.LiteralForms.{Month}
use Rattle.text_quick.specs.Rows.{Digits}

abbrev pub day_of : ℕ → ℕ → ℕ → Date
day_of y m d = date_of (Some y) m d

-- `2024-03-13` at the front of a text, if the month has the day; no digit follows
pub record Iso (text : List ℕ) (y m d n : ℕ) : Type 0 where
  pub month_small : m < 100
  pub day_small : d < 100
  pub ends : n ≡ 10
  pub within : n ≤ length text
  pub begins : digit (head text) ≡ true
  pub reads : exists y m d ≡ true → digit (head (drop n text)) ≡ false → Reads iso_date text (day_of y m d) (drop n text)

abbrev pub IsoDate : List ℕ → Option (Civil ℕ × ℕ) → Type 0
IsoDate text (Some p) = let t = p.0 in Iso text t.year t.month t.day p.1
IsoDate text None = Unit {0}

-- another date at the front of a text, if the month has the day; the next place is after the blanks that follow it
pub record Other (text : List ℕ) (y m d n : ℕ) : Type 0 where
  pub month_small : m < 100
  pub day_small : d < 100
  pub within : n ≤ length text
  pub still : Still text
  pub gap : List ℕ
  pub blanks : all blank gap ≡ true
  pub reads : exists y m d ≡ true → Reads parse_item text (item.Date (day_of y m d)) (gap ++ drop n text)

abbrev pub OtherDate : List ℕ → Option (Civil ℕ × ℕ) → Type 0
OtherDate text (Some p) = let t = p.0 in Other text t.year t.month t.day p.1
OtherDate text None = Unit {0}

-- ---- the parts of these dates

-- a year of four digits, and after it the end of the text or a blank
pub record EndedYear (text : List ℕ) (at y n : ℕ) : Type 0 where
  pub row : Digits text at (at + 4) y
  pub small : y ≤ 9999
  pub ending : Ending (drop (at + 4) text) (drop n text)
  pub within : n ≤ length text

abbrev pub YearAt : List ℕ → ℕ → ℕ → ℕ → Option (Civil ℕ × ℕ) → Type 0
YearAt text at m d (Some p) = let t = p.0 in (t.month ≡ m) × (t.day ≡ d) × EndedYear text at t.year p.1
YearAt text at m d None = Unit {0}

-- `13/2024`
pub record DayYear (text : List ℕ) (at y d n : ℕ) : Type 0 where
  pub to : ℕ
  pub row : Digits text at to d
  pub small : d < 100
  pub slash : drop to text ≡ 47 ∷ drop (to + 1) text
  pub year : EndedYear text (to + 1) y n

abbrev pub UsDate : List ℕ → ℕ → ℕ → Option (Civil ℕ × ℕ) → Type 0
UsDate text at m (Some p) = let t = p.0 in (t.month ≡ m) × DayYear text at t.year t.day p.1
UsDate text at m None = Unit {0}

-- the name of month k, and a blank after it
pub record Named (text : List ℕ) (at k to : ℕ) : Type 0 where
  pub month : Month (slice at to text) k
  pub small : k ≤ 12
  pub forward : at ≤ to
  pub more : to < length text
  pub space : drop to text ≡ 32 ∷ drop (to + 1) text

abbrev pub NamedAt : List ℕ → ℕ → Option (ℕ × ℕ) → Type 0
NamedAt text at (Some p) = Named text at p.0 p.1
NamedAt text at None = Unit {0}

-- `march 2024`
pub record MonthYear (text : List ℕ) (at y m n : ℕ) : Type 0 where
  pub to : ℕ
  pub name : Named text at m to
  pub year : EndedYear text (to + 1) y n

abbrev pub DayMonthDate : List ℕ → ℕ → ℕ → Option (Civil ℕ × ℕ) → Type 0
DayMonthDate text at d (Some p) = let t = p.0 in (t.day ≡ d) × MonthYear text at t.year t.month p.1
DayMonthDate text at d None = Unit {0}
