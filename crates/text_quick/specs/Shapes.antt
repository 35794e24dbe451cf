-- What is known of a text where a quick reader answers its date and time: which items the definitions read, and what is built of them.
use Rattle.std.specs.Prelude.{Option, Some, None, ℕ, ◌+◌, ◌≤◌, ◌≡◌, Bool, true, List, [], ◌∷◌, ◌++◌, length, drop, ℤ}
use Rattle.answers.specs.Outcome.{accepted}
use Rattle.extended.specs.Extended.{make, time, test}
use Rattle.calendar.specs.declared.Civil.{Civil}
use Rattle.extended.specs.declared.ExtendedDateTime.{ExtendedDateTime}
use Rattle.dates.specs.Date.{exists}
use Rattle.times.specs.declared.time.Time.{Time}
use Rattle.items.specs.Items.{ended, parse_items}
use Rattle.items.specs.declared.Item.{Item}
use Rattle.items.specs.declared.Item.TheVariants as item
use Rattle.items.proofs.DateTimes.{separator_of}
use Rattle.answers.specs.Placed.{fine}
use Rattle.builder.proofs.DateAndTime.{offset_or}
use Rattle.text_general.specs.Reading.{build_text}
use Rattle.text_quick.specs.Days.{day_of}
use Rattle.text_quick.specs.Clocks.{time_of}
use Rattle.relative.specs.declared.Relative.{Relative}
use Rattle.text_quick.specs.Shifts.{Shift}
use Rattle.text_quick.specs.declared.Shape.{Shape}

-- the start of a day
abbrev pub midnight : Time
midnight = time_of 0 0 0 0 None

abbrev pub day_item : Shape → Item
day_item x = item.Date (day_of x.date.year x.date.month x.date.day)

-- the items of a shape: a date at midnight, a date with its time in one item, a date and a time
pub data Fronts (x : Shape) : List Item → Type 0 where
  day_alone : x.time ≡ midnight → Fronts x (day_item x ∷ [])
  combined : Fronts x ((item.DateTime (record { date = day_of x.date.year x.date.month x.date.day; time = x.time })) ∷ [])
  apart : Fronts x (day_item x ∷ (item.Time (x.time)) ∷ [])

-- the items at the front of a text, and after them nothing or a relative item
pub record Front (text : List ℕ) (x : Shape) : Type 0 where
  pub items : List Item
  pub fronts : Fronts x items
  pub whole : length text ≤ x.next → parse_items text ≡ ended items 0 0
  pub moved : (v : Relative) → Shift text x.next v → parse_items text ≡ ended (items ++ ((item.Relative v) ∷ [])) 0 0

pub record Shaped (text : List ℕ) (x : Shape) : Type 0 where
  pub front : exists x.date.year x.date.month x.date.day ≡ true → Front text x

abbrev pub ShapeOf : List ℕ → Option Shape → Type 0
ShapeOf text (Some x) = Shaped text x
ShapeOf text None = Unit {0}

abbrev pub at_midnight : Civil ℕ → ℕ → Shape
at_midnight d n = record { date = d; time = midnight; next = n }

-- a blank or a `t`, with a byte after it
pub record SeparatorAt (text : List ℕ) (at : ℕ) : Type 0 where
  pub with_t : Bool
  pub there : drop at text ≡ separator_of with_t ∷ drop (at + 1) text

abbrev pub record_of : Shape → ℤ → ExtendedDateTime
record_of x base = make x.date (time x.time.hour x.time.minute x.time.second x.time.nanosecond) (offset_or base x.time.offset)

-- a record that was built at once is the one that the text's items build
abbrev pub AtOnce : List ℕ → ExtendedDateTime → Option ExtendedDateTime → Type 0
AtOnce text base (Some dt) = test base ≡ accepted tt → build_text text base ≡ fine dt
AtOnce text base None = Unit {0}
