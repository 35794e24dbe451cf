-- The 28 bytes of a packet's item: docs/SCOPE.md, 'The packet'.
use Rattle.answers.specs.Numbers as refusal
use Rattle.answers.specs.Limits.{last_year}
use Rattle.std.specs.Prelude.{Option, Some, None, cond}
use Rattle.std.specs.Prelude.{ℕ, zero, suc, ◌+◌, ◌-◌, ◌*◌, ◌/◌, ◌%◌, ◌^◌, Bool, true, false, ◌&&◌, List, leb, ltb, eqb, get_or, ℤ, pos, negsuc}
use Rattle.integers.specs.Integers.{in_i32}
use Rattle.answers.specs.Outcome.{Outcome, accepted, refused, check, ◌>>=◌, ◌>>◌}
use Rattle.dates.specs.Date.{exists}
use Rattle.dates.specs.declared.date.Date.{Date}
use Rattle.relative.specs.declared.Relative.{Relative}
use Rattle.relative.specs.declared.Relative.TheVariants as relative
use Rattle.times.specs.Offset as offset-range
use Rattle.times.specs.declared.offset.Offset.{Offset}
use Rattle.times.specs.declared.time.Time.{Time}
use Rattle.items.specs.declared.Day.{Day}
use Rattle.items.specs.declared.Day.TheVariants as day
use Rattle.items.specs.declared.Pure.{Pure}
use Rattle.items.specs.declared.Item.{Item}
use Rattle.items.specs.declared.Item.TheVariants as item
use Rattle.items.specs.Items.{day_index}
use Rattle.packet_fields.specs.declared.Fields.{Fields}

-- ---- numbers

-- the number in n bytes from a place on, little-endian; bytes after the end read as 0
unfoldable pub little : ℕ → ℕ → List ℕ → ℕ
little zero at bytes = 0
little (suc n) at bytes = get_or bytes at 0 + 256 * little n (suc at) bytes

-- the signed number that 8 bytes are, and back
unfoldable pub from_twos_complement : ℕ → ℤ
from_twos_complement n = cond (ltb n (2 ^ 63)) (pos n) (negsuc (2 ^ 64 - 1 - n))

unfoldable pub twos_complement : ℤ → ℕ
twos_complement (pos n) = n
twos_complement (negsuc n) = 2 ^ 64 - 1 - n

-- ---- fields

-- SCOPE, 'Layout': 0 kind, 1 weekday or unit, 2 month, 3 day, 4-7 year, 8 hour, 9 minute, 10 second, 11 flags, 12-15 nanosecond, 16 hours and
-- 17 minutes of the offset, 18-19 length of the pure number, 20-27 signed amount
unfoldable pub fields_from : List ℕ → ℕ → Fields
fields_from bytes at = record { kind = get_or bytes at 0; which = get_or bytes (at + 1) 0; month = get_or bytes (at + 2) 0; day = get_or bytes (at + 3) 0; year = little 4 (at + 4) bytes; hour = get_or bytes (at + 8) 0; minute = get_or bytes (at + 9) 0; second = get_or bytes (at + 10) 0; flags = get_or bytes (at + 11) 0; nanosecond = little 4 (at + 12) bytes; offset_hours = get_or bytes (at + 16) 0; offset_minutes = get_or bytes (at + 17) 0; length = little 2 (at + 18) bytes; amount = little 8 (at + 20) bytes }

-- items of 28 bytes, after a header of 8
abbrev pub fields_at : List ℕ → ℕ → Fields
fields_at bytes i = fields_from bytes (8 + 28 * i)

-- ---- the item that fields are

-- whether a flag is set: 1 year given, 2 time has an offset, 4 offset negative
abbrev pub flagged : ℕ → ℕ → Bool
flagged bit flags = eqb (flags / bit % 2) 1

unfoldable pub year_of : Fields → Option ℕ
year_of f = cond (flagged 1 f.flags) (Some f.year) None

unfoldable pub date_of : Fields → Date
date_of f = record { day = f.day; month = f.month; year = year_of f }

abbrev pub offset_of : Fields → Offset
offset_of f = record { negative = flagged 4 f.flags; hours = f.offset_hours; minutes = f.offset_minutes }

unfoldable pub time_offset_of : Fields → Option Offset
time_offset_of f = cond (flagged 2 f.flags) (Some (offset_of f)) None

unfoldable pub time_of : Fields → Time
time_of f = record { hour = f.hour; minute = f.minute; second = f.second; nanosecond = f.nanosecond; offset = time_offset_of f }

-- a weekday by its number, Monday 0
unfoldable pub day_of : ℕ → Outcome Day
day_of n =
    cond (eqb n 0) (accepted day.Monday) (cond (eqb n 1) (accepted day.Tuesday) (cond (eqb n 2) (accepted day.Wednesday) (cond (eqb n 3) (accepted day.Thursday)
    (cond (eqb n 4) (accepted day.Friday) (cond (eqb n 5) (accepted day.Saturday) (cond (eqb n 6) (accepted day.Sunday) (refused refusal.packet)))))))

-- an amount in an i32, as all but those of seconds
unfoldable pub small : ℕ → Outcome ℤ
small n = do
  check (in_i32 (from_twos_complement n)) refusal.packet
  accepted (from_twos_complement n)

unfoldable pub weekday_of : Fields → Outcome Item
weekday_of f = do
  n ← small f.amount
  d ← day_of f.which
  accepted (item.Weekday (record { offset = n; day = d }))

-- a unit by its number, from 1 years to 5 minutes
unfoldable pub unit_of : ℕ → ℤ → Outcome Item
unit_of unit n =
    cond (eqb unit 1) (accepted (item.Relative (relative.Years n))) (cond (eqb unit 2) (accepted (item.Relative (relative.Months n)))
    (cond (eqb unit 3) (accepted (item.Relative (relative.Days n))) (cond (eqb unit 4) (accepted (item.Relative (relative.Hours n)))
    (cond (eqb unit 5) (accepted (item.Relative (relative.Minutes n))) (refused refusal.packet)))))

unfoldable pub relative_of : Fields → Outcome Item
relative_of f = cond (eqb f.which 6) (accepted (item.Relative (relative.Seconds (from_twos_complement f.amount) f.nanosecond))) (small f.amount >>= unit_of f.which)

-- An item by its kind: 1 date, 2 time, 3 both, 4 weekday, 5 zone, 6 local zone, 7 relative, 8 pure. The digits of a pure number come after those
-- that are used.
unfoldable pub item_of : Fields → ℕ → Outcome Item
item_of f used =
    cond (eqb f.kind 1) (accepted (item.Date (date_of f))) (cond (eqb f.kind 2) (accepted (item.Time (time_of f)))
    (cond (eqb f.kind 3) (accepted (item.DateTime (record { date = date_of f; time = time_of f }))) (cond (eqb f.kind 4) (weekday_of f)
    (cond (eqb f.kind 5) (accepted (item.Offset (offset_of f))) (cond (eqb f.kind 6) (accepted item.LocalZone)
    (cond (eqb f.kind 7) (relative_of f) (cond (eqb f.kind 8) (accepted (item.Pure (record { start = used; length = f.length }))) (refused refusal.packet))))))))

-- ---- ranges: SCOPE, 'Ranges'

-- A year is at most 2147485547. A date without year may be 29 February.
unfoldable pub date_in_range : Option ℕ → ℕ → ℕ → Bool
date_in_range (Some y) m d = leb y last_year && exists y m d
date_in_range None m d = exists 2000 m d

unfoldable pub offset_in_range : Option Offset → Bool
offset_in_range (Some o) = offset-range.in_range o.hours o.minutes
offset_in_range None = true

unfoldable pub time_in_range : Time → Bool
time_in_range t = leb t.hour 23 && (leb t.minute 59 && (leb t.second 59 && (leb t.nanosecond 999999999 && offset_in_range t.offset)))

-- zone hours go to 47, with minutes to 60
unfoldable pub zone_in_range : Offset → Bool
zone_in_range o = leb o.hours 47 && leb o.minutes 60

-- a pure number has 1 to 255 digits
unfoldable pub pure_in_range : Pure → Bool
pure_in_range p = leb 1 p.length && leb p.length 255

unfoldable pub in_range : Item → Bool
in_range (item.Date d) = date_in_range d.year d.month d.day
in_range (item.Time t) = time_in_range t
in_range (item.DateTime v) = date_in_range v.date.year v.date.month v.date.day && time_in_range v.time
in_range (item.Weekday w) = true
in_range (item.Offset o) = zone_in_range o
in_range item.LocalZone = true
in_range (item.Relative r) = true
in_range (item.Pure p) = pure_in_range p

-- ---- the fields of an item. Every field and flag that it does not use is 0, flag 4 of a time without flag 2 among them.

-- no field but kind, unit or weekday, amount and nanosecond
abbrev pub counted : ℕ → ℕ → ℕ → ℕ → Fields
counted k which n nanos = record { kind = k; which = which; month = 0; day = 0; year = 0; hour = 0; minute = 0; second = 0; flags = 0; nanosecond = nanos; offset_hours = 0; offset_minutes = 0; length = 0; amount = n }

abbrev pub year_flag : Option ℕ → ℕ
year_flag (Some y) = 1
year_flag None = 0

abbrev pub year_field : Option ℕ → ℕ
year_field (Some y) = y
year_field None = 0

abbrev pub sign_flag : Bool → ℕ
sign_flag true = 4
sign_flag false = 0

abbrev pub offset_flags : Option Offset → ℕ
offset_flags (Some o) = 2 + sign_flag o.negative
offset_flags None = 0

abbrev pub hours_field : Option Offset → ℕ
hours_field (Some o) = o.hours
hours_field None = 0

abbrev pub minutes_field : Option Offset → ℕ
minutes_field (Some o) = o.minutes
minutes_field None = 0

unfoldable pub with_date : ℕ → Date → Fields
with_date k d = record { kind = k; which = 0; month = d.month; day = d.day; year = year_field d.year; hour = 0; minute = 0; second = 0; flags = year_flag d.year; nanosecond = 0; offset_hours = 0; offset_minutes = 0; length = 0; amount = 0 }

unfoldable pub with_time : Fields → Time → Fields
with_time f t = record { kind = f.kind; which = f.which; month = f.month; day = f.day; year = f.year; hour = t.hour; minute = t.minute; second = t.second; flags = f.flags + offset_flags t.offset; nanosecond = t.nanosecond; offset_hours = hours_field t.offset; offset_minutes = minutes_field t.offset; length = f.length; amount = f.amount }

unfoldable pub of_zone : Offset → Fields
of_zone o = record { kind = 5; which = 0; month = 0; day = 0; year = 0; hour = 0; minute = 0; second = 0; flags = sign_flag o.negative; nanosecond = 0; offset_hours = o.hours; offset_minutes = o.minutes; length = 0; amount = 0 }

unfoldable pub of_relative : Relative → Fields
of_relative (relative.Years n) = counted 7 1 (twos_complement n) 0
of_relative (relative.Months n) = counted 7 2 (twos_complement n) 0
of_relative (relative.Days n) = counted 7 3 (twos_complement n) 0
of_relative (relative.Hours n) = counted 7 4 (twos_complement n) 0
of_relative (relative.Minutes n) = counted 7 5 (twos_complement n) 0
of_relative (relative.Seconds n k) = counted 7 6 (twos_complement n) k

abbrev pub of_pure : Pure → Fields
of_pure p = record { kind = 8; which = 0; month = 0; day = 0; year = 0; hour = 0; minute = 0; second = 0; flags = 0; nanosecond = 0; offset_hours = 0; offset_minutes = 0; length = p.length; amount = 0 }

unfoldable pub fields_of : Item → Fields
fields_of (item.Date d) = with_date 1 d
fields_of (item.Time t) = with_time (counted 2 0 0 0) t
fields_of (item.DateTime v) = with_time (with_date 3 v.date) v.time
fields_of (item.Weekday w) = counted 4 (day_index w.day) (twos_complement w.offset) 0
fields_of (item.Offset o) = of_zone o
fields_of item.LocalZone = counted 6 0 0 0
fields_of (item.Relative r) = of_relative r
fields_of (item.Pure p) = of_pure p

-- ---- the whole

unfoldable pub same : Fields → Fields → Bool
same a b =
    eqb a.kind b.kind && (eqb a.which b.which && (eqb a.month b.month && (eqb a.day b.day && (eqb a.year b.year
    && (eqb a.hour b.hour && (eqb a.minute b.minute && (eqb a.second b.second && (eqb a.flags b.flags && (eqb a.nanosecond b.nanosecond
    && (eqb a.offset_hours b.offset_hours && (eqb a.offset_minutes b.offset_minutes && (eqb a.length b.length && eqb a.amount b.amount))))))))))))

-- the item, if it is in range and these are its fields
unfoldable pub fitting : Fields → Item → Outcome Item
fitting f x = do
  check (in_range x) refusal.packet
  check (same (fields_of x) f) refusal.packet
  accepted x

unfoldable pub unpacked : Fields → ℕ → Outcome Item
unpacked f used = do
  x ← item_of f used
  fitting f x

-- how many digits an item uses up; pure numbers take them in order
abbrev pub digits_used : Item → ℕ
digits_used (item.Pure p) = p.length
digits_used (item.Date d) = 0
digits_used (item.Time t) = 0
digits_used (item.DateTime v) = 0
digits_used (item.Weekday w) = 0
digits_used (item.Offset o) = 0
digits_used item.LocalZone = 0
digits_used (item.Relative r) = 0

-- ---- the code's answer

-- what fields give, or that they are those of no item
abbrev pub found_of : {A : Type 0} → Option A → Outcome A
found_of (Some x) = accepted x
found_of None = refused refusal.packet
