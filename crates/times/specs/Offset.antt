-- Offsets from UTC, in the order of items/offset.rs. 29.3: "The time may alternatively be followed by a time zone correction, expressed
-- as 'SHHMM', where S is '+' or '-', HH is a number of zone hours and MM is a number of zone minutes."
use Rattle.std.specs.Prelude.{ℕ, ◌+◌, ◌-◌, ◌*◌, ◌/◌, ◌%◌, Bool, ◌&&◌, ◌||◌, not, length, ltb, leb, eqb, ℤ, pos, cond}
use Rattle.primitive.specs.Answer.{Answer, Reader, matched, dropped, none, stop, ◌>>=◌, ◌>>◌, ◌<|>◌}
use Rattle.primitive.specs.Primitive.{spaced, colon, plus_or_minus, dec_uint, dec_uint_str, parse_uint}
use Rattle.primitive.specs.Epoch.{fraction}
use Rattle.primitive.specs.Ordinal.{signed}
use Rattle.relative.specs.Relative.{parse}
use Rattle.times.specs.declared.offset.Offset.{Offset}
use Rattle.times.specs.declared.offset.Normalized.{Normalized}

-- nothing is read, and the value is v where a test passes; where it fails there is a stop
abbrev pub certain : {A : Type 0} → Bool → A → Reader A
certain t v text at = cond t (matched v at) stop

-- an answer that counts only where another reader does not match; a stop of that reader is none
abbrev pub without : {A B : Type 0} → Answer A → Answer B → Answer B
without (matched v n) b = none
without (dropped v n) b = none
without none b = b
without stop b = b

-- what q reads, where p does not match
abbrev pub unless : {A B : Type 0} → Reader A → Reader B → Reader B
unless p q text at = without (p text at) (q text at)

-- ---- the offset itself

-- 29.3: "The maximum zone correction is 24 hours." SCOPE, 'Offsets and corrections': +24:00 is accepted, +23:60 is 86400 seconds, +24:01 stops.
unfoldable pub in_range : ℕ → ℕ → Bool
in_range hours minutes = leb hours 24 && (leb minutes 60 && (ltb hours 24 || eqb minutes 0))

-- 23 hours with the same minutes, and the hours beyond them for the clock
unfoldable pub moved : Offset → Normalized
moved o = record { offset = record { negative = o.negative; hours = 23; minutes = o.minutes }; hour_adjustment = signed (not o.negative) (o.hours - 23) }

-- SCOPE, 'Zones': `normalize` moves hours above 23 into the clock. +25:00 is +23:00 and two hours earlier; 24:00 is not moved.
unfoldable pub normalized : Offset → Normalized
normalized o = cond (ltb o.hours 24 || (eqb o.hours 24 && eqb o.minutes 0)) (record { offset = o; hour_adjustment = pos 0 }) (moved o)

unfoldable pub total_seconds : Offset → ℤ
total_seconds o = signed o.negative (o.hours * 3600 + o.minutes * 60)

-- the offset of a sign (true for minus), hours and minutes; out of range it stops
unfoldable pub offset_of : Bool → ℕ → ℕ → Reader Offset
offset_of negative hours minutes = certain (in_range hours minutes) (record { negative = negative; hours = hours; minutes = minutes })

-- ---- its forms

-- 29.3: "You can also separate HH from MM with a colon." Each may come after space, and leading zeros count for nothing.
unfoldable pub timezone_offset_colon : Reader Offset
timezone_offset_colon = do
  negative ← plus_or_minus
  hours ← spaced (dec_uint 255)
  spaced colon
  minutes ← spaced (dec_uint 255)
  offset_of negative hours minutes

-- 29.3: "The zone minutes term, MM, may be omitted, in which case the one- or two-digit correction is interpreted as a number of hours."
unfoldable pub digits_offset : Bool → ℕ → ℕ → Reader Offset
digits_offset negative digits n = cond (leb digits 2) (offset_of negative n 0) (offset_of negative (n / 100) (n % 100))

-- SCOPE, 'Offsets and corrections': a row of digits without a colon is cut to its last four if only zeros are lost. So more digits are read
-- too, as long as the number is below 10000; the manual has at most four.
unfoldable pub timezone_offset_colonless : Reader Offset
timezone_offset_colonless = do
  negative ← plus_or_minus
  w ← spaced dec_uint_str
  n ← parse_uint 9999 w
  digits_offset negative (length w) n

unfoldable pub any_offset : Reader Offset
any_offset = timezone_offset_colon <|> timezone_offset_colonless

-- ---- where it is read

-- a number with a sign and a fraction
unfoldable pub signed_fraction : Reader ℕ
signed_fraction = do
  plus_or_minus
  spaced dec_uint_str
  fraction

-- 29.3: the correction after a time. In `12:00 +1.5 seconds` there is none. SCOPE, 'Offsets and corrections': it does not yield to a relative
-- item.
unfoldable pub time_zone_correction : Reader Offset
time_zone_correction = unless signed_fraction any_offset

-- SCOPE, 'Offsets and corrections': `timezone_offset` yields to a relative item, so `+8 years` is no offset.
unfoldable pub timezone_offset : Reader Offset
timezone_offset = unless parse any_offset
