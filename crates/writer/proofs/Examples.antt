-- The text of a record, and the answers of the writer, computed: the example of docs/SCOPE.md, 'The writer', the longest text, the order of
-- the refusals. Assumes nothing.
use mathlib.Core.Path.{◌≡◌, refl}
use native.Mathlib.Omega.{arith}
use lib.IntN.{pos, negsuc}
use Rattle.primitive.specs.Text.{bytes}
use Rattle.extended.specs.Calendar.{leap, month_days}
use Rattle.answers.specs.Outcome.{accepted, refused}
use Rattle.extended.specs.Extended.{make, date, time, test_date, test_time, test_offset, test}
use Rattle.extended.specs.declared.ExtendedDateTime.{ExtendedDateTime}
use Rattle.writer.specs.Writer.{fixed, width_up_to, width, digits, padded, text_of, written}
use Rattle.writer.proofs.Digits.{width_is}

-- SCOPE, 'The writer': `0005-01-02 03:04:05.000000006+00:00`
pub early : ExtendedDateTime
early = make (date 5 1 2) (time 3 4 5 6) (pos 0)

pub early_text : text_of early ≡ bytes "0005-01-02 03:04:05.000000006+00:00"
unfolding early make bytes fixed width_up_to width padded text_of
early_text = refl

-- the last year, the longest text, whose width is had by a law, since `width_up_to` would count down from the year; -34200 is written -1 - 34199
pub late : ExtendedDateTime
late = make (date 2147485547 12 31) (time 23 59 59 999999999) (negsuc 34199)

pub late_text : text_of late ≡ bytes "2147485547-12-31 23:59:59.999999999-09:30"
unfolding late make bytes fixed padded text_of
late_text = rw (width_is 9 2147485547 (omega arith) (omega arith) (omega arith))

-- 24 hours either way, and the first year of five digits
pub ends : (text_of (make (date 9999 12 31) (time 0 0 0 0) (pos 86400)) ≡ bytes "9999-12-31 00:00:00.000000000+24:00")
    × (text_of (make (date 10000 1 1) (time 0 0 0 0) (negsuc 86399)) ≡ bytes "10000-01-01 00:00:00.000000000-24:00")
unfolding make bytes fixed width_up_to width padded text_of
ends = (refl, refl)

pub shortest : (digits 0 ≡ bytes "0") × (digits 9 ≡ bytes "9") × (digits 10 ≡ bytes "10") × (digits 12345 ≡ bytes "12345")
unfolding bytes fixed width_up_to width digits
shortest = (refl, refl, refl, refl)

-- the tests of the record, then 20, then 19: each number where all that come after it would be given too
pub refusals : (written (make (date 5 13 2) (time 3 4 5 6) (pos 30)) 0 ≡ refused 11)
    × (written (make (date 5 1 2) (time 3 4 5 6) (pos 30)) 0 ≡ refused 20)
    × (written (make (date 5 1 2) (time 3 4 5 6) (negsuc 0)) 0 ≡ refused 20)
    × (written early 34 ≡ refused 19)
    × (written early 35 ≡ accepted (bytes "0005-01-02 03:04:05.000000006+00:00"))
unfolding early make leap month_days test_date test_time test_offset test bytes fixed width_up_to width padded text_of written
refusals = (refl, refl, refl, refl, refl)
