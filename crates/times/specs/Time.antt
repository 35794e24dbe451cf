-- Times of day, in the order of items/time.rs. 29.3: "A 'time of day item' in date strings specifies the time on a given day."
use Rattle.std.specs.Prelude.{ℕ, ◌+◌, ◌%◌, Bool, true, false, ltb, Option, Some, None, cond}
use Rattle.primitive.specs.Answer.{Reader, ◌>>=◌, ◌>>◌, ◌<|>◌, pure, value, optional, verify}
use Rattle.primitive.specs.Text.{quoted}
use Rattle.primitive.specs.Primitive.{spaced, colon, dec_uint}
use Rattle.primitive.specs.Epoch.{sec_and_nsec}
use Rattle.times.specs.Offset.{certain, time_zone_correction, timezone_offset}
use Rattle.times.specs.declared.offset.Offset.{Offset}
use Rattle.times.specs.declared.time.Time.{Time}
use Rattle.primitive.specs.declared.SecAndNsec.{SecAndNsec}

-- ---- hours, minutes, seconds

-- a number below k, after space
unfoldable pub below : ℕ → Reader ℕ
below k = do
  v ← spaced (dec_uint 255)
  verify (ltb v k) v

-- 29.3: "HOUR is a number between 0 and 23, MINUTE is a number between 0 and 59, and SECOND is a number between 0 and 59 possibly
-- followed by '.' or ',' and a fraction containing one or more digits." Second 60, which the manual has on hosts with leap seconds, is no
-- match.
unfoldable pub hour24 : Reader ℕ
hour24 = below 24

unfoldable pub hour12 : Reader ℕ
hour12 = below 13

unfoldable pub minute : Reader ℕ
minute = below 60

unfoldable pub second : Reader (SecAndNsec ℕ)
second = do
  v ← spaced sec_and_nsec
  verify (ltb v.sec 60) (record { sec = v.sec; nsec = v.nsec })

-- 29.3: "Alternatively, ':SECOND' can be omitted, in which case it is taken to be zero." SCOPE, 'Times': `:60` is not taken as a second and is
-- left unread.
unfoldable pub optional_second : Reader (SecAndNsec ℕ)
optional_second = optional (record { sec = 0; nsec = 0 }) (colon >> second)

-- 29.3: "and ':MINUTE' may be omitted (taken to be zero)"
unfoldable pub optional_minute : Reader ℕ
optional_minute = optional 0 (colon >> minute)

-- ---- 24 hours

-- 29.3: a correction, or none; one that stops is not mended
unfoldable pub optional_correction : Reader (Option Offset)
optional_correction = optional None (do
  o ← time_zone_correction
  pure (Some o))

-- an hour and an offset, which the manual does not have: `20 +1`
unfoldable pub hour_offset : Reader Time
hour_offset = do
  h ← hour24
  o ← timezone_offset
  pure (record { hour = h; minute = 0; second = 0; nanosecond = 0; offset = Some o })

-- 29.3: "the time of day may be given as 'HOUR:MINUTE:SECOND'"
unfoldable pub clock : Reader Time
clock = do
  h ← hour24
  colon
  m ← minute
  v ← optional_second
  o ← optional_correction
  pure (record { hour = h; minute = m; second = v.sec; nanosecond = v.nsec; offset = o })

unfoldable pub iso : Reader Time
iso = hour_offset <|> clock

-- ---- 12 hours

-- 29.3: "followed by 'am' or 'pm' (or 'a.m.' or 'p.m.')". True for pm.
unfoldable pub meridiem : Reader Bool
meridiem =
    value false (spaced (quoted "am")) <|> value false (spaced (quoted "a.m.")) <|> value true (spaced (quoted "pm"))
    <|> value true (spaced (quoted "p.m."))

-- 29.3: "HOUR is restricted to run from 1 to 12 .. In this notation, 12 is the predecessor of 1: midnight is '12am' while noon is '12pm'."
-- SCOPE, 'Times': hour 0 with am or pm stops.
unfoldable pub am_pm_time : Reader Time
am_pm_time = do
  h ← hour12
  m ← optional_minute
  v ← optional_second
  pm ← meridiem
  certain (ltb 0 h) (record { hour = h % 12 + cond pm 12 0; minute = m; second = v.sec; nanosecond = v.nsec; offset = None })

unfoldable pub parse : Reader Time
parse = am_pm_time <|> iso

-- ---- what the code reads after an hour

abbrev pub offset_behind : ℕ → Reader Time
offset_behind h = do
  o ← timezone_offset
  pure (record { hour = h; minute = 0; second = 0; nanosecond = 0; offset = Some o })

abbrev pub minutes_behind : ℕ → Reader Time
minutes_behind h = do
  m ← minute
  v ← optional_second
  o ← optional_correction
  pure (record { hour = h; minute = m; second = v.sec; nanosecond = v.nsec; offset = o })
