-- What the code reads after an hour or a sign, which it reads once for both ways to write a time or an offset. proofs/Fronts.antt shows that a
-- time is read so.
use Rattle.std.specs.Prelude.{ℕ, ◌+◌, ◌%◌, Bool, true, false, length, ltb, None, cond}
use Rattle.primitive.specs.Answer.{Reader, none, ◌>>=◌, ◌>>◌, ◌<|>◌, pure, value}
use Rattle.primitive.specs.Text.{quoted}
use Rattle.primitive.specs.declared.SecAndNsec.{SecAndNsec}
use Rattle.primitive.specs.Primitive.{spaced, colon, dec_uint, dec_uint_str, parse_uint}
use Rattle.times.specs.Offset.{certain, offset_of, digits_offset}
use Rattle.times.specs.declared.offset.Offset.{Offset}
use Rattle.times.specs.Time.{minute, optional_second, optional_correction, meridiem, offset_behind}
use Rattle.times.specs.declared.time.Time.{Time}

-- am or pm, where the hour is one of 12
unfoldable pub half_day : ℕ → ℕ → SecAndNsec ℕ → Reader Time
half_day h m v text at =
    cond (ltb h 13)
    ((meridiem
    >>= λ pm. certain (ltb 0 h) (record { hour = h % 12 + cond pm 12 0; minute = m; second = v.sec; nanosecond = v.nsec; offset = None })) text at)
    none

-- a correction or none
unfoldable pub whole_day : ℕ → ℕ → SecAndNsec ℕ → Reader Time
whole_day h m v = do
  o ← optional_correction
  pure (record { hour = h; minute = m; second = v.sec; nanosecond = v.nsec; offset = o })

-- what follows an hour without a colon
unfoldable pub hour_alone : ℕ → Reader Time
hour_alone h = half_day h 0 (record { sec = 0; nsec = 0 }) <|> offset_behind h

-- what follows an hour and a colon
unfoldable pub hour_minute : ℕ → Reader Time
hour_minute h = do
  m ← minute
  v ← optional_second
  half_day h m v <|> whole_day h m v

-- am or pm where the space ends; true for pm
abbrev pub am_or_pm : Reader Bool
am_or_pm = value false (quoted "am") <|> value false (quoted "a.m.") <|> value true (quoted "pm") <|> value true (quoted "p.m.")

-- ---- offsets: what follows the sign

unfoldable pub colon_offset : Bool → Reader Offset
colon_offset negative = do
  hours ← spaced (dec_uint 255)
  spaced colon
  minutes ← spaced (dec_uint 255)
  offset_of negative hours minutes

unfoldable pub colonless_offset : Bool → Reader Offset
colonless_offset negative = do
  w ← spaced dec_uint_str
  n ← parse_uint 9999 w
  digits_offset negative (length w) n
