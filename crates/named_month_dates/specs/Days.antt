-- What follows a month's name in `literal2` and in `literal3`.
use Rattle.std.specs.Prelude.{ℕ}
use Rattle.primitive.specs.Answer.{Reader, ◌>>=◌, ◌>>◌}
use Rattle.primitive.specs.Text.{char}
use Rattle.primitive.specs.Primitive.{spaced, dec_uint}
use Rattle.dates.specs.Year.{year_str}
use Rattle.dates.specs.Date.{comma, dated_behind, with_year}
use Rattle.dates.specs.declared.date.Date.{Date}

abbrev pub spaced_day : ℕ → Reader Date
spaced_day m = do
  d ← spaced (dec_uint 255)
  dated_behind comma m d

abbrev pub hyphened_day : ℕ → Reader Date
hyphened_day m = do
  spaced (char "-")
  d ← spaced (dec_uint 255)
  spaced (char "-")
  w ← year_str
  with_year w m d
