-- A year from its digits, as in items/year.rs.
use Rattle.std.specs.Prelude.{ℕ, ◌+◌, List, length, leb, eqb, cond}
use Rattle.answers.specs.Limits.{last_year}
use Rattle.primitive.specs.Answer.{Reader, verify}
use Rattle.primitive.specs.Primitive.{spaced, decimal, dec_uint_str}

-- 29.2: "If YEAR is 68 or smaller, then 2000 is added to it; otherwise, if YEAR is less than 100, then 1900 is added to it."
-- The Rust does so only for a year of two digits (SCOPE, 'Dates').
unfoldable pub widened_by : ℕ → ℕ → ℕ
widened_by digits y = cond (eqb digits 2) (cond (leb y 68) (y + 2000) (y + 1900)) y

abbrev pub widened : List ℕ → ℕ
widened w = widened_by (length w) (decimal w)

-- the year that a row of digits writes; one above the last year is no match
unfoldable pub year_from_str : List ℕ → Reader ℕ
year_from_str w = verify (leb (widened w) last_year) (widened w)

-- the digits of a year
unfoldable pub year_str : Reader (List ℕ)
year_str = spaced dec_uint_str
