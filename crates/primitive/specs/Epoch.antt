-- Seconds with a fraction, as in items/epoch.rs.
use Rattle.std.specs.Prelude.{ℕ, zero, suc, List, [], ◌∷◌, Bool, true, false, eqb, drop, cond}
use Rattle.primitive.specs.Answer.{Reader, ◌>>=◌, ◌>>◌, ◌<|>◌, pure, optional, cut}
use Rattle.primitive.specs.Text.{char}
use Rattle.primitive.specs.Primitive.{decimal, dec_uint, dec_uint_str}
use Rattle.primitive.specs.declared.SecAndNsec.{SecAndNsec}

-- the first k digits, with zeros after them if there are fewer; `0` is 48
unfoldable pub zero_filled : ℕ → List ℕ → List ℕ
zero_filled zero ds = []
zero_filled (suc k) [] = 48 ∷ zero_filled k []
zero_filled (suc k) (d ∷ ds) = d ∷ zero_filled k ds

-- 29.5: "nanosecond timestamp resolution; excess precision is silently discarded"
unfoldable pub nanoseconds : List ℕ → ℕ
nanoseconds ds = decimal (zero_filled 9 ds)

-- whether one of some digits is other than `0`, which is 48
unfoldable pub nonzero : List ℕ → Bool
nonzero [] = false
nonzero (d ∷ ds) = cond (eqb d 48) (nonzero ds) true

-- whether a digit after the ninth is other than `0`: what the nanoseconds lose. The manual discards it; here a match tells of it.
unfoldable pub lost : List ℕ → Bool
lost ds = nonzero (drop 9 ds)

unfoldable pub point_or_comma : Reader (Unit {0})
point_or_comma = char "." <|> char ","

-- 29.3: "possibly followed by '.' or ',' and a fraction containing one or more digits"
unfoldable pub fraction : Reader ℕ
fraction = do
  point_or_comma
  ds ← dec_uint_str
  cut (lost ds) (nanoseconds ds)

-- 29.9: "The number can contain an internal decimal point (either '.' or ',')". A point without a digit after it is left unread.
unfoldable pub sec_and_nsec : Reader (SecAndNsec ℕ)
sec_and_nsec = do
  sec ← dec_uint 18446744073709551615
  nsec ← optional 0 fraction
  pure (record { sec = sec; nsec = nsec })
