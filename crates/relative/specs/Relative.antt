-- Relative items, in the order of items/relative.rs. 29.7: "'Relative items' adjust a date (or the current date if none) forward or
-- backward."
use Rattle.std.specs.Prelude.{ℕ, ◌+◌, ◌-◌, ◌^◌, List, [], ◌∷◌, Bool, true, false, not, ltb, eqb, ℤ, pos, neg_ℤ, ◌*ℤ◌, cond}
use Prim.Native.String.{String}
use Rattle.std.specs.Int.Signed.{mag}
use Rattle.primitive.specs.Answer.{Reader, ◌>>=◌, ◌>>◌, ◌<|>◌, pure, value, optional, verify}
use Rattle.primitive.specs.Text.{quoted}
use Rattle.primitive.specs.Primitive.{spaced, plus_or_minus, alpha1, named}
use Rattle.primitive.specs.Epoch.{sec_and_nsec}
use Rattle.primitive.specs.Ordinal.{signed, ordinal}
use Rattle.primitive.specs.declared.SecAndNsec.{SecAndNsec}
use Rattle.relative.specs.declared.Relative.{Relative}
use Rattle.relative.specs.declared.Relative.TheVariants.{Years, Months, Days, Hours, Minutes, Seconds}

-- ---- which way

-- 29.7: "Following a relative item by the string 'ago' is equivalent to preceding the unit by a multiplier with value -1." The
-- manual does not name `hence`. Both are read as beginnings: in `agog` the last `g` is left unread. True for `ago`.
unfoldable pub direction : Reader Bool
direction = optional false (value true (spaced (quoted "ago")) <|> value false (spaced (quoted "hence")))

-- ---- seconds with a fraction

-- SCOPE, 'Relative items': `seconds` rounds down. True for minus.
unfoldable pub rounded : Bool → SecAndNsec ℕ → Relative
rounded false v = Seconds (pos v.sec) v.nsec
rounded true v = cond (eqb v.nsec 0) (Seconds (signed true v.sec) 0) (Seconds (signed true (v.sec + 1)) (1000000000 - v.nsec))

-- 29.7: "'second' or 'sec' worth one second. An 's' suffix on these units is accepted and ignored."
unfoldable pub second_words : List (String × Unit {0})
second_words = ("seconds", tt) ∷ ("second", tt) ∷ ("sec", tt) ∷ ("secs", tt) ∷ []

unfoldable pub second_word : Reader (Unit {0})
second_word = do
  w ← spaced alpha1
  named second_words w

-- with the sign that was read; seconds from 2 to the power 63 on are no match
unfoldable pub signed_seconds : Bool → Reader Relative
signed_seconds negative = do
  v ← spaced sec_and_nsec
  second_word
  ago ← direction
  verify (ltb v.sec (2 ^ 63)) (rounded (cond ago (not negative) negative) v)

-- 29.7: "an optionally signed number". The manual knows no fraction here; the Rust reads one for seconds.
unfoldable pub seconds : Reader Relative
seconds = do
  negative ← optional false plus_or_minus
  signed_seconds negative

-- ---- units of time

-- n times k days, if an i32 can represent them; else no match
unfoldable pub days : ℕ → ℤ → Reader Relative
days k n = verify (ltb (mag (n *ℤ pos k)) (2 ^ 31)) (Days (n *ℤ pos k))

-- 29.7: "The unit of time displacement may be selected by the string 'year' or 'month' .. 'fortnight' which is worth 14 days, 'week'
-- worth 7 days, 'day' worth 24 hours, 'hour' worth 60 minutes, 'minute' or 'min' worth 60 seconds, and 'second' or 'sec' worth one
-- second."
unfoldable pub units : List (String × (ℤ → Reader Relative))
units =
    ("year", λ n. pure (Years n)) ∷ ("month", λ n. pure (Months n)) ∷ ("fortnight", days 14) ∷ ("week", days 7)
    ∷ ("day", λ n. pure (Days n)) ∷ ("hour", λ n. pure (Hours n)) ∷ ("minute", λ n. pure (Minutes n)) ∷ ("min", λ n. pure (Minutes n))
    ∷ ("second", λ n. pure (Seconds n 0)) ∷ ("sec", λ n. pure (Seconds n 0)) ∷ []

-- 29.7: "An 's' suffix on these units is accepted and ignored." `s` is 115.
unfoldable pub stripped : List ℕ → List ℕ
stripped [] = []
stripped (b ∷ []) = cond (eqb b 115) [] (b ∷ [])
stripped (b ∷ (c ∷ bs)) = b ∷ stripped (c ∷ bs)

-- the unit that a word names, n times
unfoldable pub in_unit : ℤ → List ℕ → Reader Relative
in_unit n w = do
  unit ← named units (stripped w)
  unit n

unfoldable pub displaced : ℤ → Reader Relative
displaced n = do
  w ← spaced alpha1
  ago ← direction
  in_unit (cond ago (neg_ℤ n) n) w

-- 29.7: "The unit of time may be preceded by a multiplier, given as an optionally signed number. .. No number at all implies 1 for a
-- multiplier." 29.1 has ordinal words too. An ordinal that was read is kept, whatever follows it.
unfoldable pub displacement : Reader Relative
displacement = do
  n ← optional (pos 1) ordinal
  displaced n

-- SCOPE, 'Relative items': `seconds` is tried first, then `displacement`. The words 'tomorrow', 'yesterday', 'today' and 'now' of 29.7 are left
-- unread (SCOPE, 'Domain and limits').
unfoldable pub parse : Reader Relative
parse = seconds <|> displacement
