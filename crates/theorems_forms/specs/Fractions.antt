-- Which items lose a digit, and where a text drops one. The digits of an item's fraction are read from the text; the item loses one if a
-- digit after the ninth is other than `0`.
use Rattle.std.specs.Prelude.{ℕ, zero, suc, ◌<◌, ◌≤◌, ◌≡◌, List, false, length, get_or}
use Rattle.primitive.specs.Answer.{Reader, matched, none, ◌>>◌, optional}
use Rattle.primitive.specs.Primitive.{space, spaced, dec_uint_str, colon, plus_or_minus}
use Rattle.primitive.specs.Epoch.{point_or_comma}
use Rattle.items.specs.Combined.{separator}
use Rattle.items.specs.Items.{iso_date, rust_item}
use Rattle.items.specs.declared.Item.{Item}
use Rattle.items.specs.declared.Item.TheVariants as item

-- a point or comma and the digits after it
unfoldable pub fraction_digits : Reader (List ℕ)
fraction_digits = point_or_comma >> dec_uint_str

-- 29.3: HOUR:MINUTE:SECOND, then the fraction
unfoldable pub clock_fraction : Reader (List ℕ)
clock_fraction = do
  spaced dec_uint_str
  colon
  spaced dec_uint_str
  colon
  spaced dec_uint_str
  fraction_digits

-- 29.7: a number of seconds, with a sign or without one
unfoldable pub seconds_fraction : Reader (List ℕ)
seconds_fraction = do
  optional false plus_or_minus
  spaced dec_uint_str
  fraction_digits

-- 29.5: an ISO date, and the time after it
unfoldable pub dated_fraction : Reader (List ℕ)
dated_fraction = do
  iso_date
  separator
  clock_fraction

-- for an item that has no fraction
unfoldable pub no_fraction : Reader (List ℕ)
no_fraction text at = none

-- the digits of an item's fraction, from the place where the item begins; no match if its text has none
unfoldable pub fraction_of : Item → Reader (List ℕ)
fraction_of (item.Weekday w) = no_fraction
fraction_of (item.Date d) = no_fraction
fraction_of (item.Time t) = clock_fraction
fraction_of (item.DateTime v) = dated_fraction
fraction_of (item.Relative r) = seconds_fraction
fraction_of (item.Offset o) = no_fraction
fraction_of item.LocalZone = no_fraction
fraction_of (item.Pure p) = no_fraction

-- The item v, which is in the text from `at` to n, has a fraction with a digit other than `0` after the ninth. `0` is 48. The digits end
-- within the item: `10:00:60.1234567891` begins with the item 10:00, and leaves the rest unread.
pub record Loses (text : List ℕ) (at : ℕ) (v : Item) (n : ℕ) : Type 0 where
  pub digits : List ℕ
  pub end : ℕ
  pub there : fraction_of v text at ≡ matched digits end
  pub within : end ≤ n
  pub place : ℕ
  pub late : 9 ≤ place
  pub inside : place < length digits
  pub other : get_or digits place 0 ≡ 48 → ⊥

-- As the Rust reads the text, there are k items from `at` to p, and none of them loses a digit.
pub data Undropped (text : List ℕ) : ℕ → ℕ → ℕ → Type 0 where
  no_item : {at p : ℕ} → at ≡ p → Undropped text zero at p
  one_more : {k at p n : ℕ} {v : Item} → space text at < length text → rust_item text at ≡ matched v n → (Loses text at v n → ⊥) → Undropped text k n p → Undropped text (suc k) at p

-- As the Rust reads the text from `at` on, the item at p loses a digit, after fewer than `room` items that lose none.
pub record Drops (text : List ℕ) (room at p : ℕ) : Type 0 where
  pub count : ℕ
  pub few : count < room
  pub before : Undropped text count at p
  pub more : space text p < length text
  pub value : Item
  pub end : ℕ
  pub read : rust_item text p ≡ matched value end
  pub loses : Loses text p value end
