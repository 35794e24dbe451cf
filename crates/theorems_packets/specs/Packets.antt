-- The words of the theorems: which bytes are the packet of a list of items, and which texts have a packet. docs/SCOPE.md, 'The packet'.
use Rattle.std.specs.Prelude.{ℕ, ◌+◌, ◌<◌, ◌≤◌, true, List, [], ◌∷◌, length, get_or, ◌≡◌}
use Rattle.primitive.specs.Text.{digit, lowered}
use Rattle.primitive.proofs.Rows.{all}
use Rattle.items.specs.declared.Item.{Item}
use Rattle.items.specs.declared.Item.TheVariants as item
use Rattle.items.specs.Items.{parse_items}
use Rattle.packet_fields.specs.Fields.{fields_of, in_range, digits_used}
use Rattle.packet_fields.specs.declared.Fields.{Fields}
use Rattle.text_tests.specs.Tests.{ascii_end}
use Rattle.theorems_packets.specs.Writing.{amounts, packet}

-- a row of bytes
pub record Bytes (l : List ℕ) : Type 0 where
  pub each : (at : ℕ) → get_or l at 0 < 256

-- the fields of several bytes fit into them
pub record Held (f : Fields) : Type 0 where
  pub year : f.year < 4294967296
  pub nanosecond : f.nanosecond < 4294967296
  pub length : f.length < 65536
  pub amount : f.amount < 18446744073709551616

-- a pure number begins where the digits that the items before it use up end
unfoldable pub placed : ℕ → Item → Type 0
placed used (item.Pure p) = p.start ≡ used
placed used (item.Date d) = Unit {0}
placed used (item.Time t) = Unit {0}
placed used (item.DateTime v) = Unit {0}
placed used (item.Weekday w) = Unit {0}
placed used (item.Offset o) = Unit {0}
placed used item.LocalZone = Unit {0}
placed used (item.Relative r) = Unit {0}

-- an item that a packet can contain, after items that use up so many digits
pub record Holds (used : ℕ) (x : Item) : Type 0 where
  pub range : in_range x ≡ true
  pub sums : amounts x ≡ true
  pub fits : Held (fields_of x)
  pub begins : placed used x

-- items that use up the digits from `used` to `all`, in order
unfoldable pub InOrder : ℕ → ℕ → List Item → Type 0
InOrder all used [] = used ≡ all
InOrder all used (x ∷ xs) = Holds used x × (used + digits_used x ≤ all) × InOrder all (used + digits_used x) xs

-- the packet of at most 64 items, which use up a row of digits in order
pub record PacketOf (xs : List Item) (l : List ℕ) : Type 0 where
  pub area : List ℕ
  pub few : length xs ≤ 64
  pub row : all digit area ≡ true
  pub order : InOrder (length area) 0 xs
  pub same : l ≡ packet xs area

-- a text of the domain (0 to 4096 bytes, each below 128) whose items are read
pub record Readable (s : List ℕ) : Type 0 where
  pub long : length (lowered s) ≤ 4096
  pub ascii : length (lowered s) ≤ ascii_end (lowered s)
  pub read : (parse_items (lowered s)).number ≡ 0
