-- The packet of a list of items: docs/SCOPE.md, 'The packet'.
use Rattle.std.specs.Prelude.{ℕ, zero, suc, ◌+◌, ◌*◌, ◌/◌, ◌%◌, Bool, true, List, [], ◌∷◌, length}
use Rattle.integers.specs.Integers.{in_i32, in_i64}
use Rattle.relative.specs.declared.Relative.{Relative}
use Rattle.relative.specs.declared.Relative.TheVariants as relative
use Rattle.items.specs.declared.Item.{Item}
use Rattle.items.specs.declared.Item.TheVariants as item
use Rattle.packet_fields.specs.Fields.{fields_of}
use Rattle.packet_fields.specs.declared.Fields.{Fields}

-- a number in n bytes, little-endian, and what follows them
unfoldable pub number : ℕ → ℕ → List ℕ → List ℕ
number zero v rest = rest
number (suc n) v rest = v % 256 ∷ number n (v / 256) rest

-- the 28 bytes of fields, and what follows them
unfoldable pub fields : Fields → List ℕ → List ℕ
fields f rest =
    f.kind ∷ f.which ∷ f.month ∷ f.day ∷ number 4 f.year
    (f.hour ∷ f.minute ∷ f.second ∷ f.flags ∷ number 4 f.nanosecond (f.offset_hours ∷ f.offset_minutes ∷ number 2 f.length (number 8 f.amount rest)))

unfoldable pub items : List Item → List ℕ → List ℕ
items [] rest = rest
items (x ∷ xs) rest = fields (fields_of x) (items xs rest)

-- the header (item count, place of the items, digit count, place of the digits, two bytes each), the items, the digits
unfoldable pub packet : List Item → List ℕ → List ℕ
packet xs digits = number 2 (length xs) (number 2 8 (number 2 (length digits) (number 2 (8 + 28 * length xs) (items xs digits))))

-- ---- which items can be written

-- amounts are i32, those of seconds i64
unfoldable pub amount : Relative → Bool
amount (relative.Years n) = in_i32 n
amount (relative.Months n) = in_i32 n
amount (relative.Days n) = in_i32 n
amount (relative.Hours n) = in_i32 n
amount (relative.Minutes n) = in_i32 n
amount (relative.Seconds n k) = in_i64 n

unfoldable pub amounts : Item → Bool
amounts (item.Weekday w) = in_i32 w.offset
amounts (item.Relative r) = amount r
amounts (item.Date d) = true
amounts (item.Time t) = true
amounts (item.DateTime v) = true
amounts (item.Offset o) = true
amounts item.LocalZone = true
amounts (item.Pure p) = true
