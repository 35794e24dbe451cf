-- A packet read under a base: docs/SCOPE.md, 'The packet'.
use Rattle.answers.specs.Numbers as refusal
use Rattle.answers.specs.Limits.{most_items}
use Rattle.std.specs.Prelude.{ℕ, zero, suc, ◌+◌, ◌*◌, Bool, List, [], ◌∷◌, leb, eqb, length, drop}
use Rattle.answers.specs.Outcome as outcome
use Rattle.answers.specs.Outcome.{Outcome, accepted, check}
use Rattle.extended.specs.Extended.{test}
use Rattle.extended.specs.declared.ExtendedDateTime.{ExtendedDateTime}
use Rattle.primitive.specs.Text.{lowered, digit, past}
use Rattle.items.specs.declared.Item.{Item}
use Rattle.answers.specs.Placed.{Placed, fine, placed, ◌>>=◌, ◌>>◌}
use Rattle.builder.specs.Building.{build}
use Rattle.packet_fields.specs.Fields.{little, fields_at, unpacked, digits_used}

-- ---- header: item count, place of the items (8), digit count, place of the digits (8 + 28 × item count), two bytes each

unfoldable pub count : List ℕ → ℕ
count bytes = little 2 0 bytes

unfoldable pub digits_place : ℕ → ℕ
digits_place n = 8 + 28 * n

-- The tests, in order: under 8 bytes, the item count, the other fields of the header. The digits end the packet exactly.
unfoldable pub header : List ℕ → Outcome (Unit {0})
header bytes =
    outcome.◌>>◌ (check (leb 8 (length bytes)) refusal.packet)
    (outcome.◌>>◌ (check (leb (count bytes) most_items) refusal.oversize)
    (outcome.◌>>◌ (check (eqb (little 2 2 bytes) 8) refusal.packet)
    (outcome.◌>>◌ (check (eqb (little 2 6 bytes) (digits_place (count bytes))) refusal.packet) (check (eqb (length bytes) (digits_place (count bytes) + little 2 4 bytes)) refusal.packet))))

-- the digits, in lower case as the readers see a text
unfoldable pub digits : List ℕ → List ℕ
digits bytes = lowered (drop (digits_place (count bytes)) bytes)

-- ---- items

-- whether so many digits, bytes 48 to 57, follow from a place on
unfoldable pub digits_stand : List ℕ → ℕ → ℕ → Bool
digits_stand area from n = leb (from + n) (past digit area from)

-- the item of an index, after items that used up so many digits
unfoldable pub item_at : List ℕ → List ℕ → ℕ → ℕ → Outcome Item
item_at bytes area i used =
    outcome.◌>>=◌ (unpacked (fields_at bytes i) used) (λ x. outcome.◌>>◌ (check (digits_stand area used (digits_used x)) refusal.packet) (accepted x))

-- n items from the index i on, in order, and then no digits left over: 5, at the item count
unfoldable pub items_from : List ℕ → List ℕ → ℕ → ℕ → ℕ → Placed (List Item)
items_from bytes area zero i used = do
  placed i (check (leb (length area) used) refusal.packet)
  fine []
items_from bytes area (suc n) i used = do
  x ← placed i (item_at bytes area i used)
  xs ← items_from bytes area n (suc i) (used + digits_used x)
  fine (x ∷ xs)

-- then the rules, and then the building
unfoldable pub build_items : List ℕ → List ℕ → ℕ → ExtendedDateTime → Placed ExtendedDateTime
build_items bytes area n base = do
  xs ← items_from bytes area n 0 0
  build area xs base

-- ---- the whole

-- the items of a packet
unfoldable pub packet_items : List ℕ → Placed (List Item)
packet_items bytes = do
  placed 0 (header bytes)
  items_from bytes (digits bytes) (count bytes) 0 0

unfoldable pub read_packet : List ℕ → ExtendedDateTime → Placed ExtendedDateTime
read_packet bytes base = do
  placed 0 (test base)
  placed 0 (header bytes)
  build_items bytes (digits bytes) (count bytes) base
