-- Which numbers a packet is answered with. Assumes nothing.
use Prim.Native.Nat.{ℕ, zero, suc}
use mathlib.Core.Path.{refl}
use mathlib.Core.List.{List, [], ◌∷◌}
use Rattle.answers.specs.Numbers as refusal
use Rattle.extended.specs.Extended.{test}
use Rattle.extended.specs.declared.ExtendedDateTime.{ExtendedDateTime}
use Rattle.host_calls.specs.Given.{packet_numbers}
use Rattle.packet_fields.specs.Fields.{day_of, small, weekday_of, unit_of, relative_of, item_of, fitting, unpacked}
use Rattle.packet_fields.specs.declared.Fields.{Fields}
use Rattle.packet.specs.Packet.{header, item_at, items_from, build_items, read_packet}
use Rattle.builder.specs.Building.{build}
use Rattle.items.specs.declared.Item.{Item}
use Rattle.host_calls.proofs.Numbered.{Numbered, wider}
use Rattle.theorems_round_trip.proofs.Refusals.{steps, Among, answers, among_wider, test_numbered}
use Rattle.theorems_round_trip.proofs.BuildRefusals.{build_among}

-- what a header and what an item is refused with
abbrev pub header_numbers : List ℕ
header_numbers = refusal.oversize ∷ refusal.packet ∷ []

abbrev pub item_numbers : List ℕ
item_numbers = refusal.packet ∷ []

pub header_numbered : (bytes : List ℕ) → Numbered header_numbers (header bytes)
unfolding header
header_numbered bytes = search steps

weekday_of_numbered : (f : Fields) → Numbered item_numbers (weekday_of f)
unfolding weekday_of small day_of
weekday_of_numbered f = search steps depth 10

relative_of_numbered : (f : Fields) → Numbered item_numbers (relative_of f)
unfolding relative_of small unit_of
relative_of_numbered f = search steps depth 10

unpacked_numbered : (f : Fields) (used : ℕ) → Numbered item_numbers (unpacked f used)
unfolding unpacked item_of fitting
unpacked_numbered f used = search (steps, weekday_of_numbered, relative_of_numbered) depth 12

pub item_at_numbered : (bytes area : List ℕ) (i used : ℕ) → Numbered item_numbers (item_at bytes area i used)
unfolding item_at
item_at_numbered bytes area i used = search (steps, unpacked_numbered)

pub items_from_among : (bytes area : List ℕ) (n i used : ℕ) → Among item_numbers (items_from bytes area n i used)
unfolding items_from
items_from_among bytes area zero i used = search answers
items_from_among bytes area (suc n) i used = search (answers, item_at_numbered bytes area, items_from_among bytes area n)

items_packet : (bytes area : List ℕ) (n : ℕ) → Among packet_numbers (items_from bytes area n 0 0)
items_packet bytes area n = among_wider packet_numbers refl (items_from_among bytes area n 0 0)

header_packet : (bytes : List ℕ) → Numbered packet_numbers (header bytes)
header_packet bytes = wider packet_numbers refl (header_numbered bytes)

test_packet : (base : ExtendedDateTime) → Numbered packet_numbers (test base)
test_packet base = wider packet_numbers refl (test_numbered base)

build_packet : (area : List ℕ) (xs : List Item) (base : ExtendedDateTime) → Among packet_numbers (build area xs base)
build_packet area xs base = among_wider packet_numbers refl (build_among area xs base)

-- Whatever the bytes and the base: the answer's number is 0 or one of these.
pub packet_among : (bytes : List ℕ) (base : ExtendedDateTime) → Among packet_numbers (read_packet bytes base)
unfolding read_packet build_items
packet_among bytes base = search (answers, test_packet, header_packet, items_packet, build_packet)
