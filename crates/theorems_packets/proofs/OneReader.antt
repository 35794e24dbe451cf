-- One reader: a text and the packet of its items give one answer. Assumes nothing.
use mathlib.Core.Path.{◌≡◌, refl, sym, ◌∙◌}
use mathlib.Core.List.{List, []}
use Prim.Native.Nat.{ℕ}
use borrow.Author.Tests.{eq-eqb}
use Rattle.extended.specs.Extended.{test}
use Rattle.extended.specs.declared.ExtendedDateTime.{ExtendedDateTime}
use Rattle.primitive.specs.Text.{lowered}
use Rattle.items.specs.Items.{parse_items}
use Rattle.answers.specs.Placed.{placed, ◌>>◌}
use Rattle.builder.specs.Building.{build}
use Rattle.packet.specs.Packet.{read_packet}
use Rattle.text_tests.proofs.Tests.{base_alone}
use Rattle.text_general.specs.Reading.{items_of, build_parsed, read_parsed, read_text}
use Rattle.text_general.proofs.Places.{items_end}
use Rattle.theorems_packets.specs.Writing.{packet}
use Rattle.theorems_packets.specs.Packets.{Readable}
use Rattle.theorems_packets.proofs.Theorems.{packet_builds}
use Rattle.theorems_packets.proofs.Ranges.{text_items}

read_builds : (s : List ℕ) (base : ExtendedDateTime) → Readable s → read_text s base ≡ (placed 0 (test base) >> build [] (parse_items (lowered s)).items base)
unfolding read_text read_parsed build_parsed items_of
read_builds s base h = rw (base_alone (lowered s) base h.long h.ascii, eq-eqb (parse_items (lowered s)).number 0 h.read) refl

-- For every text whose items are read and every base, the packet of these items gives the text's number, place and record.
pub one_reader : (s : List ℕ) (base : ExtendedDateTime) → Readable s → read_packet (packet (parse_items (lowered s)).items []) base ≡ read_text s base
one_reader s base h = packet_builds (parse_items (lowered s)).items [] (items_end (lowered s)).few refl (text_items (lowered s)) base ∙ sym (read_builds s base h)
