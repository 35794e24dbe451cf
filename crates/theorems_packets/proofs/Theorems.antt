-- The packet of a list of items is read as that list. Assumes nothing.
use native.Mathlib.Omega.{arith}
use Prim.Native.Nat.{ℕ, zero, suc, ◌+◌, ◌*◌, ◌/◌, ◌≤◌}
use native.Mathlib.Nat.{zero-add}
use mathlib.Core.Path.{◌≡◌, refl, sym, ap, ◌∙◌}
use mathlib.Core.Bool.{Bool, true}
use mathlib.Core.List.{List, [], ◌∷◌}
use lib.Dec.{leb}
use lib.ListN.{length, drop, length-drop}
use borrow.Author.Tests.{le-leb, lt-leb, leb-true, eq-eqb}
use Rattle.answers.specs.Outcome.{Outcome, accepted, refused}
use Rattle.extended.specs.Extended.{test}
use Rattle.extended.specs.declared.ExtendedDateTime.{ExtendedDateTime}
use Rattle.primitive.specs.Text.{lower, lowered, digit, past}
use Rattle.primitive.proofs.Rows.{all, halves, run_all}
use Rattle.items.specs.declared.Item.{Item}
use Rattle.items.specs.declared.Item.TheVariants as item
use Rattle.answers.specs.Placed as placing
use Rattle.answers.specs.Placed.{Placed, fine, ◌>>=◌, ◌>>◌}
use Rattle.builder.specs.Building.{build}
use Rattle.packet_fields.specs.Fields.{little, fields_of, pure_in_range, in_range, digits_used}
use Rattle.packet_fields.specs.declared.Fields.{Fields}
use Rattle.packet.specs.Packet.{count, digits_place, header, digits, digits_stand, item_at, items_from, packet_items, build_items, read_packet}
use Rattle.theorems_packets.specs.Writing.{number, fields, items, packet}
use Rattle.theorems_packets.specs.Packets.{Holds, InOrder}
use Rattle.theorems_packets.proofs.Bytes.{many, held_2, fields_read}
use Rattle.theorems_packets.proofs.Back.{unpacked_back}

-- ---- digits

all_behind : (p : ℕ → Bool) (n : ℕ) (l : List ℕ) → all p l ≡ true → all p (drop n l) ≡ true
all_behind p zero l h = h
all_behind p (suc n) [] h = refl
all_behind p (suc n) (b ∷ l) h = all_behind p n l (halves (p b) (all p l) h).1

stand : (area : List ℕ) (used n : ℕ) → all digit area ≡ true → used + n ≤ length area → digits_stand area used n ≡ true
unfolding digits_stand past
stand area used n h k = le-leb (used + n) _ (omega (arith, run_all digit (drop used area) (all_behind digit used area h), length-drop used area))

pub digit_lower : (b : ℕ) → digit b ≡ true → lower b ≡ b
unfolding digit lower
digit_lower b h = let k = leb-true b 57 (halves (leb 48 b) (leb b 57) h).1 in rw (lt-leb 65 b (omega arith))

pub digits_lower : (l : List ℕ) → all digit l ≡ true → lowered l ≡ l
unfolding lowered
digits_lower [] h = refl
digits_lower (b ∷ l) h = let t = halves (digit b) (all digit l) h in rw (digit_lower b t.0, digits_lower l t.1) refl

-- ---- items

one_item : (bytes area : List ℕ) (i used : ℕ) (x : Item) (rest : List ℕ) → all digit area ≡ true → Holds used x → used + digits_used x ≤ length area → drop (8 + 28 * i) bytes ≡ fields (fields_of x) rest →
    (item_at bytes area i used ≡ accepted x) × (drop (8 + 28 * suc i) bytes ≡ rest)
unfolding item_at
one_item bytes area i used x rest h g k e =
    let r = fields_read (fields_of x) bytes (8 + 28 * i) rest g.fits e in
    let s : 8 + 28 * suc i ≡ 8 + 28 * i + 28 = omega arith in
    (rw (r.0, unpacked_back x used g.range g.sums g.begins, stand area used (digits_used x) h k) refl, rw s r.1)

all_items : (bytes area : List ℕ) (xs : List Item) (i used : ℕ) → all digit area ≡ true → InOrder (length area) used xs → drop (8 + 28 * i) bytes ≡ items xs area → items_from bytes area (length xs) i used ≡ fine xs
unfolding items_from items InOrder
all_items bytes area [] i used h g e = rw (le-leb (length area) used (omega arith)) refl
all_items bytes area (x ∷ xs) i used h g e =
    let r = one_item bytes area i used x (items xs area) h g.0 g.1 e in
    rw (r.0, all_items bytes area xs (suc i) (used + digits_used x) h g.2 r.1) refl

-- ---- the packet

few_used : (x : Item) → in_range x ≡ true → digits_used x ≤ 255
unfolding in_range pure_in_range
few_used (item.Pure p) h = leb-true p.length 255 (halves (leb 1 p.length) (leb p.length 255) h).1
few_used (item.Date d) h = omega arith
few_used (item.Time t) h = omega arith
few_used (item.DateTime v) h = omega arith
few_used (item.Weekday w) h = omega arith
few_used (item.Offset o) h = omega arith
few_used item.LocalZone h = omega arith
few_used (item.Relative r) h = omega arith

few_digits : (n used : ℕ) (xs : List Item) → InOrder n used xs → n ≤ used + 255 * length xs
unfolding InOrder
few_digits n used [] g = omega arith
few_digits n used (x ∷ xs) g = omega (arith, few_digits n (used + digits_used x) xs g.2, few_used x g.0.range)

number_long : (n v : ℕ) (rest : List ℕ) → length (number n v rest) ≡ n + length rest
unfolding number
number_long zero v rest = sym (zero-add (length rest))
number_long (suc n) v rest = let e = number_long n (v / 256) rest in omega arith

fields_long : (f : Fields) (rest : List ℕ) → length (fields f rest) ≡ 28 + length rest
unfolding fields
fields_long f rest =
    let a = number_long 8 f.amount rest in
    let b = number_long 2 f.length (number 8 f.amount rest) in
    let c = number_long 4 f.nanosecond (f.offset_hours ∷ f.offset_minutes ∷ number 2 f.length (number 8 f.amount rest)) in
    let d = number_long 4 f.year (f.hour ∷ f.minute ∷ f.second ∷ f.flags ∷ number 4 f.nanosecond (f.offset_hours ∷ f.offset_minutes ∷ number 2 f.length (number 8 f.amount rest))) in
    omega arith

items_long : (xs : List Item) (rest : List ℕ) → length (items xs rest) ≡ 28 * length xs + length rest
unfolding items
items_long [] rest = omega arith
items_long (x ∷ xs) rest = omega (arith, fields_long (fields_of x) (items xs rest), items_long xs rest)

behind_items : (bytes area : List ℕ) (n : ℕ) (xs : List Item) (i used : ℕ) → InOrder n used xs → drop (8 + 28 * i) bytes ≡ items xs area → drop (8 + 28 * (i + length xs)) bytes ≡ area
unfolding items InOrder
behind_items bytes area n [] i used g e = let s : i + 0 ≡ i = omega arith in rw s e
behind_items bytes area n (x ∷ xs) i used g e =
    let r = fields_read (fields_of x) bytes (8 + 28 * i) (items xs area) g.0.fits e in
    let s : 8 + 28 * suc i ≡ 8 + 28 * i + 28 = omega arith in
    let t : i + suc (length xs) ≡ suc i + length xs = omega arith in
    rw t (behind_items bytes area n xs (suc i) (used + digits_used x) g.2 (rw s r.1))

steps_joined : (o : Outcome (Unit {0})) (p : Placed (List Item)) (f : List Item → Placed ExtendedDateTime) → (placing.placed 0 o >> (p >>= f)) ≡ (placing.placed 0 o >> p >>= f)
steps_joined (accepted tt) p f = refl
steps_joined (refused n) p f = refl

-- A packet is read in three steps: the base is tested, the items are read, and the record is built of them.
pub packet_steps : (l : List ℕ) (base : ExtendedDateTime) → read_packet l base ≡ (placing.placed 0 (test base) >> (packet_items l >>= (λ xs. build (digits l) xs base)))
unfolding read_packet packet_items build_items
packet_steps l base = ap (λ (q : Placed ExtendedDateTime). placing.placed 0 (test base) >> q) (steps_joined (header l) (items_from l (digits l) (count l) 0 0) (λ xs. build (digits l) xs base))

module _ (xs : List Item) (area : List ℕ) (few : length xs ≤ 64) (row : all digit area ≡ true) (order : InOrder (length area) 0 xs) where
  abbrev l : List ℕ
  l = packet xs area

  few_here : length area ≤ 16320
  few_here = omega (arith, few_digits (length area) 0 xs order)

  first : (little 2 0 l ≡ length xs) × (drop 2 l ≡ number 2 8 (number 2 (length area) (number 2 (8 + 28 * length xs) (items xs area))))
  unfolding packet
  first = many 2 (length xs) l 0 2 _ (held_2 (length xs) (omega arith)) refl refl

  second : (little 2 2 l ≡ 8) × (drop 4 l ≡ number 2 (length area) (number 2 (8 + 28 * length xs) (items xs area)))
  second = many 2 8 l 2 4 _ (held_2 8 (omega arith)) refl first.1

  third : (little 2 4 l ≡ length area) × (drop 6 l ≡ number 2 (8 + 28 * length xs) (items xs area))
  third = many 2 (length area) l 4 6 _ (held_2 (length area) (omega (arith, few_here))) refl second.1

  fourth : (little 2 6 l ≡ 8 + 28 * length xs) × (drop 8 l ≡ items xs area)
  fourth = many 2 (8 + 28 * length xs) l 6 8 _ (held_2 (8 + 28 * length xs) (omega arith)) refl third.1

  long : length l ≡ 8 + 28 * length xs + length area
  unfolding packet
  long =
      let a = number_long 2 (8 + 28 * length xs) (items xs area) in
      let b = number_long 2 (length area) (number 2 (8 + 28 * length xs) (items xs area)) in
      let c = number_long 2 8 (number 2 (length area) (number 2 (8 + 28 * length xs) (items xs area))) in
      let d = number_long 2 (length xs) (number 2 8 (number 2 (length area) (number 2 (8 + 28 * length xs) (items xs area)))) in
      omega (arith, items_long xs area)

  good_header : header l ≡ accepted tt
  unfolding header count digits_place
  good_header =
      rw (le-leb 8 (length l) (omega (arith, long)), first.0, le-leb (length xs) 64 few, second.0, fourth.0, eq-eqb (8 + 28 * length xs) (8 + 28 * length xs) refl, third.0, eq-eqb (length l) (8 + 28 * length xs + length area) long) refl

  place_0 : drop (8 + 28 * 0) l ≡ items xs area
  place_0 = let s : 8 + 28 * 0 ≡ 8 = omega arith in rw s fourth.1

  area_is : digits l ≡ area
  unfolding digits count digits_place
  area_is =
      let s : 0 + length xs ≡ length xs = omega arith in
      let d = rw s at (behind_items l area (length area) xs 0 0 order place_0) in
      rw (first.0, d) (digits_lower area row)

  -- The packet of at most 64 items in range, which use up a row of digits in their order, is read as these items.
  pub packet_read : packet_items l ≡ fine xs
  unfolding packet_items count
  packet_read = rw (good_header, area_is, first.0) (all_items l area xs 0 0 row order place_0)

  -- and so it builds under every base what the items build, the base being tested first
  pub packet_builds : (base : ExtendedDateTime) → read_packet l base ≡ (placing.placed 0 (test base) >> build area xs base)
  packet_builds base = packet_steps l base ∙ rw (packet_read, area_is) refl
