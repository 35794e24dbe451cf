-- The items of a packet are read exactly if it is the packet of these items, byte for byte. Assumes nothing.
use native.Mathlib.Omega.{arith}
use native.Mathlib.Nat.{pow-suc}
use Prim.Native.Nat.{ℕ, zero, suc, ◌+◌, ◌*◌, ◌/◌, ◌%◌, ◌^◌, ◌<◌, ◌≤◌}
use mathlib.Core.Path.{◌≡◌, refl, sym, ap, ◌∙◌}
use mathlib.Core.Bool.{Bool, true, false, cond, ◌&&◌}
use mathlib.Core.List.{List, [], ◌∷◌}
use mathlib.Core.Logic.{◌↔◌}
use lib.Dec.{leb}
use lib.ListN.{length, length-drop, drop, drop_of_length-le, get_or}
use lib.Seq.{drop-cons, drop-drop}
use borrow.Author.Tests.{leb-true}
use Rattle.answers.specs.Outcome.{Outcome, accepted, refused, check}
use Rattle.answers.specs.Placed as placing
use Rattle.answers.specs.Placed.{Placed, fine, refusal, ◌>>=◌, ◌>>◌}
use Rattle.answers.proofs.Outcomes as outcomes
use Rattle.answers.proofs.Outcomes.{apart, check_true, first_passed, step_passed}
use Rattle.primitive.specs.Text.{lower, lowered, digit, run, past}
use Rattle.primitive.proofs.Rows.{all, halves, both}
use Rattle.primitive.proofs.Forward.{run_le}
use Rattle.items.specs.declared.Item.{Item}
use Rattle.packet_fields.specs.Fields.{little, fields_from, fields_at, fields_of, unpacked, digits_used}
use Rattle.packet.specs.Packet.{count, digits_place, header, digits, digits_stand, item_at, items_from, packet_items}
use Rattle.packet.proofs.Steps.{few, items_at, digits_at, exact}
use Rattle.theorems_packets.specs.Writing as writing
use Rattle.theorems_packets.specs.Writing.{fields, items, packet}
use Rattle.theorems_packets.specs.Packets.{Bytes, Held, Holds, InOrder, PacketOf}
use Rattle.theorems_packets.proofs.Unpacked.{Unpacked, unpacked_is}
use Rattle.theorems_packets.proofs.Theorems.{digits_lower, packet_read}

-- ---- bytes

module _ (l : List ℕ) (b : Bytes l) where
  byte_here : (at next : ℕ) → at + 1 ≡ next → next ≤ length l → drop at l ≡ get_or l at 0 ∷ drop next l
  byte_here at next n h = let s : next ≡ suc at = omega arith in rw s (drop-cons l at 0 (omega arith))

  number_here : (n at next : ℕ) → at + n ≡ next → next ≤ length l → drop at l ≡ writing.number n (little n at l) (drop next l)
  unfolding writing.number little
  number_here zero at next n h = let s : next ≡ at = omega arith in rw s refl
  number_here (suc n) at next k h =
      let low = b.each at in
      let m : (get_or l at 0 + 256 * little n (suc at) l) % 256 ≡ get_or l at 0 = omega arith in
      let d : (get_or l at 0 + 256 * little n (suc at) l) / 256 ≡ little n (suc at) l = omega arith in
      rw (m, d) (byte_here at (suc at) (omega arith) (omega arith) ∙ ap (λ (t : List ℕ). get_or l at 0 ∷ t) (number_here n (suc at) next (omega arith) h))

  fields_here : (at : ℕ) → at + 28 ≤ length l → drop at l ≡ fields (fields_from l at) (drop (at + 28) l)
  unfolding fields fields_from
  fields_here at h =
      rw (byte_here at (at + 1) (omega arith) (omega arith), byte_here (at + 1) (at + 2) (omega arith) (omega arith), byte_here (at + 2) (at + 3) (omega arith) (omega arith), byte_here (at + 3) (at + 4) (omega arith) (omega arith), number_here 4 (at + 4) (at + 8) (omega arith) (omega arith), byte_here (at + 8) (at + 9) (omega arith) (omega arith), byte_here (at + 9) (at + 10) (omega arith) (omega arith), byte_here (at + 10) (at + 11) (omega arith) (omega arith), byte_here (at + 11) (at + 12) (omega arith) (omega arith), number_here 4 (at + 12) (at + 16) (omega arith) (omega arith), byte_here (at + 16) (at + 17) (omega arith) (omega arith), byte_here (at + 17) (at + 18) (omega arith) (omega arith), number_here 2 (at + 18) (at + 20) (omega arith) (omega arith), number_here 8 (at + 20) (at + 28) (omega arith) (omega arith)) refl

  -- the fields fit into their bytes
  little_below : (n at : ℕ) → little n at l < 256 ^ n
  unfolding little
  little_below zero at = omega arith
  little_below (suc n) at = let low = b.each at in let high = little_below n (suc at) in rw (pow-suc 256 n) (omega arith)

  fields_held : (at : ℕ) → Held (fields_from l at)
  unfolding fields_from
  fields_held at = record { year = little_below 4 (at + 4); nanosecond = little_below 4 (at + 12); length = little_below 2 (at + 18); amount = little_below 8 (at + 20) }

-- ---- what was passed was passed step by step

pub fine_same : {A : Type 0} {a b : A} → fine a ≡ fine b → a ≡ b
fine_same e = cc

pub refusal_fine : {A X : Type 0} {n at : ℕ} {a : A} → refusal n at ≡ fine a → X
refusal_fine e = let z : ◌≡◌ {A = ℕ} 0 1 = cc in absurd (clash z)
  where
    clash : ◌≡◌ {A = ℕ} 0 1 → ⊥
    clash z = omega arith

pub placed_fine : {A : Type 0} (at : ℕ) (o : Outcome A) {a : A} → placing.placed at o ≡ fine a → o ≡ accepted a
placed_fine at (accepted b) e = ap accepted (fine_same e)
placed_fine at (refused n) e = refusal_fine e

pub first_fine : {A : Type 0} (at : ℕ) (o : Outcome (Unit {0})) (q : Placed A) {a : A} → (placing.placed at o >> q) ≡ fine a → (o ≡ accepted tt) × (q ≡ fine a)
first_fine at (accepted tt) q e = (refl, e)
first_fine at (refused n) q e = refusal_fine e

pub record Step {A B : Type 0} (p : Placed A) (f : A → Placed B) (b : B) : Type 0 where
  pub value : A
  pub was : p ≡ fine value
  pub then : f value ≡ fine b

pub step_fine : {A B : Type 0} (p : Placed A) (f : A → Placed B) {b : B} → (p >>= f) ≡ fine b → Step p f b
step_fine (fine a) f e = record { value = a; was = refl; then = e }
step_fine (refusal n at) f e = refusal_fine e

-- ---- digits

-- where the first n bytes are of a kind, and all after them, the whole row is
run_before : (p : ℕ → Bool) (n : ℕ) (l : List ℕ) → n ≤ run p l → all p (drop n l) ≡ true → all p l ≡ true
unfolding run
run_before p zero l h e = e
run_before p (suc n) [] h e = refl
run_before p (suc n) (b ∷ l) h e = by (p b) refl h (λ m. run_before p n l m e)
  where
    by : (t : Bool) → p b ≡ t → suc n ≤ cond t (suc (run p l)) 0 → (n ≤ run p l → all p l ≡ true) → p b && all p l ≡ true
    by true k g later = both k (later (omega arith))
    by false k g later = absurd (omega arith)

-- the digits that an item uses up are within the row
stands_within : (area : List ℕ) (used n : ℕ) → used ≤ length area → digits_stand area used n ≡ true → used + n ≤ length area
unfolding digits_stand past
stands_within area used n k h =
    omega (arith, leb-true (used + n) (used + run digit (drop used area)) h, run_le digit (drop used area), length-drop used area)

-- lower case makes no digit
digit_before_lower : (b : ℕ) → digit (lower b) ≡ true → digit b ≡ true
unfolding digit lower
digit_before_lower b h = by (leb 65 b && leb b 90) refl h
  where
    by : (t : Bool) → leb 65 b && leb b 90 ≡ t → digit (cond t (b + 32) b) ≡ true → digit b ≡ true
    by true k g =
        let s = leb-true 65 b (halves (leb 65 b) (leb b 90) k).0 in
        let m = leb-true (b + 32) 57 (halves (leb 48 (b + 32)) (leb (b + 32) 57) g).1 in
        absurd (omega arith)
    by false k g = g

digits_before_lower : (l : List ℕ) → all digit (lowered l) ≡ true → all digit l ≡ true
unfolding lowered
digits_before_lower [] h = refl
digits_before_lower (b ∷ l) h = let t = halves (digit (lower b)) (all digit (lowered l)) h in both (digit_before_lower b t.0) (digits_before_lower l t.1)

-- ---- items

module _ (l : List ℕ) (b : Bytes l) (area : List ℕ) where
  -- what an item at an index is, after items that used up so many digits
  record ItemIs (i used : ℕ) (x : Item) : Type 0 where
    same : fields_of x ≡ fields_at l i
    holds : Holds used x
    stands : digits_stand area used (digits_used x) ≡ true

  item_is : (i used : ℕ) (x : Item) → item_at l area i used ≡ accepted x → ItemIs i used x
  unfolding item_at
  item_is i used x e =
      let s = step_passed (unpacked (fields_at l i) used) _ e in
      let t = first_passed (check (digits_stand area used (digits_used s.value)) 5) _ s.then in
      rw (← outcomes.same t.1) (by s.value (unpacked_is (fields_at l i) used s.value s.was) (check_true (digits_stand area used (digits_used s.value)) 5 t.0))
    where
      by : (y : Item) → Unpacked (fields_at l i) used y → digits_stand area used (digits_used y) ≡ true → ItemIs i used y
      by y u t = record { same = u.same; holds = record { range = u.range; sums = u.sums; fits = rw u.same (fields_held l b (8 + 28 * i)); begins = u.begins }; stands = t }

  -- what n items from an index on are, and the digits that are left there
  record ItemsAre (n i used : ℕ) (xs : List Item) : Type 0 where
    long : length xs ≡ n
    same : drop (8 + 28 * i) l ≡ items xs (drop (8 + 28 * (i + n)) l)
    order : InOrder (length area) used xs
    row : all digit (drop used area) ≡ true

  joined : (n i used : ℕ) (x : Item) (ys : List Item) → 8 + 28 * (i + suc n) ≤ length l → used + digits_used x ≤ length area → ItemIs i used x → ItemsAre n (suc i) (used + digits_used x) ys → ItemsAre (suc n) i used (x ∷ ys)
  unfolding items InOrder digits_stand past
  joined n i used x ys h k one more =
      let s : 8 + 28 * suc i ≡ 8 + 28 * i + 28 = omega arith in
      let t : suc i + n ≡ i + suc n = omega arith in
      let d = leb-true (used + digits_used x) (used + run digit (drop used area)) one.stands in
      let w : digits_used x ≤ run digit (drop used area) = omega arith in
      record {
        long = ap suc more.long;
        same = rw one.same (fields_here l b (8 + 28 * i) (omega arith) ∙ ap (fields (fields_from l (8 + 28 * i))) (rw (s, t) at more.same));
        order = (one.holds, k, more.order);
        row = run_before digit (digits_used x) (drop used area) w (rw (drop-drop (digits_used x) used area) more.row);
      }

  none_left : (i used : ℕ) → used ≤ length area → length area ≤ used → ItemsAre zero i used []
  unfolding items InOrder
  none_left i used k m = let z : i + 0 ≡ i = omega arith in record { long = refl; same = rw z refl; order = omega arith; row = rw (drop_of_length-le area {i = used} m) refl }

  items_are : (n i used : ℕ) (xs : List Item) → 8 + 28 * (i + n) ≤ length l → used ≤ length area → items_from l area n i used ≡ fine xs → ItemsAre n i used xs
  unfolding items_from
  items_are zero i used xs h k e =
      let s = first_fine i (check (leb (length area) used) 5) (fine []) e in
      let m = leb-true (length area) used (check_true (leb (length area) used) 5 s.0) in
      rw (← fine_same s.1) (none_left i used k m)
  items_are (suc n) i used xs h k e =
      let x = step_fine (placing.placed i (item_at l area i used)) _ e in
      let ys = step_fine (items_from l area n (suc i) (used + digits_used x.value)) _ x.then in
      rw (← fine_same ys.then) (by x.value ys.value (item_is i used x.value (placed_fine i (item_at l area i used) x.was)) (λ d. items_are n (suc i) (used + digits_used x.value) ys.value (omega arith) d ys.was))
    where
      by : (x : Item) (ys : List Item) → ItemIs i used x → (used + digits_used x ≤ length area → ItemsAre n (suc i) (used + digits_used x) ys) → ItemsAre (suc n) i used (x ∷ ys)
      by x ys one later = let d = stands_within area used (digits_used x) k one.stands in joined n i used x ys h d one (later d)

-- ---- the packet

module _ (l : List ℕ) (xs : List Item) (b : Bytes l) (e : packet_items l ≡ fine xs) where
  -- the bytes after the items
  abbrev rest : List ℕ
  rest = drop (8 + 28 * length xs) l

  passed : (header l ≡ accepted tt) × (items_from l (digits l) (little 2 0 l) 0 0 ≡ fine xs)
  unfolding packet_items count
  passed = first_fine 0 (header l) (items_from l (digits l) (little 2 0 l) 0 0) e

  good : accepted tt ≡ header l
  good = sym passed.0

  all_are : ItemsAre l b (digits l) (little 2 0 l) 0 0 xs
  all_are = items_are l b (digits l) (little 2 0 l) 0 0 xs (omega (arith, exact l good)) (omega arith) passed.1

  rest_digits : all digit rest ≡ true
  unfolding digits digits_place count
  rest_digits = digits_before_lower rest (rw all_are.long all_are.row)

  rest_is : digits l ≡ rest
  unfolding digits digits_place count
  rest_is = rw (← all_are.long) (digits_lower rest rest_digits)

  -- What is read is the packet of its items and of the bytes after them.
  pub packet_exact : l ≡ packet xs rest
  unfolding packet
  packet_exact =
      let n = all_are.long in
      let long = exact l good in
      let m : length rest ≡ little 2 4 l = rw n (omega (arith, length-drop (8 + 28 * little 2 0 l) l)) in
      let a = number_here l b 2 0 2 refl (omega arith) in
      let c = number_here l b 2 2 4 refl (omega arith) in
      let d = number_here l b 2 4 6 refl (omega arith) in
      let f = number_here l b 2 6 8 refl (omega arith) in
      let s : 8 + 28 * 0 ≡ 8 = omega arith in
      let t : 0 + little 2 0 l ≡ little 2 0 l = omega arith in
      let g = rw (s, t) at all_are.same in
      rw (m, n) (a ∙ ap (writing.number 2 (little 2 0 l)) (c ∙ rw (items_at l good) (ap (writing.number 2 8) (d ∙ ap (writing.number 2 (little 2 4 l)) (f ∙ rw (digits_at l good) (ap (writing.number 2 (8 + 28 * little 2 0 l)) g))))))

  packet_of : PacketOf xs l
  packet_of = record { area = rest; few = rw all_are.long (few l good); row = rest_digits; order = rw rest_is at all_are.order; same = packet_exact }

-- The items of a packet are read, and are these, exactly if it is their packet.
pub exactly : (l : List ℕ) (xs : List Item) → Bytes l → (packet_items l ≡ fine xs) ↔ PacketOf xs l
exactly l xs b = (packet_of l xs b, λ p. rw p.same (packet_read xs p.area p.few p.row p.order))

-- So no two packets have the same items and digits.
pub one_packet : (l m : List ℕ) (xs : List Item) → Bytes l → Bytes m → packet_items l ≡ fine xs → packet_items m ≡ fine xs → drop (8 + 28 * length xs) l ≡ drop (8 + 28 * length xs) m → l ≡ m
one_packet l m xs b c e f d = packet_exact l xs b e ∙ ap (packet xs) d ∙ sym (packet_exact m xs c f)
