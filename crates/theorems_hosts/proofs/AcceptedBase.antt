-- Which numbers a text, one of the profile and a packet can get under an accepted base: fewer than `one_answer` (proofs/Theorems.antt) names, which also counts those
-- of a refused base. Of 11 to 17 a text can get 12, a packet 12 and 16. Assumes nothing.
use Rattle.answers.specs.Limits.{most_items}
use Rattle.host_calls.specs.Calls.{answer, ReadText, ReadProfile, ReadPacket}
use Rattle.packet.proofs.Places.{place_within}
use Rattle.text_profile.specs.Profile.{read_profile}
use Rattle.text_profile.proofs.Places.{profile_place}
use Rattle.theorems_profile.proofs.Refusals.{profile_under_accepted, profile_accepted}
use native.Mathlib.Nat.{le_refl}
use Rattle.theorems_hosts.specs.Promises.{Answers}
use Rattle.theorems_hosts.proofs.Places.{text_place}
use Rattle.theorems_hosts.proofs.Theorems.{of_placed, text_accepted, packet_accepted}
use Prim.Native.Nat.{ℕ, zero, suc, ◌+◌}
use mathlib.Core.Path.{◌≡◌, refl}
use mathlib.Core.Bool.{Bool, true, false, cond}
use mathlib.Core.List.{List, [], ◌∷◌}
use lib.Dec.{leb, eqb}
use lib.ListN.{length}
use Rattle.answers.specs.Numbers as refusal
use Rattle.answers.specs.Outcome.{accepted, check}
use Rattle.answers.specs.Placed as placing
use Rattle.answers.specs.Placed.{Placed, fine, refusal, placed}
use Rattle.answers.proofs.Outcomes.{same, first_passed, step_passed}
use Rattle.extended.specs.Extended.{test}
use Rattle.extended.specs.declared.ExtendedDateTime.{ExtendedDateTime}
use Rattle.primitive.specs.Text.{lowered}
use Rattle.relative.specs.declared.Relative.{Relative}
use Rattle.items.specs.Items.{Parsed, parse_items}
use Rattle.items.specs.declared.Item.{Item}
use Rattle.items.specs.declared.Item.TheVariants as item
use Rattle.rules.specs.Rules.{empty, relatives, gather}
use Rattle.rules.specs.declared.DateTimeBuilder.{DateTimeBuilder}
use Rattle.builder.specs.Building.{build_extended, built, build}
use Rattle.text_general.specs.Reading.{items_of, build_parsed, read_parsed, read_text}
use Rattle.packet_fields.specs.Fields.{in_range, fields_at, fields_of, unpacked, digits_used}
use Rattle.packet.specs.Packet.{count, digits, digits_stand, item_at, items_from, build_items, read_packet}
use Rattle.host_calls.specs.Given.{text_numbers_accepted, profile_numbers_accepted, packet_numbers_accepted}
use Rattle.host_calls.proofs.Numbered.{Numbered, value, covers, has_covers}
use Rattle.theorems_round_trip.proofs.Refusals.{Among, a_refusal, step_then, placed_among, among_wider}
use Rattle.theorems_round_trip.proofs.BuildRefusals.{gather_among, text_gather}
use Rattle.theorems_round_trip.proofs.TextRefusals.{reading_numbers, Reading, reading_text, tests_among}
use Rattle.theorems_packets.proofs.Exact.{placed_fine, first_fine, fine_same, step_fine}
use Rattle.theorems_packets.proofs.Ranges.{AllPlain, no_item, one_item, text_plain}
use Rattle.theorems_packets.proofs.Refusals.{header_numbered, items_from_among}
use Rattle.theorems_packets.proofs.Refusals as packets
use Rattle.theorems_packets.proofs.Unpacked.{unpacked_is}
use Rattle.theorems_hosts.proofs.AcceptedRecords.{numbered, yields_wider, moved_numbers, relative_any, relative_below}
use Rattle.theorems_hosts.proofs.PartsInRange.{Fits, AllInRange, nothing, ranged, gather_fits}
use Rattle.theorems_hosts.proofs.AcceptedBuilds.{AllMove, no_move, a_move, build_yields}

-- What the rules and the building refuse with, whatever list g bounds the rules and the relative items.
module _ (g : List ℕ) (c : covers moved_numbers g ≡ true) (d : covers (refusal.day ∷ []) g ≡ true) where
  build_under : (area : List ℕ) (xs : List Item) (base : ExtendedDateTime) → test base ≡ accepted tt → AllInRange xs → AllMove g (relatives xs) → Among g (gather area 0 empty xs) → Among g (build area xs base)
  unfolding build built
  build_under area xs base t r m a = by (gather area 0 empty xs) a (λ b e. gather_fits area 0 empty b xs (record { date = tt; time = tt; zone = tt }) r e)
    where
      by : (p : Placed DateTimeBuilder) → Among g p → ((b : DateTimeBuilder) → p ≡ fine b → Fits b) → Among g (placing.◌>>=◌ p (λ b. placed 0 (build_extended b (relatives xs) base)))
      by (fine b) h k = placed_among 0 (numbered (build_yields g c d b (k b refl) (relatives xs) m base t))
      by p (a_refusal n at e) k = a_refusal n at e

-- ---- a text

text_ranged : (xs : List Item) → AllPlain xs → AllInRange xs
text_ranged [] no_item = nothing
text_ranged (x ∷ xs) (one_item h hs) = ranged h.holds.range (text_ranged xs hs)

-- The nanoseconds of a text's seconds are below a second.
text_moves : (xs : List Item) → AllPlain xs → AllMove text_numbers_accepted (relatives xs)
unfolding relatives fields_of
text_moves [] no_item = no_move
text_moves (item.Relative r ∷ xs) (one_item h hs) = a_move (λ s t. yields_wider text_numbers_accepted refl (relative_below s t r h.below_second)) (text_moves xs hs)
text_moves (item.Date d ∷ xs) (one_item h hs) = text_moves xs hs
text_moves (item.Time t ∷ xs) (one_item h hs) = text_moves xs hs
text_moves (item.DateTime v ∷ xs) (one_item h hs) = text_moves xs hs
text_moves (item.Weekday w ∷ xs) (one_item h hs) = text_moves xs hs
text_moves (item.Offset o ∷ xs) (one_item h hs) = text_moves xs hs
text_moves (item.LocalZone ∷ xs) (one_item h hs) = text_moves xs hs
text_moves (item.Pure p ∷ xs) (one_item h hs) = text_moves xs hs

module _ (base : ExtendedDateTime) (t : test base ≡ accepted tt) where
  base_passed : (g : List ℕ) → Numbered g (test base)
  base_passed g = rw t (value tt)

  parsed_under : (p : Parsed) → Reading p → AllPlain p.items → Among text_numbers_accepted (build_parsed p base)
  unfolding build_parsed items_of
  parsed_under p h a = go (eqb p.number 0) refl
    where
      items : Among text_numbers_accepted (build [] p.items base)
      items =
          build_under text_numbers_accepted refl refl [] p.items base t (text_ranged p.items a) (text_moves p.items a)
          (among_wider text_numbers_accepted refl (text_gather [] 0 empty p.items refl h.texted))

      go : (b : Bool) → eqb p.number 0 ≡ b → Among text_numbers_accepted (placing.◌>>=◌ (cond b (fine p.items) (refusal p.number p.place)) (λ xs. build [] xs base))
      go true e = items
      go false e = a_refusal p.number p.place (has_covers reading_numbers text_numbers_accepted p.number refl (rw e at h.number))

  lowered_under : (l : List ℕ) → Among text_numbers_accepted (read_parsed (parse_items l) l base)
  unfolding read_parsed
  lowered_under l = step_then (tests_among l base (base_passed text_numbers_accepted) refl refl) (parsed_under (parse_items l) (reading_text l) (text_plain l))

-- Whatever the text, under an accepted base: the answer's number is 0 or one of these.
pub text_under_accepted : (text : List ℕ) (base : ExtendedDateTime) → test base ≡ accepted tt → Among text_numbers_accepted (read_text text base)
unfolding read_text
text_under_accepted text base t = lowered_under base t (lowered text)

-- ---- a packet

packet_moves : (rs : List Relative) → AllMove packet_numbers_accepted rs
packet_moves [] = no_move
packet_moves (r ∷ rs) = a_move (λ s t. yields_wider packet_numbers_accepted refl (relative_any s t r)) (packet_moves rs)

item_ranged : (bytes area : List ℕ) (i used : ℕ) (x : Item) → item_at bytes area i used ≡ accepted x → in_range x ≡ true
unfolding item_at
item_ranged bytes area i used x e =
    let s = step_passed (unpacked (fields_at bytes i) used) _ e in
    let r = first_passed (check (digits_stand area used (digits_used s.value)) 5) (accepted s.value) s.then in
    rw (← same r.1) (unpacked_is (fields_at bytes i) used s.value s.was).range

items_ranged : (bytes area : List ℕ) (n i used : ℕ) (xs : List Item) → items_from bytes area n i used ≡ fine xs → AllInRange xs
unfolding items_from
items_ranged bytes area zero i used xs e =
    let s = first_fine i (check (leb (length area) used) 5) (fine []) e in
    rw (← fine_same s.1) nothing
items_ranged bytes area (suc n) i used xs e =
    let x = step_fine (placed i (item_at bytes area i used)) _ e in
    let ys = step_fine (items_from bytes area n (suc i) (used + digits_used x.value)) _ x.then in
    rw (← fine_same ys.then) (ranged (item_ranged bytes area i used x.value (placed_fine i (item_at bytes area i used) x.was)) (items_ranged bytes area n (suc i) (used + digits_used x.value) ys.value ys.was))

packet_items_under : (bytes area : List ℕ) (n : ℕ) (base : ExtendedDateTime) → test base ≡ accepted tt → Among packet_numbers_accepted (build_items bytes area n base)
unfolding build_items
packet_items_under bytes area n base t = by (items_from bytes area n 0 0) (items_from_among bytes area n 0 0) (λ xs e. items_ranged bytes area n 0 0 xs e)
  where
    by : (p : Placed (List Item)) → Among packets.item_numbers p → ((xs : List Item) → p ≡ fine xs → AllInRange xs) → Among packet_numbers_accepted (placing.◌>>=◌ p (λ xs. build area xs base))
    by (fine xs) h f =
        build_under packet_numbers_accepted refl refl area xs base t (f xs refl) (packet_moves (relatives xs))
        (among_wider packet_numbers_accepted refl (gather_among area 0 empty xs))
    by p (a_refusal k at e) f = a_refusal k at (has_covers packets.item_numbers packet_numbers_accepted k refl e)

-- Whatever the bytes, under an accepted base: the answer's number is 0 or one of these.
pub packet_under_accepted : (bytes : List ℕ) (base : ExtendedDateTime) → test base ≡ accepted tt → Among packet_numbers_accepted (read_packet bytes base)
unfolding read_packet
packet_under_accepted bytes base t =
    step_then (placed_among 0 (base_passed base t packet_numbers_accepted))
    (step_then (among_wider packet_numbers_accepted refl (placed_among 0 (header_numbered bytes))) (packet_items_under bytes (digits bytes) (count bytes) base t))

-- ---- the calls

-- So is the answer to a call, as `one_answer` says it, with the shorter lists.
pub text_answers : (text : List ℕ) (base : ExtendedDateTime) → test base ≡ accepted tt → Answers text_numbers_accepted (length text) (answer (ReadText text base))
text_answers text base t = of_placed text_numbers_accepted (length text) (read_text text base) (text_under_accepted text base t) (text_place text base) (text_accepted text base)

pub profile_answers : (text : List ℕ) (base : ExtendedDateTime) → test base ≡ accepted tt → Answers profile_numbers_accepted (length text) (answer (ReadProfile text base))
profile_answers text base t =
    of_placed profile_numbers_accepted (length text) (read_profile text base) (profile_under_accepted text base t) (profile_place text base (length text) (λ h. le_refl _)) (profile_accepted text base)

pub packet_answers : (bytes : List ℕ) (base : ExtendedDateTime) → test base ≡ accepted tt → Answers packet_numbers_accepted most_items (answer (ReadPacket bytes base))
packet_answers bytes base t = of_placed packet_numbers_accepted 64 (read_packet bytes base) (packet_under_accepted bytes base t) (place_within bytes base) (packet_accepted bytes base)
