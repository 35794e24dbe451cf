-- The place of an answer is 0 but for the numbers 2 to 8 and 22. Each test of a text or a packet, in the order of its definition, refuses either
-- at place 0 or with one of these numbers. The other calls answer with place 0. Assumes nothing.
use Prim.Native.Nat.{ℕ, zero, suc, ◌+◌}
use mathlib.Core.Path.{◌≡◌, refl, sym, ◌∙◌}
use mathlib.Core.Bool.{Bool, true, false, cond}
use mathlib.Core.List.{List, [], ◌∷◌, ◌++◌}
use lib.Dec.{ltb, eqb}
use lib.ListN.{length}
use Rattle.integers.proofs.Differences.{untrue}
use Rattle.answers.specs.Numbers as refusal
use Rattle.answers.specs.Limits.{most_items}
use Rattle.answers.specs.Outcome.{Outcome, accepted, refused}
use Rattle.answers.specs.Placed.{Placed, fine, refusal, placed, ◌>>=◌, ◌>>◌}
use Rattle.extended.specs.Extended.{test}
use Rattle.extended.specs.declared.ExtendedDateTime.{ExtendedDateTime}
use Rattle.primitive.specs.Answer.{Answer, matched, dropped, none, stop}
use Rattle.primitive.specs.Text.{lowered}
use Rattle.primitive.specs.Primitive.{space}
use Rattle.items.specs.Items.{Parsed, ended, further, kept, items_from, parse_item, parse_items}
use Rattle.items.specs.declared.Item.{Item}
use Rattle.rules.specs.Rules.{empty, relatives, rule_place, onward, gather}
use Rattle.rules.specs.declared.DateTimeBuilder.{DateTimeBuilder}
use Rattle.builder.specs.Building.{build_extended, built, build}
use Rattle.text_tests.specs.Tests.{test_text}
use Rattle.text_general.specs.Reading.{items_of, build_parsed, read_parsed, read_text}
use Rattle.packet_fields.specs.Fields.{digits_used}
use Rattle.packet.specs.Packet as packet
use Rattle.packet.specs.Packet.{count, header, digits, item_at, build_items, read_packet}
use Rattle.host_answers.specs.Hosts.{record_answer, placed_answer}
use Rattle.text_profile.specs.Forms.{date_in}
use Rattle.text_profile.specs.Profile.{read_profile}
use Rattle.host_calls.specs.Calls.{Call, New, FromUnixSeconds, AddDays, AddHours, AddMinutes, AddSeconds, AddYears, AddMonths, ReadText, ReadProfile, ReadPacket, answer}
use Rattle.host_calls.specs.Given.{has, placed_numbers}
use Rattle.host_calls.proofs.Numbered.{Numbered, value, by_number, covers, has_covers, check_numbered}
use Rattle.theorems_round_trip.proofs.BuildRefusals.{rule_numbers, set_item_numbered}
use Rattle.theorems_packets.proofs.Refusals.{item_at_numbered}

-- place 0, unless the number is one that has a place
abbrev Zero : ℕ → ℕ → Type 0
Zero number place = has placed_numbers number ≡ false → place ≡ 0

-- a value, or a refusal with such a place
data AtPlace {A : Type 0} : Placed A → Type 0 where
  no_place : (a : A) → AtPlace (fine a)
  at_place : (k at : ℕ) → Zero k at → AtPlace (refusal k at)

-- a number that has a place may be at any
anywhere : (k at : ℕ) → has placed_numbers k ≡ true → Zero k at
anywhere k at e f = untrue (sym f ∙ e)

first_then : {A B : Type 0} {p : Placed A} {f : A → Placed B} → AtPlace p → ((a : A) → AtPlace (f a)) → AtPlace (p >>= f)
first_then (no_place a) f = f a
first_then (at_place k at z) f = at_place k at z

step_then : {A B : Type 0} {p : Placed A} {q : Placed B} → AtPlace p → AtPlace q → AtPlace (p >> q)
step_then (no_place a) h = h
step_then (at_place k at z) h = at_place k at z

at_0 : {A : Type 0} (o : Outcome A) → AtPlace (placed 0 o)
at_0 (accepted a) = no_place a
at_0 (refused k) = at_place k 0 (λ f. refl)

numbered_at : {A : Type 0} {o : Outcome A} (g : List ℕ) (at : ℕ) → covers g placed_numbers ≡ true → Numbered g o → AtPlace (placed at o)
numbered_at g at c (value a) = no_place a
numbered_at g at c (by_number k e) = at_place k at (anywhere k at (has_covers g placed_numbers k c e))

-- ---- the rules and the building

-- 9 of a rule is at place 0; 6, 7 and 8 have a place
rule_zero : (i k : ℕ) → has rule_numbers k ≡ true → Zero k (rule_place k i)
unfolding rule_place
rule_zero i k e = by (eqb k refusal.over) refl
  where
    by : (t : Bool) → eqb k refusal.over ≡ t → Zero k (cond t 0 i)
    by true n = λ f. refl
    by false n = anywhere k i (has_covers (refusal.twice ∷ refusal.rival ∷ refusal.pure ∷ []) placed_numbers k refl (rw n at e))

gather_place : (area : List ℕ) (i : ℕ) (b : DateTimeBuilder) (xs : List Item) → AtPlace (gather area i b xs)
unfolding gather
gather_place area i b [] = no_place b
gather_place area i b (x ∷ xs) = go (λ next. gather_place area (suc i) next xs) (set_item_numbered area b x)
  where
    go : ((next : DateTimeBuilder) → AtPlace (gather area (suc i) next xs)) → {o : Outcome DateTimeBuilder} → Numbered rule_numbers o →
        AtPlace (onward i o (λ next. gather area (suc i) next xs))
    go f (value next) = f next
    go f (by_number k e) = at_place k (rule_place k i) (rule_zero i k e)

build_place : (area : List ℕ) (xs : List Item) (base : ExtendedDateTime) → AtPlace (build area xs base)
unfolding build built
build_place area xs base = first_then (gather_place area 0 empty xs) (λ b. at_0 (build_extended b (relatives xs) base))

-- ---- a text

-- 1 ends the reading of the items at place 0; 3, 4 and 22 have a place
reading_place : (room : ℕ) (xs : List Item) (text : List ℕ) (at : ℕ) → Zero (items_from parse_item room xs text at).number (items_from parse_item room xs text at).place
unfolding items_from
reading_place zero xs text at = go (ltb (space text at) (length text)) (kept (parse_item text at))
  where
    end : Bool → Answer Item → Parsed
    end t a = cond t (further a xs at (λ v n. ended xs refusal.oversize 0)) (ended xs 0 0)

    go : (t : Bool) (a : Answer Item) → Zero (end t a).number (end t a).place
    go true (matched v n) = λ f. refl
    go true (dropped v n) = anywhere refusal.fraction at refl
    go true none = anywhere refusal.unread at refl
    go true stop = anywhere refusal.stopped at refl
    go false a = λ f. refl
reading_place (suc room) xs text at = go (λ v n. reading_place room (xs ++ (v ∷ [])) text n) (ltb (space text at) (length text)) (parse_item text at)
  where
    later : Item → ℕ → Parsed
    later v n = items_from parse_item room (xs ++ (v ∷ [])) text n

    end : Bool → Answer Item → Parsed
    end t a = cond t (further a xs at later) (ended xs 0 0)

    go : ((v : Item) (n : ℕ) → Zero (later v n).number (later v n).place) → (t : Bool) (a : Answer Item) → Zero (end t a).number (end t a).place
    go f true (matched v n) = f v n
    go f true (dropped v n) = anywhere refusal.fraction at refl
    go f true none = anywhere refusal.unread at refl
    go f true stop = anywhere refusal.stopped at refl
    go f false a = λ f. refl

items_place : (p : Parsed) → Zero p.number p.place → AtPlace (items_of p)
unfolding items_of
items_place p z = by (eqb p.number 0)
  where
    by : (t : Bool) → AtPlace (cond t (fine p.items) (refusal p.number p.place))
    by true = no_place p.items
    by false = at_place p.number p.place z

parsed_place : (text : List ℕ) → AtPlace (items_of (parse_items text))
unfolding parse_items
parsed_place text = items_place (parse_items text) (reading_place most_items [] text 0)

tests_place : (text : List ℕ) (base : ExtendedDateTime) → AtPlace (test_text text base)
unfolding test_text
tests_place text base = step_then (at_0 (test base)) (step_then (at_0 _) (numbered_at (refusal.foreign ∷ []) _ refl (check_numbered _ refusal.foreign refl)))

text_place : (text : List ℕ) (base : ExtendedDateTime) → AtPlace (read_text text base)
unfolding read_text read_parsed build_parsed
text_place text base = step_then (tests_place (lowered text) base) (first_then (parsed_place (lowered text)) (λ xs. build_place [] xs base))

profile_place : (text : List ℕ) (base : ExtendedDateTime) → AtPlace (read_profile text base)
unfolding read_profile
profile_place text base = step_then (tests_place text base) (first_then (at_0 (date_in text)) (λ d. no_place _))

-- ---- a packet

-- an item, and digits that are left over, are refused with 5
packet_items : (bytes area : List ℕ) (n i used : ℕ) → AtPlace (packet.items_from bytes area n i used)
unfolding packet.items_from
packet_items bytes area zero i used = step_then (numbered_at (refusal.packet ∷ []) i refl (check_numbered _ refusal.packet refl)) (no_place [])
packet_items bytes area (suc n) i used =
    first_then (numbered_at (refusal.packet ∷ []) i refl (item_at_numbered bytes area i used))
    (λ x. first_then (packet_items bytes area n (suc i) (used + digits_used x)) (λ xs. no_place (x ∷ xs)))

packet_place : (bytes : List ℕ) (base : ExtendedDateTime) → AtPlace (read_packet bytes base)
unfolding read_packet build_items
packet_place bytes base =
    step_then (at_0 (test base))
    (step_then (at_0 (header bytes)) (first_then (packet_items bytes (digits bytes) (count bytes) 0 0) (λ xs. build_place (digits bytes) xs base)))

-- ---- every call

of_placed : (p : Placed ExtendedDateTime) → AtPlace p → Zero (placed_answer p).number (placed_answer p).place
unfolding placed_answer
of_placed p (no_place r) = λ f. refl
of_placed p (at_place k at z) = z

-- Whatever is asked: place 0, unless the answer's number is one of 2 to 8 and 22.
pub place_by_number : (c : Call) → has placed_numbers (answer c).number ≡ false → (answer c).place ≡ 0
unfolding record_answer
place_by_number (New year month day hour minute second nanosecond offset) f = refl
place_by_number (FromUnixSeconds seconds nanosecond offset) f = refl
place_by_number (AddDays r n) f = refl
place_by_number (AddHours r n) f = refl
place_by_number (AddMinutes r n) f = refl
place_by_number (AddSeconds r n k) f = refl
place_by_number (AddYears r n) f = refl
place_by_number (AddMonths r n) f = refl
place_by_number (ReadText text base) f = of_placed (read_text text base) (text_place text base) f
place_by_number (ReadProfile text base) f = of_placed (read_profile text base) (profile_place text base) f
place_by_number (ReadPacket packet base) f = of_placed (read_packet packet base) (packet_place packet base) f
