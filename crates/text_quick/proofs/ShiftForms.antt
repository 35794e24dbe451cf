-- The relative items that the quick readers answer are those of the definitions: what the code saw of the bytes makes the text one of the
-- written forms. Assumes nothing.
use Prim.Native.Nat.{ℕ, zero, suc, ◌+◌, ◌-◌, ◌^◌, ◌*◌, ◌<◌, ◌≤◌}
use native.Mathlib.Omega.{arith}
use mathlib.Core.Path.{◌≡◌, refl, sym, ap, ◌∙◌}
use mathlib.Core.Logic.{inl, inr}
use mathlib.Core.Bool.{Bool, true, false, ◌&&◌, not, beq, cond}
use mathlib.Core.List.{List, [], ◌∷◌, ◌++◌, append_assoc}
use lib.Dec.{eqb}
use lib.IntN.{ℤ, pos, neg_ℤ, ◌*ℤ◌}
use lib.Signed.{mag}
use lib.ListN.{length, get_or, drop}
use lib.Seq.{slice, length-slice}
use borrow.Author.Tests.{eqb-true, not-true, ne_eqb}
use mir.Syntax.{w32, w64}
use mir.Val.{SFits, to_z, of_z}
use mir.Facts.{to_z-of_z}
use Rattle.std.specs.List.{AllByRecursion}
use Rattle.std.proofs.Common.{Bor}
use Rattle.std.proofs.lemmas.List.Elements.{All-from_recursion}
use Rattle.primitive.specs.Answer.{matched, none, place_answer, found_at}
use Rattle.std.specs.Prelude.{Option, Some, None}
use Rattle.std.specs.Option.{option_eq}
use Rattle.primitive.specs.Text.{lower, lowered, bytes, blank, digit, letter, tag}
use Rattle.primitive.specs.Primitive.{decimal, dec_uint, same}
use Rattle.primitive.specs.Ordinal.{signed}
use Rattle.primitive.proofs.Numbers.{signed_fits}
use Rattle.primitive.proofs.Rows.{all, halves, Number}
use Rattle.primitive.proofs.Lowered.{length_lowered, rest_cons, rest_none, clash}
use Rattle.dates.specs.declared.date.Date.{Date}
use Rattle.dates.specs.Date.{months}
use Rattle.times.specs.Time.{parse as parse-time}
use Rattle.relative.specs.Relative.{direction, days}
use Rattle.relative.specs.declared.Relative.{Relative}
use Rattle.items.specs.Combined.{iso_alone, combined_time, parse_time_after_date}
use Rattle.items.specs.Items.{parse_item}
use Rattle.items.specs.declared.Item.TheVariants as item
use Rattle.primitive.proofs.Walk.{Reads, Fails, Spaces, ◌⟨◌⟩!◌, at_once, said}
use Rattle.primitive.proofs.Leaves.{head, plain, other, letter_still, number_head, number_still, still, blanks, sign_of}
use Rattle.primitive.proofs.Leaves.{sign_still}
use Rattle.primitive.proofs.WordTables.{lacks}
use Rattle.times.proofs.Forms.{sign_no_digit, meridiem_else}
use Rattle.dates.proofs.Forms.{short_no_date}
use Rattle.items.proofs.Forms.{number_no_time}
use Rattle.items.proofs.DateTimes.{separator_read, hour_alone, no_time_behind}
use Rattle.relative.proofs.Forms.{plural, turned, LongUnit, ago_read, no_direction, year_word, month_word, week_word, day_word, hour_word, minute_word, second_unit}
use Rattle.items.proofs.TwoItems.{rounded_signed, sign_lower}
use Rattle.items.proofs.RelativeItems.{OtherWord, tested, other_word, number_and_unit, signed_and_unit, seconds, signed_seconds}
use Rattle.text_quick.specs.Rows.{Digits}
use Rattle.text_quick.specs.Shifts.{relative_of, Short, ShiftAt, BehindSign, UnitAt, word_of, way_of, Plural, CountAt}
use Rattle.relative_readers.specs.Unit.{times}
use Rattle.relative_readers.specs.declared.unit.Unit.{Unit as TimeUnit}
use Rattle.relative_readers.specs.declared.unit.Unit.TheVariants as unit
use Rattle.text_quick.proofs.Places.{part, mark}
use Rattle.text_quick.proofs.Found.{read_row, read_word}

-- ---- units and their direction

way_read : (ago : Bool) → Reads direction (way_of ago) ago []
unfolding bytes blank
way_read true = ago_read (32 ∷ []) refl
way_read false = no_direction (still (plain refl)) refl refl

way_no_letter : (ago : Bool) → letter (head (way_of ago)) ≡ false
unfolding letter
way_no_letter true = refl
way_no_letter false = refl

-- the first letter of a unit
first_letter : (u : TimeUnit) (l : List ℕ) → letter (head (word_of u ++ l)) && (not (eqb (head (word_of u ++ l)) 97) && not (eqb (head (word_of u ++ l)) 112)) ≡ true
unfolding bytes letter
first_letter unit.Year l = refl
first_letter unit.Month l = refl
first_letter unit.Fortnight l = refl
first_letter unit.Week l = refl
first_letter unit.Day l = refl
first_letter unit.Hour l = refl
first_letter unit.Minute l = refl
first_letter unit.Second l = refl

-- each word, with and without `s`, begins no date and no time
no_date_word : (u : TimeUnit) (many : Bool) → OtherWord (word_of u ++ plural many)
unfolding tested lacks months same bytes letter
no_date_word unit.Year true = other_word _ refl
no_date_word unit.Year false = other_word _ refl
no_date_word unit.Month true = other_word _ refl
no_date_word unit.Month false = other_word _ refl
no_date_word unit.Fortnight true = other_word _ refl
no_date_word unit.Fortnight false = other_word _ refl
no_date_word unit.Week true = other_word _ refl
no_date_word unit.Week false = other_word _ refl
no_date_word unit.Day true = other_word _ refl
no_date_word unit.Day false = other_word _ refl
no_date_word unit.Hour true = other_word _ refl
no_date_word unit.Hour false = other_word _ refl
no_date_word unit.Minute true = other_word _ refl
no_date_word unit.Minute false = other_word _ refl
no_date_word unit.Second true = other_word _ refl
no_date_word unit.Second false = other_word _ refl

-- a number with its sign and its direction
turned_signed : (ago negative : Bool) (n : ℕ) → turned ago (signed negative n) ≡ signed (cond ago (not negative) negative) n
unfolding signed
turned_signed false negative n = refl
turned_signed true false n = refl
turned_signed true true zero = refl
turned_signed true true (suc n) = refl

negated : (n : ℕ) → mag (neg_ℤ (pos n)) ≤ n
negated zero = omega arith
negated (suc n) = omega arith

-- so few weeks are an i32's days
weeks_fit : (negative : Bool) (n : ℕ) → n ≤ 300000000 → mag (signed negative n *ℤ pos 7) < 2 ^ 31
unfolding signed
weeks_fit false n h = omega arith
weeks_fit true zero h = omega arith
weeks_fit true (suc n) h = let z = negated (suc n * 7) in omega arith

-- the number is an i32 with its sign
module _ (negative : Bool) (n : ℕ) (h : n ≤ 300000000) (r : ℤ) (e : r ≡ signed negative n) where
  small : SFits w32 r
  small = rw e (signed_fits negative n (omega arith))

  wide : to_z w64 (of_z w64 r) ≡ r
  wide = to_z-of_z {w = w64} (record { sfits = omega (arith, small.sfits) })

  pub cast_fits : SFits w32 (to_z w64 (of_z w64 r))
  cast_fits = rw wide small

  cast_is : to_z w32 (of_z w32 (to_z w64 (of_z w64 r))) ≡ signed negative n
  cast_is = rw (wide, to_z-of_z small) e

-- `ago` turns the sign round
other_way : (negative ago : Bool) → not (beq negative ago) ≡ cond ago (not negative) negative
other_way true true = refl
other_way true false = refl
other_way false true = refl
other_way false false = refl

pub cast_turned : (negative ago : Bool) (n : ℕ) → n ≤ 300000000 → (r : ℤ) → r ≡ signed (not (beq negative ago)) n → to_z w32 (of_z w32 (to_z w64 (of_z w64 r))) ≡ signed (cond ago (not negative) negative) n
cast_turned negative ago n h r e = cast_is (cond ago (not negative) negative) n h r (rw (← other_way negative ago) e)

-- what the code answers for so many units is so many
days_of : (t : Bool) (v w : Relative) → matched w 0 ≡ cond t (matched v 0) none → w ≡ v
days_of true v w e = cc
days_of false v w e = let z : ◌≡◌ {A = ℕ} 0 1 = cc in absurd (clash z)

amount_of : (u : TimeUnit) (n : ℤ) (w : Relative) → matched w 0 ≡ times u n [] 0 → w ≡ relative_of u n
unfolding times days
amount_of unit.Year n w e = cc
amount_of unit.Month n w e = cc
amount_of unit.Fortnight n w e = days_of _ _ w e
amount_of unit.Week n w e = days_of _ _ w e
amount_of unit.Day n w e = cc
amount_of unit.Hour n w e = cc
amount_of unit.Minute n w e = cc
amount_of unit.Second n w e = cc

-- ---- the items

-- what stands behind the number
abbrev count_text : TimeUnit → Bool → Bool → List ℕ
count_text u many ago = (32 ∷ []) ++ ((word_of u ++ plural many) ++ way_of ago)

module _ (many ago negative : Bool) {ds : List ℕ} (n : Number ds) (small : decimal ds ≤ 300000000) (bs : List ℕ) (b : all blank bs ≡ true) where
  long_signed : (u : TimeUnit) {given : ℤ → Type 0} → LongUnit (word_of u ++ plural many) (relative_of u) given → given (signed (cond ago (not negative) negative) (decimal ds)) → Reads parse_item (bs ++ (sign_of negative ∷ (ds ++ count_text u many ago))) (item.Relative (relative_of u (signed (cond ago (not negative) negative) (decimal ds)))) []
  unfolding blank
  long_signed u {given} l g =
      let q = turned_signed ago negative (decimal ds) in
      let g' : given (turned ago (signed negative (decimal ds))) = rw q g in
      rw (← q) (signed_and_unit (no_date_word u many) (way_read ago) (way_no_letter ago) (32 ∷ []) refl bs b l n (omega arith) negative g')

  signed_item : (u : TimeUnit) → Short u → Reads parse_item (bs ++ (sign_of negative ∷ (ds ++ count_text u many ago))) (item.Relative (relative_of u (signed (cond ago (not negative) negative) (decimal ds)))) []
  unfolding blank
  signed_item unit.Year few = long_signed unit.Year (year_word many) tt
  signed_item unit.Month few = long_signed unit.Month (month_word many) tt
  signed_item unit.Fortnight few = absurd few
  signed_item unit.Week few = long_signed unit.Week (week_word many) (weeks_fit (cond ago (not negative) negative) (decimal ds) small)
  signed_item unit.Day few = long_signed unit.Day (day_word many) tt
  signed_item unit.Hour few = long_signed unit.Hour (hour_word many) tt
  signed_item unit.Minute few = long_signed unit.Minute (minute_word many) tt
  signed_item unit.Second few =
      said (ap item.Relative (rounded_signed (cond ago (not negative) negative) (decimal ds)))
      (signed_seconds (second_unit many) (no_date_word unit.Second many) (way_read ago) (way_no_letter ago) (32 ∷ []) refl bs b n (omega arith) negative)

module _ (many ago : Bool) {ds : List ℕ} (n : Number ds) (short : length ds < 5) (small : decimal ds ≤ 300000000) (bs : List ℕ) (b : all blank bs ≡ true) where
  long_plain : (u : TimeUnit) {given : ℤ → Type 0} → LongUnit (word_of u ++ plural many) (relative_of u) given → given (signed (cond ago true false) (decimal ds)) → Reads parse_item (bs ++ (ds ++ count_text u many ago)) (item.Relative (relative_of u (signed (cond ago true false) (decimal ds)))) []
  unfolding blank signed
  long_plain u {given} l g =
      let q = turned_signed ago false (decimal ds) in
      let g' : given (turned ago (pos (decimal ds))) = rw q g in
      rw (← q) (number_and_unit (no_date_word u many) (way_read ago) (way_no_letter ago) (32 ∷ []) refl bs b l n (omega arith) (λ z. short_no_date ds short) g')

  plain_item : (u : TimeUnit) → Short u → Reads parse_item (bs ++ (ds ++ count_text u many ago)) (item.Relative (relative_of u (signed (cond ago true false) (decimal ds)))) []
  unfolding blank
  plain_item unit.Year few = long_plain unit.Year (year_word many) tt
  plain_item unit.Month few = long_plain unit.Month (month_word many) tt
  plain_item unit.Fortnight few = absurd few
  plain_item unit.Week few = long_plain unit.Week (week_word many) (weeks_fit (cond ago true false) (decimal ds) small)
  plain_item unit.Day few = long_plain unit.Day (day_word many) tt
  plain_item unit.Hour few = long_plain unit.Hour (hour_word many) tt
  plain_item unit.Minute few = long_plain unit.Minute (minute_word many) tt
  plain_item unit.Second few =
      said (ap item.Relative (rounded_signed (cond ago true false) (decimal ds)))
      (seconds (second_unit many) (no_date_word unit.Second many) (way_read ago) (way_no_letter ago) (32 ∷ []) refl bs b n (omega arith) (λ z. short_no_date ds short))

-- ---- no time behind a date

no_time_there : {l : List ℕ} → Fails iso_alone l → Fails parse-time l → Fails combined_time l
unfolding combined_time
no_time_there a b = record { fails = λ text at e. rw (a.fails text at e, b.fails text at e) }

signed_no_time : (negative : Bool) (l : List ℕ) → digit (head l) ≡ true → (d : Date) → Fails (parse_time_after_date d) (32 ∷ (sign_of negative ∷ l))
unfolding blank
signed_no_time true l h d = no_time_behind d (32 ∷ []) (45 ∷ l) refl (sign_still true h) (sign_no_digit true) refl
signed_no_time false l h d = no_time_behind d (32 ∷ []) (43 ∷ l) refl (sign_still false h) (sign_no_digit false) refl

plain_no_time : (many ago : Bool) {ds : List ℕ} → Number ds → (u : TimeUnit) (d : Date) → Fails (parse_time_after_date d) (32 ∷ (ds ++ count_text u many ago))
unfolding parse_time_after_date blank digit letter
plain_no_time many ago {ds} n u d =
    let (a, r) = halves (letter (head (word_of u ++ (plural many ++ way_of ago)))) _ (first_letter u (plural many ++ way_of ago)) in
    let (no_a, no_p) = halves (not (eqb (head (word_of u ++ (plural many ++ way_of ago))) 97)) _ r in
    let k : Spaces (count_text u many ago) (word_of u ++ (plural many ++ way_of ago)) = rw append_assoc (blanks (32 ∷ []) refl (letter_still a)) in
    let no : (c : ℕ) → letter c ≡ false → eqb (head (word_of u ++ (plural many ++ way_of ago))) c ≡ false = λ c f. other letter (head (word_of u ++ (plural many ++ way_of ago))) c a f in
    let s = still (number_still (count_text u many ago) n) in
    separator_read false (number_head _ n)
    ⟨ _ ⟩! at_once _ (no_time_there (hour_alone n s refl k (no 58 refl) (no 43 refl) (no 45 refl)) (number_no_time n s refl k (no 58 refl) (no 43 refl) (no 45 refl) (meridiem_else k (not-true _ no_a) (not-true _ no_p))))

-- ---- the functions

pub never : {A : Type 0} → false ≡ true → A
never e = let z : ◌≡◌ {A = ℕ} 0 1 = cc in absurd (clash z)

-- an `s` or none
pub plural_there : (s : List ℕ) (at b : ℕ) → at < length s → b ≡ lower (get_or s at 0) → b ≡ 115 → Plural (lowered s) at (at + 1)
unfolding bytes
plural_there s at b h e f = record { many = true; written = rest_cons s at h 115 (sym f ∙ e) }

pub plural_none : (text : List ℕ) (at : ℕ) → Plural text at at
plural_none text at = record { many = false; written = refl }

pub ago_written : (s : List ℕ) (at : ℕ) (r : Option ℕ) → at < length s → get_or s at 0 ≡ 32 → place_answer r ≡ tag (bytes "ago") (lowered s) (at + 1) → option_eq eqb r (Some (length s)) ≡ true → drop at (lowered s) ≡ way_of true
unfolding lower bytes
ago_written s at (Some n) h e f k =
    let z = eqb-true n (length s) k in
    mark s at 32 h e refl ∙ rw (read_word (bytes "ago") (lowered s) (at + 1) n f, rest_none s n (omega arith))
ago_written s at None h e f k = never k

-- the name of a unit
pub unit_answer : (u : TimeUnit) → Short u → (text : List ℕ) (at n : ℕ) → matched tt n ≡ tag (word_of u) text at → UnitAt text at (Some (u, n))
unit_answer u few text at n e = (few, read_word (word_of u) text at n e)

-- units that are read, with their names in front
unfoldable pub Table : List (Bor (List ℕ) × TimeUnit) → Type 0
Table es = AllByRecursion (λ e. Short e.1 × (e.0.now ≡ word_of e.1)) es

pub entry_answer : (es : List (Bor (List ℕ) × TimeUnit)) (i : ℕ) (d : Bor (List ℕ) × TimeUnit) → Table es → i < length es → (text : List ℕ) (at n : ℕ) → matched tt n ≡ tag (get_or es i d).0.now text at → UnitAt text at (Some ((get_or es i d).1, n))
unfolding Table
entry_answer es i d every h text at n e =
    let entry = All-from_recursion (λ e. Short e.1 × (e.0.now ≡ word_of e.1)) es every i d h in
    unit_answer (get_or es i d).1 entry.0 text at n (rw (← entry.1) e)

-- a blank, a unit and its direction; the code answers as `times` does for the number with its sign
pub counted : (s : List ℕ) (at end n v : ℕ) (u : TimeUnit) (negative ago : Bool) → v ≤ 300000000 → at < length s → get_or s at 0 ≡ 32 → UnitAt (lowered s) (at + 1) (Some (u, end)) → Plural (lowered s) end n → drop n (lowered s) ≡ way_of ago
    → {k : ℤ} → k ≡ signed (cond ago (not negative) negative) v → (r : Option Relative) → ((text : List ℕ) (place : ℕ) → found_at place r ≡ times u k text place) → CountAt (lowered s) at negative v r
unfolding lower
counted s at end n v u negative ago small h b name p e {k} g (Some w) f =
    record { small = small; unit = u; short = name.0; many = p.many; ago = ago; written = mark s at 32 h b refl ∙ rw (name.1, p.written, e); amount = rw (← g) (amount_of u _ w (f [] 0)) }
counted s at end n v u negative ago small h b name p e g None f = tt

-- where the digits begin
pub behind_sign : (b at : ℕ) (negative : Bool) → b ≡ sign_of negative → BehindSign b at (at + 1)
behind_sign b at true e = inr (refl, rw e)
behind_sign b at false e = inr (refl, rw e)

pub no_minus : (b at : ℕ) → (b ≡ 45 → ⊥) → BehindSign b at at
no_minus b at e = inl (refl, ne_eqb b 45 e)

-- the digits that were read there
pub number_there : (s : List ℕ) (at start v n : ℕ) → at < length s → BehindSign (get_or s at 0) at start → matched v n ≡ dec_uint 4294967295 (lowered s) start → Digits (lowered s) start n v
number_there s at start v n h (inl (e, f)) = read_row _ _ _ _ (rw length_lowered (omega arith))
number_there s at start v n h (inr (e, f)) = read_row _ _ _ _ (rw length_lowered (omega arith))

-- a number behind a sign, and one without a sign
module _ (s : List ℕ) (at v n : ℕ) (h : at < length s) where
  there : at < length (lowered s)
  there = rw (length_lowered s) h

  signed_answer : (negative : Bool) → get_or s at 0 ≡ sign_of negative → Digits (lowered s) (at + 1) n v → (r : Option Relative) → CountAt (lowered s) n negative v r → ShiftAt (lowered s) at r
  signed_answer negative e d (Some got) c =
      let w : drop at (lowered s) ≡ sign_of negative ∷ (slice (at + 1) n (lowered s) ++ count_text c.unit c.many c.ago) =
      mark s at (sign_of negative) h e (sign_lower negative) ∙ rw (part (lowered s) (at + 1) n d.forward, c.written, append_assoc) in
      let small : decimal (slice (at + 1) n (lowered s)) ≤ 300000000 = rw d.value c.small in
      record {
        still = rw w (sign_still negative (number_head _ d.number));
        there = there;
        reads = λ bs b. rw (w, c.amount, ← d.value) (signed_item c.many c.ago negative d.number small bs b c.unit c.short);
        no_time = rw w (signed_no_time negative _ (number_head _ d.number));
      }
  signed_answer negative e d None c = tt

  plain_answer : Digits (lowered s) at n v → n - at ≤ 4 → (r : Option Relative) → CountAt (lowered s) n false v r → ShiftAt (lowered s) at r
  plain_answer d four (Some got) c =
      let w : drop at (lowered s) ≡ slice at n (lowered s) ++ count_text c.unit c.many c.ago = part (lowered s) at n d.forward ∙ rw (c.written, append_assoc) in
      let small : decimal (slice at n (lowered s)) ≤ 300000000 = rw d.value c.small in
      let size = length-slice at n (lowered s) d.within in
      record {
        still = rw w (number_still _ d.number);
        there = there;
        reads = λ bs b. rw (w, c.amount, ← d.value) (plain_item c.many c.ago d.number (omega arith) small bs b c.unit c.short);
        no_time = rw w (plain_no_time c.many c.ago d.number c.unit);
      }
  plain_answer d four None c = tt

  pub shift_answer : (start : ℕ) → BehindSign (get_or s at 0) at start → Digits (lowered s) start n v → (start ≡ at → n - at ≤ 4) → (r : Option Relative) → CountAt (lowered s) n (eqb (get_or s at 0) 45) v r → ShiftAt (lowered s) at r
  shift_answer start (inl (e, f)) d four r c = plain_answer (rw e at d) (four e) r (rw f at c)
  shift_answer start (inr (e, f)) d four r c = signed_answer (eqb (get_or s at 0) 45) f (rw e at d) r c
