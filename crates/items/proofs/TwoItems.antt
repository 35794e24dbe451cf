-- A written moment and a number of seconds behind it: `2024-03-13 09:30:00.000000000+00:00 -5 seconds` is read as exactly these two items,
-- and the moment alone as one. The numbers are any rows of digits whose values are in range. Assumes nothing.
use Rattle.std.specs.Prelude.{Some}
use native.Mathlib.Omega.{arith}
use borrow.Author.Tests.{leb-true, lt-leb, ne_eqb}
use Prim.Native.Nat.{ℕ, suc, ◌^◌, ◌<◌}
use mathlib.Core.Path.{◌≡◌, refl, ap}
use mathlib.Core.List.{List, [], ◌∷◌, ◌++◌, append_assoc}
use mathlib.Core.Bool.{Bool, true, false}
use lib.ListN.{length, length-append}
use lib.Dec.{leb, eqb}
use Rattle.primitive.specs.Text.{lower, lowered, bytes, blank, digit, letter}
use Rattle.primitive.specs.Primitive.{decimal, same}
use Rattle.primitive.specs.Epoch.{zero_filled, nanoseconds, lost}
use Rattle.primitive.specs.Ordinal.{signed}
use Rattle.dates.specs.Date.{months}
use Rattle.dates.specs.Year.{widened_by, widened}
use Rattle.times.specs.Offset.{in_range}
use Rattle.times.specs.Time.{iso}
use Rattle.times.specs.declared.time.Time.{Time}
use Rattle.relative.specs.Relative.{rounded}
use Rattle.relative.specs.declared.Relative.TheVariants.{Seconds}
use Rattle.items.specs.Combined.{starts_with_meridiem}
use Rattle.items.specs.Items.{iso_date, parse_item, ended, parse_items}
use Rattle.items.specs.declared.Item.{Item}
use Rattle.items.specs.declared.Item.TheVariants as item
use Rattle.primitive.proofs.Walk.{Reads, Fails, Spaces, first, said}
use Rattle.primitive.proofs.Leaves.{head, plain, number_head, number_still, still, blanks, sign_of, fractional_read}
use Rattle.primitive.proofs.Rows.{all, halves, Number}
use Rattle.primitive.proofs.Leaves.{sign_still}
use Rattle.primitive.proofs.WordTables.{lacks}
use Rattle.relative.proofs.Forms.{no_direction, second_unit}
use Rattle.times.proofs.Forms.{iso_read, second_read, correction_given, colon_correction_read, sign_no_digit}
use Rattle.dates.proofs.Forms.{Year, in_year, iso1_read}
use Rattle.items.proofs.DateTimes.{no_meridiem, iso_time, combined_item}
use Rattle.items.proofs.Lists.{Lists, no_more_items, one_item}
use Rattle.items.proofs.RelativeItems.{tested, other_word, signed_seconds}

-- ---- a moment: its digits, what is asked of them, its text and its item

pub record Digits : Type 0 where
  pub year : List ℕ
  pub month : List ℕ
  pub day : List ℕ
  pub hour : List ℕ
  pub minute : List ℕ
  pub second : List ℕ
  pub fraction : List ℕ
  pub negative : Bool
  pub zone_hours : List ℕ
  pub zone_minutes : List ℕ

pub record Sound (r : Digits) : Type 0 where
  pub year : Year r.year (decimal r.month) (decimal r.day)
  pub month : Number r.month
  pub day : Number r.day
  pub hour : Number r.hour
  pub minute : Number r.minute
  pub second : Number r.second
  pub fraction : Number r.fraction
  pub fraction_kept : lost r.fraction ≡ false
  pub zone_hours : Number r.zone_hours
  pub zone_minutes : Number r.zone_minutes
  pub hour_small : decimal r.hour < 24
  pub minute_small : decimal r.minute < 60
  pub second_small : decimal r.second < 60
  pub zone : in_range (decimal r.zone_hours) (decimal r.zone_minutes) ≡ true

-- `-` is 45, `:` is 58 and `.` is 46
abbrev pub clock_text : Digits → List ℕ → List ℕ
clock_text r rest = r.hour ++ (58 ∷ (r.minute ++ (58 ∷ (r.second ++ (46 ∷ (r.fraction ++ (sign_of r.negative ∷ (r.zone_hours ++ (58 ∷ (r.zone_minutes ++ rest))))))))))

abbrev pub moment_text : Digits → List ℕ → List ℕ
moment_text r rest = r.year ++ (45 ∷ (r.month ++ (45 ∷ (r.day ++ (32 ∷ clock_text r rest)))))

abbrev pub time_of : Digits → Time
time_of r = record {
  hour = decimal r.hour;
  minute = decimal r.minute;
  second = decimal r.second;
  nanosecond = nanoseconds r.fraction;
  offset = Some (record { negative = r.negative; hours = decimal r.zone_hours; minutes = decimal r.zone_minutes });
}

abbrev pub moment_item : Digits → Item
moment_item r = item.DateTime (record { date = in_year r.year (decimal r.month) (decimal r.day); time = time_of r })

-- a year of three digits or more is its number, nine digits of a fraction are theirs
pub long_year : (ys : List ℕ) → 2 < length ys → widened ys ≡ decimal ys
unfolding widened_by
long_year ys h = rw (ne_eqb (length ys) 2 (λ z. omega arith))

padded_all : (ds : List ℕ) → zero_filled (length ds) ds ≡ ds
unfolding zero_filled
padded_all [] = refl
padded_all (d ∷ ds) = ap (λ l. d ∷ l) (padded_all ds)

pub nine_digits : (fs : List ℕ) → length fs ≡ 9 → nanoseconds fs ≡ decimal fs
unfolding nanoseconds
nine_digits fs h = rw (← h, padded_all fs)

module _ (r : Digits) (a : Sound r) {rest : List ℕ} (d : digit (head rest) ≡ false) where
  time_read : Reads iso (clock_text r rest) (time_of r) rest
  unfolding digit
  time_read =
      iso_read (still (number_still _ a.hour)) a.hour a.minute a.hour_small a.minute_small refl
      (second_read (number_head _ a.second) (fractional_read false a.second (omega arith) a.fraction a.fraction_kept (sign_no_digit r.negative)) a.second_small)
      (correction_given (colon_correction_read r.negative (still (sign_still r.negative (number_head _ a.zone_hours))) a.zone_hours a.zone_minutes d a.zone))

  -- The moment is one item, where behind it stands no digit, and behind blanks neither am nor pm.
  pub moment_item_lem : Fails starts_with_meridiem rest → Reads parse_item (moment_text r rest) (moment_item r) rest
  unfolding iso_date digit
  moment_item_lem m = combined_item false (first _ (iso1_read (still (number_still _ a.year.number)) a.month a.day a.year refl)) (number_head _ a.hour) (iso_time time_read m)

-- ---- a number of seconds

abbrev pub shift_text : Bool → List ℕ → List ℕ
shift_text negative ns = 32 ∷ (sign_of negative ∷ (ns ++ (32 ∷ bytes "seconds")))

pub rounded_signed : (negative : Bool) (n : ℕ) → rounded negative (record { sec = n; nsec = 0 }) ≡ Seconds (signed negative n) 0
unfolding rounded signed
rounded_signed true n = refl
rounded_signed false n = refl

-- a fact of both signs
sign_fact : (p : ℕ → Bool) → p 43 ≡ false → p 45 ≡ false → (negative : Bool) → p (sign_of negative) ≡ false
sign_fact p f g true = g
sign_fact p f g false = f

module _ (negative : Bool) {ns : List ℕ} (n : Number ns) (small : decimal ns < 2 ^ 63) where
  pub shift_space : Spaces (shift_text negative ns) (sign_of negative ∷ (ns ++ (32 ∷ bytes "seconds")))
  unfolding blank
  shift_space = blanks (32 ∷ []) refl (sign_still negative (number_head _ n))

  pub shift_item : Reads parse_item (shift_text negative ns) (item.Relative (Seconds (signed negative (decimal ns)) 0)) []
  unfolding tested lacks months same bytes letter blank
  shift_item =
      said (ap item.Relative (rounded_signed negative (decimal ns)))
      (signed_seconds (second_unit true) (other_word (bytes "seconds") refl) (no_direction (still (plain refl)) refl refl) refl (32 ∷ []) refl (32 ∷ []) refl n small negative)

-- ---- the two theorems

module _ (r : Digits) (a : Sound r) where
  moment_first : {k : ℕ} {rest : List ℕ} {ys : List Item} → digit (head rest) ≡ false → Fails starts_with_meridiem rest → Lists k (moment_item r ∷ []) rest ys → Lists (suc k) [] (moment_text r rest) ys
  moment_first d m l =
      let long = a.year.number.long in
      one_item (still (number_still _ a.year.number)) (simp length-append (omega arith)) (moment_item_lem r a d m) l

  -- The moment alone is one item.
  pub one_item_text : parse_items (moment_text r []) ≡ ended (moment_item r ∷ []) 0 0
  unfolding parse_items digit blank
  one_item_text = (moment_first refl (no_meridiem [] [] refl refl refl refl) (no_more_items (still (plain refl)))).lists _ 0 refl

  -- The moment and a number of seconds, up to 9223372036854775807 either way, are two.
  pub two_items_text : (negative : Bool) {ns : List ℕ} → Number ns → decimal ns < 2 ^ 63 → parse_items (moment_text r [] ++ shift_text negative ns) ≡ ended (moment_item r ∷ item.Relative (Seconds (signed negative (decimal ns)) 0) ∷ []) 0 0
  unfolding parse_items digit blank
  two_items_text negative {ns} n small =
      simp append_assoc
      ((moment_first refl (no_meridiem (32 ∷ []) _ refl (sign_fact blank refl refl negative) (sign_fact (λ b. eqb b 97) refl refl negative) (sign_fact (λ b. eqb b 112) refl refl negative))
      (one_item (shift_space negative n small) (omega arith) (shift_item negative n small) (no_more_items (still (plain refl))))).lists _ 0 refl)

-- ---- the texts in lower case

-- a text that is its own lower case
data Lower : List ℕ → Type 0 where
  end : Lower []
  then : {b : ℕ} {bs : List ℕ} → lower b ≡ b → Lower bs → Lower (b ∷ bs)

lowered_same : {l : List ℕ} → Lower l → lowered l ≡ l
unfolding lowered
lowered_same end = refl
lowered_same (then {b} h k) = rw (h, lowered_same k)

digits_then : (ds : List ℕ) {l : List ℕ} → all digit ds ≡ true → Lower l → Lower (ds ++ l)
unfolding digit lower
digits_then [] h k = k
digits_then (b ∷ bs) h k =
    let t = halves (digit b) (all digit bs) h in
    let m = leb-true b 57 (halves (leb 48 b) (leb b 57) t.0).1 in
    let e : lower b ≡ b = rw (lt-leb 65 b (omega arith)) in
    then e (digits_then bs t.1 k)

pub sign_lower : (negative : Bool) → lower (sign_of negative) ≡ sign_of negative
unfolding lower
sign_lower true = refl
sign_lower false = refl

module _ (r : Digits) (a : Sound r) where
  clock_lower : {l : List ℕ} → Lower l → Lower (clock_text r l)
  unfolding lower
  clock_lower k =
      digits_then r.hour a.hour.digits (then refl (digits_then r.minute a.minute.digits (then refl (digits_then r.second a.second.digits (then refl (digits_then r.fraction a.fraction.digits
      (then (sign_lower r.negative) (digits_then r.zone_hours a.zone_hours.digits (then refl (digits_then r.zone_minutes a.zone_minutes.digits k))))))))))

  moment_lower : {l : List ℕ} → Lower l → Lower (moment_text r l)
  unfolding lower
  moment_lower k = digits_then r.year a.year.number.digits (then refl (digits_then r.month a.month.digits (then refl (digits_then r.day a.day.digits (then refl (clock_lower k))))))

shift_lower : (negative : Bool) {ns : List ℕ} → Number ns → Lower (shift_text negative ns)
unfolding lower bytes
shift_lower negative {ns} n = then refl (then (sign_lower negative) (digits_then ns n.digits (then refl (then refl (then refl (then refl (then refl (then refl (then refl (then refl end))))))))))

-- Readers see these texts as they are.
module _ (r : Digits) (a : Sound r) where
  pub moment_lowered : lowered (moment_text r []) ≡ moment_text r []
  moment_lowered = lowered_same (moment_lower r a end)

  pub both_lowered : (negative : Bool) {ns : List ℕ} → Number ns → lowered (moment_text r [] ++ shift_text negative ns) ≡ moment_text r [] ++ shift_text negative ns
  both_lowered negative n = simp append_assoc (lowered_same (moment_lower r a (shift_lower negative n)))
