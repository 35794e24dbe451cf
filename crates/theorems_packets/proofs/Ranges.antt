-- Every item of a text is one that a packet holds. Assumes nothing.
use Rattle.std.specs.Prelude.{Option, Some, None, cond}
use native.Mathlib.Omega.{arith}
use Prim.Native.Nat.{ℕ, zero, suc, ◌+◌, ◌-◌, ◌/◌, ◌%◌, ◌^◌, ◌<◌, ◌≤◌}
use mathlib.Core.Path.{◌≡◌, refl}
use mathlib.Core.Bool.{Bool, true, false, not}
use mathlib.Core.List.{List, [], ◌∷◌, ◌++◌}
use lib.Dec.{ltb, leb, eqb}
use lib.ListN.{length, take, drop}
use lib.Seq.{slice}
use lib.IntN.{ℤ, pos, negsuc, neg_ℤ, nat_abs, ◌*ℤ◌}
use lib.Signed.{mag}
use borrow.Author.Tests.{lt-ltb, ltb-true, le-leb, leb-true, eqb-false}
use Rattle.integers.specs.Integers.{in_i32, in_i64}
use Rattle.primitive.specs.Answer.{Answer, Reader, matched, dropped, none, stop, optional}
use Rattle.primitive.specs.Text.{byte}
use Rattle.primitive.specs.Primitive.{space, spaced, decimal, parse_uint, dec_uint, dec_uint_str, colon, sign, plus_or_minus, alpha1, named}
use Rattle.primitive.specs.Epoch.{sec_and_nsec}
use Rattle.primitive.specs.Ordinal.{signed, ordinals, text_ordinal, signed_number, number_ordinal, ordinal}
use Rattle.primitive.specs.declared.SecAndNsec.{SecAndNsec}
use Rattle.primitive.proofs.Limits.{Fraction, nsec_below}
use Rattle.primitive.proofs.Rows.{halves, both}
use Rattle.dates.specs.Year.{widened, year_from_str, year_str}
use Rattle.dates.specs.Date.{date_of, exists, with_year, without_year, WrittenYear, written, unwritten, dated, ended_year, dated_behind, nothing, hyphen, comma, dotted, iso1, five_digits, iso2, us_date, slash_part, us_rest, us, literal_month, literal1, literal2, literal3, literal, parse_non_iso}
use Rattle.dates.specs.declared.date.Date.{Date}
use Rattle.relative.specs.Relative.{direction, rounded, second_word, signed_seconds, seconds, days, units, stripped, in_unit, displaced, displacement}
use Rattle.relative.specs.Relative.{parse as relative-parse}
use Rattle.relative.specs.declared.Relative.{Relative}
use Rattle.relative.specs.declared.Relative.TheVariants as relative
use Rattle.times.specs.Offset as offset-range
use Rattle.times.specs.Offset.{offset_of, timezone_offset_colon, digits_offset, timezone_offset_colonless, any_offset, signed_fraction, time_zone_correction, timezone_offset}
use Rattle.times.specs.Time.{below, hour24, hour12, minute, second, optional_second, optional_minute, optional_correction, hour_offset, clock, iso, meridiem, am_pm_time, parse}
use Rattle.times.specs.declared.offset.Offset.{Offset}
use Rattle.times.specs.declared.time.Time.{Time}
use Rattle.theorems_packets.proofs.Gives.{Gives, then_gives, after, next, unless_gives, or_gives, pure_gives, optional_gives, verify_gives, certain_gives, if_gives, spaced_gives, attempt_gives, known, of_match, no_more, one_more, named_gives}
use Rattle.items.specs.Combined.{separator, starts_with_meridiem, unless_meridiem, iso_alone, combined_time, parse_time_after_date}
use Rattle.items.specs.Items.{date_time_item, dated_item, iso_date, iso_item, date_item, time_item, relative_item, time_or_relative, other_item, parse_item, ended, further, kept, items_from, parse_items}
use Rattle.items.specs.declared.combined.DateTime.{DateTime}
use Rattle.items.specs.declared.Item.{Item}
use Rattle.items.specs.declared.Item.TheVariants as item
use Rattle.packet_fields.specs.Fields.{twos_complement, date_in_range, offset_in_range, time_in_range, in_range, year_field, with_date, with_time, counted, of_relative, fields_of, digits_used}
use Rattle.theorems_packets.specs.Writing.{amount, amounts}
use Rattle.theorems_packets.specs.Packets.{Held, placed, Holds, InOrder}
use Rattle.theorems_packets.proofs.Back.{wide}

-- ---- dates

abbrev GoodDate : Date → Type 0
GoodDate d = date_in_range d.year d.month d.day ≡ true

with_year_gives : (w : List ℕ) (m d : ℕ) → Gives GoodDate (with_year w m d)
unfolding with_year year_from_str date_in_range
with_year_gives w m d = then_gives GoodDate (λ y. leb y 2147485547 ≡ true) (year_from_str w) _ (verify_gives (λ y. leb y 2147485547 ≡ true) (leb (widened w) 2147485547) (widened w) (λ e. e)) (λ y h. verify_gives GoodDate (exists y m d) (date_of (Some y) m d) (λ e. both h e))

without_year_gives : (m d : ℕ) → Gives GoodDate (without_year m d)
unfolding without_year date_in_range
without_year_gives m d = verify_gives GoodDate (exists 2000 m d) (date_of None m d) (λ e. e)

dated_gives : (y : WrittenYear) (m d : ℕ) → Gives GoodDate (dated y m d)
unfolding dated
dated_gives (written w) m d = with_year_gives w m d
dated_gives unwritten m d = without_year_gives m d

dated_behind_gives : (p : Reader (Unit {0})) (m d : ℕ) → Gives GoodDate (dated_behind p m d)
unfolding dated_behind
dated_behind_gives p m d = after GoodDate (ended_year p) _ (λ y. dated_gives y m d)

-- a number of one byte behind space, and a byte behind space
small : Reader ℕ
small = spaced (dec_uint 255)

mark : ℕ → Reader (Unit {0})
mark b = spaced (byte b)

dotted_gives : Gives GoodDate dotted
unfolding dotted small mark
dotted_gives = after GoodDate small _ (λ d. next GoodDate (mark 46) _ (after GoodDate small _ (λ m. next GoodDate (mark 46) _ (dated_behind_gives nothing m d))))

iso1_gives : Gives GoodDate iso1
unfolding iso1 small mark
iso1_gives = after GoodDate year_str _ (λ w. next GoodDate (mark 45) _ (after GoodDate small _ (λ m. next GoodDate (mark 45) _ (after GoodDate small _ (λ d. with_year_gives w m d)))))

iso2_gives : Gives GoodDate iso2
unfolding iso2
iso2_gives =
    after GoodDate dec_uint_str _
    (λ w. next GoodDate (five_digits w) _
    (after GoodDate (parse_uint 255 (slice (length w - 4) (length w - 2) w)) _ (λ m. after GoodDate (parse_uint 255 (drop (length w - 2) w)) _ (λ d. with_year_gives (take (length w - 4) w) m d))))

us_date_gives : (w : List ℕ) (n : ℕ) (v : WrittenYear) → Gives GoodDate (us_date w n v)
unfolding us_date
us_date_gives w n (written v) =
    if_gives GoodDate (leb 4 (length w)) _ _ (after GoodDate (parse_uint 255 v) _ (λ d. with_year_gives w n d)) (after GoodDate (parse_uint 255 w) _ (λ m. with_year_gives v m n))
us_date_gives w n unwritten = after GoodDate (parse_uint 255 w) _ (λ m. without_year_gives m n)

us_gives : Gives GoodDate us
unfolding us us_rest small mark
us_gives = after GoodDate year_str _ (λ w. next GoodDate (mark 47) _ (after GoodDate small _ (λ n. after GoodDate slash_part _ (λ v. us_date_gives w n v))))

literal_gives : Gives GoodDate literal
unfolding literal literal1 literal2 literal3 small mark
literal_gives =
    or_gives GoodDate _ _ (after GoodDate small _ (λ d. next GoodDate hyphen _ (after GoodDate (spaced literal_month) _ (λ m. dated_behind_gives hyphen m d))))
    (or_gives GoodDate _ _ (after GoodDate (spaced literal_month) _ (λ m. after GoodDate small _ (λ d. dated_behind_gives comma m d)))
    (after GoodDate (spaced literal_month) _ (λ m. next GoodDate (mark 45) _ (after GoodDate small _ (λ d. next GoodDate (mark 45) _ (after GoodDate year_str _ (λ w. with_year_gives w m d)))))))

non_iso_gives : Gives GoodDate parse_non_iso
unfolding parse_non_iso
non_iso_gives = or_gives GoodDate _ _ dotted_gives (or_gives GoodDate _ _ us_gives literal_gives)

-- ---- offsets and times

abbrev GoodOffset : Offset → Type 0
GoodOffset o = offset-range.in_range o.hours o.minutes ≡ true

offset_of_gives : (negative : Bool) (h m : ℕ) → Gives GoodOffset (offset_of negative h m)
unfolding offset_of
offset_of_gives negative h m = certain_gives GoodOffset (offset-range.in_range h m) _ (λ e. e)

any_offset_gives : Gives GoodOffset any_offset
unfolding any_offset timezone_offset_colon timezone_offset_colonless digits_offset small
any_offset_gives =
    or_gives GoodOffset _ _
    (after GoodOffset plus_or_minus _ (λ s. after GoodOffset small _ (λ h. next GoodOffset (spaced colon) _ (after GoodOffset small _ (λ m. offset_of_gives s h m)))))
    (after GoodOffset plus_or_minus _ (λ s. after GoodOffset (spaced dec_uint_str) _ (λ w. after GoodOffset (parse_uint 9999 w) _
    (λ n. if_gives GoodOffset (leb (length w) 2) _ _ (offset_of_gives s n 0) (offset_of_gives s (n / 100) (n % 100))))))

abbrev GoodTime : Time → Type 0
GoodTime t = time_in_range t ≡ true

abbrev Below : ℕ → ℕ → Type 0
Below k v = ltb v k ≡ true

abbrev GoodSecond : SecAndNsec ℕ → Type 0
GoodSecond v = (ltb v.sec 60 ≡ true) × (v.nsec < 1000000000)

below_gives : (k : ℕ) → Gives (Below k) (below k)
unfolding below small
below_gives k = after (Below k) small _ (λ v. verify_gives (Below k) (ltb v k) v (λ e. e))

nsec_gives : Gives Fraction sec_and_nsec
nsec_gives = known Fraction sec_and_nsec nsec_below

second_gives : Gives GoodSecond second
unfolding second
second_gives =
    then_gives GoodSecond Fraction (spaced sec_and_nsec) _ (spaced_gives Fraction sec_and_nsec nsec_gives)
    (λ v h. verify_gives GoodSecond (ltb v.sec 60) _ (λ e. (e, h)))

optional_second_gives : Gives GoodSecond optional_second
unfolding optional_second
optional_second_gives = optional_gives GoodSecond _ _ (refl, omega arith) (next GoodSecond colon _ second_gives)

optional_minute_gives : Gives (Below 60) optional_minute
unfolding optional_minute minute
optional_minute_gives = optional_gives (Below 60) _ _ refl (next (Below 60) colon _ (below_gives 60))

optional_correction_gives : Gives (λ o. offset_in_range o ≡ true) optional_correction
unfolding optional_correction time_zone_correction offset_in_range
optional_correction_gives =
    optional_gives (λ o. offset_in_range o ≡ true) _ _ refl
    (then_gives (λ o. offset_in_range o ≡ true) GoodOffset time_zone_correction _ (unless_gives GoodOffset signed_fraction any_offset any_offset_gives) (λ o h. pure_gives (λ o. offset_in_range o ≡ true) (Some o) h))

good_time : (h m : ℕ) (v : SecAndNsec ℕ) (o : Option Offset) → Below 24 h → Below 60 m → GoodSecond v → offset_in_range o ≡ true → GoodTime (record { hour = h; minute = m; second = v.sec; nanosecond = v.nsec; offset = o })
unfolding time_in_range
good_time h m v o a b c d =
    both (le-leb h 23 (omega (arith, ltb-true h 24 a))) (both (le-leb m 59 (omega (arith, ltb-true m 60 b))) (both (le-leb v.sec 59 (omega (arith, ltb-true v.sec 60 c.0))) (both (le-leb v.nsec 999999999 (omega (arith, c.1))) d)))

iso_gives : Gives GoodTime iso
unfolding iso hour_offset clock hour24 minute timezone_offset offset_in_range
iso_gives =
    or_gives GoodTime _ _
    (then_gives GoodTime (Below 24) (below 24) _ (below_gives 24)
    (λ h a. then_gives GoodTime GoodOffset timezone_offset _ (unless_gives GoodOffset relative-parse any_offset any_offset_gives)
    (λ o b. pure_gives GoodTime _ (good_time h 0 (record { sec = 0; nsec = 0 }) (Some o) a refl (refl, omega arith) b))))
    (then_gives GoodTime (Below 24) (below 24) _ (below_gives 24)
    (λ h a. next GoodTime colon _
    (then_gives GoodTime (Below 60) (below 60) _ (below_gives 60)
    (λ m b. then_gives GoodTime GoodSecond optional_second _ optional_second_gives
    (λ v c. then_gives GoodTime (λ o. offset_in_range o ≡ true) optional_correction _ optional_correction_gives (λ o d. pure_gives GoodTime _ (good_time h m v o a b c d)))))))

twelve : (h : ℕ) (pm : Bool) → ltb (h % 12 + cond pm 12 0) 24 ≡ true
twelve h true = lt-ltb (h % 12 + 12) 24 (omega arith)
twelve h false = lt-ltb (h % 12 + 0) 24 (omega arith)

time_gives : Gives GoodTime parse
unfolding parse am_pm_time hour12 offset_in_range
time_gives =
    or_gives GoodTime _ _
    (after GoodTime (below 13) _
    (λ h. then_gives GoodTime (Below 60) optional_minute _ optional_minute_gives
    (λ m b. then_gives GoodTime GoodSecond optional_second _ optional_second_gives
    (λ v c. after GoodTime meridiem _ (λ pm. certain_gives GoodTime (ltb 0 h) _ (λ e. good_time (h % 12 + cond pm 12 0) m v None (twelve h pm) b c refl))))))
    iso_gives

-- ---- relative items

-- an item that a packet holds in front of any digit, and that uses none; its nanoseconds are below a second
pub record Plain (x : Item) : Type 0 where
  pub holds : Holds 0 x
  pub none_used : digits_used x ≡ 0
  pub below_second : (fields_of x).nanosecond < 1000000000

abbrev GoodRelative : Relative → Type 0
GoodRelative r = Plain (item.Relative r)

pub unsigned_low : (z : ℤ) → in_i64 z ≡ true → twos_complement z < 18446744073709551616
unfolding twos_complement
unsigned_low (pos n) h = omega (arith, ltb-true n 9223372036854775808 h)
unsigned_low (negsuc n) h = omega arith

counted_held : (u k : ℕ) (z : ℤ) → in_i64 z ≡ true → k < 4294967296 → Held (counted 7 u (twos_complement z) k)
counted_held u k z h l = record { year = omega arith; nanosecond = l; length = omega arith; amount = unsigned_low z h }

module _ (z : ℤ) (h : in_i32 z ≡ true) where
  held : (u : ℕ) → Held (counted 7 u (twos_complement z) 0)
  held u = counted_held u 0 z (wide z h) (omega arith)

  unit_good : {r : Relative} (u : ℕ) → of_relative r ≡ counted 7 u (twos_complement z) 0 → amount r ≡ in_i32 z → GoodRelative r
  unfolding in_range amounts fields_of placed
  unit_good u e a = record { holds = record { range = refl; sums = rw a h; fits = rw e (held u); begins = tt }; none_used = refl; below_second = rw e (omega arith) }

some_seconds : (z : ℤ) (k : ℕ) → in_i64 z ≡ true → k < 1000000000 → GoodRelative (relative.Seconds z k)
unfolding in_range amounts amount fields_of of_relative placed
some_seconds z k h l = record { holds = record { range = refl; sums = h; fits = counted_held 6 k z h (omega arith); begins = tt }; none_used = refl; below_second = l }

-- a number and its negative are both an i32's
abbrev Small : ℤ → Type 0
Small z = nat_abs z < 2147483648

small_in : (z : ℤ) → Small z → in_i32 z ≡ true
small_in (pos n) h = le-leb n 2147483647 (omega arith)
small_in (negsuc n) h = rw (le-leb n 2147483647 (omega arith)) refl

small_turned : (t : Bool) (z : ℤ) → Small z → Small (cond t (neg_ℤ z) z)
small_turned false z h = h
small_turned true (pos zero) h = h
small_turned true (pos (suc n)) h = h
small_turned true (negsuc n) h = h

small_signed : (t : Bool) (n : ℕ) → leb n 2147483647 ≡ true → Small (signed t n)
unfolding signed
small_signed false n h = omega (arith, leb-true n 2147483647 h)
small_signed true zero h = omega arith
small_signed true (suc n) h = omega (arith, leb-true (suc n) 2147483647 h)

number_gives : (k : ℕ) → Gives (λ v. leb v k ≡ true) (dec_uint k)
unfolding dec_uint parse_uint
number_gives k = after (λ v. leb v k ≡ true) dec_uint_str _ (λ w. verify_gives (λ v. leb v k ≡ true) (leb (decimal w) k) (decimal w) (λ e. e))

ordinal_gives : Gives Small ordinal
unfolding ordinal text_ordinal number_ordinal signed_number ordinals
ordinal_gives =
    or_gives Small _ _
    (after Small (spaced alpha1) _
    (λ w. named_gives Small w _ (one_more (omega arith) (one_more (omega arith) (one_more (omega arith) (one_more (omega arith) (one_more (omega arith) (one_more (omega arith) (one_more (omega arith)
    (one_more (omega arith) (one_more (omega arith) (one_more (omega arith) (one_more (omega arith) (one_more (omega arith) (one_more (omega arith) (one_more (omega arith) no_more))))))))))))))))
    (after Small (spaced (optional false sign)) _
    (λ t. then_gives Small (λ v. leb v 2147483647 ≡ true) (spaced (dec_uint 2147483647)) _ (spaced_gives (λ v. leb v 2147483647 ≡ true) (dec_uint 2147483647) (number_gives 2147483647)) (λ n h. pure_gives Small _ (small_signed t n h))))

in_i32_lem : (z : ℤ) → ltb (mag z) 2147483648 ≡ true → in_i32 z ≡ true
in_i32_lem (pos n) h = le-leb n 2147483647 (omega (arith, ltb-true n 2147483648 h))
in_i32_lem (negsuc n) h = rw (le-leb n 2147483647 (omega (arith, ltb-true n 2147483648 h))) refl

days_gives : (k : ℕ) (z : ℤ) → Gives GoodRelative (days k z)
unfolding days of_relative amount
days_gives k z = verify_gives GoodRelative (ltb (mag (z *ℤ pos k)) (2 ^ 31)) _ (λ e. unit_good (z *ℤ pos k) (in_i32_lem (z *ℤ pos k) e) 3 refl refl)

abbrev GoodUnit : ℤ → (ℤ → Reader Relative) → Type 0
GoodUnit z f = Gives GoodRelative (f z)

in_unit_gives : (z : ℤ) (w : List ℕ) → Small z → Gives GoodRelative (in_unit z w)
unfolding in_unit units of_relative amount
in_unit_gives z w s =
    let h = small_in z s in
    then_gives GoodRelative (GoodUnit z) (named units (stripped w)) _
    (named_gives (GoodUnit z) (stripped w) units
    (one_more (pure_gives GoodRelative _ (unit_good z h 1 refl refl)) (one_more (pure_gives GoodRelative _ (unit_good z h 2 refl refl)) (one_more (days_gives 14 z) (one_more (days_gives 7 z)
    (one_more (pure_gives GoodRelative _ (unit_good z h 3 refl refl)) (one_more (pure_gives GoodRelative _ (unit_good z h 4 refl refl)) (one_more (pure_gives GoodRelative _ (unit_good z h 5 refl refl)) (one_more (pure_gives GoodRelative _ (unit_good z h 5 refl refl))
    (one_more (pure_gives GoodRelative _ (some_seconds z 0 (wide z h) (omega arith))) (one_more (pure_gives GoodRelative _ (some_seconds z 0 (wide z h) (omega arith))) no_more)))))))))))
    (λ f g. g)

below_zero_in : (n : ℕ) → n ≤ 9223372036854775808 → in_i64 (signed true n) ≡ true
unfolding signed
below_zero_in zero h = refl
below_zero_in (suc n) h = lt-ltb n 9223372036854775808 (omega arith)

rounded_good : (t : Bool) (v : SecAndNsec ℕ) → ltb v.sec (2 ^ 63) ≡ true → Fraction v → GoodRelative (rounded t v)
unfolding rounded
rounded_good false v e h = some_seconds (pos v.sec) v.nsec e (omega arith)
rounded_good true v e h = go (eqb v.nsec 0) refl
  where
    go : (t : Bool) → eqb v.nsec 0 ≡ t → GoodRelative (cond t (relative.Seconds (signed true v.sec) 0) (relative.Seconds (signed true (v.sec + 1)) (1000000000 - v.nsec)))
    go true k = some_seconds (signed true v.sec) 0 (below_zero_in v.sec (omega (arith, ltb-true v.sec 9223372036854775808 e))) (omega arith)
    go false k = some_seconds (signed true (v.sec + 1)) (1000000000 - v.nsec) (below_zero_in (v.sec + 1) (omega (arith, ltb-true v.sec 9223372036854775808 e))) (omega (arith, eqb-false v.nsec 0 k))

relative_gives : Gives GoodRelative relative-parse
unfolding relative-parse seconds signed_seconds displacement displaced
relative_gives =
    or_gives GoodRelative _ _
    (after GoodRelative (optional false plus_or_minus) _
    (λ n. then_gives GoodRelative Fraction (spaced sec_and_nsec) _ (spaced_gives Fraction sec_and_nsec nsec_gives)
    (λ v h. next GoodRelative second_word _ (after GoodRelative direction _ (λ ago. verify_gives GoodRelative (ltb v.sec (2 ^ 63)) _ (λ e. rounded_good (cond ago (not n) n) v e h))))))
    (then_gives GoodRelative Small (optional (pos 1) ordinal) _ (optional_gives Small (pos 1) ordinal (omega arith) ordinal_gives)
    (λ z h. after GoodRelative (spaced alpha1) _ (λ w. after GoodRelative direction _ (λ ago. in_unit_gives (cond ago (neg_ℤ z) z) w (small_turned ago z h)))))

-- ---- items

year_low : (y : Option ℕ) (m d : ℕ) → date_in_range y m d ≡ true → year_field y < 4294967296
unfolding date_in_range
year_low (Some y) m d h = omega (arith, leb-true y 2147485547 (halves (leb y 2147485547) (exists y m d) h).0)
year_low None m d h = omega arith

nanosecond_low : (t : Time) → GoodTime t → t.nanosecond < 1000000000
unfolding time_in_range
nanosecond_low t h =
    let a = halves (leb t.hour 23) _ h in
    let b = halves (leb t.minute 59) _ a.1 in
    let c = halves (leb t.second 59) _ b.1 in
    let d = halves (leb t.nanosecond 999999999) _ c.1 in
    omega (arith, leb-true t.nanosecond 999999999 d.0)

plain_date : (d : Date) → GoodDate d → Plain (item.Date d)
unfolding in_range amounts fields_of with_date placed
plain_date d h =
    record { holds = record { range = h; sums = refl; fits = record { year = year_low d.year d.month d.day h; nanosecond = omega arith; length = omega arith; amount = omega arith }; begins = tt }; none_used = refl; below_second = omega arith }

plain_time : (t : Time) → GoodTime t → Plain (item.Time t)
unfolding in_range amounts fields_of with_time placed
plain_time t h =
    let l = nanosecond_low t h in
    record { holds = record { range = h; sums = refl; fits = record { year = omega arith; nanosecond = omega arith; length = omega arith; amount = omega arith }; begins = tt }; none_used = refl; below_second = l }

plain_both : (d : Date) (t : Time) → GoodDate d → GoodTime t → Plain (item.DateTime (record { date = d; time = t }))
unfolding in_range amounts fields_of with_time with_date placed
plain_both d t h k =
    let l = nanosecond_low t k in
    record { holds = record { range = both h k; sums = refl; fits = record { year = year_low d.year d.month d.day h; nanosecond = omega arith; length = omega arith; amount = omega arith }; begins = tt }; none_used = refl; below_second = l }

abbrev GoodBoth : DateTime → Type 0
GoodBoth v = Plain (item.DateTime v)

after_date_gives : (d : Date) → GoodDate d → Gives GoodBoth (parse_time_after_date d)
unfolding parse_time_after_date combined_time iso_alone unless_meridiem
after_date_gives d h =
    next GoodBoth separator _
    (then_gives GoodBoth GoodTime combined_time _
    (or_gives GoodTime _ _ (attempt_gives GoodTime _ (then_gives GoodTime GoodTime iso _ iso_gives (λ t k. unless_gives GoodTime starts_with_meridiem _ (pure_gives GoodTime t k)))) time_gives)
    (λ t k. pure_gives GoodBoth _ (plain_both d t h k)))

item_gives : Gives Plain parse_item
unfolding parse_item iso_item iso_date dated_item date_time_item other_item date_item time_or_relative time_item relative_item
item_gives =
    or_gives Plain _ _
    (then_gives Plain GoodDate iso_date _ (or_gives GoodDate _ _ iso1_gives iso2_gives)
    (λ d h. or_gives Plain _ _ (then_gives Plain GoodBoth (parse_time_after_date d) _ (after_date_gives d h) (λ v k. pure_gives Plain _ k)) (pure_gives Plain _ (plain_date d h))))
    (or_gives Plain _ _ (then_gives Plain GoodDate parse_non_iso _ non_iso_gives (λ d h. pure_gives Plain _ (plain_date d h)))
    (or_gives Plain _ _ (then_gives Plain GoodTime parse _ time_gives (λ t h. pure_gives Plain _ (plain_time t h))) (then_gives Plain GoodRelative relative-parse _ relative_gives (λ r h. pure_gives Plain _ h))))

-- ---- all of them

pub data AllPlain : List Item → Type 0 where
  no_item : AllPlain []
  one_item : {x : Item} {xs : List Item} → Plain x → AllPlain xs → AllPlain (x ∷ xs)

behind_all : (xs : List Item) (x : Item) → AllPlain xs → Plain x → AllPlain (xs ++ (x ∷ []))
behind_all [] x no_item h = one_item h no_item
behind_all (y ∷ xs) x (one_item g gs) h = one_item g (behind_all xs x gs h)

items_plain : (room : ℕ) (xs : List Item) (text : List ℕ) (at : ℕ) → AllPlain xs → AllPlain (items_from parse_item room xs text at).items
unfolding items_from
items_plain zero xs text at g = go (ltb (space text at) (length text)) (kept (parse_item text at))
  where
    go : (t : Bool) (a : Answer Item) → AllPlain (cond t (further a xs at (λ v n. ended xs 1 0)) (ended xs 0 0)).items
    go true (matched v n) = g
    go true (dropped v n) = g
    go true none = g
    go true stop = g
    go false a = g
items_plain (suc room) xs text at g = go (λ v n h. items_plain room (xs ++ (v ∷ [])) text n (behind_all xs v g h)) (ltb (space text at) (length text)) (parse_item text at) refl
  where
    go : ((v : Item) (n : ℕ) → Plain v → AllPlain (items_from parse_item room (xs ++ (v ∷ [])) text n).items) → (t : Bool) (a : Answer Item) → parse_item text at ≡ a →
        AllPlain (cond t (further a xs at (λ v n. items_from parse_item room (xs ++ (v ∷ [])) text n)) (ended xs 0 0)).items
    go later true (matched v n) e = later v n (of_match Plain parse_item item_gives text at v n e)
    go later true (dropped v n) e = g
    go later true none e = g
    go later true stop e = g
    go later false a e = g

in_order : (xs : List Item) → AllPlain xs → InOrder 0 0 xs
unfolding InOrder
in_order [] no_item = refl
in_order (x ∷ xs) (one_item g gs) = let z : 0 + digits_used x ≡ 0 = omega (arith, g.none_used) in (g.holds, omega arith, rw z (in_order xs gs))

-- Each item of a text is one that a packet holds, and its nanoseconds are below a second.
pub text_plain : (text : List ℕ) → AllPlain (parse_items text).items
unfolding parse_items
text_plain text = items_plain 64 [] text 0 no_item

-- The items of a text are items that a packet without digits holds, in their order.
pub text_items : (text : List ℕ) → InOrder 0 0 (parse_items text).items
text_items text = in_order _ (text_plain text)
