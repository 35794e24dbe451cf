-- The times that the quick readers answer are those of the definitions: what the code saw of the bytes makes the text one of the written
-- forms. Assumes nothing.
use Prim.Native.Nat.{ℕ, ◌+◌, ◌-◌, ◌%◌, ◌<◌, ◌≤◌}
use native.Mathlib.Omega.{arith}
use mathlib.Core.Path.{◌≡◌, refl, ◌∙◌}
use mathlib.Core.Bool.{Bool, true, false, cond}
use mathlib.Core.List.{List, [], ◌∷◌, ◌++◌}
use mathlib.Core.Logic.{◌⊎◌, inl, inr}
use lib.Dec.{eqb}
use lib.ListN.{length, get_or, drop, drop_of_length-le}
use lib.Seq.{slice, length-slice}
use borrow.Author.Tests.{lt-leb, le-leb, lt-ltb, ne_eqb}
use Rattle.primitive.specs.Answer.{◌>>◌}
use Rattle.primitive.specs.Text.{bytes, lower, lowered, blank, digit}
use Rattle.primitive.specs.Primitive.{colon, decimal}
use Rattle.primitive.proofs.Rows.{all, Number}
use Rattle.primitive.proofs.Lowered.{length_lowered, get_or_lowered}
use Rattle.times.specs.Offset.{in_range}
use Rattle.times.specs.Time.{second, optional_second, meridiem}
use Rattle.items.specs.Combined.{starts_with_meridiem}
use Rattle.primitive.proofs.Walk.{Reads, Fails, at_once}
use Rattle.primitive.proofs.Leaves.{head, plain, number_head, number_still, still, blanks, colon_else, sign_of, nine_lose_none, seconds_read, fractional_read}
use Rattle.primitive.proofs.Leaves.{sign_still}
use Rattle.times.proofs.Forms.{iso_read, second_read, no_second, correction_given, no_correction, no_sign_correction, colon_correction_read, sign_no_digit, meridiem_read}
use Rattle.items.proofs.TimeItems.{time_12}
use Rattle.items.proofs.DateTimes.{iso_time, no_meridiem}
use Rattle.items.proofs.TwoItems.{nine_digits}
use Rattle.text_quick.specs.Rows.{Digits, Short}
use Rattle.std.specs.Prelude.{Option, Some, None}
use Rattle.times.specs.declared.offset.Offset.{Offset}
use Rattle.times.specs.declared.time.Time.{Time}
use Rattle.text_quick.specs.Clocks.{Clock, ClockAt, BehindMinutes, SecondAt, ZoneAt, HalfDay}
use Rattle.text_quick.proofs.Places.{part, mark, head_drop}

-- a byte, and a row of digits behind it
then_byte : (s : List ℕ) (a n c : ℕ) → n ≡ a + 1 → get_or s a 0 ≡ c → lower c ≡ c → a < length s → drop a (lowered s) ≡ c ∷ drop n (lowered s)
then_byte s a n c p e l h = mark s a c h e l ∙ rw p

then_row : (s : List ℕ) (a a' b c n v : ℕ) → a' ≡ a + 1 → n ≡ b → get_or s a 0 ≡ c → lower c ≡ c → a < length s → Digits (lowered s) a' b v → drop a (lowered s) ≡ c ∷ (slice a' b (lowered s) ++ drop n (lowered s))
then_row s a a' b c n v p q e l h d = then_byte s a a' c p e l h ∙ rw (q, part (lowered s) a' b d.forward)

-- ---- hour and minute

module _ (s : List ℕ) (at h m : ℕ) (long : at + 5 ≤ length s) (colon : get_or s (at + 2) 0 ≡ 58) (hs : Digits (lowered s) at (at + 2) h) (ms : Digits (lowered s) (at + 3) (at + 3 + 2) m) (hour : h < 24) (minute : m < 60) where
  written : drop at (lowered s) ≡ slice at (at + 2) (lowered s) ++ (58 ∷ (slice (at + 3) (at + 3 + 2) (lowered s) ++ drop (at + 5) (lowered s)))
  unfolding lower
  written = part (lowered s) at (at + 2) hs.forward ∙ rw (then_row s (at + 2) (at + 3) (at + 3 + 2) 58 (at + 5) m (omega arith) (omega arith) colon refl (omega arith) ms)

  pub clock_read : {v ns n : ℕ} {z : Option Offset} → BehindMinutes (lowered s) (drop (at + 5) (lowered s)) v ns z n → Clock (lowered s) at h m v ns z n
  clock_read b =
      let hour' : decimal (slice at (at + 2) (lowered s)) < 24 = rw hs.value hour in
      let minute' : decimal (slice (at + 3) (at + 3 + 2) (lowered s)) < 60 = rw ms.value minute in
      record {
        ranges = record { hour = hour; minute = minute; second = b.second; nanosecond = b.nanosecond; zone = b.zone };
        within = b.within;
        begins = rw written (number_head _ hs.number);
        gap = b.gap;
        blanks = b.blanks;
        reads =
            rw (written, ← hs.value, ← ms.value)
            (iso_time (iso_read (still (number_still _ hs.number)) hs.number ms.number hour' minute' b.ends b.seconds b.correction) b.no_meridiem);
      }

  pub clock_answer : (r : Option (Time × ℕ)) → SecondAt (lowered s) (at + 5) h m r → ClockAt (lowered s) at r
  clock_answer (Some p) b = rw (b.0, b.1.0) (clock_read b.1.1)
  clock_answer None b = tt

-- ---- the end of the text

module _ (text : List ℕ) (n : ℕ) (end : n ≡ length text) where
  nothing_left : drop n text ≡ []
  nothing_left = drop_of_length-le text {i = n} (omega arith)

  ends_behind : (l : List ℕ) (v : ℕ) → v < 60 → digit (head l) ≡ false → Reads optional_second l (record { sec = v; nsec = 0 }) [] → BehindMinutes text l v 0 None n
  unfolding blank
  ends_behind l v small d r = record {
    second = small;
    nanosecond = omega arith;
    zone = tt;
    within = omega arith;
    ends = d;
    rest = [];
    seconds = r;
    gap = [];
    blanks = refl;
    correction = rw nothing_left (no_correction (no_sign_correction (still (plain refl)) refl refl));
    no_meridiem = rw nothing_left (no_meridiem [] [] refl refl refl refl);
  }

  -- `09:30`
  pub minutes_end : BehindMinutes text (drop n text) 0 0 None n
  unfolding digit blank
  minutes_end = rw nothing_left (ends_behind [] 0 (omega arith) refl (no_second (at_once _ (colon_else (still (plain refl)) refl))))

  -- `09:30:00`
  pub seconds_end : {ds : List ℕ} → Number ds → decimal ds < 60 → BehindMinutes text (58 ∷ (ds ++ drop n text)) (decimal ds) 0 None n
  unfolding digit
  seconds_end {ds} d small = rw nothing_left (ends_behind (58 ∷ (ds ++ [])) (decimal ds) small refl (second_read (number_head _ d) (seconds_read d (omega arith) refl refl refl) small))

module _ (s : List ℕ) (at v : ℕ) (long : at + 3 ≤ length s) (colon : get_or s at 0 ≡ 58) (vs : Digits (lowered s) (at + 1) (at + 1 + 2) v) (small : v < 60) where
  second_written : drop at (lowered s) ≡ 58 ∷ (slice (at + 1) (at + 1 + 2) (lowered s) ++ drop (at + 3) (lowered s))
  unfolding lower
  second_written = then_row s at (at + 1) (at + 1 + 2) 58 (at + 3) v refl (omega arith) colon refl (omega arith) vs

  pub second_ends : at + 3 ≡ length s → BehindMinutes (lowered s) (drop at (lowered s)) v 0 None (at + 3)
  second_ends end =
      let n : at + 3 ≡ length (lowered s) = rw (length_lowered s) end in
      let k : decimal (slice (at + 1) (at + 1 + 2) (lowered s)) < 60 = rw vs.value small in
      rw (second_written, ← vs.value) (seconds_end (lowered s) (at + 3) n vs.number k)

  pub second_answer : (h m : ℕ) (r : Option (Time × ℕ)) → ZoneAt (lowered s) (at + 3) h m v r → SecondAt (lowered s) at h m r
  second_answer h m (Some p) b = (b.0, (b.1.0, rw second_written (b.1.1 _ vs.number vs.value small)))
  second_answer h m None b = tt

-- ---- a fraction of nine digits and an offset

-- `+` is 43 and `-` is 45
sign_byte : (b : ℕ) → (b ≡ 43) ⊎ (b ≡ 45) → (lower b ≡ b) × (b ≡ sign_of (eqb b 45))
unfolding lower
sign_byte b (inl e) = rw e (refl, refl)
sign_byte b (inr e) = rw e (refl, refl)

-- a byte from `+` to `9` is no blank, no `a` and no `p`
between : (b : ℕ) → 43 ≤ b → b ≤ 57 → (blank (lower b) ≡ false) × ((eqb (lower b) 97 ≡ false) × (eqb (lower b) 112 ≡ false))
unfolding blank lower
between b h k =
    rw (lt-leb 65 b (omega arith))
    (rw (ne_eqb b 32 (λ z. omega arith), le-leb 9 b (omega arith), lt-leb b 13 (omega arith)), (ne_eqb b 97 (λ z. omega arith), ne_eqb b 112 (λ z. omega arith)))

small_range : (h m : ℕ) → h < 24 → m < 60 → in_range h m ≡ true
unfolding in_range
small_range h m hour minute = rw (le-leb h 24 (omega arith), le-leb m 60 (omega arith), lt-ltb h 24 hour)

-- the tests of the text's length, of its marks and of what the digits are worth
module _ (s : List ℕ) (at ns h m : ℕ) (some : 16 ≤ length s) (room : at ≤ length s - 16) (point : get_or s at 0 ≡ 46) (nanoseconds : ns < 1000000000) (fs : Digits (lowered s) (at + 1) (at + 1 + 9) ns) (sign : (get_or s (at + 10) 0 ≡ 43) ⊎ (get_or s (at + 10) 0 ≡ 45)) (hs : Digits (lowered s) (at + 11) (at + 11 + 2) h) (hour-kept : h ≤ 23) (colon : get_or s (at + 13) 0 ≡ 58) (ms : Digits (lowered s) (at + 14) (at + 14 + 2) m) (minute-kept : m ≤ 59) {ds : List ℕ} {v : ℕ} (d : Number ds) (e : decimal ds ≡ v) (second : v < 60) where
  small : ns < 1000000000
  small = omega arith

  hour : h < 24
  hour = omega arith

  minute : m < 60
  minute = omega arith

  abbrev west : Bool
  west = eqb (get_or s (at + 10) 0) 45

  abbrev zone_text : List ℕ → List ℕ
  zone_text l = sign_of west ∷ (slice (at + 11) (at + 11 + 2) (lowered s) ++ (58 ∷ (slice (at + 14) (at + 14 + 2) (lowered s) ++ l)))

  zone_written : drop at (lowered s) ≡ 46 ∷ (slice (at + 1) (at + 1 + 9) (lowered s) ++ zone_text (drop (at + 16) (lowered s)))
  unfolding lower
  zone_written =
      let (same, is) = sign_byte (get_or s (at + 10) 0) sign in
      let l : lower (sign_of west) ≡ sign_of west = rw (← is) same in
      then_row s at (at + 1) (at + 1 + 9) 46 (at + 10) ns refl (omega arith) point refl (omega arith) fs
      ∙ rw (then_row s (at + 10) (at + 11) (at + 11 + 2) (sign_of west) (at + 13) h (omega arith) (omega arith) is l (omega arith) hs, then_row s (at + 13) (at + 14) (at + 14 + 2) 58 (at + 16) m (omega arith) (omega arith) colon refl (omega arith) ms)

  zone_read : (gap : List ℕ) {n : ℕ} → all blank gap ≡ true → n ≤ length (lowered s) → drop (at + 16) (lowered s) ≡ gap ++ drop n (lowered s) → digit (head (gap ++ drop n (lowered s))) ≡ false → Fails starts_with_meridiem (gap ++ drop n (lowered s)) → BehindMinutes (lowered s) (58 ∷ (ds ++ drop at (lowered s))) v ns (Some (record { negative = west; hours = h; minutes = m })) n
  unfolding digit
  zone_read gap {n} b within g no_digit f =
      let nine : length (slice (at + 1) (at + 1 + 9) (lowered s)) ≡ 9 = length-slice (at + 1) (at + 1 + 9) (lowered s) fs.within ∙ (omega arith) in
      let small' : decimal ds < 60 = rw e second in
      let ok : in_range (decimal (slice (at + 11) (at + 11 + 2) (lowered s))) (decimal (slice (at + 14) (at + 14 + 2) (lowered s))) ≡ true = rw (hs.value, ms.value) (small_range h m hour minute) in
      record {
        second = second;
        nanosecond = small;
        zone = (hour, minute);
        within = within;
        ends = refl;
        rest = zone_text (gap ++ drop n (lowered s));
        seconds =
            rw (zone_written, g, ← e, ← fs.value, ← nine_digits (slice (at + 1) (at + 1 + 9) (lowered s)) nine)
            (second_read (number_head _ d) (fractional_read false d (omega arith) fs.number (nine_lose_none (slice (at + 1) (at + 1 + 9) (lowered s)) (omega arith)) (sign_no_digit west)) small');
        gap = gap;
        blanks = b;
        correction = rw (← hs.value, ← ms.value) (correction_given (colon_correction_read west (still (sign_still west (number_head _ hs.number))) hs.number ms.number no_digit ok));
        no_meridiem = f;
      }

  pub zone_ends : at + 16 ≡ length s → BehindMinutes (lowered s) (58 ∷ (ds ++ drop at (lowered s))) v ns (Some (record { negative = west; hours = h; minutes = m })) (at + 16)
  unfolding digit blank
  zone_ends end =
      let n : at + 16 ≡ length (lowered s) = rw (length_lowered s) end in
      let z = nothing_left (lowered s) (at + 16) n in
      zone_read [] refl (omega arith) refl (rw z) (rw z (no_meridiem [] [] refl refl refl refl))

  pub zone_before : get_or s (at + 16) 0 ≡ 32 → at + 16 + 1 < length s → 43 ≤ get_or s (at + 16 + 1) 0 → get_or s (at + 16 + 1) 0 ≤ 57 → BehindMinutes (lowered s) (58 ∷ (ds ++ drop at (lowered s))) v ns (Some (record { negative = west; hours = h; minutes = m })) (at + 16 + 1)
  unfolding digit blank lower
  zone_before blank' more low high =
      let n : at + 16 + 1 ≤ length (lowered s) = rw (length_lowered s) (omega arith) in
      let q : head (drop (at + 16 + 1) (lowered s)) ≡ lower (get_or s (at + 16 + 1) 0) = head_drop (lowered s) (at + 16 + 1) ∙ get_or_lowered s (at + 16 + 1) in
      let (k, (a, p)) = between (get_or s (at + 16 + 1) 0) low high in
      zone_read (32 ∷ []) refl n (mark s (at + 16) 32 (omega arith) blank' refl) refl (no_meridiem (32 ∷ []) (drop (at + 16 + 1) (lowered s)) refl (rw q k) (rw q a) (rw q p))

-- ---- am and pm

-- `a` is 97, `p` is 112 and `m` is 109
abbrev meridiem_byte : Bool → ℕ
meridiem_byte true = 112
meridiem_byte false = 97

meridiem_byte_lem : (pm : Bool) → lower (meridiem_byte pm) ≡ meridiem_byte pm
unfolding lower
meridiem_byte_lem true = refl
meridiem_byte_lem false = refl

meridiem_there : (pm : Bool) → Reads meridiem (32 ∷ (meridiem_byte pm ∷ (109 ∷ []))) pm []
unfolding blank bytes
meridiem_there true = meridiem_read (32 ∷ []) refl true false
meridiem_there false = meridiem_read (32 ∷ []) refl false false

no_colon : (pm : Bool) → Fails (colon >> second) (32 ∷ (meridiem_byte pm ∷ (109 ∷ [])))
unfolding blank
no_colon true = at_once _ (colon_else (blanks (32 ∷ []) refl (plain refl)) refl)
no_colon false = at_once _ (colon_else (blanks (32 ∷ []) refl (plain refl)) refl)

module _ (s : List ℕ) (at next h m : ℕ) (hs : Short (lowered s) at h next) (some_hour : 1 ≤ h) (hour : h ≤ 12) (long : length s - next ≡ 6) (colon : get_or s next 0 ≡ 58) (minute_digits : Digits (lowered s) (next + 1) (next + 1 + 2) m) (minute-kept : m ≤ 59) (gap : get_or s (next + 3) 0 ≡ 32) (last : get_or s (next + 5) 0 ≡ 109) (pm : Bool) (byte : get_or s (next + 4) 0 ≡ meridiem_byte pm) where
  minute_small : m < 60
  minute_small = omega arith

  half_written : drop at (lowered s) ≡ slice at next (lowered s) ++ (58 ∷ (slice (next + 1) (next + 1 + 2) (lowered s) ++ (32 ∷ (meridiem_byte pm ∷ (109 ∷ [])))))
  unfolding lower
  half_written =
      let size = length_lowered s in
      let more = hs.more in
      let ends : next + 6 ≡ length (lowered s) = omega arith in
      part (lowered s) at next hs.row.forward
      ∙ rw (then_row s next (next + 1) (next + 1 + 2) 58 (next + 3) m refl (omega arith) colon refl (omega arith) minute_digits, then_byte s (next + 3) (next + 4) 32 (omega arith) gap refl (omega arith), then_byte s (next + 4) (next + 5) (meridiem_byte pm) (omega arith) byte (meridiem_byte_lem pm) (omega arith), then_byte s (next + 5) (next + 6) 109 (omega arith) last refl (omega arith), nothing_left (lowered s) (next + 6) ends)

  -- `9:30 am`
  pub half_day_read : (v : ℕ) → v ≡ h % 12 + cond pm 12 0 → HalfDay (lowered s) at v m 0 0 None (next + 6)
  unfolding digit
  half_day_read v is =
      let size = length_lowered s in
      let more = hs.more in
      let forward = hs.row.forward in
      let first : 0 < decimal (slice at next (lowered s)) = rw hs.row.value some_hour in
      let last' : decimal (slice at next (lowered s)) ≤ 12 = rw hs.row.value hour in
      let minute' : decimal (slice (next + 1) (next + 1 + 2) (lowered s)) < 60 = rw minute_digits.value minute_small in
      record {
        ranges = record { hour = rw is (below_24 pm); minute = minute_small; second = omega arith; nanosecond = omega arith; zone = tt };
        there = omega arith;
        ends = omega arith;
        begins = rw half_written (number_head _ hs.row.number);
        reads = λ bs b. rw (half_written, is, ← hs.row.value, ← minute_digits.value) (time_12 bs b hs.row.number minute_digits.number first last' minute' refl (no_second (no_colon pm)) (meridiem_there pm));
      }
    where
      below_24 : (p : Bool) → h % 12 + cond p 12 0 < 24
      below_24 true = omega arith
      below_24 false = omega arith
