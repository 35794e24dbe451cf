-- Each written form of 29.3 is read as exactly its time, up to what stands behind it. A number is any row of digits with a value in
-- range; what may stand behind the time is a premise. Assumes nothing.
use Rattle.std.specs.Prelude.{Option, Some, None, cond}
use native.Mathlib.Omega.{arith}
use borrow.Author.Tests.{lt-ltb, le-leb, lt-leb, leb-true, ltb-true}
use Prim.Native.Nat.{ℕ, ◌+◌, ◌/◌, ◌%◌, ◌<◌, ◌≤◌}
use mathlib.Core.Path.{◌≡◌, refl, sym}
use mathlib.Core.List.{List, ◌∷◌, ◌++◌}
use mathlib.Core.Bool.{Bool, true, false}
use lib.ListN.{length}
use lib.Dec.{ltb, leb, eqb}
use Rattle.primitive.specs.Answer.{◌>>◌, Reader, pure, verify, ◌>>=◌}
use Rattle.primitive.specs.Text.{bytes, blank, digit, starts}
use Rattle.primitive.specs.Primitive.{spaced, colon, decimal, parse_uint, dec_uint}
use Rattle.primitive.specs.Epoch.{fraction, sec_and_nsec}
use Rattle.primitive.specs.declared.SecAndNsec.{SecAndNsec}
use Rattle.primitive.proofs.Walk.{Reads, Fails, Spaces, ◌⟨◌⟩◌, ◌⟨◌⟩!◌, at_once, first, ◌or◌, ◌nor◌, nothing, verified, not_verified, behind_space, not_behind_space}
use Rattle.primitive.proofs.Leaves.{head, plain, tag_read, tag_else, other_start, number_read, number_still, str_read, blanks, still, digit_still, sign_of, sign_read, sign_else, colon_read, fraction_else}
use Rattle.primitive.proofs.Rows.{all, halves, Number}
use Rattle.relative.specs.Relative.{parse as relative}
use Rattle.times.proofs.Chain.{nothing_left}
use Rattle.times.specs.Offset.{certain, unless, in_range, offset_of, timezone_offset_colon, digits_offset, timezone_offset_colonless, any_offset, signed_fraction, time_zone_correction, timezone_offset}
use Rattle.times.specs.Time.{below, hour24, hour12, minute, second, optional_second, optional_minute, optional_correction, hour_offset, clock, iso, meridiem, am_pm_time, parse}
use Rattle.times.specs.declared.offset.Offset.{Offset}
use Rattle.times.specs.declared.time.Time.{Time}

-- ---- combinators of this crate

pub certain_so : {A : Type 0} {t : Bool} {v : A} {l : List ℕ} → t ≡ true → Reads (certain t v) l v l
certain_so h = record { reads = λ text at e. (at, rw h, e) }

pub unless_read : {A B : Type 0} {p : Reader A} {q : Reader B} {l : List ℕ} {v : B} {m : List ℕ} → Fails p l → Reads q l v m → Reads (unless p q) l v m
unless_read a b = record {
  reads = λ text at e.
      let (n, h, k) = b.reads text at e in
      (n, rw (a.fails text at e) h, k);
}

pub sign_no_digit : (negative : Bool) → digit (sign_of negative) ≡ false
unfolding digit
sign_no_digit true = refl
sign_no_digit false = refl

-- a number that is too large, or one behind which the rest fails
pub number_or_fails : {B : Type 0} (max : ℕ) {l ds rest : List ℕ} (f : ℕ → Reader B) → Spaces l (ds ++ rest) → Number ds → digit (head rest) ≡ false → Fails (f (decimal ds)) rest → Fails (spaced (dec_uint max) >>= f) l
unfolding dec_uint parse_uint
number_or_fails max {l} {ds} {rest} f s n d a = go (leb (decimal ds) max) refl
  where
    go : (t : Bool) → leb (decimal ds) max ≡ t → Fails (spaced (dec_uint max) >>= f) l
    go true e = behind_space s (number_read n (leb-true (decimal ds) max e) d) ⟨ f ⟩! a
    go false e = at_once f (not_behind_space s (str_read n d ⟨ parse_uint max ⟩! not_verified (decimal ds) e))

-- ---- hours, minutes, seconds

module _ {l ds rest : List ℕ} (s : Spaces l (ds ++ rest)) (n : Number ds) (d : digit (head rest) ≡ false) where
  below_read : (k : ℕ) → decimal ds < k → k ≤ 256 → Reads (below k) l (decimal ds) rest
  unfolding below
  below_read k h m = behind_space s (number_read n (omega arith) d) ⟨ _ ⟩ verified (lt-ltb (decimal ds) k h)

  pub hour_read : decimal ds < 24 → Reads hour24 l (decimal ds) rest
  unfolding hour24
  hour_read h = below_read 24 h (omega arith)

  pub hour12_read : decimal ds ≤ 12 → Reads hour12 l (decimal ds) rest
  unfolding hour12
  hour12_read h = below_read 13 (omega arith) (omega arith)

  pub minute_read : decimal ds < 60 → Reads minute l (decimal ds) rest
  unfolding minute
  minute_read h = below_read 60 h (omega arith)

-- a number that is not below k, or one behind which the rest fails
not_below : (k : ℕ) {l ds : List ℕ} (rest : List ℕ) → Number ds → Spaces l (ds ++ rest) → digit (head rest) ≡ false → ltb (decimal ds) k ≡ false → Fails (below k) l
unfolding below
not_below k {ds = ds} rest n s d e = number_or_fails 255 (λ v. verify (ltb v k) v) s n d (not_verified (decimal ds) e)

pub below_or_fails : {B : Type 0} (k : ℕ) {l ds rest : List ℕ} (f : ℕ → Reader B) → k ≤ 256 → Spaces l (ds ++ rest) → Number ds → digit (head rest) ≡ false → Fails (f (decimal ds)) rest → Fails (below k >>= f) l
below_or_fails k {l} {ds} {rest} f m s n d a = go (ltb (decimal ds) k) refl
  where
    go : (t : Bool) → ltb (decimal ds) k ≡ t → Fails (below k >>= f) l
    go true e = below_read s n d k (ltb-true (decimal ds) k e) m ⟨ f ⟩! a
    go false e = at_once f (not_below k rest n s d e)

-- `:` is 58
colon_here : {l : List ℕ} → Reads colon (58 ∷ l) tt l
unfolding blank
colon_here = colon_read (still (plain refl))

pub second_read : {x rest : List ℕ} {v : SecAndNsec ℕ} → digit (head x) ≡ true → Reads sec_and_nsec x v rest → v.sec < 60 → Reads optional_second (58 ∷ x) (record { sec = v.sec; nsec = v.nsec }) rest
unfolding optional_second second
second_read {v = v} h r s = first _ (colon_here ⟨ _ ⟩ behind_space (still (digit_still h)) r ⟨ _ ⟩ verified (lt-ltb v.sec 60 s))

-- minutes behind a colon, or none
pub minutes_given : {ms rest : List ℕ} → Number ms → digit (head rest) ≡ false → decimal ms < 60 → Reads optional_minute (58 ∷ (ms ++ rest)) (decimal ms) rest
unfolding optional_minute
minutes_given {ms} {rest} m d h = first _ (colon_here ⟨ _ ⟩ minute_read (still (number_still rest m)) m d h)

pub no_minutes : {rest : List ℕ} → Fails (colon >> minute) rest → Reads optional_minute rest 0 rest
unfolding optional_minute
no_minutes a = a or nothing

-- no seconds where no colon follows with a number below 60
pub no_second : {rest : List ℕ} → Fails (colon >> second) rest → Reads optional_second rest (record { sec = 0; nsec = 0 }) rest
unfolding optional_second
no_second a = a or nothing

-- ---- corrections

-- an offset in range is a small one
range_small : (hours minutes : ℕ) → in_range hours minutes ≡ true → (hours ≤ 24) × (minutes ≤ 60)
unfolding in_range
range_small hours minutes e =
    let h = halves (leb hours 24) _ e in
    let m = halves (leb minutes 60) _ h.1 in
    (leb-true hours 24 h.0, leb-true minutes 60 m.0)

-- hours and minutes with a colon: `+05:30`
module _ (negative : Bool) {l hs ms rest : List ℕ} (s : Spaces l (sign_of negative ∷ (hs ++ (58 ∷ (ms ++ rest))))) (h : Number hs) (m : Number ms) (d : digit (head rest) ≡ false) (ok : in_range (decimal hs) (decimal ms) ≡ true) where
  pub colon_offset_read : Reads any_offset l (record { negative = negative; hours = decimal hs; minutes = decimal ms }) rest
  unfolding any_offset timezone_offset_colon offset_of digit blank
  colon_offset_read =
      let small = range_small (decimal hs) (decimal ms) ok in
      first timezone_offset_colonless
      (sign_read negative s
      ⟨ _ ⟩ behind_space (still (number_still (58 ∷ (ms ++ rest)) h)) (number_read h (omega arith) refl)
      ⟨ _ ⟩ behind_space (still (plain refl)) colon_here
      ⟨ _ ⟩ behind_space (still (number_still rest m)) (number_read m (omega arith) d)
      ⟨ _ ⟩ certain_so ok)

  pub colon_correction_read : Reads time_zone_correction l (record { negative = negative; hours = decimal hs; minutes = decimal ms }) rest
  unfolding time_zone_correction signed_fraction digit
  colon_correction_read =
      unless_read (sign_read negative s ⟨ _ ⟩! behind_space (still (number_still (58 ∷ (ms ++ rest)) h)) (str_read h refl) ⟨ _ ⟩! fraction_else refl refl) colon_offset_read

-- digits alone: `+0530`, `+8`. Behind them stands no digit, no colon with minutes, and no point or comma with a digit.
pub no_colon_offset : (negative : Bool) {l ds rest : List ℕ} → Spaces l (sign_of negative ∷ (ds ++ rest)) → Number ds → digit (head rest) ≡ false → Fails (spaced colon) rest → Fails timezone_offset_colon l
unfolding timezone_offset_colon
no_colon_offset negative {rest = rest} s n d c = sign_read negative s ⟨ _ ⟩! number_or_fails 255 _ (still (number_still rest n)) n d (at_once _ c)

module _ (negative : Bool) {l ds rest : List ℕ} (s : Spaces l (sign_of negative ∷ (ds ++ rest))) (n : Number ds) (d : digit (head rest) ≡ false) (c : Fails timezone_offset_colon l) (small : decimal ds ≤ 9999) {v : Offset} (r : Reads (digits_offset negative (length ds) (decimal ds)) rest v rest) where
  pub digits_offset_read : Reads any_offset l v rest
  unfolding any_offset timezone_offset_colonless parse_uint
  digits_offset_read =
      c
      or (sign_read negative s
      ⟨ _ ⟩ behind_space (still (number_still rest n)) (str_read n d)
      ⟨ _ ⟩ verified (le-leb (decimal ds) 9999 small)
      ⟨ (λ k. digits_offset negative (length ds) k) ⟩ r)

  pub digits_correction_read : Fails fraction rest → Reads time_zone_correction l v rest
  unfolding time_zone_correction signed_fraction
  digits_correction_read f =
      unless_read (sign_read negative s ⟨ _ ⟩! behind_space (still (number_still rest n)) (str_read n d) ⟨ _ ⟩! f) digits_offset_read

-- what the digits say: one or two are hours, of more the last two are minutes
module _ (negative : Bool) (k n : ℕ) {l : List ℕ} where
  pub hours_said : k ≤ 2 → in_range n 0 ≡ true → Reads (digits_offset negative k n) l (record { negative = negative; hours = n; minutes = 0 }) l
  unfolding digits_offset offset_of
  hours_said h ok = rw (le-leb k 2 h) (certain_so ok)

  pub hours_and_minutes_said : 2 < k → in_range (n / 100) (n % 100) ≡ true → Reads (digits_offset negative k n) l (record { negative = negative; hours = n / 100; minutes = n % 100 }) l
  unfolding digits_offset offset_of
  hours_and_minutes_said h ok = rw (lt-leb k 2 h) (certain_so ok)

pub correction_given : {l rest : List ℕ} {v : Offset} → Reads time_zone_correction l v rest → Reads optional_correction l (Some v) rest
unfolding optional_correction
correction_given r = first _ (r ⟨ (λ o. pure (Some o)) ⟩ nothing)

pub no_correction : {rest : List ℕ} → Fails time_zone_correction rest → Reads optional_correction rest None rest
unfolding optional_correction
no_correction a = at_once _ a or nothing

-- no offset where no sign stands behind the space
pub not_unless : {A B : Type 0} (p : Reader A) {q : Reader B} {l : List ℕ} → Fails q l → Fails (unless p q) l
not_unless p {q} a = record { fails = λ text at e. rw (a.fails text at e) (sym (nothing_left (p text at))) }

module _ {l m : List ℕ} (s : Spaces l m) (g : eqb (head m) 43 ≡ false) (h : eqb (head m) 45 ≡ false) where
  no_sign_offset : Fails any_offset l
  unfolding any_offset timezone_offset_colon timezone_offset_colonless
  no_sign_offset = at_once _ (sign_else s g h) nor at_once _ (sign_else s g h)

  pub no_offset : Fails timezone_offset l
  unfolding timezone_offset
  no_offset = not_unless relative no_sign_offset

  pub no_sign_correction : Fails time_zone_correction l
  unfolding time_zone_correction
  no_sign_correction = not_unless signed_fraction no_sign_offset

-- ---- 24 hours

-- `20:02`, `20:02:00.5`, each with a correction or without one: the seconds and the correction are read from what stands behind the minutes
module _ {x hs ms l m' rest : List ℕ} (i : Spaces x (hs ++ (58 ∷ (ms ++ l)))) (h : Number hs) (m : Number ms) (hour : decimal hs < 24) (minutes : decimal ms < 60) (d : digit (head l) ≡ false) {v : SecAndNsec ℕ} (s : Reads optional_second l v m') {o : Option Offset} (c : Reads optional_correction m' o rest) where
  abbrev clocked : Time
  clocked = record { hour = decimal hs; minute = decimal ms; second = v.sec; nanosecond = v.nsec; offset = o }

  clock_read : Reads clock x clocked rest
  unfolding clock digit
  clock_read =
      hour_read i h refl hour ⟨ _ ⟩ colon_here ⟨ _ ⟩ minute_read (still (number_still l m)) m d minutes ⟨ _ ⟩ s ⟨ _ ⟩ c
      ⟨ (λ o. pure (record { hour = decimal hs; minute = decimal ms; second = v.sec; nanosecond = v.nsec; offset = o })) ⟩ nothing

  no_hour_offset : Fails hour_offset x
  unfolding hour_offset digit blank
  no_hour_offset = hour_read i h refl hour ⟨ _ ⟩! at_once _ (no_offset (still (plain refl)) refl refl)

  pub iso_read : Reads iso x clocked rest
  unfolding iso
  iso_read = no_hour_offset or clock_read

  -- as an item, where behind the seconds of an hour up to 12 neither am nor pm stands
  no_half_day : (decimal hs ≤ 12 → Fails meridiem m') → Fails am_pm_time x
  unfolding am_pm_time hour12 digit
  no_half_day a = go (ltb (decimal hs) 13) refl
    where
      go : (t : Bool) → ltb (decimal hs) 13 ≡ t → Fails am_pm_time x
      go true e = let z = ltb-true (decimal hs) 13 e in below_or_fails 13 _ (omega arith) i h refl (minutes_given m d minutes ⟨ _ ⟩! s ⟨ _ ⟩! at_once _ (a (omega arith)))
      go false e = at_once _ (not_below 13 _ h i refl e)

  pub clock_item : (decimal hs ≤ 12 → Fails meridiem m') → Reads parse x clocked rest
  unfolding parse
  clock_item a = no_half_day a or iso_read

-- ---- 12 hours

-- neither am nor pm where neither an `a` nor a `p` stands behind the space
pub meridiem_else : {l m : List ℕ} → Spaces l m → eqb (head m) 97 ≡ false → eqb (head m) 112 ≡ false → Fails meridiem l
unfolding meridiem bytes
meridiem_else {m = m} s a p =
    ((at_once _ (not_behind_space s (tag_else _ (other_start 97 _ m a))) nor at_once _ (not_behind_space s (tag_else _ (other_start 97 _ m a))))
    nor at_once _ (not_behind_space s (tag_else _ (other_start 112 _ m p))))
    nor at_once _ (not_behind_space s (tag_else _ (other_start 112 _ m p)))

-- the four spellings
abbrev pub meridiem_of : Bool → Bool → List ℕ
meridiem_of false false = bytes "am"
meridiem_of false true = bytes "a.m."
meridiem_of true false = bytes "pm"
meridiem_of true true = bytes "p.m."

-- each behind blanks or none
module _ (bs : List ℕ) (b : all blank bs ≡ true) {rest : List ℕ} where
  am_read : Reads meridiem (bs ++ (bytes "am" ++ rest)) false rest
  unfolding meridiem bytes blank
  am_read = first _ (first _ (first _ (behind_space (blanks bs b (plain refl)) (tag_read (bytes "am")) ⟨ _ ⟩ nothing)))

  a_m_read : Reads meridiem (bs ++ (bytes "a.m." ++ rest)) false rest
  unfolding meridiem bytes blank starts
  a_m_read =
      first _ (first _ (at_once _ (not_behind_space (blanks bs b (plain refl)) (tag_else (bytes "am") refl))
      or (behind_space (blanks bs b (plain refl)) (tag_read (bytes "a.m.")) ⟨ _ ⟩ nothing)))

  pm_read : Reads meridiem (bs ++ (bytes "pm" ++ rest)) true rest
  unfolding meridiem bytes blank starts
  pm_read =
      first _ ((at_once _ (not_behind_space (blanks bs b (plain refl)) (tag_else (bytes "am") refl))
      nor at_once _ (not_behind_space (blanks bs b (plain refl)) (tag_else (bytes "a.m.") refl)))
      or (behind_space (blanks bs b (plain refl)) (tag_read (bytes "pm")) ⟨ _ ⟩ nothing))

  p_m_read : Reads meridiem (bs ++ (bytes "p.m." ++ rest)) true rest
  unfolding meridiem bytes blank starts
  p_m_read =
      ((at_once _ (not_behind_space (blanks bs b (plain refl)) (tag_else (bytes "am") refl))
      nor at_once _ (not_behind_space (blanks bs b (plain refl)) (tag_else (bytes "a.m.") refl)))
      nor at_once _ (not_behind_space (blanks bs b (plain refl)) (tag_else (bytes "pm") refl)))
      or (behind_space (blanks bs b (plain refl)) (tag_read (bytes "p.m.")) ⟨ _ ⟩ nothing)

module _ (bs : List ℕ) (b : all blank bs ≡ true) {rest : List ℕ} where
  pub meridiem_read : (pm dots : Bool) → Reads meridiem (bs ++ (meridiem_of pm dots ++ rest)) pm rest
  meridiem_read false false = am_read bs b
  meridiem_read false true = a_m_read bs b
  meridiem_read true false = pm_read bs b
  meridiem_read true true = p_m_read bs b

module _ {x hs l m' k rest : List ℕ} (i : Spaces x (hs ++ l)) (h : Number hs) (some_hour : 0 < decimal hs) (hour : decimal hs ≤ 12) (d : digit (head l) ≡ false) {mins : ℕ} (m : Reads optional_minute l mins m') {v : SecAndNsec ℕ} (s : Reads optional_second m' v k) {pm : Bool} (a : Reads meridiem k pm rest) where
  pub half_day_item : Reads parse x (record { hour = decimal hs % 12 + cond pm 12 0; minute = mins; second = v.sec; nanosecond = v.nsec; offset = None }) rest
  unfolding parse am_pm_time
  half_day_item = first iso (hour12_read i h d hour ⟨ _ ⟩ m ⟨ _ ⟩ s ⟨ _ ⟩ a ⟨ _ ⟩ certain_so (lt-ltb 0 (decimal hs) some_hour))
