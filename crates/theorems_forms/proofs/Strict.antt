-- Each item is at least a byte of its text: its match ends after the place asked. One law for each combinator and leaf, then one for each reader:
-- a reader is strict if one of its parts is, since no other part ends before its own place. Assumes nothing.
use borrow.Author.Tests.{ltb-true}
use native.Mathlib.Omega.{arith}
use Prim.Native.Nat.{ℕ, ◌+◌, ◌<◌, ◌^◌, ◌%◌}
use Rattle.std.specs.Prelude.{None}
use mathlib.Core.Path.{◌≡◌, refl, ◌∙◌}
use mathlib.Core.List.{List, [], ◌∷◌, ◌++◌}
use mathlib.Core.Bool.{Bool, true, false, not, cond}
use lib.Dec.{ltb}
use lib.IntN.{ℤ, neg_ℤ}
use Rattle.primitive.specs.Answer.{Answer, Reader, matched, dropped, none, stop, and_then, or_else, ◌>>=◌, ◌<|>◌}
use Rattle.primitive.specs.Text.{past, some}
use Rattle.primitive.specs.Primitive.{spaced, dec_uint_str, dec_uint, alpha1}
use Rattle.primitive.specs.Epoch.{sec_and_nsec}
use Rattle.primitive.proofs.Dropped.{drops_never}
use Rattle.primitive.proofs.Forward.{Forward, then_forward, next_forward, or_forward, pure_forward, verify_forward, optional_forward, value_forward, tag_forward, named_forward, spaced_forward, space_onward, parse_uint_forward, colon_forward, plus_or_minus_forward, fraction_forward, ordinal_forward}
use Rattle.dates.specs.Year.{year_str}
use Rattle.dates.specs.Date.{iso1, iso2, dotted, us, us_rest, word_dot, literal_month, months, literal1, literal2, literal3, literal, parse_non_iso, hyphen, comma, nothing}
use Rattle.dates.proofs.Forward.{small, mark, year_str_forward, with_year_forward, five_digits_forward, nothing_forward, hyphen_forward, comma_forward, dated_behind_forward, slash_part_forward, us_date_forward, literal_month_forward}
use Rattle.relative.specs.Relative.{rounded, signed_seconds, seconds, displaced, displacement}
use Rattle.relative.specs.Relative.{parse as relative}
use Rattle.relative.proofs.Forward.{direction_forward, second_word_forward, in_unit_forward}
use Rattle.times.specs.Time.{below, hour24, hour12, hour_offset, clock, iso, am_pm_time, parse}
use Rattle.times.proofs.Forward.{certain_forward, timezone_offset_forward, minute_forward, optional_minute_forward, optional_second_forward, optional_correction_forward, meridiem_forward}
use Rattle.items.specs.Items.{iso_date, iso_item, date_item, time_item, relative_item, time_or_relative, other_item, parse_item}
use Rattle.items.proofs.Forward.{dated_item_forward}

-- each match of the answer ends after the place
abbrev pub After : {A : Type 0} → ℕ → Answer A → Type 0
After {A = A} at a = (v : A) (n : ℕ) → a ≡ matched v n → at < n

-- a reader that reads at least a byte where it matches
abbrev pub Strict : {A : Type 0} → Reader A → Type 0
Strict p = (text : List ℕ) (at : ℕ) → After at (p text at)

-- an answer that is no match
module _ {A : Type 0} (at : ℕ) where
  none_after : After {A = A} at none
  none_after v n e = let z : ◌≡◌ {A = ℕ} 0 1 = cc in omega arith

  stop_after : After {A = A} at stop
  stop_after v n e = let z : ◌≡◌ {A = ℕ} 0 1 = cc in omega arith

  dropped_after : (u : A) (m : ℕ) → After at (dropped u m)
  dropped_after u m v n e = let z : ◌≡◌ {A = ℕ} 0 1 = cc in omega arith

-- ---- combinators

module _ {A B : Type 0} where
  -- the first part reads a byte
  pub first_strict : (p : Reader A) (f : A → Reader B) → Strict p → ((v : A) → Forward (f v)) → Strict (p >>= f)
  first_strict p f h k text at = go (p text at) refl
    where
      go : (a : Answer A) → p text at ≡ a → After at (and_then a (λ v n. f v text n))
      go (matched u m) e = λ v n g. let x = h text at u m e in let y = (k u text m v n g).0 in omega arith
      go (dropped u m) e = λ v n g. absurd (drops_never (f u text m) v n g)
      go none e = none_after at
      go stop e = stop_after at

  -- what follows the first part reads a byte
  pub rest_strict : (p : Reader A) (f : A → Reader B) → Forward p → ((v : A) → Strict (f v)) → Strict (p >>= f)
  rest_strict p f h k text at = go (p text at) refl
    where
      go : (a : Answer A) → p text at ≡ a → After at (and_then a (λ v n. f v text n))
      go (matched u m) e = λ v n g. let x = (h text at u m e).0 in let y = k u text m v n g in omega arith
      go (dropped u m) e = λ v n g. absurd (drops_never (f u text m) v n g)
      go none e = none_after at
      go stop e = stop_after at

module _ {A : Type 0} where
  pub or_strict : (p q : Reader A) → Strict p → Strict q → Strict (p <|> q)
  or_strict p q h k text at = go (p text at) refl
    where
      go : (a : Answer A) → p text at ≡ a → After at (or_else a (q text at))
      go (matched u m) e = λ v n g. h text at v n (e ∙ g)
      go (dropped u m) e = dropped_after at u m
      go none e = k text at
      go stop e = stop_after at

  pub spaced_strict : (p : Reader A) → Strict p → Strict (spaced p)
  spaced_strict p h text at v n e = let x = (space_onward text at).0 in let y = h text _ v n e in omega arith

-- ---- leaves

pub some_strict : (p : ℕ → Bool) → Strict (some p)
unfolding some
some_strict p text at = go (ltb at (past p text at)) refl _
  where
    go : (t : Bool) → ltb at (past p text at) ≡ t → (w : List ℕ) → After at (cond t (matched w (past p text at)) none)
    go true e w = λ v n g. let z : n ≡ past p text at = cc in let l = ltb-true at (past p text at) e in omega arith
    go false e w = none_after at

pub dec_uint_str_strict : Strict dec_uint_str
unfolding dec_uint_str
dec_uint_str_strict = some_strict _

pub dec_uint_strict : (max : ℕ) → Strict (dec_uint max)
unfolding dec_uint
dec_uint_strict max = first_strict _ _ dec_uint_str_strict (parse_uint_forward max)

pub alpha1_strict : Strict alpha1
unfolding alpha1
alpha1_strict = some_strict _

pub sec_and_nsec_strict : Strict sec_and_nsec
unfolding sec_and_nsec
sec_and_nsec_strict = first_strict _ _ (dec_uint_strict _) (λ sec. then_forward _ _ (optional_forward 0 _ fraction_forward) (λ nsec. pure_forward _))

-- ---- dates: each begins with digits or a word

year_str_strict : Strict year_str
unfolding year_str
year_str_strict = spaced_strict _ dec_uint_str_strict

small_strict : Strict (spaced (dec_uint 255))
small_strict = spaced_strict _ (dec_uint_strict 255)

literal_month_strict : Strict literal_month
unfolding literal_month word_dot
literal_month_strict =
    first_strict _ _ (spaced_strict _ (first_strict _ _ alpha1_strict (λ w. or_forward _ _ (value_forward (w ++ (46 ∷ [])) _ (tag_forward _)) (pure_forward w))))
    (named_forward months)

month_strict : Strict (spaced literal_month)
month_strict = spaced_strict _ literal_month_strict

pub iso1_strict : Strict iso1
unfolding iso1
iso1_strict =
    first_strict _ _ year_str_strict
    (λ w. next_forward _ _ (mark 45) (then_forward _ _ small (λ m. next_forward _ _ (mark 45) (then_forward _ _ small (λ d. with_year_forward w m d)))))

pub iso2_strict : Strict iso2
unfolding iso2
iso2_strict =
    first_strict _ _ dec_uint_str_strict
    (λ w. next_forward _ _ (five_digits_forward w)
    (then_forward _ _ (parse_uint_forward 255 _) (λ m. then_forward _ _ (parse_uint_forward 255 _) (λ d. with_year_forward _ m d))))

pub dotted_strict : Strict dotted
unfolding dotted
dotted_strict =
    first_strict _ _ small_strict
    (λ d. next_forward _ _ (mark 46) (then_forward _ _ small (λ m. next_forward _ _ (mark 46) (dated_behind_forward nothing nothing_forward m d))))

pub us_strict : Strict us
unfolding us us_rest
us_strict =
    first_strict _ _ year_str_strict
    (λ w. next_forward _ _ (mark 47) (then_forward _ _ small (λ n. then_forward _ _ slash_part_forward (λ v. us_date_forward w n v))))

pub literal1_strict : Strict literal1
unfolding literal1
literal1_strict =
    first_strict _ _ small_strict
    (λ d. next_forward _ _ hyphen_forward (then_forward _ _ (spaced_forward _ literal_month_forward) (λ m. dated_behind_forward hyphen hyphen_forward m d)))

pub literal2_strict : Strict literal2
unfolding literal2
literal2_strict = first_strict _ _ month_strict (λ m. then_forward _ _ small (λ d. dated_behind_forward comma comma_forward m d))

pub literal3_strict : Strict literal3
unfolding literal3
literal3_strict =
    first_strict _ _ month_strict
    (λ m. next_forward _ _ (mark 45) (then_forward _ _ small (λ d. next_forward _ _ (mark 45) (then_forward _ _ year_str_forward (λ w. with_year_forward w m d)))))

pub parse_non_iso_strict : Strict parse_non_iso
unfolding parse_non_iso literal
parse_non_iso_strict = or_strict _ _ dotted_strict (or_strict _ _ us_strict (or_strict _ _ literal1_strict (or_strict _ _ literal2_strict literal3_strict)))

-- ---- relative items: each has a number of seconds or the word of a unit

signed_seconds_strict : (negative : Bool) → Strict (signed_seconds negative)
unfolding signed_seconds
signed_seconds_strict negative =
    first_strict _ _ (spaced_strict _ sec_and_nsec_strict)
    (λ v. next_forward _ _ second_word_forward (then_forward _ _ direction_forward (λ ago. verify_forward (ltb v.sec (2 ^ 63)) (rounded (cond ago (not negative) negative) v))))

pub seconds_strict : Strict seconds
unfolding seconds
seconds_strict = rest_strict _ _ (optional_forward _ _ plus_or_minus_forward) signed_seconds_strict

displaced_strict : (n : ℤ) → Strict (displaced n)
unfolding displaced
displaced_strict n =
    first_strict _ _ (spaced_strict _ alpha1_strict) (λ w. then_forward _ _ direction_forward (λ ago. in_unit_forward (cond ago (neg_ℤ n) n) w))

pub displacement_strict : Strict displacement
unfolding displacement
displacement_strict = rest_strict _ _ (optional_forward _ _ ordinal_forward) displaced_strict

pub relative_strict : Strict relative
unfolding relative
relative_strict = or_strict _ _ seconds_strict displacement_strict

-- ---- times: each begins with an hour

below_strict : (k : ℕ) → Strict (below k)
unfolding below
below_strict k = first_strict _ _ small_strict (λ v. verify_forward (ltb v k) v)

hour24_strict : Strict hour24
unfolding hour24
hour24_strict = below_strict 24

hour12_strict : Strict hour12
unfolding hour12
hour12_strict = below_strict 13

hour_offset_strict : Strict hour_offset
unfolding hour_offset
hour_offset_strict = first_strict _ _ hour24_strict (λ h. then_forward _ _ timezone_offset_forward (λ o. pure_forward _))

clock_strict : Strict clock
unfolding clock
clock_strict =
    first_strict _ _ hour24_strict
    (λ h. next_forward _ _ colon_forward
    (then_forward _ _ minute_forward
    (λ m. then_forward _ _ optional_second_forward (λ v. then_forward _ _ optional_correction_forward (λ o. pure_forward _)))))

pub iso_strict : Strict iso
unfolding iso
iso_strict = or_strict _ _ hour_offset_strict clock_strict

pub am_pm_time_strict : Strict am_pm_time
unfolding am_pm_time
am_pm_time_strict =
    first_strict _ _ hour12_strict
    (λ h. then_forward _ _ optional_minute_forward
    (λ m. then_forward _ _ optional_second_forward
    (λ v. then_forward _ _ meridiem_forward
    (λ pm. certain_forward (ltb 0 h) (record { hour = h % 12 + cond pm 12 0; minute = m; second = v.sec; nanosecond = v.nsec; offset = None })))))

pub time_strict : Strict parse
unfolding parse
time_strict = or_strict _ _ am_pm_time_strict iso_strict

-- ---- items

iso_item_strict : Strict iso_item
unfolding iso_item iso_date
iso_item_strict = first_strict _ _ (or_strict _ _ iso1_strict iso2_strict) dated_item_forward

other_item_strict : Strict other_item
unfolding other_item date_item time_or_relative time_item relative_item
other_item_strict =
    or_strict _ _ (first_strict _ _ parse_non_iso_strict (λ d. pure_forward _))
    (or_strict _ _ (first_strict _ _ time_strict (λ t. pure_forward _)) (first_strict _ _ relative_strict (λ r. pure_forward _)))

-- An item is at least a byte of its text.
pub parse_item_strict : Strict parse_item
unfolding parse_item
parse_item_strict = or_strict _ _ iso_item_strict other_item_strict
