-- What an item can be by its first bytes. Without a digit it is no ISO date and no time, and without a letter either it is no date. A number
-- that a colon follows begins no date; one that a letter follows is a day before a month's name, an hour before am or pm, or a relative item.
-- Assumes nothing.
use borrow.Author.Tests.{lt-leb}
use native.Mathlib.Decide.{dec_lt}
use native.Mathlib.Omega.{arith}
use Prim.Native.Nat.{ℕ, ◌+◌, ◌<◌, ◌≤◌}
use mathlib.Core.Path.{◌≡◌, refl, sym, ◌∙◌}
use mathlib.Core.List.{List, [], ◌∷◌}
use mathlib.Core.Bool.{Bool, true, false}
use lib.ListN.{length, get_or, get_or-eq_default}
use Rattle.primitive.specs.Answer.{Answer, matched, dropped, none, stop, and_then, or_else}
use Rattle.primitive.specs.Text.{lower, lowered, bytes, digit, letter, past, tag}
use Rattle.primitive.specs.Primitive.{sign, space, colon, plus_or_minus}
use Rattle.primitive.proofs.Lowered.{get_or_lowered, lower_above, beyond}
use Rattle.primitive.proofs.Fronts.{str_else, number_else, word_else, tag_else, below_digits, above_digits, beyond_text, digit_here, digit_in_front, space_again}
use Rattle.relative.proofs.Spaced.{parse_behind}
use Rattle.dates.specs.Year.{year_str}
use Rattle.dates.specs.Date.{hyphen, iso1, iso2, dotted, us, word_dot, literal_month, literal1, literal2, literal3, literal, parse_non_iso}
use Rattle.times.specs.Offset.{any_offset, timezone_offset, timezone_offset_colon, timezone_offset_colonless}
use Rattle.times.specs.Time.{below, hour24, hour12, hour_offset, clock, iso, optional_minute, optional_second, meridiem, am_pm_time, parse}
use Rattle.times.proofs.Chain.{nothing_left}
use Rattle.relative.specs.Relative as relative
use Rattle.items.specs.Items.{dated_item, date_time_item, iso_date, iso_item, date_item, time_item, relative_item, time_or_relative, other_item, parse_item}
use Rattle.items.specs.Fronts.{month_item, word_item, day_item, day_or_time, day_or_relative, compact_item, unhyphened_item}
use Rattle.items.specs.declared.Item.{Item}
use Rattle.items.specs.declared.Item.TheVariants as item
use Rattle.dates.specs.declared.date.Date.{Date}
use Rattle.items.proofs.Chain.{items}
use Rattle.items.proofs.Numbers.{fails, digits_at, number_at, below_at, few_digits}

-- from the end of the space a reader that skips space is the same
module _ (text : List ℕ) (at : ℕ) where
  relative_behind : relative_item text (space text at) ≡ relative_item text at
  unfolding relative_item
  relative_behind = rw (parse_behind text at)

  time_behind : time_item text (space text at) ≡ time_item text at
  unfolding time_item parse am_pm_time iso hour_offset clock hour24 hour12 below
  time_behind = rw (space_again text at)

  either_behind : time_or_relative text (space text at) ≡ time_or_relative text at
  unfolding time_or_relative
  either_behind = rw (time_behind, relative_behind)

  month_behind : month_item text (space text at) ≡ month_item text at
  unfolding month_item literal2 literal3
  month_behind = rw (space_again text at)

  day_behind : day_item text (space text at) ≡ day_item text at
  unfolding day_item literal1
  day_behind = rw (space_again text at)

-- without a letter no month is named
no_month : (text : List ℕ) (at : ℕ) → letter (get_or text (space text at) 0) ≡ false → literal_month text (space text at) ≡ none
unfolding literal_month word_dot
no_month text at l = rw (space_again text at, word_else text (space text at) l)

module _ (s : List ℕ) (at : ℕ) (f : digit (get_or (lowered s) (space (lowered s) at) 0) ≡ false) where
  no_iso : iso_item (lowered s) at ≡ none
  unfolding iso_item iso_date iso1 iso2 year_str
  no_iso = rw (str_else (lowered s) (space (lowered s) at) f, str_else (lowered s) at (digit_in_front s at f))

  other_alone : (a : Answer Item) → a ≡ other_item (lowered s) at → a ≡ parse_item (lowered s) at
  unfolding parse_item
  other_alone a e = rw no_iso e

  no_time : time_item (lowered s) at ≡ none
  unfolding time_item parse am_pm_time iso hour_offset clock hour24 hour12 below
  no_time = rw (number_else (lowered s) (space (lowered s) at) f 255)

  months_alone : date_item (lowered s) at ≡ month_item (lowered s) at
  unfolding date_item parse_non_iso dotted us literal literal1 month_item year_str
  months_alone = rw (number_else (lowered s) (space (lowered s) at) f 255, str_else (lowered s) (space (lowered s) at) f)

  word_alone : (a : Answer Item) → a ≡ word_item (lowered s) (space (lowered s) at) → a ≡ parse_item (lowered s) at
  unfolding other_item time_or_relative word_item
  word_alone a e = other_alone a (rw (months_alone, no_time) (rw (month_behind (lowered s) at, relative_behind (lowered s) at) at e))

  module _ (l : letter (get_or (lowered s) (space (lowered s) at) 0) ≡ false) where
    no_date : date_item (lowered s) at ≡ none
    unfolding month_item literal2 literal3
    no_date = rw (months_alone, no_month (lowered s) at l)

    relative_alone : (a : Answer Item) → a ≡ relative_item (lowered s) at → a ≡ parse_item (lowered s) at
    unfolding other_item time_or_relative
    relative_alone a e = other_alone a (rw (no_date, no_time) e)

-- without a hyphen after a number the date is one without marks
unhyphened : (s : List ℕ) (at end : ℕ) → end ≡ past digit (lowered s) (space (lowered s) at) → (get_or (lowered s) (space (lowered s) end) 0 ≡ 45 → ⊥) → iso1 (lowered s) at ≡ none
unfolding iso1 year_str
unhyphened s at end e f = fails _ _ (digits_at (lowered s) (space (lowered s) at)) _ (λ w. rw (← e, tag_else (lowered s) (space (lowered s) end) 45 [] f))

-- A number in front, and after it and the space a byte that is above `/`: no sign and no mark of a date but a letter or a colon.
module _ (s : List ℕ) (at end : ℕ) (e : end ≡ past digit (lowered s) (space (lowered s) at)) (h : 47 < get_or (lowered s) (space (lowered s) end) 0) where
  no_mark : (c : ℕ) (cs : List ℕ) → (get_or (lowered s) (space (lowered s) end) 0 ≡ c → ⊥) → tag (c ∷ cs) (lowered s) (space (lowered s) (past digit (lowered s) (space (lowered s) at))) ≡ none
  no_mark c cs f = rw (← e) (tag_else (lowered s) (space (lowered s) end) c cs f)

  no_iso1 : iso1 (lowered s) at ≡ none
  no_iso1 = unhyphened s at end e (λ y. omega arith)

  no_dotted : dotted (lowered s) at ≡ none
  unfolding dotted
  no_dotted = fails _ _ (number_at (lowered s) (space (lowered s) at) 255) _ (λ d. rw (no_mark 46 [] (λ y. omega arith)))

  no_us : us (lowered s) at ≡ none
  unfolding us year_str
  no_us = fails _ _ (digits_at (lowered s) (space (lowered s) at)) _ (λ w. rw (no_mark 47 [] (λ y. omega arith)))

  module _ (l : letter (get_or (lowered s) (space (lowered s) end) 0) ≡ false) where
    no_word : literal_month (lowered s) (space (lowered s) (past digit (lowered s) (space (lowered s) at))) ≡ none
    no_word = rw (← e) (no_month (lowered s) end l)

    no_literal1 : literal1 (lowered s) at ≡ none
    unfolding literal1 hyphen
    no_literal1 = fails _ _ (number_at (lowered s) (space (lowered s) at) 255) _ (λ d. rw (no_mark 45 [] (λ y. omega arith), no_word))

    no_day : day_item (lowered s) at ≡ none
    unfolding day_item
    no_day = rw no_literal1

  -- no digits that are a year, a month and a day, and no month in front
  module _ (k : end ≤ space (lowered s) at + 4) (l : letter (get_or (lowered s) (space (lowered s) at) 0) ≡ false) where
    no_iso2 : iso2 (lowered s) at ≡ none
    unfolding iso2
    no_iso2 = go (digit (get_or (lowered s) at 0)) refl
      where
        go : (t : Bool) → digit (get_or (lowered s) at 0) ≡ t → iso2 (lowered s) at ≡ none
        go true f = few_digits (lowered s) at (rw (e, ← digit_here s at f) at k)
        go false f = rw (str_else (lowered s) at f)

    number_iso : iso_item (lowered s) at ≡ none
    unfolding iso_item iso_date
    number_iso = rw (no_iso1, no_iso2)

    number_date : date_item (lowered s) at ≡ day_item (lowered s) at
    unfolding date_item parse_non_iso literal literal2 literal3 day_item
    number_date = rw (no_dotted, no_us, no_month (lowered s) at l) (go (literal1 (lowered s) at))
      where
        go : (a : Answer Date) → and_then (or_else a none) (λ v n. matched (item.Date v) n) ≡ and_then a (λ v n. matched (item.Date v) n)
        go (matched v n) = refl
        go (dropped v n) = refl
        go none = refl
        go stop = refl

    number_alone : (a : Answer Item) → a ≡ or_else (day_item (lowered s) at) (time_or_relative (lowered s) at) → a ≡ parse_item (lowered s) at
    unfolding parse_item other_item
    number_alone a q = rw (number_iso, number_date) q

  -- no time, where no colon follows either and neither am nor pm
  module _ (c : get_or (lowered s) (space (lowered s) end) 0 ≡ 58 → ⊥) (u : get_or (lowered s) (space (lowered s) end) 0 ≡ 97 → ⊥) (v : get_or (lowered s) (space (lowered s) end) 0 ≡ 112 → ⊥) where
    no_half : am_pm_time (lowered s) at ≡ none
    unfolding am_pm_time hour12 optional_minute optional_second colon meridiem bytes
    no_half =
        fails _ _ (below_at (lowered s) at 13) _
        (λ h. rw (no_mark 58 [] c, no_mark 58 [] c, no_mark 97 (bytes "m") u, no_mark 97 (bytes ".m.") u, no_mark 112 (bytes "m") v, no_mark 112 (bytes ".m.") v))

    no_correction : timezone_offset (lowered s) (past digit (lowered s) (space (lowered s) at)) ≡ none
    unfolding timezone_offset any_offset timezone_offset_colon timezone_offset_colonless plus_or_minus sign
    no_correction =
        rw (no_mark 43 [] (λ y. omega arith), no_mark 45 [] (λ y. omega arith))
        (sym (nothing_left (relative.parse (lowered s) (past digit (lowered s) (space (lowered s) at)))))

    no_hour_offset : hour_offset (lowered s) at ≡ none
    unfolding hour_offset hour24
    no_hour_offset = fails _ _ (below_at (lowered s) at 24) _ (λ h. rw no_correction)

    no_clock : clock (lowered s) at ≡ none
    unfolding clock hour24 colon
    no_clock = fails _ _ (below_at (lowered s) at 24) _ (λ h. rw (no_mark 58 [] c))

    timeless : time_or_relative (lowered s) at ≡ relative_item (lowered s) at
    unfolding time_or_relative time_item parse iso
    timeless = rw (no_half, no_hour_offset, no_clock)

-- a byte up to `9` is no letter, and a colon is itself in lower case
upto_9 : (s : List ℕ) (i : ℕ) → get_or s i 0 ≤ 57 → letter (get_or (lowered s) i 0) ≡ false
unfolding letter lower
upto_9 s i h = rw (get_or_lowered s i, lt-leb 65 (get_or s i 0) (omega arith), lt-leb 97 (get_or s i 0) (omega arith))

colon_at : (s : List ℕ) (i : ℕ) → get_or s i 0 ≡ 58 → get_or (lowered s) i 0 ≡ 58
unfolding lower
colon_at s i h = rw (get_or_lowered s i, h)

-- the tests of the first byte
module _ (s : List ℕ) (at start : ℕ) (g : start ≡ space (lowered s) at) (a : Answer Item) where
  pub above_9 : 57 < get_or s start 0 → a ≡ word_item (lowered s) start → a ≡ parse_item (lowered s) at
  above_9 h e = word_alone s at (rw g at (above_digits s start h)) a (rw g at e)

  behind_space : a ≡ relative_item (lowered s) start → a ≡ relative_item (lowered s) at
  behind_space e = rw (g, relative_behind (lowered s) at) at e

  pub below_0 : get_or s start 0 < 48 → a ≡ relative_item (lowered s) start → a ≡ parse_item (lowered s) at
  below_0 h e = let z = below_digits s start h in relative_alone s at (rw g at z.0) (rw g at z.1) a (behind_space e)

  pub no_byte : length s ≤ start → a ≡ relative_item (lowered s) start → a ≡ parse_item (lowered s) at
  no_byte h e = let z = beyond_text s start h in relative_alone s at (rw g at z.0) (rw g at z.1) a (behind_space e)

-- a byte that is no hyphen is none in lower case, and the end of the text is none
module _ (s : List ℕ) (i : ℕ) where
  still_no_hyphen : (get_or s i 0 ≡ 45 → ⊥) → get_or (lowered s) i 0 ≡ 45 → ⊥
  unfolding lower
  still_no_hyphen f y = go (dec_lt (get_or s i 0) 65)
    where
      go : Dec (get_or s i 0 < 65) → ⊥
      go (yes h) = f (rw (get_or_lowered s i, lt-leb 65 (get_or s i 0) h) at y)
      go (no h) = let l = lower_above (get_or s i 0) in let z : lower (get_or s i 0) ≡ 45 = rw (get_or_lowered s i) at y in omega arith

  no_hyphen_beyond : length s ≤ i → get_or (lowered s) i 0 ≡ 45 → ⊥
  no_hyphen_beyond h y = let z = get_or-eq_default (lowered s) 0 {n = i} (beyond s i h) in omega arith

-- the tests of the byte that follows a number of many digits
module _ (s : List ℕ) (at start end next : ℕ) (g : start ≡ space (lowered s) at) (e : end ≡ past digit (lowered s) start) (n : next ≡ space (lowered s) end) (a : Answer Item) (q : a ≡ unhyphened_item (lowered s) at) where
  marked : (get_or (lowered s) next 0 ≡ 45 → ⊥) → a ≡ parse_item (lowered s) at
  unfolding parse_item iso_item iso_date unhyphened_item compact_item
  marked f = rw (unhyphened s at end (rw g at e) (rw n at f)) q

  pub no_hyphen_next : (get_or s next 0 ≡ 45 → ⊥) → a ≡ parse_item (lowered s) at
  no_hyphen_next f = marked (still_no_hyphen s next f)

  pub nothing_next : length s ≤ next → a ≡ parse_item (lowered s) at
  nothing_next h = marked (no_hyphen_beyond s next h)

-- the tests of the byte that follows a number of at most four digits
module _ (s : List ℕ) (at start end next : ℕ) (g : start ≡ space (lowered s) at) (e : end ≡ past digit (lowered s) start) (n : next ≡ space (lowered s) end) (k : end ≤ start + 4) (z : get_or s start 0 ≤ 57) (a : Answer Item) where
  numbered : (b : ℕ) → get_or (lowered s) next 0 ≡ b → 47 < b → a ≡ or_else (day_item (lowered s) at) (time_or_relative (lowered s) at) → a ≡ parse_item (lowered s) at
  numbered b f h q = number_alone s at end (rw g at e) (rw (← n, f) h) (rw g at k) (upto_9 s (space (lowered s) at) (rw g at z)) a q

  pub colon_next : get_or s next 0 ≡ 58 → a ≡ time_or_relative (lowered s) start → a ≡ parse_item (lowered s) at
  unfolding letter
  colon_next h q =
      let f : get_or (lowered s) next 0 ≡ 58 = colon_at s next h in
      let b : get_or (lowered s) (space (lowered s) end) 0 ≡ 58 = rw n at f in
      numbered 58 f (omega arith) (rw (no_day s at end (rw g at e) (rw b (omega arith)) (rw b refl)) (rw (g, either_behind (lowered s) at) at q))

  module _ (h : 57 < get_or s next 0) (c : get_or s next 0 ≡ 58 → ⊥) where
    above_colon : 58 < get_or (lowered s) next 0
    above_colon = let l = lower_above (get_or s next 0) in rw (get_or_lowered s next) (omega arith)

    pub time_next : a ≡ day_or_time (lowered s) start → a ≡ parse_item (lowered s) at
    unfolding day_or_time
    time_next q = let l = above_colon in numbered (get_or (lowered s) next 0) refl (omega arith) (rw (g, day_behind (lowered s) at, either_behind (lowered s) at) at q)

    pub letter_next : (b : ℕ) → b ≡ lower (get_or s next 0) → (b ≡ 97 → ⊥) → (b ≡ 112 → ⊥) → a ≡ day_or_relative (lowered s) start → a ≡ parse_item (lowered s) at
    unfolding day_or_relative
    letter_next b f u v q =
        let l = above_colon in
        let i : get_or (lowered s) (space (lowered s) end) 0 ≡ b = rw (← n, get_or_lowered s next, f) in
        let o : 47 < get_or (lowered s) (space (lowered s) end) 0 = rw (← n) (omega arith) in
        let r = timeless s at end (rw g at e) o (λ y. let w : get_or (lowered s) next 0 ≡ 58 = rw n y in omega arith) (λ y. u (sym i ∙ y)) (λ y. v (sym i ∙ y)) in
        numbered (get_or (lowered s) next 0) refl (omega arith) (rw r (rw (g, day_behind (lowered s) at, relative_behind (lowered s) at) at q))

-- a date that was read is an item, with a time or alone
module _ (text : List ℕ) (at : ℕ) (a : Answer Item) where
  dated_kept : (d : Date) (n : ℕ) (q : Answer Item) → or_else (dated_item d text n) q ≡ dated_item d text n
  unfolding dated_item
  dated_kept d n q = go (date_time_item d text n)
    where
      go : (b : Answer Item) → or_else (or_else b (matched (item.Date d) n)) q ≡ or_else b (matched (item.Date d) n)
      go (matched v m) = refl
      go (dropped v m) = refl
      go none = refl
      go stop = refl

  pub iso_read : (d : Date) (n : ℕ) → matched d n ≡ iso_date text at → a ≡ dated_item d text n → a ≡ parse_item text at
  unfolding parse_item iso_item
  iso_read d n e q = rw (← e, dated_kept d n (other_item text at)) q

  pub iso_unread : none ≡ iso_date text at → a ≡ other_item text at → a ≡ parse_item text at
  unfolding parse_item iso_item
  iso_unread e q = rw (← e) q

  pub compact_read : (d : Date) (n : ℕ) → matched d n ≡ iso2 text at → a ≡ dated_item d text n → a ≡ unhyphened_item text at
  unfolding unhyphened_item compact_item
  compact_read d n e q = rw (← e, dated_kept d n (other_item text at)) q

  pub compact_unread : none ≡ iso2 text at → a ≡ other_item text at → a ≡ unhyphened_item text at
  unfolding unhyphened_item compact_item
  compact_unread e q = rw (← e) q

pub ruleset dates = (iso_read, iso_unread, compact_read, compact_unread, items)

pub ruleset fronts = (above_9, below_0, no_byte, items)

pub ruleset followers = (colon_next, time_next, letter_next, items)

pub ruleset hyphens = (no_hyphen_next, nothing_next, items)
