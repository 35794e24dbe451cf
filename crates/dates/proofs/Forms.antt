-- Each written form of 29.2 is read as exactly its date, up to what stands behind it. A number is any row of digits, and the date is one
-- that the calendar has. Space may stand in front and between the parts; what may stand behind the date is a premise. Assumes nothing.
use Rattle.std.specs.Prelude.{Some, None}
use native.Mathlib.Omega.{arith}
use borrow.Author.Tests.{le-leb, lt-leb, leb-true, ltb-true, ltb-false}
use Prim.Native.Nat.{ℕ, zero, suc, ◌+◌, ◌-◌, ◌*◌, ◌<◌, ◌≤◌}
use mathlib.Core.Path.{◌≡◌, refl, sym, ap, ◌∙◌}
use mathlib.Core.List.{List, [], ◌∷◌, ◌++◌, append_assoc}
use mathlib.Core.Bool.{Bool, true, false, ◌&&◌}
use lib.ListN.{length, take, drop, length-drop, length-append, take-append-drop}
use lib.Seq.{slice, take_at, drop_at}
use lib.Dec.{ltb, leb}
use Rattle.extended.specs.Calendar.{month_days}
use Rattle.answers.specs.Limits.{last_year}
use Rattle.extended.proofs.Counting.{month_bound, month_zero, month_beyond}
use Rattle.primitive.specs.Answer.{Reader, pure, ◌>>=◌, ◌>>◌}
use Rattle.primitive.specs.Text.{blank, digit, byte}
use Rattle.primitive.specs.Primitive.{multispace1, spaced, decimal, parse_uint, dec_uint}
use Rattle.primitive.proofs.Values.{decimal_more}
use Rattle.dates.specs.Year.{widened, year_from_str, year_str}
use Rattle.dates.specs.Date.{date_of, exists, with_year, without_year, written, unwritten, dated, end_of_text, blank_or_end, ended, ended_year, dated_behind, dotted, iso1, five_digits, iso2, us_date, slash_part, us_rest, us}
use Rattle.dates.specs.Date.{nothing as no_part}
use Rattle.dates.specs.declared.date.Date.{Date}
use Rattle.primitive.proofs.Walk.{Reads, Fails, Spaces, ◌⟨◌⟩◌, ◌⟨◌⟩!◌, at_once, first, ◌or◌, ◌nor◌, nothing, verified, not_verified, behind_space, not_behind_space}
use Rattle.primitive.proofs.Leaves.{head, blank_no_digit, minus, plain, some_read, some_else, byte_read, number_read, number_head, number_still, str_read, str_else, still}
use Rattle.primitive.proofs.Rows.{all, halves, Number}

-- ---- what the calendar has

-- a day that some month has is a day of a month
pub day_small : (y m d : ℕ) → exists y m d ≡ true → (m ≤ 12) × (d ≤ 31)
unfolding exists
day_small y m d e =
    let h = halves (leb 1 d) (leb d (month_days y m)) e in
    let one = leb-true 1 d h.0 in
    let most = leb-true d (month_days y m) h.1 in
    let bound = month_bound y m in
    (month (ltb 12 m) refl one most, omega arith)
  where
    month : (t : Bool) → ltb 12 m ≡ t → 1 ≤ d → d ≤ month_days y m → m ≤ 12
    month true g one most = let none = month_beyond y m (ltb-true 12 m g) in omega arith
    month false g one most = ltb-false 12 m g

-- the digits of a year that has the day d of month m
pub record Year (ys : List ℕ) (m d : ℕ) : Type 0 where
  pub number : Number ys
  pub last : widened ys ≤ last_year
  pub there : exists (widened ys) m d ≡ true

abbrev pub in_year : List ℕ → ℕ → ℕ → Date
in_year ys m d = date_of (Some (widened ys)) m d

-- ---- numbers and marks behind space

module _ {l ds rest : List ℕ} (s : Spaces l (ds ++ rest)) (n : Number ds) (h : digit (head rest) ≡ false) where
  pub year_str_read : Reads year_str l ds rest
  unfolding year_str
  year_str_read = behind_space s (str_read n h)

  pub small_read : decimal ds ≤ 255 → Reads (spaced (dec_uint 255)) l (decimal ds) rest
  small_read m = behind_space s (number_read n m h)

-- digits at once
pub here : {ds : List ℕ} (rest : List ℕ) → Number ds → Spaces (ds ++ rest) (ds ++ rest)
here rest n = still (number_still rest n)

-- `-` is 45; a digit behind it keeps it from being skipped
pub minus_read : {ds : List ℕ} (rest : List ℕ) → Number ds → Reads (spaced (byte 45)) (45 ∷ (ds ++ rest)) tt (ds ++ rest)
minus_read rest n = behind_space (still (minus (number_head rest n))) (byte_read 45)

-- `.` is 46 and `/` is 47
pub dot_read : {l : List ℕ} → Reads (spaced (byte 46)) (46 ∷ l) tt l
unfolding blank
dot_read = behind_space (still (plain refl)) (byte_read 46)

pub slash_read : {l : List ℕ} → Reads (spaced (byte 47)) (47 ∷ l) tt l
unfolding blank
slash_read = behind_space (still (plain refl)) (byte_read 47)

-- ---- with a year or without one

pub with_year_read : {ys l : List ℕ} {m d : ℕ} → Year ys m d → Reads (with_year ys m d) l (in_year ys m d) l
unfolding with_year year_from_str
with_year_read {ys} a = verified (le-leb (widened ys) last_year a.last) ⟨ _ ⟩ verified a.there

pub without_year_read : {m d : ℕ} {l : List ℕ} → exists 2000 m d ≡ true → Reads (without_year m d) l (date_of None m d) l
unfolding without_year
without_year_read h = verified h

-- What has to stand behind a year: the end of the text, or blanks, which are read with it.
pub data Ending : List ℕ → List ℕ → Type 0 where
  text_ends : Ending [] []
  blanks_end : (b : ℕ) (bs : List ℕ) {rest : List ℕ} → all blank (b ∷ bs) ≡ true → blank (head rest) ≡ false → Ending (b ∷ (bs ++ rest)) rest

ending_read : {l rest : List ℕ} → Ending l rest → Reads blank_or_end l tt rest
unfolding blank_or_end end_of_text multispace1 blank
ending_read text_ends =
    at_once _ (some_else blank refl)
    or record { reads = λ text at e. (at, rw (le-leb (length text) at (outside text at e)), e) }
  where
    outside : (text : List ℕ) (at : ℕ) → drop at text ≡ [] → length text ≤ at
    outside text at e = let z : length text - at ≡ 0 = sym (length-drop at text) ∙ ap length e in omega arith
ending_read (blanks_end b bs g h) = first _ (some_read blank (b ∷ bs) (omega arith) g h ⟨ _ ⟩ nothing)

ending_no_digit : {l rest : List ℕ} → Ending l rest → digit (head l) ≡ false
unfolding digit
ending_no_digit text_ends = refl
ending_no_digit (blanks_end b bs g h) = blank_no_digit b (halves (blank b) (all blank bs) g).0

-- what follows day and month behind what p reads: a year or none
pub data YearOrNone (p : Reader (Unit {0})) (m d : ℕ) : List ℕ → Date → List ℕ → Type 0 where
  with_it : {l x y ys rest : List ℕ} → Reads p l tt x → Spaces x (ys ++ y) → Ending y rest → Year ys m d → YearOrNone p m d l (in_year ys m d) rest
  without_it : {l : List ℕ} → Fails (p >> ended) l → exists 2000 m d ≡ true → YearOrNone p m d l (date_of None m d) l

pub year_or_none : {p : Reader (Unit {0})} {m d : ℕ} {l rest : List ℕ} {v : Date} → YearOrNone p m d l v rest → Reads (dated_behind p m d) l v rest
unfolding dated_behind ended_year ended dated
year_or_none {p} {m} {d} (with_it r s e a) = first _ (r ⟨ _ ⟩ year_str_read s a.number (ending_no_digit e) ⟨ _ ⟩ ending_read e ⟨ _ ⟩ nothing) ⟨ (λ y. dated y m d) ⟩ with_year_read a
year_or_none {p} {m} {d} (without_it f h) = (f or nothing) ⟨ (λ y. dated y m d) ⟩ without_year_read h

pub year_or_none_small : {p : Reader (Unit {0})} {m d : ℕ} {l rest : List ℕ} {v : Date} → YearOrNone p m d l v rest → (m ≤ 12) × (d ≤ 31)
year_or_none_small {p} {m} {d} (with_it r s e a) = day_small _ m d a.there
year_or_none_small {p} {m} {d} (without_it f h) = day_small 2000 m d h

-- where there is no such year: no digit behind what p reads, or digits with another byte behind them than a blank
not_ended : (b : ℕ) {bs : List ℕ} → blank b ≡ false → Fails blank_or_end (b ∷ bs)
unfolding blank_or_end end_of_text multispace1
not_ended b {bs} h = at_once _ (some_else blank h) nor record { fails = λ text at e. rw (lt-leb (length text) at (within text at e)) }
  where
    within : (text : List ℕ) (at : ℕ) → drop at text ≡ b ∷ bs → at < length text
    within text at e = let z : length text - at ≡ suc (length bs) = sym (length-drop at text) ∙ ap length e in omega arith

module _ (p : Reader (Unit {0})) {l x : List ℕ} (r : Reads p l tt x) where
  pub no_digit_year : {m : List ℕ} → Spaces x m → digit (head m) ≡ false → Fails (p >> ended) l
  unfolding ended year_str
  no_digit_year s h = r ⟨ _ ⟩! at_once _ (not_behind_space s (str_else h))

  pub unended_year : {ds : List ℕ} (b : ℕ) (bs : List ℕ) → Spaces x (ds ++ (b ∷ bs)) → Number ds → digit b ≡ false → blank b ≡ false → Fails (p >> ended) l
  unfolding ended
  unended_year b bs s n d h = r ⟨ _ ⟩! year_str_read s n d ⟨ _ ⟩! at_once _ (not_ended b h)

-- ---- year-month-day

module _ {l ys ms ds rest : List ℕ} (s : Spaces l (ys ++ (45 ∷ (ms ++ (45 ∷ (ds ++ rest)))))) (m : Number ms) (d : Number ds) (a : Year ys (decimal ms) (decimal ds)) (h : digit (head rest) ≡ false) where
  pub iso1_read : Reads iso1 l (in_year ys (decimal ms) (decimal ds)) rest
  unfolding iso1 digit
  iso1_read =
      let small = day_small (widened ys) (decimal ms) (decimal ds) a.there in
      year_str_read s a.number refl ⟨ _ ⟩ minus_read _ m ⟨ _ ⟩ small_read (here _ m) m refl (omega arith) ⟨ _ ⟩ minus_read _ d ⟨ _ ⟩ small_read (here _ d) d h (omega arith)
      ⟨ _ ⟩ with_year_read a

-- ---- digits in a row: `20221114`

-- a row of digits that is a date: five or more, the last four a month and a day of the year that stands in front of them
unfoldable pub glued : List ℕ → Bool
glued w =
    leb 5 (length w)
    && (leb (widened (take (length w - 4) w)) last_year
    && exists (widened (take (length w - 4) w)) (decimal (slice (length w - 4) (length w - 2) w)) (decimal (drop (length w - 2) w)))

whole_read : (w : List ℕ) {l : List ℕ} → decimal w ≤ 255 → Reads (parse_uint 255 w) l (decimal w) l
unfolding parse_uint
whole_read w h = verified (le-leb (decimal w) 255 h)

pub all_joined : (p : ℕ → Bool) (k l : List ℕ) → all p k ≡ true → all p l ≡ true → all p (k ++ l) ≡ true
all_joined p [] l f g = g
all_joined p (b ∷ bs) l f g = let t = halves (p b) (all p bs) f in rw t.0 (all_joined p bs l t.1 g)

-- year, month and day, the last two with two digits each
module _ (ys ms ds : List ℕ) (two : length ms ≡ 2) (two' : length ds ≡ 2) where
  row_length : length (ys ++ (ms ++ ds)) ≡ length ys + 4
  row_length = simp length-append (omega arith)

  front : take (length (ys ++ (ms ++ ds)) - 4) (ys ++ (ms ++ ds)) ≡ ys
  front = let k = row_length in take_at ys (ms ++ ds) (length (ys ++ (ms ++ ds)) - 4) (omega arith)

  last_two : drop (length (ys ++ (ms ++ ds)) - 2) (ys ++ (ms ++ ds)) ≡ ds
  last_two =
      let k = row_length in
      let n : length (ys ++ ms) ≡ length (ys ++ (ms ++ ds)) - 2 = simp length-append (omega arith) in
      ap (drop (length (ys ++ (ms ++ ds)) - 2)) (sym (append_assoc ys ms ds)) ∙ drop_at (ys ++ ms) ds _ n

  middle : slice (length (ys ++ (ms ++ ds)) - 4) (length (ys ++ (ms ++ ds)) - 2) (ys ++ (ms ++ ds)) ≡ ms
  middle =
      let k = row_length in
      let n : length (ys ++ ms) ≡ length (ys ++ (ms ++ ds)) - 2 = simp length-append (omega arith) in
      let t = ap (take (length (ys ++ (ms ++ ds)) - 2)) (sym (append_assoc ys ms ds)) ∙ take_at (ys ++ ms) ds _ n in
      ap (drop (length (ys ++ (ms ++ ds)) - 4)) t ∙ drop_at ys ms (length (ys ++ (ms ++ ds)) - 4) (omega arith)

  pub row_number : Number ys → Number ms → Number ds → Number (ys ++ (ms ++ ds))
  row_number y m d = let k = row_length in record { long = omega arith; digits = all_joined digit ys (ms ++ ds) y.digits (all_joined digit ms ds m.digits d.digits) }

  pub iso2_read : {rest : List ℕ} → Number ms → Number ds → Year ys (decimal ms) (decimal ds) → digit (head rest) ≡ false → Reads iso2 ((ys ++ (ms ++ ds)) ++ rest) (in_year ys (decimal ms) (decimal ds)) rest
  unfolding iso2 five_digits
  iso2_read {rest} m d a h =
      let k = row_length in
      let long = a.number.long in
      let small = day_small (widened ys) (decimal ms) (decimal ds) a.there in
      let month : Reads (parse_uint 255 (slice (length (ys ++ (ms ++ ds)) - 4) (length (ys ++ (ms ++ ds)) - 2) (ys ++ (ms ++ ds)))) rest (decimal ms) rest = rw middle (whole_read ms (omega arith)) in
      let day : Reads (parse_uint 255 (drop (length (ys ++ (ms ++ ds)) - 2) (ys ++ (ms ++ ds)))) rest (decimal ds) rest = rw last_two (whole_read ds (omega arith)) in
      let year : Reads (with_year (take (length (ys ++ (ms ++ ds)) - 4) (ys ++ (ms ++ ds))) (decimal ms) (decimal ds)) rest (in_year ys (decimal ms) (decimal ds)) rest = rw front (with_year_read a) in
      str_read (row_number a.number m d) h ⟨ _ ⟩ verified (le-leb 5 (length (ys ++ (ms ++ ds))) (omega arith)) ⟨ _ ⟩ month ⟨ _ ⟩ day ⟨ _ ⟩ year

-- digits in a row that are no date
whole_fails : {B : Type 0} (w l : List ℕ) (f : ℕ → Reader B) → Fails (f (decimal w)) l → Fails (parse_uint 255 w >>= f) l
unfolding parse_uint
whole_fails w l f a = go (leb (decimal w) 255) refl
  where
    go : (t : Bool) → leb (decimal w) 255 ≡ t → Fails (parse_uint 255 w >>= f) l
    go true e = verified e ⟨ f ⟩! a
    go false e = at_once f (not_verified (decimal w) e)

with_year_fails : (ys l : List ℕ) (m d : ℕ) → leb (widened ys) last_year && exists (widened ys) m d ≡ false → Fails (with_year ys m d) l
unfolding with_year year_from_str
with_year_fails ys l m d = go (leb (widened ys) last_year) refl
  where
    go : (t : Bool) → leb (widened ys) last_year ≡ t → t && exists (widened ys) m d ≡ false → Fails (with_year ys m d) l
    go true e h = verified e ⟨ _ ⟩! not_verified (in_year ys m d) h
    go false e h = at_once _ (not_verified (widened ys) e)

pub no_glued_date : {w : List ℕ} (rest : List ℕ) → Number w → digit (head rest) ≡ false → glued w ≡ false → Fails iso2 (w ++ rest)
unfolding iso2 five_digits glued
no_glued_date {w} rest n h g = go (leb 5 (length w)) refl
  where
    go : (t : Bool) → leb 5 (length w) ≡ t → Fails iso2 (w ++ rest)
    go true e = str_read n h ⟨ _ ⟩! verified e ⟨ _ ⟩! whole_fails _ rest _ (whole_fails _ rest _ (with_year_fails _ rest _ _ (rw e at g)))
    go false e = str_read n h ⟨ _ ⟩! at_once _ (not_verified tt e)

-- so are fewer than five digits, and a number below 100 with any zeros in front
pub short_no_date : (w : List ℕ) → length w < 5 → glued w ≡ false
unfolding glued
short_no_date w h = rw (lt-leb 5 (length w) h)

no_such_day : (y m d : ℕ) → m < 1 → exists y m d ≡ false
unfolding exists
no_such_day y m d h = rw (month_zero y m h) (go (leb 1 d) refl)
  where
    go : (t : Bool) → leb 1 d ≡ t → t && leb d 0 ≡ false
    go true e = let z = leb-true 1 d e in lt-leb d 0 (omega arith)
    go false e = refl

hundreds : (k t : List ℕ) → length t ≡ 2 → decimal k * 100 ≤ decimal (k ++ t)
hundreds k [] h = absurd (omega arith)
hundreds k (x ∷ []) h = absurd (omega arith)
hundreds k (x ∷ (y ∷ [])) h =
    let e : k ++ (x ∷ (y ∷ [])) ≡ (k ++ (x ∷ [])) ++ (y ∷ []) = sym (append_assoc k (x ∷ []) (y ∷ [])) in
    let g = decimal_more y (k ++ (x ∷ [])) in
    let f = decimal_more x k in
    rw e (omega arith)
hundreds k (x ∷ (y ∷ (z ∷ zs))) h = absurd (omega arith)

fewer : (i : ℕ) (l : List ℕ) → decimal (drop i l) ≤ decimal l
unfolding decimal
fewer zero l = omega arith
fewer (suc i) [] = omega arith
fewer (suc i) (b ∷ bs) = let h = fewer i bs in omega arith

and_false : (t : Bool) → t && false ≡ false
and_false true = refl
and_false false = refl

pub small_no_date : (w : List ℕ) → decimal w < 100 → glued w ≡ false
unfolding glued
small_no_date w h = go (leb 5 (length w)) refl
  where
    go : (t : Bool) → leb 5 (length w) ≡ t → glued w ≡ false
    go false e = rw e
    go true e =
        let l = leb-true 5 (length w) e in
        let two : length (drop (length w - 2) w) ≡ 2 = simp length-drop (omega arith) in
        let front = hundreds (take (length w - 2) w) (drop (length w - 2) w) two in
        let whole = ap decimal (take-append-drop (length w - 2) w) in
        let month = fewer (length w - 4) (take (length w - 2) w) in
        rw (e, no_such_day (widened (take (length w - 4) w)) (decimal (slice (length w - 4) (length w - 2) w)) (decimal (drop (length w - 2) w)) (omega arith)) (and_false (leb (widened (take (length w - 4) w)) last_year))

-- ---- month/day/year, month/day; year/month/day

pub no_slash_part : {l : List ℕ} → Fails (spaced (byte 47)) l → Reads slash_part l unwritten l
unfolding slash_part
no_slash_part a = at_once _ a or nothing

slash_part_read : {vs rest : List ℕ} → Number vs → digit (head rest) ≡ false → Reads slash_part (47 ∷ (vs ++ rest)) (written vs) rest
unfolding slash_part
slash_part_read {vs} {rest} v h = first _ (slash_read ⟨ _ ⟩ year_str_read (here rest v) v h ⟨ (λ w. pure (written w)) ⟩ nothing)

module _ {l ws ns : List ℕ} (x : List ℕ) (s : Spaces l (ws ++ (47 ∷ (ns ++ x)))) (w : Number ws) (n : Number ns) (small : decimal ns ≤ 255) (h : digit (head x) ≡ false) where
  us_begun : {v : Date} {rest : List ℕ} → Reads (us_rest ws (decimal ns)) x v rest → Reads us l v rest
  unfolding us digit
  us_begun r = year_str_read s w refl ⟨ _ ⟩ slash_read ⟨ _ ⟩ small_read (here x n) n h small ⟨ _ ⟩ r

-- The first of three numbers is the month where it has three digits or fewer, and the year where it has more.
module _ {l ws ns vs rest : List ℕ} (s : Spaces l (ws ++ (47 ∷ (ns ++ (47 ∷ (vs ++ rest)))))) (n : Number ns) (h : digit (head rest) ≡ false) where
  pub month_day_year_read : Number ws → length ws < 4 → Year vs (decimal ws) (decimal ns) → Reads us l (in_year vs (decimal ws) (decimal ns)) rest
  unfolding us_rest us_date digit
  month_day_year_read w k a =
      let small = day_small (widened vs) (decimal ws) (decimal ns) a.there in
      us_begun _ s w n (omega arith) refl
      (slash_part_read a.number h ⟨ us_date ws (decimal ns) ⟩ rw (lt-leb 4 (length ws) k) (whole_read ws (omega arith) ⟨ _ ⟩ with_year_read a))

  pub year_month_day_read : Number vs → 4 ≤ length ws → Year ws (decimal ns) (decimal vs) → Reads us l (in_year ws (decimal ns) (decimal vs)) rest
  unfolding us_rest us_date digit
  year_month_day_read v k a =
      let small = day_small (widened ws) (decimal ns) (decimal vs) a.there in
      us_begun _ s a.number n (omega arith) refl
      (slash_part_read v h ⟨ us_date ws (decimal ns) ⟩ rw (le-leb 4 (length ws) k) (whole_read vs (omega arith) ⟨ _ ⟩ with_year_read a))

-- Behind month/day stands no further slash with a number.
pub month_day_read : {l ws ns : List ℕ} (rest : List ℕ) → Spaces l (ws ++ (47 ∷ (ns ++ rest))) → Number ws → Number ns → exists 2000 (decimal ws) (decimal ns) ≡ true → digit (head rest) ≡ false → Reads slash_part rest unwritten rest → Reads us l (date_of None (decimal ws) (decimal ns)) rest
unfolding us_rest us_date
month_day_read {l} {ws} {ns} rest s w n a h r =
    let small = day_small 2000 (decimal ws) (decimal ns) a in
    us_begun rest s w n (omega arith) h (r ⟨ us_date ws (decimal ns) ⟩ whole_read ws (omega arith) ⟨ (λ m. without_year m (decimal ns)) ⟩ without_year_read a)

-- ---- day.month.year, day.month.

pub dotted_read : {l ds ms x rest : List ℕ} {v : Date} → Spaces l (ds ++ (46 ∷ (ms ++ (46 ∷ x)))) → Number ds → Number ms → YearOrNone no_part (decimal ms) (decimal ds) x v rest → Reads dotted l v rest
unfolding dotted digit
dotted_read {ds = ds} {ms} {x} s d m y =
    let small = year_or_none_small y in
    small_read s d refl (omega arith) ⟨ _ ⟩ dot_read ⟨ _ ⟩ small_read (here (46 ∷ x) m) m refl (omega arith) ⟨ _ ⟩ dot_read ⟨ _ ⟩ year_or_none y

pub no_part_read : {l : List ℕ} → Reads no_part l tt l
unfolding no_part
no_part_read = nothing
