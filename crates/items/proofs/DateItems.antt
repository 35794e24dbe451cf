-- Theorem: each date form of 29.2, with the forms that the Rust has beside them, is read by `parse_item` as exactly its date, and what
-- stands behind it is left. Blanks may stand in front. Assumes nothing.
use Rattle.std.specs.Prelude.{None}
use native.Mathlib.Omega.{arith}
use Prim.Native.Nat.{ℕ, ◌<◌, ◌≤◌}
use mathlib.Core.Path.{◌≡◌, refl}
use mathlib.Core.List.{List, [], ◌∷◌, ◌++◌}
use mathlib.Core.Bool.{true, false}
use lib.ListN.{length}
use Rattle.primitive.specs.Text.{blank, digit, letter}
use Rattle.primitive.specs.Primitive.{decimal}
use Rattle.dates.specs.Date.{iso1, date_of, exists, unwritten, hyphen, comma, dotted, us, slash_part, literal, literal2, parse_non_iso}
use Rattle.dates.specs.Date.{nothing as no_part}
use Rattle.dates.specs.declared.date.Date.{Date}
use Rattle.items.specs.Combined.{parse_time_after_date}
use Rattle.items.specs.Items.{iso_date, parse_item}
use Rattle.items.specs.declared.Item.TheVariants as item
use Rattle.primitive.proofs.Walk.{Reads, Fails, Spaces, ◌⟨◌⟩!◌, at_once, first, ◌or◌, ◌nor◌, not_behind_space}
use Rattle.primitive.proofs.Leaves.{head, other, blank_no_digit, blanks_head, plain, minus, number_head, number_still, number_else, still, blanks}
use Rattle.primitive.proofs.Rows.{all, Number}
use Rattle.dates.proofs.Forms.{Year, in_year, day_small, YearOrNone, year_or_none_small, iso1_read, iso2_read, glued, small_no_date, month_day_year_read, year_month_day_read, month_day_read, dotted_read}
use Rattle.dates.proofs.LiteralForms.{Month, Apart, month_head, month_no_digit, month_still, month_read}
use Rattle.dates.proofs.LiteralForms.{day_month_read, month_day_read as name_day_read, month_day_year_read as name-day-year-read}
use Rattle.items.proofs.Forms.{iso_date_alone, other_date, no_iso, no_dotted, no_us, no_literal1, no_row, number_no_iso1, number_no_dotted, number_no_us}

-- ---- dates of digits alone

module _ (bs : List ℕ) (b : all blank bs ≡ true) where
  -- year-month-day: behind it stands no digit, and no time
  pub year_month_day : {ys ms ds rest : List ℕ} → Number ms → Number ds → Year ys (decimal ms) (decimal ds) → digit (head rest) ≡ false → Fails (parse_time_after_date (in_year ys (decimal ms) (decimal ds))) rest
      → Reads parse_item (bs ++ (ys ++ (45 ∷ (ms ++ (45 ∷ (ds ++ rest)))))) (item.Date (in_year ys (decimal ms) (decimal ds))) rest
  unfolding iso_date
  year_month_day m d a h f = iso_date_alone (first _ (iso1_read (blanks bs b (number_still _ a.number)) m d a h)) f

-- digits in a row, the last two the day and the two in front of them the month. Behind it stands no digit, no time, and nothing that makes
-- the row the year of another date (no hyphen, `number_no_iso1`, or one and a number alone, `one_hyphen_no_iso1`). In front no blank.
pub year_month_day_row : (ys ms ds : List ℕ) {rest : List ℕ} → length ms ≡ 2 → length ds ≡ 2 → Number ms → Number ds → Year ys (decimal ms) (decimal ds) → digit (head rest) ≡ false
    → Fails iso1 ((ys ++ (ms ++ ds)) ++ rest) → Fails (parse_time_after_date (in_year ys (decimal ms) (decimal ds))) rest
    → Reads parse_item ((ys ++ (ms ++ ds)) ++ rest) (item.Date (in_year ys (decimal ms) (decimal ds))) rest
unfolding iso_date
year_month_day_row ys ms ds two two' m d a h e f = iso_date_alone (e or iso2_read ys ms ds two two' m d a h) f

-- ---- month/day/year, month/day; year/month/day

-- a number and a slash
no_other_date : (bs : List ℕ) → all blank bs ≡ true → {ws : List ℕ} (x : List ℕ) → Number ws → (bs ≡ [] → glued ws ≡ false) → Fails iso_date (bs ++ (ws ++ (47 ∷ x))) × Fails dotted (bs ++ (ws ++ (47 ∷ x)))
unfolding iso_date digit blank
no_other_date bs b x w g =
    let s = blanks bs b (number_still (47 ∷ x) w) in
    (number_no_iso1 w s refl (still (plain refl)) refl nor no_row bs (47 ∷ x) b w refl g, number_no_dotted w s refl (still (plain refl)) refl)

module _ (bs : List ℕ) (b : all blank bs ≡ true) where
  slash_item : {ws : List ℕ} (x : List ℕ) {rest : List ℕ} {v : Date} → Number ws → (bs ≡ [] → glued ws ≡ false) → Reads us (bs ++ (ws ++ (47 ∷ x))) v rest → Reads parse_item (bs ++ (ws ++ (47 ∷ x))) (item.Date v) rest
  unfolding parse_non_iso
  slash_item x w g r = let f = no_other_date bs b x w g in other_date f.0 (f.1 or first _ r)

  -- the month has three digits or fewer
  pub month_day_year : {ws ns vs rest : List ℕ} → Number ws → length ws < 4 → Number ns → Year vs (decimal ws) (decimal ns) → digit (head rest) ≡ false
      → Reads parse_item (bs ++ (ws ++ (47 ∷ (ns ++ (47 ∷ (vs ++ rest)))))) (item.Date (in_year vs (decimal ws) (decimal ns))) rest
  month_day_year {ws} {ns} {vs} w k n a h =
      let small = day_small _ (decimal ws) (decimal ns) a.there in
      slash_item _ w (λ z. small_no_date ws (omega arith)) (month_day_year_read (blanks bs b (number_still _ w)) n h w k a)

  -- behind it stands no slash with a number
  pub month_day : {ws ns rest : List ℕ} → Number ws → Number ns → exists 2000 (decimal ws) (decimal ns) ≡ true → digit (head rest) ≡ false → Reads slash_part rest unwritten rest
      → Reads parse_item (bs ++ (ws ++ (47 ∷ (ns ++ rest)))) (item.Date (date_of None (decimal ws) (decimal ns))) rest
  month_day {ws} {ns} {rest} w n a h r =
      let small = day_small 2000 (decimal ws) (decimal ns) a in
      slash_item _ w (λ z. small_no_date ws (omega arith)) (month_day_read rest (blanks bs b (number_still _ w)) w n a h r)

  -- the year has four digits or more; digits that are a date themselves would be read first
  pub year_month_day_slashes : {ws ns vs rest : List ℕ} → Number vs → 4 ≤ length ws → Number ns → Year ws (decimal ns) (decimal vs) → (bs ≡ [] → glued ws ≡ false) → digit (head rest) ≡ false
      → Reads parse_item (bs ++ (ws ++ (47 ∷ (ns ++ (47 ∷ (vs ++ rest)))))) (item.Date (in_year ws (decimal ns) (decimal vs))) rest
  year_month_day_slashes v k n a g h = slash_item _ a.number g (year_month_day_read (blanks bs b (number_still _ a.number)) n h v k a)

-- ---- day.month.year, day.month.

module _ (bs : List ℕ) (b : all blank bs ≡ true) where
  pub day_month_dots : {ds ms x rest : List ℕ} {v : Date} → Number ds → Number ms → YearOrNone no_part (decimal ms) (decimal ds) x v rest → Reads parse_item (bs ++ (ds ++ (46 ∷ (ms ++ (46 ∷ x))))) (item.Date v) rest
  unfolding iso_date parse_non_iso digit blank
  day_month_dots {ds} d m r =
      let small = year_or_none_small r in
      let s = blanks bs b (number_still _ d) in
      other_date (number_no_iso1 d s refl (still (plain refl)) refl nor no_row bs _ b d refl (λ z. small_no_date ds (omega arith))) (first _ (dotted_read s d m r))

  -- ---- day month year, day month

  -- between day and month stands space: blanks, a hyphen, or nothing
  pub day_month : {ds x w y rest : List ℕ} {k : ℕ} {v : Date} → Number ds → digit (head x) ≡ false → Spaces x (w ++ y) → (a : Month w k) → Apart a y → YearOrNone hyphen k (decimal ds) y v rest → Reads parse_item (bs ++ (ds ++ x)) (item.Date v) rest
  unfolding iso_date parse_non_iso literal letter
  day_month {ds} {x} {w} {y} d h g a e r =
      let small = year_or_none_small r in
      let s = blanks bs b (number_still x d) in
      let c = month_head a y in
      other_date (number_no_iso1 d s h g (other letter (head (w ++ y)) 45 c refl) nor no_row bs x b d h (λ z. small_no_date ds (omega arith)))
      (number_no_dotted d s h g (other letter (head (w ++ y)) 46 c refl) or number_no_us d s h g (other letter (head (w ++ y)) 47 c refl) or first _ (day_month_read s d h g a e r))

  -- ---- month day year, month day; month-day-year

  name_item : {w : List ℕ} (x : List ℕ) {rest : List ℕ} {k : ℕ} {v : Date} → Month w k → Reads literal (bs ++ (w ++ x)) v rest → Reads parse_item (bs ++ (w ++ x)) (item.Date v) rest
  unfolding parse_non_iso
  name_item {w} x a r =
      let s = blanks bs b (month_still a x) in
      let d = month_no_digit a x in
      other_date (no_iso s d (blanks_head digit blank_no_digit bs (w ++ x) b d)) (no_dotted s d or no_us s d or r)

  pub name_day : {w x ds y rest : List ℕ} {k : ℕ} {v : Date} → (a : Month w k) → Apart a x → Spaces x (ds ++ y) → Number ds → digit (head y) ≡ false → YearOrNone comma k (decimal ds) y v rest → Reads parse_item (bs ++ (w ++ x)) (item.Date v) rest
  unfolding literal
  name_day {w} {x} a e g n h r =
      let s = blanks bs b (month_still a x) in
      name_item x a (no_literal1 s (month_no_digit a x) or first _ (name_day_read s a e g n h r))

  -- behind the year stands no digit
  pub name_day_year : {w ds ys rest : List ℕ} {k : ℕ} → Month w k → Number ds → Year ys k (decimal ds) → digit (head rest) ≡ false
      → Reads parse_item (bs ++ (w ++ (45 ∷ (ds ++ (45 ∷ (ys ++ rest)))))) (item.Date (in_year ys k (decimal ds))) rest
  unfolding literal literal2 letter digit
  name_day_year a n y h =
      let s = blanks bs b (month_still a _) in
      name_item _ a
      (no_literal1 s (month_no_digit a _)
      or (month_read a s (λ z. (refl, refl)) ⟨ _ ⟩! at_once _ (not_behind_space (still (minus (number_head _ n))) (number_else 255 refl)))
      or name-day-year-read s a n y h)
