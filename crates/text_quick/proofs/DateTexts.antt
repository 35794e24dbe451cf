-- Dates in front of a text, from what is found at its places: each is read as exactly its date. Assumes nothing.
use native.Mathlib.Omega.{arith}
use borrow.Author.Tests.{ne_eqb, le-leb, lt-leb}
use Prim.Native.Nat.{ℕ, ◌+◌, ◌<◌, ◌≤◌}
use mathlib.Core.Path.{◌≡◌, refl, sym, ap, ◌∙◌}
use mathlib.Core.List.{List, [], ◌∷◌, ◌++◌}
use mathlib.Core.Bool.{true, false}
use lib.ListN.{length, get_or, drop}
use lib.Seq.{slice, length-slice}
use Rattle.primitive.specs.Answer.{Reader}
use Rattle.primitive.specs.Text.{lower, lowered, blank, digit, letter}
use Rattle.primitive.specs.Primitive.{decimal}
use Rattle.primitive.proofs.Lowered.{length_lowered, get_or_lowered, lower_above, digit_no_blank, rest_none}
use Rattle.primitive.proofs.Rows.{all, halves, Number}
use Rattle.dates.specs.Date.{exists}
use Rattle.dates.specs.Year.{widened}
use Rattle.items.specs.Items.{iso_date, parse_item}
use Rattle.items.specs.declared.Item.TheVariants as item
use Rattle.primitive.proofs.Walk.{Reads, first}
use Rattle.primitive.proofs.Leaves.{head, other, blank_no_digit, plain, number_head, number_still, still, blanks}
use Rattle.dates.proofs.Forms.{Year, in_year, Ending, text_ends, blanks_end, with_it, here, iso1_read}
use Rattle.dates.proofs.LiteralForms.{Month, month_still, no_hyphen_read, comma_read}
use Rattle.items.proofs.DateItems.{month_day_year, day_month, name_day}
use Rattle.items.proofs.TwoItems.{long_year}
use Rattle.text_quick.specs.Rows.{Digits, Short}
use Rattle.calendar.specs.declared.Civil.{Civil}
use Rattle.std.specs.Prelude.{Option, Some, None}
use Rattle.text_quick.specs.Days.{day_of, Iso, EndedYear, YearAt, UsDate, Named, DayMonthDate, OtherDate}
use Rattle.text_quick.proofs.Places.{part, mark, head_drop}

-- what is read, where text, value and rest are said otherwise
restated : {A : Type 0} {p : Reader A} {text l m rest : List ℕ} {v w : A} → text ≡ l → v ≡ w → m ≡ rest → Reads p l v m → Reads p text w rest
restated e f g r = rw (e, ← f, ← g) r

-- ---- a year of four digits

module _ {text : List ℕ} {at y : ℕ} (r : Digits text at (at + 4) y) (small : y ≤ 9999) {a b m d : ℕ} (f : a ≡ m) (g : b ≡ d) where
  its_number : widened (slice at (at + 4) text) ≡ y
  its_number = let k = length-slice at (at + 4) text r.within in long_year (slice at (at + 4) text) (omega arith) ∙ r.value

  year_there : exists y m d ≡ true → Year (slice at (at + 4) text) a b
  year_there h = record { number = r.number; last = rw its_number (omega arith); there = rw (its_number, f, g) h }

  date_said : in_year (slice at (at + 4) text) a b ≡ day_of y m d
  date_said = rw (its_number, f, g)

-- ---- year-month-day

pub iso_found : (s : List ℕ) {y m d : ℕ} → 10 ≤ length s → get_or s 4 0 ≡ 45 → get_or s 7 0 ≡ 45 → (y < 10000) × Digits (lowered s) 0 4 y → (m < 100) × Digits (lowered s) 5 7 m → (d < 100) × Digits (lowered s) 8 10 d → Iso (lowered s) y m d 10
unfolding lower iso_date
iso_found s h b c p q r =
    let year = p.1 in
    let month = q.1 in
    let date = r.1 in
    let i = p.0 in
    let e : lowered s ≡ slice 0 4 (lowered s) ++ (45 ∷ (slice 5 7 (lowered s) ++ (45 ∷ (slice 8 10 (lowered s) ++ drop 10 (lowered s))))) =
    part (lowered s) 0 4 (omega arith) ∙ rw (mark s 4 45 (omega arith) b refl, part (lowered s) 5 7 (omega arith), mark s 7 45 (omega arith) c refl, part (lowered s) 8 10 (omega arith)) in
    record {
      month_small = q.0;
      day_small = r.0;
      ends = refl;
      within = rw (length_lowered s) (omega arith);
      begins = rw e (number_head _ year.number);
      reads = λ there z. restated e (date_said year (omega arith) month.value date.value) refl (first _ (iso1_read (here _ year.number) month.number date.number (year_there year (omega arith) month.value date.value there) z));
    }

-- ---- the year behind month and day

-- a byte above 32 is no blank
no_blank_above : (b : ℕ) → 32 < b → blank b ≡ false
unfolding blank
no_blank_above b h = rw (ne_eqb b 32 (λ z. omega arith), le-leb 9 b (omega arith), lt-leb b 13 (omega arith))

module _ (s : List ℕ) {at y : ℕ} (r : (y < 10000) × Digits (lowered s) at (at + 4) y) where
  pub year_last : at + 4 ≡ length s → EndedYear (lowered s) at y (at + 4)
  year_last e =
      let h : drop (at + 4) (lowered s) ≡ [] = rest_none s (at + 4) (omega arith) in
      record { row = r.1; small = let z = r.0 in omega arith; ending = rw h text_ends; within = rw (length_lowered s) (omega arith) }

  pub year_then_blank : get_or s (at + 4) 0 ≡ 32 → at + 4 + 1 < length s → 32 < get_or s (at + 4 + 1) 0 → EndedYear (lowered s) at y (at + 4 + 1)
  unfolding lower blank
  year_then_blank b k z =
      let above = lower_above (get_or s (at + 4 + 1) 0) in
      let next : head (drop (at + 4 + 1) (lowered s)) ≡ lower (get_or s (at + 4 + 1) 0) = head_drop (lowered s) (at + 4 + 1) ∙ get_or_lowered s (at + 4 + 1) in
      let n : blank (head (drop (at + 4 + 1) (lowered s))) ≡ false = rw next (no_blank_above (lower (get_or s (at + 4 + 1) 0)) (omega arith)) in
      record { row = r.1; small = let z = r.0 in omega arith; ending = rw (mark s (at + 4) 32 (omega arith) b refl) (blanks_end 32 [] refl n); within = rw (length_lowered s) (omega arith) }

-- ---- parts of a date

pub short_within : (s : List ℕ) {at v n : ℕ} → Short (lowered s) at v n → n < length s
short_within s h = rw length_lowered at h.more

pub name_within : (s : List ℕ) {at k n : ℕ} → Named (lowered s) at k n → n < length s
name_within s h = rw length_lowered at h.more

pub day_year_found : (s : List ℕ) (m : ℕ) {at d n : ℕ} → Short (lowered s) at d n → get_or s n 0 ≡ 47 → (r : Option (Civil ℕ × ℕ)) → YearAt (lowered s) (n + 1) m d r → UsDate (lowered s) at m r
unfolding lower
day_year_found s m {n = n} h b (Some got) (f, g, z) = (f, record { to = n; row = rw g h.row; small = rw g h.small; slash = mark s n 47 (short_within s h) b refl; year = z })
day_year_found s m h b None z = tt

pub month_year_found : (text : List ℕ) (d : ℕ) {at k n : ℕ} → Named text at k n → (r : Option (Civil ℕ × ℕ)) → YearAt text (n + 1) k d r → DayMonthDate text at d r
month_year_found text d {n = n} h (Some got) (f, g, z) = (g, record { to = n; name = rw f h; year = z })
month_year_found text d h None z = tt

-- ---- month/day/year

-- what stands between a date and the place behind the blanks that follow it
ending_gap : {l rest : List ℕ} → Ending l rest → (gap : List ℕ) × (all blank gap ≡ true) × (l ≡ gap ++ rest) × (digit (head l) ≡ false)
unfolding digit
ending_gap text_ends = ([], refl, refl, refl)
ending_gap (blanks_end b bs g h) = (b ∷ bs, g, refl, blank_no_digit b (halves (blank b) (all blank bs) g).0)

pub us_found : (s : List ℕ) {m p : ℕ} → Short (lowered s) 0 m p → get_or s p 0 ≡ 47 → (r : Option (Civil ℕ × ℕ)) → UsDate (lowered s) (p + 1) m r → OtherDate (lowered s) r
unfolding lower
us_found s {p = p} h b (Some got) (f, z) =
    let year = z.year in
    let (gap, g, k, l) = ending_gap year.ending in
    let size = length-slice 0 p (lowered s) h.row.within in
    let near = h.near in
    let e : lowered s ≡ slice 0 p (lowered s) ++ (47 ∷ (slice (p + 1) z.to (lowered s) ++ (47 ∷ (slice (z.to + 1) (z.to + 1 + 4) (lowered s) ++ drop (z.to + 1 + 4) (lowered s))))) =
    part (lowered s) 0 p (omega arith) ∙ rw (mark s p 47 (short_within s h) b refl, part (lowered s) (p + 1) z.to z.row.forward, z.slash, part (lowered s) (z.to + 1) (z.to + 1 + 4) (omega arith)) in
    record {
      month_small = rw f h.small;
      day_small = z.small;
      within = year.within;
      still = rw e (number_still _ h.row.number);
      gap = gap;
      blanks = g;
      reads = λ there.
          restated e (ap item.Date (date_said year.row year.small (h.row.value ∙ sym f) z.row.value)) k
          (month_day_year [] refl h.row.number (omega arith) z.row.number (year_there year.row year.small (h.row.value ∙ sym f) z.row.value there) l);
    }
us_found s h b None z = tt

-- ---- day month year

day_month_read : {ds w ys l rest : List ℕ} {k : ℕ} → Number ds → Month w k → Year ys k (decimal ds) → Ending l rest → Reads parse_item (ds ++ (32 ∷ (w ++ (32 ∷ (ys ++ l))))) (item.Date (in_year ys k (decimal ds))) rest
unfolding digit letter blank
day_month_read {ys = ys} {l} d m y h =
    let g = blanks (32 ∷ []) refl (number_still l y.number) in
    day_month [] refl d refl (blanks (32 ∷ []) refl (month_still m _)) m (λ z. (refl, refl)) (with_it (no_hyphen_read g (other digit (head (ys ++ l)) 45 (number_head l y.number) refl)) g h y)

pub day_month_found : (s : List ℕ) {d p : ℕ} → Short (lowered s) 0 d p → get_or s p 0 ≡ 32 → (r : Option (Civil ℕ × ℕ)) → DayMonthDate (lowered s) (p + 1) d r → OtherDate (lowered s) r
unfolding lower
day_month_found s {p = p} h b (Some got) (f, z) =
    let year = z.year in
    let name = z.name in
    let month = name.small in
    let g = h.row.value ∙ sym f in
    let e : lowered s ≡ slice 0 p (lowered s) ++ (32 ∷ (slice (p + 1) z.to (lowered s) ++ (32 ∷ (slice (z.to + 1) (z.to + 1 + 4) (lowered s) ++ drop (z.to + 1 + 4) (lowered s))))) =
    part (lowered s) 0 p (omega arith) ∙ rw (mark s p 32 (short_within s h) b refl, part (lowered s) (p + 1) z.to name.forward, name.space, part (lowered s) (z.to + 1) (z.to + 1 + 4) (omega arith)) in
    record {
      month_small = omega arith;
      day_small = rw f h.small;
      within = year.within;
      still = rw e (number_still _ h.row.number);
      gap = [];
      blanks = refl;
      reads = λ there. restated e (ap item.Date (date_said year.row year.small refl g)) refl (day_month_read h.row.number name.month (year_there year.row year.small refl g there) year.ending);
    }
day_month_found s h b None z = tt

-- ---- month day, year

name_day_read : {w ds ys l rest : List ℕ} {k : ℕ} → Month w k → Number ds → Year ys k (decimal ds) → Ending l rest → Reads parse_item (w ++ (32 ∷ (ds ++ (44 ∷ (32 ∷ (ys ++ l)))))) (item.Date (in_year ys k (decimal ds))) rest
unfolding digit letter blank
name_day_read {ys = ys} {l} m d y h =
    let g = digit_no_blank (head (ys ++ l)) (number_head l y.number) in
    name_day [] refl m (λ z. (refl, refl)) (blanks (32 ∷ []) refl (number_still _ d)) d refl (with_it (comma_read 32 [] (still (plain refl)) refl g) (here l y.number) h y)

pub name_day_found : (s : List ℕ) {k e d p : ℕ} → Named (lowered s) 0 k e → Short (lowered s) (e + 1) d p → get_or s p 0 ≡ 44 → p + 1 < length s → get_or s (p + 1) 0 ≡ 32 → (r : Option (Civil ℕ × ℕ)) → YearAt (lowered s) (p + 1 + 1) k d r → OtherDate (lowered s) r
unfolding lower
name_day_found s {e = e} {p = p} name h b l c (Some got) (f, g, year) =
    let month = name.small in
    let i = h.row.value ∙ sym g in
    let t : lowered s ≡ slice 0 e (lowered s) ++ (32 ∷ (slice (e + 1) p (lowered s) ++ (44 ∷ (32 ∷ (slice (p + 1 + 1) (p + 1 + 1 + 4) (lowered s) ++ drop (p + 1 + 1 + 4) (lowered s)))))) =
    part (lowered s) 0 e (omega arith)
    ∙ rw (name.space, part (lowered s) (e + 1) p h.row.forward, mark s p 44 (short_within s h) b refl, mark s (p + 1) 32 l c refl, part (lowered s) (p + 1 + 1) (p + 1 + 1 + 4) (omega arith)) in
    record {
      month_small = omega arith;
      day_small = rw g h.small;
      within = year.within;
      still = rw t (month_still name.month _);
      gap = [];
      blanks = refl;
      reads = λ there. restated t (ap item.Date (date_said year.row year.small (sym f) i)) refl (name_day_read name.month h.row.number (year_there year.row year.small (sym f) i there) year.ending);
    }
name_day_found s name h b l c None z = tt
