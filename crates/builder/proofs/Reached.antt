-- Where a weekday leads: the record falls on that day of the week, the first from the date on, or the n-th after or before it, and the count of
-- days is the least one that leads there. Hard is only the step from a signed number of days to the day number of a date. Assumes nothing.
use native.Mathlib.Omega.{arith}
use Prim.Native.Nat.{ℕ, zero, suc, ◌+◌, ◌*◌, ◌%◌, ◌<◌, ◌≤◌}
use mathlib.Core.Path.{◌≡◌, refl, sym, ap, ap₂, ◌∙◌}
use mathlib.Core.Bool.{Bool, true, false, cond}
use mathlib.Core.List.{List, []}
use lib.IntN.{ℤ, pos, negsuc, neg_ℤ, sub_ℕ, ◌+ℤ◌, ◌*ℤ◌, +ℤ_assoc, +ℤ_comm}
use Rattle.integers.proofs.Differences.{is_neg, is_pos, Shape, up, down, shape, diff_eq, diff_add, diff_neg, diff_pos}
use Rattle.answers.proofs.Outcomes.{same, first_passed, step_passed}
use Rattle.answers.specs.Outcome.{Outcome, accepted, refused, ◌>>=◌}
use Rattle.calendar.proofs.Counting.{weekday_closed}
use Rattle.extended.specs.Calendar.{day_number, next_weekday, weekday, monday_weekday}
use Rattle.extended.specs.Extended.{test, clock_seconds, moment, add_days, weekday_monday0}
use Rattle.extended.specs.declared.ExtendedDateTime.{ExtendedDateTime}
use Rattle.extended.proofs.Moments.{moment_back}
use Rattle.extended.proofs.Records.{Accepted, facts}
use Rattle.extended.proofs.Theorems.{units_exact}
use Rattle.builder.specs.Weekdays.{weekday_of, after, days_meant, Reached, BuiltFrom}
use Rattle.rules.specs.declared.Zone.{Zone}
use Rattle.rules.specs.declared.Zone.TheVariants as given-zone
use mathlib.Core.Logic.{◌⊎◌, inl, inr}
use Rattle.items.specs.Items.{day_index}
use Rattle.items.specs.declared.Weekday.{Weekday}
use Rattle.std.specs.Prelude.{Option, Some, None}
use lib.Dec.{eqb}
use Rattle.builder.proofs.Weekdays.{next_closed, ahead_closed, day_below}
use borrow.Author.Tests.{eqb-true, eqb-false}
use Rattle.answers.specs.Placed.{fine, placed}
use Rattle.items.specs.declared.Item.{Item}
use Rattle.rules.specs.Rules.{empty, gather, relatives}
use Rattle.rules.specs.declared.DateTimeBuilder.{DateTimeBuilder}
use Rattle.builder.specs.Building.{start, on_date, on_time, ahead, nearer, weeks, weekday_sum, delta, forwarded, on_weekday, add_relatives, on_zone, absolute, build_extended, built, build}

-- ---- the count is the least one

pub arrives : (today target : ℕ) → today < 7 → target < 7 → weekday today (ahead today target) ≡ target
arrives today target h g =
    let e = ahead_closed today target h g in
    weekday_closed today (ahead today target) h ∙ rw (← e) (omega arith)

pub least : (today target k : ℕ) → today < 7 → target < 7 → weekday today k ≡ target → ahead today target ≤ k
least today target k h g e =
    let a = ahead_closed today target h g in
    let c = weekday_closed today k h in
    omega (arith, a, c, e)

-- ---- days away

swap : (x y z : ℤ) → x +ℤ y +ℤ z ≡ x +ℤ z +ℤ y
swap x y z = +ℤ_assoc x y z ∙ ap (λ (v : ℤ). x +ℤ v) (+ℤ_comm y z) ∙ sym (+ℤ_assoc x z y)

-- the clocks of two records at one offset differ as their moments do
clocks : (r s : ExtendedDateTime) (d : ℤ) → moment s ≡ moment r +ℤ d → s.offset_seconds ≡ r.offset_seconds → pos (clock_seconds s) ≡ pos (clock_seconds r) +ℤ d
clocks r s d m o =
    let c = pos 62167219200 in
    sym (moment_back s) ∙ rw (m, o) (ap (λ (z : ℤ). z +ℤ c) (swap (moment r) d r.offset_seconds) ∙ swap (moment r +ℤ r.offset_seconds) d c ∙ ap (λ (z : ℤ). z +ℤ d) (moment_back r))

apart : {X : Type 0} {m n : ℕ} → pos m ≡ negsuc n → X
apart e = let z : ◌≡◌ {A = ℕ} 0 1 = cc in absurd (clash z)
  where
    clash : ◌≡◌ {A = ℕ} 0 1 → ⊥
    clash z = omega arith

gap : (p q x y : ℕ) → pos p ≡ pos q +ℤ sub_ℕ x y → p + y ≡ q + x
gap p q x y e = by (shape (q + x) (0 + y)) (e ∙ ap (λ (z : ℤ). z +ℤ sub_ℕ x y) (diff_pos q) ∙ diff_add q 0 x y)
  where
    by : Shape (q + x) (0 + y) → pos p ≡ sub_ℕ (q + x) (0 + y) → p + y ≡ q + x
    by (up n f g) h = let k = h ∙ g in let l : p ≡ n = cc in omega arith
    by (down n f g) h = apart (h ∙ g)

-- so many days in seconds
in_seconds : (x y : ℕ) → sub_ℕ x y *ℤ pos 86400 ≡ sub_ℕ (x * 86400) (y * 86400)
in_seconds x y = by (shape x y)
  where
    by : Shape x y → sub_ℕ x y *ℤ pos 86400 ≡ sub_ℕ (x * 86400) (y * 86400)
    by (up n f g) = rw g (sym (is_pos (x * 86400) (y * 86400) (n * 86400) (omega arith)))
    by (down n f g) = rw g (ap neg_ℤ (diff_pos (suc n * 86400)) ∙ diff_neg (suc n * 86400) 0 ∙ diff_eq 0 (suc n * 86400) (x * 86400) (y * 86400) (omega arith))

-- weeks are so many forward, or so many back
forth : ℤ → ℕ
forth (pos n) = n
forth (negsuc n) = 0

back : ℤ → ℕ
back (pos n) = 0
back (negsuc n) = suc n

in_days : (w : ℤ) (k : ℕ) → w *ℤ pos 7 +ℤ pos k ≡ sub_ℕ (forth w * 7 + k) (back w * 7)
unfolding forth back
in_days (pos n) k = diff_pos (n * 7 + k)
in_days (negsuc n) k =
    ap₂ ◌+ℤ◌ (ap neg_ℤ (diff_pos (suc n * 7)) ∙ diff_neg (suc n * 7) 0) (diff_pos k) ∙ diff_add 0 (suc n * 7) k 0
    ∙ diff_eq (0 + k) (suc n * 7 + 0) (0 * 7 + k) (suc n * 7) (omega arith)

module _ (r s : ExtendedDateTime) (a : Accepted r) (b : Accepted s) where
  days_apart : (x y : ℕ) → pos (clock_seconds s) ≡ pos (clock_seconds r) +ℤ sub_ℕ x y *ℤ pos 86400 → day_number s.year s.month s.day + y ≡ day_number r.year r.month r.day + x
  unfolding clock_seconds
  days_apart x y e =
      let f = gap (clock_seconds s) (clock_seconds r) (x * 86400) (y * 86400) (e ∙ ap (λ (z : ℤ). pos (clock_seconds r) +ℤ z) (in_seconds x y)) in
      omega (arith, f, a.hour_high, a.minute_high, a.second_high, b.hour_high, b.minute_high, b.second_high)

-- ---- what is meant

sum_is : (n : ℤ) (k : ℕ) (d : ℤ) → weekday_sum n k ≡ accepted d → n *ℤ pos 7 +ℤ pos k ≡ d
unfolding weekday_sum
sum_is n k d e =
    let p = first_passed _ _ e in
    let q = first_passed _ _ p.1 in
    same q.1

-- the days that the code adds are those that are meant
same_day : (today : ℕ) → today < 7 → (ahead today today ≡ 0) × (ahead (next_weekday today) today ≡ 6)
same_day today h =
    let a = ahead_closed today today h h in
    let e = next_closed today h in
    let b = ahead_closed ((today + 1) % 7) today (omega arith) h in
    (omega (arith, a), rw e (omega (arith, b)))

other_day : (today target : ℕ) → today < 7 → target < 7 → (today ≡ target → ⊥) → (ahead today target ≡ suc (ahead (next_weekday today) target)) × (ahead today target + ahead (next_weekday target) today ≡ 6)
other_day today target h g f =
    let a = ahead_closed today target h g in
    let b = ahead_closed ((today + 1) % 7) target (omega arith) g in
    let c = ahead_closed ((target + 1) % 7) today (omega arith) h in
    (rw (next_closed today h) (omega (arith, a, b, f)), rw (next_closed target g) (omega (arith, a, c, f)))

-- the days that the code adds
abbrev days_added : ℕ → ℕ → ℤ → ℤ
days_added today target n = weeks n (eqb today target) *ℤ pos 7 +ℤ pos (ahead today target)

meant : (today target : ℕ) → today < 7 → target < 7 → (n : ℤ) → days_added today target n ≡ days_meant today target n
unfolding weeks forth back
meant today target h g n = by (eqb today target) refl n
  where
    -- whether today is such a day, the days to the next one, and from the last one
    days : (t : Bool) → eqb today target ≡ t → (n : ℕ) → (cond t (suc n) n * 7 + ahead today target ≡ 7 * n + after today target) × (ahead today target + ahead (next_weekday target) today ≡ 6)
    days true e n =
        let k = eqb-true today target e in
        let z = same_day today h in
        (rw (← k) (omega (arith, z.0, z.1)), rw (← k) (omega (arith, z.0, z.1)))
    days false e n = let z = other_day today target h g (eqb-false today target e) in (omega (arith, z.0), z.1)

    back_to : (n : ℕ) → ahead today target + ahead (next_weekday target) today ≡ 6 → negsuc n *ℤ pos 7 +ℤ pos (ahead today target) ≡ negsuc (7 * n + ahead (next_weekday target) today)
    back_to n e = in_days (negsuc n) (ahead today target) ∙ is_neg (0 * 7 + ahead today target) (suc n * 7) (7 * n + ahead (next_weekday target) today) (omega (arith, e))

    by : (t : Bool) → eqb today target ≡ t → (n : ℤ) → cond t n (nearer n) *ℤ pos 7 +ℤ pos (ahead today target) ≡ days_meant today target n
    by true e (pos zero) = ap pos (omega arith)
    by false e (pos zero) = ap pos (omega arith)
    by true e (pos (suc n)) = ap pos (days true e n).0
    by false e (pos (suc n)) = ap pos (days false e n).0
    by true e (negsuc n) = back_to n (days true e n).1
    by false e (negsuc n) = back_to n (days false e n).1

module _ (w : Weekday) (r s : ExtendedDateTime) where
  abbrev target : ℕ
  target = day_index w.day

  abbrev today : ℕ
  today = weekday_of r

  today_7 : today < 7
  unfolding monday_weekday
  today_7 = let p = weekday_closed 5 (day_number r.year r.month r.day) (omega arith) in omega (arith, p)

  on_target : Accepted r → Accepted s → moment s ≡ moment r +ℤ days_added today target w.offset *ℤ pos 86400 → s.offset_seconds ≡ r.offset_seconds → weekday_of s ≡ day_index w.day
  unfolding monday_weekday
  on_target a b m o =
      let n = weeks w.offset (eqb today target) in
      let k = ahead today target in
      let c = clocks r s (days_added today target w.offset *ℤ pos 86400) m o ∙ ap (λ (z : ℤ). pos (clock_seconds r) +ℤ z *ℤ pos 86400) (in_days n k) in
      let g = days_apart r s a b (forth n * 7 + k) (back n * 7) c in
      let p = weekday_closed 5 (day_number r.year r.month r.day) (omega arith) in
      let q = weekday_closed 5 (day_number s.year s.month s.day) (omega arith) in
      let l = ahead_closed today target today_7 (day_below w.day) in
      omega (arith, g, p, q, l, day_below w.day)

  moved : test r ≡ accepted tt → add_days r (days_added today target w.offset) ≡ accepted s → Reached w r s
  unfolding add_days
  moved t e =
      let g = (units_exact 86400 r (days_added today target w.offset) s t).0 e in
      record { on_day = on_target (facts r t) (facts s g.is_accepted) g.has_moment g.has_offset; away = rw (meant today target today_7 (day_below w.day) w.offset) at g }

  -- What a weekday leads to, where it is not refused.
  pub reached : on_weekday (Some w) r ≡ accepted s → Reached w r s
  unfolding on_weekday weekday_monday0 forwarded delta
  reached e =
      let a = step_passed _ _ e in
      let t = first_passed (test r) _ a.was in
      let d = step_passed _ _ a.then in
      let u : today ≡ a.value = same t.1 in
      let n = sum_is (weeks w.offset (eqb a.value target)) (ahead a.value target) d.value d.was in
      moved t.0 (rw (u, n) d.then)

-- ---- items with a weekday

unplaced : (o : Outcome ExtendedDateTime) {s : ExtendedDateTime} → placed 0 o ≡ fine s → o ≡ accepted s
unplaced (accepted r) e = ap accepted (cc)
unplaced (refused n) e = cc

-- a zone that changes nothing
zone_kept : (z : Option Zone) → (z ≡ None) ⊎ (z ≡ Some given-zone.Local) → (r : ExtendedDateTime) → on_zone z r ≡ accepted r
unfolding on_zone
zone_kept z (inl e) r = rw e refl
zone_kept z (inr e) r = rw e refl

absolute_only : (b : DateTimeBuilder) (base s : ExtendedDateTime) → (b.zone ≡ None) ⊎ (b.zone ≡ Some given-zone.Local) → build_extended b [] base ≡ accepted s → absolute b true base ≡ accepted s
unfolding build_extended add_relatives
absolute_only b base s z e =
    let a = step_passed (absolute b true base) (λ v. accepted v >>= on_zone b.zone) e in
    a.was ∙ sym (zone_kept b.zone z a.value) ∙ a.then

-- What is built of a weekday and other items, none of them relative and none a zone with an offset: the weekday leads from the date and the
-- time that are given, or from midnight of the base's day.
pub weekday_built : (digits : List ℕ) (xs : List Item) (b : DateTimeBuilder) (w : Weekday) (base s : ExtendedDateTime) →
    gather digits 0 empty xs ≡ fine b → relatives xs ≡ [] → b.weekday ≡ Some w → (b.zone ≡ None) ⊎ (b.zone ≡ Some given-zone.Local) → build digits xs base ≡ fine s → BuiltFrom b w base s
unfolding build built absolute
weekday_built digits xs b w base s g r d z e =
    let f : placed 0 (build_extended b [] base) ≡ fine s = sym (rw (g, r) refl) ∙ e in
    let a = absolute_only b base s z (unplaced (build_extended b [] base) f) in
    let h = step_passed (start b true base) (λ v. on_date b.date v >>= (λ x. on_time b.time x >>= on_weekday b.weekday)) a in
    let i = step_passed (on_date b.date h.value) (λ x. on_time b.time x >>= on_weekday b.weekday) h.then in
    let j = step_passed (on_time b.time i.value) (on_weekday b.weekday) i.then in
    let k : on_weekday (Some w) j.value ≡ accepted s = ap (λ (x : Option Weekday). on_weekday x j.value) (sym d) ∙ j.then in
    record { from = j.value; given = ap (λ (o : Outcome ExtendedDateTime). o >>= (λ r. on_date b.date r >>= on_time b.time)) h.was ∙ ap (λ (o : Outcome ExtendedDateTime). o >>= on_time b.time) i.was ∙ j.was; reached = reached w j.value s k }
