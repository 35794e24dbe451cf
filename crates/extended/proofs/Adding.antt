-- Seconds, minutes, hours and days raise an accepted record's moment by exactly their worth, and reach every accepted record
-- that has the moment so raised. Assumes nothing.
use Prim.Native.Nat.{ℕ, ◌+◌, ◌-◌, ◌/◌, ◌%◌, ◌<◌, ◌≤◌}
use mathlib.Core.Path.{◌≡◌, refl, sym, ap, ap₂, ◌∙◌}
use mathlib.Core.Bool.{Bool, true, false, cond}
use native.Mathlib.Omega.{arith}
use lib.Dec.{ltb}
use lib.IntN.{ℤ, pos, sub_ℕ, ◌+ℤ◌, ◌-ℤ◌, ◌*ℤ◌, +ℤ_idr, +ℤ_comm, +ℤ-neg_ℤ_cancel}
use lib.Signed.{mag}
use mir.Syntax.{w64}
use mir.Val.{SFits}
use borrow.Author.Tests.{lt-ltb, ltb-true, ltb-false}
use Rattle.integers.specs.Integers.{sum, product, in_i64, fits_if}
use Rattle.integers.proofs.Differences.{diff_pos, diff_sub}
use Rattle.integers.proofs.Range.{raised, as_diff, raised_near, diff_near, less_diff, fits_in}
use Rattle.answers.specs.Outcome.{accepted, check, ◌>>=◌, ◌>>◌}
use Rattle.extended.specs.Extended.{checked, test, moment, clock_seconds, from_unix_seconds, carried, add_seconds, add_units, add_days}
use Rattle.extended.specs.declared.ExtendedDateTime.{ExtendedDateTime}
use Rattle.answers.proofs.Outcomes.{first_passed}
use Rattle.extended.proofs.Records.{Accepted, facts, tested, clock_bound, offset_near}
use Rattle.extended.proofs.Moments.{from_moment, given, Given, fits_passed, sum_passed}

-- ---- an accepted record's moment lies within 2^58 of 0
wide_offset : (r : ExtendedDateTime) → Accepted r → SFits w64 r.offset_seconds
wide_offset r a = record { sfits = omega (arith, offset_near r.offset_seconds a.offset_in) }

moment_diff : (r : ExtendedDateTime) → Accepted r →
    moment r ≡ sub_ℕ (clock_seconds r + 9223372036854775808 + 0) (0 + raised r.offset_seconds + 62167219200)
unfolding moment
moment_diff r a =
    let o = r.offset_seconds in
    ap₂ ◌-ℤ◌ (ap₂ ◌-ℤ◌ (diff_pos (clock_seconds r)) (as_diff o (wide_offset r a)) ∙ diff_sub (clock_seconds r) 0 (raised o) 9223372036854775808) (diff_pos 62167219200)
    ∙ diff_sub (clock_seconds r + 9223372036854775808) (0 + raised o) 62167219200 0

pub moment_near : (r : ExtendedDateTime) → Accepted r → mag (moment r) < 288230376151711744
moment_near r a =
    let o = r.offset_seconds in
    rw (moment_diff r a)
    (diff_near (clock_seconds r + 9223372036854775808 + 0) (0 + raised o + 62167219200) 288230376151711744
    (omega (arith, raised_near o, offset_near o a.offset_in, clock_bound r a)) (omega (arith, raised_near o, offset_near o a.offset_in)))

pub moment_fits : (r : ExtendedDateTime) → Accepted r → SFits w64 (moment r)
moment_fits r a = record { sfits = omega (arith, moment_near r a) }

-- so what lies between two of them, and just below one, is within an i64
between : (r r' : ExtendedDateTime) → Accepted r → Accepted r' → mag (moment r' -ℤ moment r) < 9223372036854775808
between r r' a a' =
    let m = moment r in
    let m' = moment r' in
    rw (less_diff m' m (moment_fits r' a') (moment_fits r a))
    (diff_near (raised m') (raised m) 9223372036854775808
    (omega (arith, raised_near m, raised_near m', moment_near r a, moment_near r' a'))
    (omega (arith, raised_near m, raised_near m', moment_near r a, moment_near r' a')))

below : (r : ExtendedDateTime) (k : ℕ) → Accepted r → k ≤ 1 → mag (moment r -ℤ pos k) < 9223372036854775808
below r k a h =
    let m = moment r in
    rw (ap₂ ◌-ℤ◌ (as_diff m (moment_fits r a)) (diff_pos k) ∙ diff_sub (raised m) 9223372036854775808 k 0)
    (diff_near (raised m + 0) (9223372036854775808 + k) 9223372036854775808
    (omega (arith, raised_near m, moment_near r a)) (omega (arith, raised_near m, moment_near r a)))

cancel : (a b c : ℤ) → c ≡ a +ℤ b → a ≡ c -ℤ b
cancel a b c e = sym (ap (λ (z : ℤ). z -ℤ b) e ∙ +ℤ-neg_ℤ_cancel a b)

-- ---- seconds
-- what r becomes by d seconds and k nanoseconds: the nanoseconds' whole seconds count too
pub record Raised (r : ExtendedDateTime) (d : ℤ) (k : ℕ) (r' : ExtendedDateTime) : Type 0 where
  pub accepted_record : Accepted r'
  pub moment_raised : moment r' ≡ moment r +ℤ d +ℤ pos ((r.nanosecond + k) / 1000000000)
  pub nanosecond_raised : r'.nanosecond ≡ (r.nanosecond + k) % 1000000000
  pub offset_kept : r'.offset_seconds ≡ r.offset_seconds

-- the record n nanoseconds after second s, where n is below two seconds
carried_to : (r : ExtendedDateTime) (s : ℤ) (n : ℕ) (o : ℤ) → Accepted r → n < 2000000000 → moment r ≡ s +ℤ pos (n / 1000000000) → r.nanosecond ≡ n % 1000000000 →
    r.offset_seconds ≡ o → carried s n o ≡ accepted r
unfolding carried sum
carried_to r s n o a h e k l = by (ltb n 1000000000) refl
  where
    at : (u : ℤ) (m : ℕ) → u ≡ moment r → m ≡ r.nanosecond → from_unix_seconds u m o ≡ accepted r
    at u m p q = ap (λ (x : ℤ). from_unix_seconds u m x) (sym l) ∙ ap₂ (λ (x : ℤ) (y : ℕ). from_unix_seconds x y r.offset_seconds) p q ∙ from_moment r a

    by : (t : Bool) → ltb n 1000000000 ≡ t →
        cond t (from_unix_seconds s n o) (checked (fits_if (in_i64 (s +ℤ pos 1)) (s +ℤ pos 1)) >>= λ (next : ℤ). from_unix_seconds next (n - 1000000000) o) ≡ accepted r
    by true p =
        let i : n < 1000000000 = ltb-true n 1000000000 p in
        let q : n / 1000000000 ≡ 0 = omega arith in
        at s n (sym (e ∙ ap (λ (m : ℕ). s +ℤ pos m) q ∙ +ℤ_idr s)) (omega arith)
    by false p =
        let i : 1000000000 ≤ n = ltb-false n 1000000000 p in
        let q : n / 1000000000 ≡ 1 = omega arith in
        let g : s +ℤ pos 1 ≡ moment r = sym (e ∙ ap (λ (m : ℕ). s +ℤ pos m) q) in
        simp (fits_in (s +ℤ pos 1) (rw g (moment_fits r a).sfits)) (at (s +ℤ pos 1) (n - 1000000000) g (omega arith))

pub seconds_to : (r : ExtendedDateTime) (d : ℤ) (k : ℕ) (r' : ExtendedDateTime) → Accepted r → r.nanosecond + k < 2000000000 → Raised r d k r' → add_seconds r d k ≡ accepted r'
unfolding add_seconds sum
seconds_to r d k r' a h w =
    let n = r.nanosecond + k in
    let c = n / 1000000000 in
    let s = moment r +ℤ d in
    let e : s ≡ moment r' -ℤ pos c = cancel s (pos c) (moment r') w.moment_raised in
    let f : mag s < 9223372036854775808 = rw e (below r' c w.accepted_record (omega arith)) in
    simp (tested r a, fits_in s f, lt-ltb n 4294967296 (omega arith))
    (carried_to r' s n r.offset_seconds w.accepted_record h w.moment_raised w.nanosecond_raised w.offset_kept)

-- and back: what seconds give is so raised
carried_from : (s : ℤ) (n : ℕ) (o : ℤ) (r : ExtendedDateTime) → n < 2000000000 → carried s n o ≡ accepted r →
    Given (s +ℤ pos (n / 1000000000)) (n % 1000000000) o r
unfolding carried
carried_from s n o r h e = by (ltb n 1000000000) refl e
  where
    at : (u u' : ℤ) (m m' : ℕ) → u ≡ u' → m ≡ m' → from_unix_seconds u m o ≡ accepted r → Given u' m' o r
    at u u' m m' p q g = given u' o m' r (ap₂ (λ (x : ℤ) (y : ℕ). from_unix_seconds x y o) (sym p) (sym q) ∙ g)

    by : (t : Bool) → ltb n 1000000000 ≡ t →
        cond t (from_unix_seconds s n o) (checked (sum s (pos 1)) >>= λ (next : ℤ). from_unix_seconds next (n - 1000000000) o) ≡ accepted r →
        Given (s +ℤ pos (n / 1000000000)) (n % 1000000000) o r
    by true p g =
        let i : n < 1000000000 = ltb-true n 1000000000 p in
        let q : n / 1000000000 ≡ 0 = omega arith in
        at s (s +ℤ pos (n / 1000000000)) n (n % 1000000000) (sym (ap (λ (m : ℕ). s +ℤ pos m) q ∙ +ℤ_idr s)) (omega arith) g
    by false p g =
        let i : 1000000000 ≤ n = ltb-false n 1000000000 p in
        let q : n / 1000000000 ≡ 1 = omega arith in
        at (s +ℤ pos 1) (s +ℤ pos (n / 1000000000)) (n - 1000000000) (n % 1000000000) (sym (ap (λ (m : ℕ). s +ℤ pos m) q)) (omega arith)
        (sum_passed s (pos 1) (λ (next : ℤ). from_unix_seconds next (n - 1000000000) o) r g)

pub seconds_from : (r : ExtendedDateTime) (d : ℤ) (k : ℕ) (r' : ExtendedDateTime) → r.nanosecond + k < 2000000000 → add_seconds r d k ≡ accepted r' → Raised r d k r'
unfolding add_seconds
seconds_from r d k r' h e =
    let n = r.nanosecond + k in
    let o = r.offset_seconds in
    let a = first_passed (test r) _ e in
    let b = sum_passed (moment r) d (λ (s : ℤ). check (ltb n 4294967296) 18 >> carried s n o) r' a.1 in
    let g = carried_from (moment r +ℤ d) n o r' h (first_passed (check (ltb n 4294967296) 18) (carried (moment r +ℤ d) n o) b).1 in
    record { accepted_record = g.0; moment_raised = g.1; nanosecond_raised = g.2; offset_kept = g.3 }

-- ---- units of w seconds
-- what r becomes by n of them
pub record Moved (w : ℕ) (r : ExtendedDateTime) (n : ℤ) (r' : ExtendedDateTime) : Type 0 where
  pub accepted_record : Accepted r'
  pub moment_moved : moment r' ≡ moment r +ℤ n *ℤ pos w
  pub nanosecond_kept : r'.nanosecond ≡ r.nanosecond
  pub offset_kept : r'.offset_seconds ≡ r.offset_seconds

-- no nanoseconds are no more than the record's own
module _ (r : ExtendedDateTime) (a : Accepted r) (d : ℤ) where
  no_more : r.nanosecond + 0 < 2000000000
  no_more = omega (arith, a.nanosecond_high)

  whole : moment r +ℤ d +ℤ pos ((r.nanosecond + 0) / 1000000000) ≡ moment r +ℤ d
  whole =
      let q : (r.nanosecond + 0) / 1000000000 ≡ 0 = omega (arith, a.nanosecond_high) in
      ap (λ (m : ℕ). moment r +ℤ d +ℤ pos m) q ∙ +ℤ_idr (moment r +ℤ d)

  own : (r.nanosecond + 0) % 1000000000 ≡ r.nanosecond
  own = omega (arith, a.nanosecond_high)

pub units_to : (w : ℕ) (r : ExtendedDateTime) (n : ℤ) (r' : ExtendedDateTime) → Accepted r → Moved w r n r' → add_units w r n ≡ accepted r'
unfolding add_units product
units_to w r n r' a m =
    let d = n *ℤ pos w in
    let e : d ≡ moment r' -ℤ moment r = cancel d (moment r) (moment r') (m.moment_moved ∙ +ℤ_comm (moment r) d) in
    let f : mag d < 9223372036854775808 = rw e (between r r' a m.accepted_record) in
    simp (tested r a, fits_in d f)
    (seconds_to r d 0 r' a (no_more r a d)
    (record {
      accepted_record = m.accepted_record;
      moment_raised = m.moment_moved ∙ sym (whole r a d);
      nanosecond_raised = m.nanosecond_kept ∙ sym (own r a d);
      offset_kept = m.offset_kept;
    }))

pub units_from : (w : ℕ) (r : ExtendedDateTime) (n : ℤ) (r' : ExtendedDateTime) → add_units w r n ≡ accepted r' → Moved w r n r'
unfolding add_units product
units_from w r n r' e =
    let d = n *ℤ pos w in
    let t = first_passed (test r) _ e in
    let a = facts r t.0 in
    let m = seconds_from r d 0 r' (no_more r a d) (fits_passed d (λ (z : ℤ). add_seconds r z 0) r' t.1) in
    record {
      accepted_record = m.accepted_record;
      moment_moved = m.moment_raised ∙ whole r a d;
      nanosecond_kept = m.nanosecond_raised ∙ own r a d;
      offset_kept = m.offset_kept;
    }

-- no days leave an accepted record as it is
pub no_days : (r : ExtendedDateTime) → test r ≡ accepted tt → add_days r (pos 0) ≡ accepted r
unfolding add_days
no_days r t =
    let a = facts r t in
    units_to 86400 r (pos 0) r a
    (record { accepted_record = a; moment_moved = sym (+ℤ_idr (moment r)); nanosecond_kept = refl; offset_kept = refl })
