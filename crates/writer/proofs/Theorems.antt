-- No two records have one text: accepted records whose offsets are whole minutes are the same where their texts are, and so are records
-- that are written as one text. Assumes nothing.
use Prim.Native.Nat.{ℕ, ◌/◌, ◌%◌, ◌^◌, ◌<◌}
use mathlib.Core.Path.{◌≡◌, sym, ap, ◌∙◌}
use mathlib.Core.Bool.{true}
use mathlib.Core.List.{List, [], ◌∷◌, ◌++◌}
use native.Mathlib.Omega.{arith}
use lib.IntN.{ℤ, pos, negsuc, nat_abs}
use lib.ListN.{length, take, drop}
use lib.Seq.{take-append_seam, drop-append_seam, take_at, drop_at}
use borrow.Author.Tests.{eqb-true}
use Rattle.answers.specs.Outcome.{accepted}
use Rattle.extended.specs.Extended.{make, date, time, test}
use Rattle.extended.specs.declared.ExtendedDateTime.{ExtendedDateTime}
use Rattle.extended.proofs.Counting.{month_bound}
use Rattle.extended.proofs.Records.{Accepted, facts}
use Rattle.primitive.specs.Primitive.{decimal}
use Rattle.writer.specs.Writer.{fixed, padded, negative, sign_of, field, whole_minutes, text_of, written}
use Rattle.writer.proofs.Digits.{fixed_length, fixed_value, padded_length, padded_value}
use Rattle.writer.proofs.Texts.{text_length, offset_high, offset_parts}
use Rattle.writer.proofs.Writing.{written_facts}

-- ---- rows of one length in front
split : (k m l n : List ℕ) → length k ≡ length m → k ++ l ≡ m ++ n → (k ≡ m) × (l ≡ n)
split k m l n h e =
    (sym (take-append_seam k l) ∙ ap (take (length k)) e ∙ take_at m n (length k) (sym h), sym (drop-append_seam k l) ∙ ap (drop (length k)) e ∙ drop_at m n (length k) (sym h))

cons_same : (b c : ℕ) (l m : List ℕ) → ◌≡◌ {A = List ℕ} (b ∷ l) (c ∷ m) → (b ≡ c) × (l ≡ m)
cons_same b c l m e = (cc, cc)

-- a field tells its byte, its number and what stands behind it
pub field_same : (b c k n m : ℕ) (l o : List ℕ) → n < 10 ^ k → m < 10 ^ k → field b k n l ≡ field c k m o → (b ≡ c) × (n ≡ m) × (l ≡ o)
field_same b c k n m l o g h e =
    let t = cons_same b c (fixed k n ++ l) (fixed k m ++ o) e in
    let s = split (fixed k n) (fixed k m) l o (fixed_length k n ∙ sym (fixed_length k m)) t.1 in
    (t.0, sym (fixed_value k n g) ∙ ap decimal s.0 ∙ fixed_value k m h, s.1)

-- ---- offsets
signs_same : (z w : ℤ) → sign_of (negative z) ≡ sign_of (negative w) → nat_abs z ≡ nat_abs w → z ≡ w
signs_same (pos a) (pos b) s e = ap pos e
signs_same (pos a) (negsuc b) s e = absurd (omega arith)
signs_same (negsuc a) (pos b) s e = absurd (omega arith)
signs_same (negsuc a) (negsuc b) s e = let h : a ≡ b = omega arith in ap negsuc h

-- ---- records
abbrev built : ℕ → ℕ → ℕ → ℕ → ℕ → ℕ → ℕ → ℤ → ExtendedDateTime
built y m d h n c f z = make (date y m d) (time h n c f) z

same : (r s : ExtendedDateTime) → r.year ≡ s.year → r.month ≡ s.month → r.day ≡ s.day → r.hour ≡ s.hour → r.minute ≡ s.minute
    → r.second ≡ s.second → r.nanosecond ≡ s.nanosecond → r.offset_seconds ≡ s.offset_seconds → r ≡ s
unfolding make
same r s y m d h n c f z =
    let e : built r.year r.month r.day r.hour r.minute r.second r.nanosecond r.offset_seconds
    ≡ built s.year s.month s.day s.hour s.minute s.second s.nanosecond s.offset_seconds = cc in
    e

module _ (r s : ExtendedDateTime) (a : Accepted r) (b : Accepted s) (wr : whole_minutes r.offset_seconds ≡ true) (ws : whole_minutes s.offset_seconds ≡ true) (e : text_of r ≡ text_of s) where
  -- the year's rows have one length, as all that stands behind them does
  year_length : length (padded 4 r.year) ≡ length (padded 4 s.year)
  year_length =
      omega (arith, padded_length 4 r.year, padded_length 4 s.year, text_length r, text_length s, ap length e)

  whole : (z : ℤ) → whole_minutes z ≡ true → nat_abs z % 60 ≡ 0
  whole z h = eqb-true (nat_abs z % 60) 0 h

  owner : r ≡ s
  unfolding text_of
  owner =
      let y = split (padded 4 r.year) (padded 4 s.year) _ _ year_length e in
      let m = field_same 45 45 2 r.month s.month _ _ (omega (arith, a.date.month_high)) (omega (arith, b.date.month_high)) y.1 in
      let d = field_same 45 45 2 r.day s.day _ _ (omega (arith, a.date.day_high, month_bound r.year r.month)) (omega (arith, b.date.day_high, month_bound s.year s.month)) m.2 in
      let h = field_same 32 32 2 r.hour s.hour _ _ (omega (arith, a.hour_high)) (omega (arith, b.hour_high)) d.2 in
      let n = field_same 58 58 2 r.minute s.minute _ _ (omega (arith, a.minute_high)) (omega (arith, b.minute_high)) h.2 in
      let c = field_same 58 58 2 r.second s.second _ _ (omega (arith, a.second_high)) (omega (arith, b.second_high)) n.2 in
      let f = field_same 46 46 9 r.nanosecond s.nanosecond _ _ (omega (arith, a.nanosecond_high)) (omega (arith, b.nanosecond_high)) c.2 in
      let x = r.offset_seconds in
      let z = s.offset_seconds in
      let p = field_same (sign_of (negative x)) (sign_of (negative z)) 2 (nat_abs x / 3600) (nat_abs z / 3600) _ _ (omega (arith, offset_high x a.offset_in)) (omega (arith, offset_high z b.offset_in)) f.2 in
      let q = field_same 58 58 2 (nat_abs x % 3600 / 60) (nat_abs z % 3600 / 60) [] [] (omega arith) (omega arith) p.2 in
      let size : nat_abs x ≡ nat_abs z = omega (arith, offset_parts (nat_abs x) (whole x wr), offset_parts (nat_abs z) (whole z ws), p.1, q.1) in
      same r s (sym (padded_value 4 r.year) ∙ ap decimal y.0 ∙ padded_value 4 s.year) m.1 d.1 h.1 n.1 c.1 f.1
      (signs_same x z p.0 size)

-- each accepted record whose offset is whole minutes has a text of its own
pub one_owner : (r s : ExtendedDateTime) → test r ≡ accepted tt → test s ≡ accepted tt → whole_minutes r.offset_seconds ≡ true
    → whole_minutes s.offset_seconds ≡ true → text_of r ≡ text_of s → r ≡ s
one_owner r s tr ts wr ws e = owner r s (facts r tr) (facts s ts) wr ws e

-- each text that is written is that of one record, whatever room it had
pub written_once : (r s : ExtendedDateTime) (n m : ℕ) (text : List ℕ) → written r n ≡ accepted text → written s m ≡ accepted text → r ≡ s
written_once r s n m text e f =
    let a = written_facts r n text e in
    let b = written_facts s m text f in
    one_owner r s a.tested b.tested a.whole b.whole (a.text ∙ sym b.text)
