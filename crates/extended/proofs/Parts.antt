-- Of an accepted record with another date, time or offset only the new part has to be tested. Assumes nothing.
use Prim.Native.Nat.{ℕ}
use mathlib.Core.Path.{◌≡◌, sym}
use lib.IntN.{ℤ}
use borrow.Author.Rules.{rules}
use Rattle.answers.specs.Outcome.{accepted, refused, ◌>>◌}
use Rattle.answers.proofs.Outcomes.{first_passed}
use Rattle.calendar.specs.declared.Civil.{Civil}
use Rattle.extended.specs.Extended.{make, date_of, time_of, test_date, test_time, test_offset, test, accept, with_date, with_time, with_offset}
use Rattle.extended.specs.declared.TimeParts.{TimeParts}
use Rattle.extended.specs.declared.ExtendedDateTime.{ExtendedDateTime}

module _ (r : ExtendedDateTime) where
  pub record_refused_date : (d : Civil ℕ) (n : ℕ) → refused n ≡ test r → refused n ≡ with_date r d
  unfolding with_date
  record_refused_date d n e = rw (← e)

  pub record_refused_time : (t : TimeParts) (n : ℕ) → refused n ≡ test r → refused n ≡ with_time r t
  unfolding with_time
  record_refused_time t n e = rw (← e)

  pub record_refused_offset : (o : ℤ) (n : ℕ) → refused n ≡ test r → refused n ≡ with_offset r o
  unfolding with_offset
  record_refused_offset o n e = rw (← e)

  module _ (u : Unit {0}) (e : accepted u ≡ test r) where
    -- its parts are accepted each
    parts_accepted : (test_date (date_of r) ≡ accepted tt) × (test_time (time_of r) ≡ accepted tt) × (test_offset r.offset_seconds ≡ accepted tt)
    unfolding test
    parts_accepted =
        let a = first_passed (test_date (date_of r)) (test_time (time_of r) >> test_offset r.offset_seconds) (sym e) in
        let b = first_passed (test_time (time_of r)) (test_offset r.offset_seconds) a.1 in
        (a.0, b.0, b.1)

    pub date_refused : (d : Civil ℕ) (n : ℕ) → refused n ≡ test_date d → refused n ≡ with_date r d
    unfolding with_date accept test make
    date_refused d n h = rw (← e, ← h)

    pub date_taken : (d : Civil ℕ) (w : Unit {0}) → accepted w ≡ test_date d → accepted (make d (time_of r) r.offset_seconds) ≡ with_date r d
    unfolding with_date accept test make
    date_taken d w h = let p = parts_accepted in rw (← e, ← h, p.1, p.2)

    pub time_refused : (t : TimeParts) (n : ℕ) → refused n ≡ test_time t → refused n ≡ with_time r t
    unfolding with_time accept test make
    time_refused t n h = let p = parts_accepted in rw (← e, p.0, ← h)

    pub time_taken : (t : TimeParts) (w : Unit {0}) → accepted w ≡ test_time t → accepted (make (date_of r) t r.offset_seconds) ≡ with_time r t
    unfolding with_time accept test make
    time_taken t w h = let p = parts_accepted in rw (← e, p.0, ← h, p.2)

    pub offset_refused : (o : ℤ) (n : ℕ) → refused n ≡ test_offset o → refused n ≡ with_offset r o
    unfolding with_offset accept test make
    offset_refused o n h = let p = parts_accepted in rw (← e, p.0, p.1, ← h)

    pub offset_taken : (o : ℤ) (w : Unit {0}) → accepted w ≡ test_offset o → accepted (make (date_of r) (time_of r) o) ≡ with_offset r o
    unfolding with_offset accept test make
    offset_taken o w h = let p = parts_accepted in rw (← e, p.0, p.1, ← h)

pub ruleset parts = (record_refused_date, record_refused_time, record_refused_offset, date_refused, date_taken, time_refused, time_taken, offset_refused, offset_taken, rules)
