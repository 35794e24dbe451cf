-- What an item that fields are unpacked to is: in range, with these fields, an amount that can be written, and its digits after those used up.
-- Assumes nothing.
use native.Mathlib.Omega.{arith}
use Prim.Native.Nat.{ℕ, ◌-◌}
use mathlib.Core.Path.{◌≡◌, refl}
use mathlib.Core.Bool.{Bool, true, false, cond, ◌&&◌}
use lib.Dec.{ltb, eqb}
use lib.IntN.{ℤ, pos, negsuc}
use borrow.Author.Rules.{rules}
use borrow.Author.Tests.{ltb-false, lt-ltb, eqb-true}
use Rattle.integers.specs.Integers.{in_i32, in_i64}
use Rattle.answers.specs.Outcome.{Outcome, accepted, refused, check, ◌>>=◌, ◌>>◌}
use Rattle.answers.proofs.Outcomes as outcomes
use Rattle.answers.proofs.Outcomes.{apart, check_true, first_passed, step_passed}
use Rattle.primitive.proofs.Rows.{halves}
use Rattle.items.specs.declared.Day.{Day}
use Rattle.items.specs.declared.Item.{Item}
use Rattle.packet_fields.specs.Fields.{from_twos_complement, day_of, small, weekday_of, unit_of, relative_of, item_of, fields_of, in_range, same, fitting, unpacked}
use Rattle.packet_fields.specs.declared.Fields.{Fields}
use Rattle.theorems_packets.specs.Writing.{amount, amounts}
use Rattle.theorems_packets.specs.Packets.{placed}

-- ---- fields that are the same

equal_and : (m n : ℕ) (t : Bool) → eqb m n && t ≡ true → (m ≡ n) × (t ≡ true)
equal_and m n t h = let k = halves (eqb m n) t h in (eqb-true m n k.0, k.1)

same_fields : (a b : Fields) → same a b ≡ true → a ≡ b
unfolding same
same_fields a b h =
    let k0 = equal_and a.kind b.kind _ h in
    let k1 = equal_and a.which b.which _ k0.1 in
    let k2 = equal_and a.month b.month _ k1.1 in
    let k3 = equal_and a.day b.day _ k2.1 in
    let k4 = equal_and a.year b.year _ k3.1 in
    let k5 = equal_and a.hour b.hour _ k4.1 in
    let k6 = equal_and a.minute b.minute _ k5.1 in
    let k7 = equal_and a.second b.second _ k6.1 in
    let k8 = equal_and a.flags b.flags _ k7.1 in
    let k9 = equal_and a.nanosecond b.nanosecond _ k8.1 in
    let k10 = equal_and a.offset_hours b.offset_hours _ k9.1 in
    let k11 = equal_and a.offset_minutes b.offset_minutes _ k10.1 in
    let k12 = equal_and a.length b.length _ k11.1 in
    rw (k0.0, k1.0, k2.0, k3.0, k4.0, k5.0, k6.0, k7.0, k8.0, k9.0, k10.0, k11.0, k12.0, eqb-true a.amount b.amount k12.1) refl

-- ---- its amount, and where its digits begin

-- a refusal, or an item whose amount can be written and whose digits begin where those used up end
data Fits (used : ℕ) : Outcome Item → Type 0 where
  an_item : (x : Item) → amounts x ≡ true → placed used x → Fits used (accepted x)
  no_item : (n : ℕ) → Fits used (refused n)

module _ (used : ℕ) where
  cond_fits : (t : Bool) (p q : Outcome Item) → Fits used p → Fits used q → Fits used (cond t p q)
  cond_fits true p q f g = f
  cond_fits false p q f g = g

  small_fits : (n : ℕ) (f : ℤ → Outcome Item) → ((z : ℤ) → in_i32 z ≡ true → Fits used (f z)) → Fits used (small n >>= f)
  unfolding small
  small_fits n f h = by (in_i32 (from_twos_complement n)) refl
    where
      by : (t : Bool) → in_i32 (from_twos_complement n) ≡ t → Fits used (check t 5 >> accepted (from_twos_complement n) >>= f)
      by true e = h (from_twos_complement n) e
      by false e = no_item 5

  day_fits : (o : Outcome Day) (f : Day → Outcome Item) → ((d : Day) → Fits used (f d)) → Fits used (o >>= f)
  day_fits (accepted d) f h = h d
  day_fits (refused n) f h = no_item n

  weekday_fits : (f : Fields) → Fits used (weekday_of f)
  unfolding weekday_of amounts placed
  weekday_fits f = small_fits f.amount _ (λ z h. day_fits (day_of f.which) _ (λ d. an_item _ h tt))

  unit_fits : (unit : ℕ) (z : ℤ) → in_i32 z ≡ true → Fits used (unit_of unit z)
  unfolding unit_of amounts amount placed
  unit_fits unit z h = search (an_item, no_item, cond_fits, rules)

  wide_amount : (n : ℕ) → in_i64 (from_twos_complement n) ≡ true
  unfolding from_twos_complement
  wide_amount n = by (ltb n 9223372036854775808) refl
    where
      by : (t : Bool) → ltb n 9223372036854775808 ≡ t → in_i64 (cond t (pos n) (negsuc (18446744073709551615 - n))) ≡ true
      by true e = e
      by false e = let k = ltb-false n 9223372036854775808 e in lt-ltb (18446744073709551615 - n) 9223372036854775808 (omega arith)

  relative_fits : (f : Fields) → Fits used (relative_of f)
  unfolding relative_of amounts amount placed
  relative_fits f = search (an_item, cond_fits, wide_amount, small_fits, unit_fits, rules)

  item_fits : (f : Fields) → Fits used (item_of f used)
  unfolding item_of amounts placed
  item_fits f = search (an_item, no_item, cond_fits, weekday_fits, relative_fits, rules) depth 12

  item_placed : (f : Fields) (x : Item) → item_of f used ≡ accepted x → (amounts x ≡ true) × placed used x
  item_placed f x e = by (item_fits f) e
    where
      by : {o : Outcome Item} → Fits used o → o ≡ accepted x → (amounts x ≡ true) × placed used x
      by (an_item y a p) k = rw (← outcomes.same k) (a, p)
      by (no_item n) k = apart k

-- ---- the whole

pub record Unpacked (f : Fields) (used : ℕ) (x : Item) : Type 0 where
  pub range : in_range x ≡ true
  pub sums : amounts x ≡ true
  pub begins : placed used x
  pub same : fields_of x ≡ f

pub unpacked_is : (f : Fields) (used : ℕ) (x : Item) → unpacked f used ≡ accepted x → Unpacked f used x
unfolding unpacked fitting
unpacked_is f used x e =
    let s = step_passed (item_of f used) _ e in
    let r = first_passed (check (in_range s.value) 5) _ s.then in
    let t = first_passed (check (same (fields_of s.value) f) 5) _ r.1 in
    let p = item_placed used f s.value s.was in
    rw (← outcomes.same t.1) (record { range = check_true (in_range s.value) 5 r.0; sums = p.0; begins = p.1; same = same_fields (fields_of s.value) f (check_true (same (fields_of s.value) f) 5 t.0) })
