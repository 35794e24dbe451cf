-- The laws of reading a packet: what each test leaves, in the code's order. Assumes nothing.
use borrow.Author.Rules.{rules}
use borrow.Author.Tests.{leb-true, eqb-true}
use native.Mathlib.Omega.{arith}
use Prim.Native.Nat.{ℕ, ◌+◌, ◌-◌, ◌*◌, ◌≤◌}
use mathlib.Core.Path.{◌≡◌, refl, sym, ◌∙◌}
use mathlib.Core.Bool.{true}
use mathlib.Core.List.{List}
use lib.Dec.{leb, eqb}
use lib.ListN.{length, length-drop, take, drop}
use lib.Seq.{take_all}
use Rattle.primitive.specs.Text.{lowered}
use Rattle.answers.specs.Outcome.{accepted, refused, check}
use Rattle.extended.specs.Extended.{test}
use Rattle.extended.specs.declared.ExtendedDateTime.{ExtendedDateTime}
use Rattle.answers.proofs.Outcomes.{first_passed, check_true}
use Rattle.answers.specs.Placed.{Placed, refusal}
use Rattle.packet_fields.specs.Fields.{little}
use Rattle.packet.specs.Packet.{count, digits_place, header, digits, build_items, read_packet}

-- ---- what a good header says

module _ (s : List ℕ) (h : accepted tt ≡ header s) where
  opened :
      (leb 8 (length s) ≡ true) × (leb (little 2 0 s) 64 ≡ true) × (eqb (little 2 2 s) 8 ≡ true) × (eqb (little 2 6 s) (8 + 28 * little 2 0 s) ≡ true) × (eqb (length s) (8 + 28 * little 2 0 s + little 2 4 s) ≡ true)
  unfolding header count digits_place
  opened =
      let a = first_passed (check (leb 8 (length s)) 5) _ (sym h) in
      let b = first_passed (check (leb (little 2 0 s) 64) 1) _ a.1 in
      let c = first_passed (check (eqb (little 2 2 s) 8) 5) _ b.1 in
      let d = first_passed (check (eqb (little 2 6 s) (8 + 28 * little 2 0 s)) 5) _ c.1 in
      (check_true _ 5 a.0, check_true _ 1 b.0, check_true _ 5 c.0, check_true _ 5 d.0, check_true _ 5 d.1)

  pub few : little 2 0 s ≤ 64
  few = leb-true (little 2 0 s) 64 opened.1

  pub items_at : little 2 2 s ≡ 8
  items_at = eqb-true (little 2 2 s) 8 opened.2

  pub digits_at : little 2 6 s ≡ 8 + 28 * little 2 0 s
  digits_at = eqb-true (little 2 6 s) (8 + 28 * little 2 0 s) opened.3

  pub exact : length s ≡ 8 + 28 * little 2 0 s + little 2 4 s
  exact = eqb-true (length s) (8 + 28 * little 2 0 s + little 2 4 s) opened.4

-- ---- the whole

module _ (s : List ℕ) (base : ExtendedDateTime) where
  pub base_refused : (n : ℕ) → refused n ≡ test base → refusal n 0 ≡ read_packet s base
  unfolding read_packet
  base_refused n e = rw (← e)

  module _ (e : accepted tt ≡ test base) where
    pub header_refused : (n : ℕ) → refused n ≡ header s → refusal n 0 ≡ read_packet s base
    unfolding read_packet
    header_refused n g = rw (← e, ← g)

    pub all_read : accepted tt ≡ header s → (k a d : ℕ) → k ≡ little 2 0 s → a ≡ 8 + 28 * k → d ≡ a + little 2 4 s → (r : Placed ExtendedDateTime) → r ≡ build_items s (lowered (take (d - a) (drop a s))) k base → r ≡ read_packet s base
    unfolding read_packet digits count digits_place
    all_read z k a d ke ae de r q =
        let len : d ≡ length s = rw (de, ae, ke) (sym (exact s z)) in
        let all : length (drop a s) ≤ d - a = omega (arith, length-drop a s) in
        let w : take (d - a) (drop a s) ≡ drop (8 + 28 * little 2 0 s) s = take_all (d - a) (drop a s) all ∙ rw (ae, ke) refl in
        rw (← e, ← z) (rw (w, ke) at q)

pub ruleset steps = (base_refused, header_refused, rules)
