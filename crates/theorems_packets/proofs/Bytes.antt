-- What is read of written bytes: numbers, and the fields of an item. Assumes nothing.
use native.Mathlib.Omega.{arith}
use Prim.Native.Nat.{ℕ, zero, suc, ◌+◌, ◌*◌, ◌/◌, ◌%◌, ◌<◌}
use mathlib.Core.Path.{◌≡◌, refl, sym}
use mathlib.Core.List.{List, [], ◌∷◌}
use lib.ListN.{get_or, drop}
use Rattle.packet_fields.specs.Fields.{little, fields_from}
use Rattle.packet_fields.specs.declared.Fields.{Fields}
use Rattle.theorems_packets.specs.Writing.{number, fields}
use Rattle.theorems_packets.specs.Packets.{Held}

-- ---- numbers

-- the byte at a place, and the place behind it
pub one : (l : List ℕ) (at next b : ℕ) (t : List ℕ) → at + 1 ≡ next → drop at l ≡ b ∷ t → (get_or l at 0 ≡ b) × (drop next l ≡ t)
one l at next b t n e = let s : next ≡ suc at = omega arith in rw s (go l at e)
  where
    go : (l : List ℕ) (at : ℕ) → drop at l ≡ b ∷ t → (get_or l at 0 ≡ b) × (drop (suc at) l ≡ t)
    go [] zero e = let z : ◌≡◌ {A = ℕ} 0 1 = cc in absurd (omega arith)
    go [] (suc at) e = let z : ◌≡◌ {A = ℕ} 0 1 = cc in absurd (omega arith)
    go (x ∷ l) zero e = (cc, cc)
    go (x ∷ l) (suc at) e = go l at e

-- whether n bytes hold a number
pub held : ℕ → ℕ → Type 0
held zero v = v ≡ 0
held (suc n) v = held n (v / 256)

pub many : (n v : ℕ) (l : List ℕ) (at next : ℕ) (t : List ℕ) → held n v → at + n ≡ next → drop at l ≡ number n v t → (little n at l ≡ v) × (drop next l ≡ t)
unfolding held number little
many zero v l at next t h k e = let s : next ≡ at = omega arith in (sym h, rw s e)
many (suc n) v l at next t h k e =
    let a = one l at (suc at) (v % 256) (number n (v / 256) t) (omega arith) e in
    let b = many n (v / 256) l (suc at) next t h (omega arith) a.1 in
    (rw (a.0, b.0) (omega arith), b.1)

lower : (v m : ℕ) → v < 256 * m → v / 256 < m
lower v m h = omega arith

pub held_2 : (v : ℕ) → v < 65536 → held 2 v
unfolding held
held_2 v h = let a = lower v 256 (omega arith) in let b = lower (v / 256) 1 (omega arith) in omega arith

pub held_4 : (v : ℕ) → v < 4294967296 → held 4 v
unfolding held
held_4 v h =
    let a = lower v 16777216 (omega arith) in
    let b = lower (v / 256) 65536 (omega arith) in held_2 (v / 256 / 256) b

pub held_8 : (v : ℕ) → v < 18446744073709551616 → held 8 v
unfolding held
held_8 v h =
    let a = lower v 72057594037927936 (omega arith) in
    let b = lower (v / 256) 281474976710656 (omega arith) in
    let c = lower (v / 256 / 256) 1099511627776 (omega arith) in
    let d = lower (v / 256 / 256 / 256) 4294967296 (omega arith) in held_4 (v / 256 / 256 / 256 / 256) d

-- ---- fields

pub fields_read : (f : Fields) (l : List ℕ) (at : ℕ) (t : List ℕ) → Held f → drop at l ≡ fields f t → (fields_from l at ≡ f) × (drop (at + 28) l ≡ t)
unfolding fields fields_from
fields_read f l at t h e =
    let a0 = one l at (at + 1) _ _ (omega arith) e in
    let a1 = one l (at + 1) (at + 2) _ _ (omega arith) a0.1 in
    let a2 = one l (at + 2) (at + 3) _ _ (omega arith) a1.1 in
    let a3 = one l (at + 3) (at + 4) _ _ (omega arith) a2.1 in
    let a4 = many 4 f.year l (at + 4) (at + 8) _ (held_4 f.year h.year) (omega arith) a3.1 in
    let a8 = one l (at + 8) (at + 9) _ _ (omega arith) a4.1 in
    let a9 = one l (at + 9) (at + 10) _ _ (omega arith) a8.1 in
    let a10 = one l (at + 10) (at + 11) _ _ (omega arith) a9.1 in
    let a11 = one l (at + 11) (at + 12) _ _ (omega arith) a10.1 in
    let a12 = many 4 f.nanosecond l (at + 12) (at + 16) _ (held_4 f.nanosecond h.nanosecond) (omega arith) a11.1 in
    let a16 = one l (at + 16) (at + 17) _ _ (omega arith) a12.1 in
    let a17 = one l (at + 17) (at + 18) _ _ (omega arith) a16.1 in
    let a18 = many 2 f.length l (at + 18) (at + 20) _ (held_2 f.length h.length) (omega arith) a17.1 in
    let a20 = many 8 f.amount l (at + 20) (at + 28) t (held_8 f.amount h.amount) (omega arith) a18.1 in
    (rw (a0.0, a1.0, a2.0, a3.0, a4.0, a8.0, a9.0, a10.0, a11.0, a12.0, a16.0, a17.0, a18.0, a20.0) refl, a20.1)
