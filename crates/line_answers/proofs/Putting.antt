-- The laws of a text that is put at a place. Assumes nothing.
use native.Mathlib.Omega.{arith}
use borrow.Author.Tests.{lt-ltb, le-ltb}
use borrow.Rule.Slice.PartMut.{mid_of, put_mid, mid_len}
use Prim.Native.Nat.{ℕ, ◌+◌, ◌-◌, ◌<◌, ◌≤◌}
use native.Mathlib.Numerals.{add-one}
use mathlib.Core.Path.{◌≡◌, refl, ◌∙◌, ap}
use mathlib.Core.List.{List, [], ◌∷◌, ◌++◌, append_assoc}
use lib.ListN.{length, take, drop, set, length-append, take-append-drop}
use lib.Seq.{length-take-le, set_split, take_at, drop-append-add, drop-append-le, drop-drop}
use Rattle.answers.specs.Outcome.{Outcome, accepted, refused, number}
use Rattle.answers.specs.Refusals.{code}
use Rattle.answers.specs.declared.Refusal.{Refusal}
use Rattle.writer.specs.Writer.{fixed, width, digits, bytes_of}
use Rattle.writer.proofs.Digits.{fixed_length, width_some}
use Rattle.line_answers.specs.Answers.{refusal_line, written_line, put_at, Put}

-- the digits of a number, filled in
pub digits_put : (out ys : List ℕ) (at k n : ℕ) → k ≡ width n → at + k ≤ length out → ys ≡ fixed (length (mid_of at (at + k - at) out)) n → Put (digits n) at out (at + k) (put_mid at (at + k - at) out ys)
unfolding put_at digits
digits_put out ys at k n e h f =
    let m : at + k - at ≡ k = omega arith in
    let l : length (mid_of at (at + k - at) out) ≡ at + k - at = mid_len at (at + k) out h in
    let g : ys ≡ fixed (width n) n = f ∙ rw (l, m, e) in
    record { place = rw (fixed_length (width n) n, e); bytes = rw (g, m, drop-drop k at out, fixed_length (width n) n, e) }

pub byte_put : (out : List ℕ) (at b : ℕ) → at < length out → set out at b ≡ put_at (b ∷ []) at out
unfolding put_at
byte_put out at b h = rw (add-one at) (set_split out at b h)

drop_behind : (p q : List ℕ) (n m : ℕ) → length p ≡ n → drop (n + m) (p ++ q) ≡ drop m q
drop_behind p q n m e = rw (← e) (drop-append-add p q m)

-- a text put behind a text
pub put_behind : (s t : List ℕ) (at : ℕ) (out : List ℕ) → at ≤ length out → put_at t (at + length s) (put_at s at out) ≡ put_at (s ++ t) at out
unfolding put_at
put_behind s t at out h =
    let p = take at out ++ s in
    let q = drop (at + length s) out in
    let n = at + length s in
    let front : length p ≡ n = length-append (take at out) s ∙ rw (length-take-le at out h) in
    let behind : drop (n + length t) (p ++ q) ≡ drop (n + length t) out = drop_behind p q n (length t) front ∙ drop-drop (length t) n out in
    let ends : n + length t ≡ at + length (s ++ t) = omega (arith, length-append s t) in
    let last : drop (n + length t) out ≡ drop (at + length (s ++ t)) out = ap (λ (k : ℕ). drop k out) ends in
    rw (← append_assoc (take at out) s q, take_at p q n front, behind, last, append_assoc s t (drop (at + length (s ++ t)) out), append_assoc (take at out) s (t ++ drop (at + length (s ++ t)) out))

-- two steps are one
pub put_then : {s t out mid result : List ℕ} {n next : ℕ} → Put s 0 out n mid → Put t n mid next result → Put (s ++ t) 0 out next result
put_then {s} {t} {out} p q = record {
  place = omega (arith, p.place, q.place, length-append s t);
  bytes = q.bytes ∙ rw (p.place, p.bytes) (put_behind s t 0 out (omega arith));
}

-- a longer text covers a shorter one
covered : (s t out : List ℕ) → length s ≤ length t → put_at t 0 (put_at s 0 out) ≡ put_at t 0 out
unfolding put_at
covered s t out h =
    let more = length t - length s in
    let z : 0 + length t ≡ length s + more = omega arith in
    let f : 0 + length s ≡ length s = omega arith in
    let e : drop (length s + more) (s ++ drop (length s) out) ≡ drop (length s + more) out = drop-append-add s (drop (length s) out) more ∙ drop-drop more (length s) out in
    rw (z, f, e)

pub put_over : {s t out mid result : List ℕ} {n next : ℕ} → length s ≤ length t → Put s 0 out n mid → Put t 0 mid next result → Put t 0 out next result
put_over {s} {t} {out} h p q = record { place = q.place; bytes = q.bytes ∙ rw p.bytes (covered s t out h) }

pub refusal_put : {out o₁ o₂ o₃ o₄ : List ℕ} {r₁ r₂ r₃ r₄ : ℕ} (n at : ℕ) → Put (digits n) 0 out r₁ o₁ → Put (32 ∷ []) r₁ o₁ r₂ o₂ → Put (digits at) r₂ o₂ r₃ o₃ → Put (10 ∷ []) r₃ o₃ r₄ o₄ → Put (refusal_line n at) 0 out r₄ o₄
unfolding refusal_line
refusal_put n at a b c d = rw (← append_assoc (digits n) (32 ∷ []) (digits at ++ (10 ∷ [])), ← append_assoc (digits n ++ (32 ∷ [])) (digits at) (10 ∷ [])) (put_then (put_then (put_then a b) c) d)

-- a part of a row that begins with a text, and the bytes behind the part
pub part_put : (t out : List ℕ) (at k : ℕ) → length t ≤ length (take k (drop at out)) → take at out ++ ((t ++ drop (length t) (take k (drop at out))) ++ drop k (drop at out)) ≡ put_at t at out
unfolding put_at
part_put t out at k h = rw (append_assoc t (drop (length t) (take k (drop at out))) (drop k (drop at out)), ← drop-append-le (length t) (take k (drop at out)) (drop k (drop at out)) h, take-append-drop k (drop at out), drop-drop (length t) at out)

-- what is put into the first k bytes is put into the whole
pub front_put : {t out front result : List ℕ} {n : ℕ} (k : ℕ) → k ≤ length out → n ≤ k → front ≡ take k out → Put t 0 front n result → Put t 0 out n (result ++ drop k out)
unfolding put_at
front_put {t} {out} k h l e p =
    let z : 0 + length t ≡ length t = omega arith in
    let m : length t ≤ length (take k out) = rw (length-take-le k out h) (omega (arith, p.place)) in
    record { place = p.place; bytes = rw (p.bytes, e, z) (rw z at (part_put t out 0 k m)) }

-- ---- the answer to a record
-- no refusal has number 0
pub code_some : (e : Refusal) → 0 < code e
code_some e = grind arith

no_text : (o : Outcome (List ℕ)) → 0 < number o → bytes_of o ≡ []
no_text (accepted t) h = absurd (omega arith)
no_text (refused n) h = refl

refusal_long : (n at : ℕ) → 4 ≤ length (refusal_line n at)
unfolding refusal_line digits
refusal_long n at =
    let a = width_some n in
    let b = width_some at in
    rw (length-append (fixed (width n) n) (32 ∷ (fixed (width at) at ++ (10 ∷ []))), length-append (fixed (width at) at) (10 ∷ []), fixed_length (width n) n, fixed_length (width at) at) (omega arith)

-- "0 "
pub zero_put : (out ys : List ℕ) → ys ≡ 48 ∷ 32 ∷ [] → Put (48 ∷ 32 ∷ []) 0 out 2 (ys ++ drop 2 out)
unfolding put_at
zero_put out ys e = rw e (record { place = refl; bytes = refl })

module _ {out o₂ o₃ : List ℕ} {r₃ : ℕ} (o : Outcome (List ℕ)) (a : Put (48 ∷ 32 ∷ []) 0 out 2 o₂) (c : Put (bytes_of o) 2 o₂ r₃ o₃) where
  front : Put (48 ∷ 32 ∷ bytes_of o) 0 out r₃ o₃
  front = put_then a c

  pub record_refused : {n r₄ : ℕ} {o₄ : List ℕ} → n ≡ number o → 0 < n → Put (refusal_line n 0) 0 o₃ r₄ o₄ → Put (written_line o) 0 out r₄ o₄
  unfolding written_line
  record_refused {n} e h d =
      let g : 0 < number o = omega arith in
      rw (lt-ltb 0 (number o) g) (put_over (rw (no_text o g) (omega (arith, refusal_long (number o) 0))) front (rw e at d))

  pub record_written : {n r₄ : ℕ} {o₄ : List ℕ} → n ≡ number o → n ≤ 0 → Put (10 ∷ []) r₃ o₃ r₄ o₄ → Put (written_line o) 0 out r₄ o₄
  unfolding written_line
  record_written e h d = let g : number o ≤ 0 = omega arith in rw (le-ltb 0 (number o) g) (put_then front d)
