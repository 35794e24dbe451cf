-- What the code read is a part of the text: a number is a row of digits, a word is its bytes. Assumes nothing.
use Prim.Native.Nat.{ℕ, suc, ◌+◌, ◌<◌, ◌≤◌}
use native.Mathlib.Omega.{arith}
use mathlib.Core.Path.{◌≡◌, refl, sym, ap}
use mathlib.Core.Bool.{Bool, true, false, cond}
use mathlib.Core.List.{List, [], ◌∷◌, ◌++◌}
use lib.Dec.{eqb, ltb, leb}
use lib.ListN.{length, take, drop}
use lib.Seq.{slice, drop-drop, length-slice}
use borrow.Author.Tests.{eqb-true, ltb-true}
use Rattle.primitive.specs.Answer.{Answer, matched, dropped, none, stop, and_then}
use Rattle.primitive.specs.Text.{digit, run, past, some, starts, tag}
use Rattle.primitive.specs.Primitive.{decimal, parse_uint, dec_uint_str, dec_uint}
use Rattle.primitive.proofs.Rows.{all, halves, both}
use Rattle.primitive.proofs.Lowered.{clash}
use Rattle.primitive.proofs.Limits.{slice_take}
use Rattle.primitive.proofs.Forward.{dec_uint_forward}
use Rattle.text_quick.specs.Rows.{Digits}
use Rattle.primitive.proofs.Dropped.{drops_never}

run_all : (p : ℕ → Bool) (l : List ℕ) → all p (take (run p l) l) ≡ true
unfolding run
run_all p [] = refl
run_all p (b ∷ bs) = go (p b) refl (run_all p bs)
  where
    go : (t : Bool) → p b ≡ t → all p (take (run p bs) bs) ≡ true → all p (take (cond t (suc (run p bs)) 0) (b ∷ bs)) ≡ true
    go true e h = both e h
    go false e h = refl

-- bytes that were read because they pass a test
pub some_row : (p : ℕ → Bool) (text w : List ℕ) (at n : ℕ) → some p text at ≡ matched w n → (at < n) × ((w ≡ slice at n text) × (all p w ≡ true))
unfolding some past
some_row p text w at n = go (ltb at (at + run p (drop at text))) refl
  where
    go : (t : Bool) → ltb at (at + run p (drop at text)) ≡ t → (cond t (matched (slice at (at + run p (drop at text)) text) (at + run p (drop at text))) none) ≡ matched w n → (at < n) × ((w ≡ slice at n text) × (all p w ≡ true))
    go true e f =
        let z : n ≡ at + run p (drop at text) = cc in
        let y : w ≡ slice at (at + run p (drop at text)) text = cc in
        (rw z (ltb-true at (at + run p (drop at text)) e), (rw z y, rw (y, slice_take at (run p (drop at text)) text) (run_all p (drop at text))))
    go false e f = let z : ◌≡◌ {A = ℕ} 0 1 = cc in absurd (clash z)

-- a number that was read is a row of digits
number_row : (max : ℕ) (text : List ℕ) (at v n : ℕ) → at ≤ length text → dec_uint max text at ≡ matched v n → Digits text at n v
unfolding dec_uint dec_uint_str parse_uint
number_row max text at v n h e = go (some digit text at) refl e
  where
    same_value : (w : List ℕ) (k : ℕ) → parse_uint max w text k ≡ matched v n → (decimal w ≡ v) × (k ≡ n)
    same_value w k = step (leb (decimal w) max)
      where
        step : (t : Bool) → (cond t (matched (decimal w) k) none) ≡ matched v n → (decimal w ≡ v) × (k ≡ n)
        step true f = (cc, cc)
        step false f = let z : ◌≡◌ {A = ℕ} 0 1 = cc in absurd (clash z)

    go : (a : Answer (List ℕ)) → some digit text at ≡ a → and_then a (λ w k. parse_uint max w text k) ≡ matched v n → Digits text at n v
    go (matched w k) g f =
        let (value, there) = same_value w k f in
        let (long, (row, digits)) = some_row digit text w at k g in
        let (forward, within) = dec_uint_forward max text at v n e in
        let row' : w ≡ slice at n text = rw (← there) row in
        let size = length-slice at n text (within h) in
        record { number = record { long = rw size (omega arith); digits = rw (← row') digits }; value = rw (← row') value; forward = forward; within = within h }
    go (dropped w k) g f = absurd (drops_never (parse_uint max w text k) v n f)
    go none g f = let z : ◌≡◌ {A = ℕ} 0 1 = cc in absurd (clash z)
    go stop g f = let z : ◌≡◌ {A = ℕ} 0 1 = cc in absurd (clash z)

pub read_row : (text : List ℕ) (at v n : ℕ) → at ≤ length text → matched v n ≡ dec_uint 4294967295 text at → Digits text at n v
read_row text at v n h e = number_row 4294967295 text at v n h (sym e)

-- bytes that were read
starts_with : (w l : List ℕ) → starts w l ≡ true → l ≡ w ++ drop (length w) l
unfolding starts
starts_with [] l h = refl
starts_with (c ∷ cs) [] h = let z : ◌≡◌ {A = ℕ} 0 1 = cc in absurd (clash z)
starts_with (c ∷ cs) (b ∷ bs) h =
    let (e, g) = halves (eqb b c) (starts cs bs) h in
    rw (eqb-true b c e) (ap (λ l. c ∷ l) (starts_with cs bs g))

word_written : (w text : List ℕ) (at n : ℕ) → tag w text at ≡ matched (tt {0}) n → drop at text ≡ w ++ drop n text
unfolding tag
word_written w text at n = go (starts w (drop at text)) refl
  where
    go : (t : Bool) → starts w (drop at text) ≡ t → (cond t (matched (tt {0}) (at + length w)) none) ≡ matched (tt {0}) n → drop at text ≡ w ++ drop n text
    go true e f = let z : n ≡ at + length w = cc in rw (z, ← drop-drop (length w) at text) (starts_with w (drop at text) e)
    go false e f = let z : ◌≡◌ {A = ℕ} 0 1 = cc in absurd (clash z)

pub read_word : (w text : List ℕ) (at n : ℕ) → matched tt n ≡ tag w text at → drop at text ≡ w ++ drop n text
read_word w text at n e = word_written w text at n (sym e)
