-- The laws of a number that is read in one pass: the digits and their value together. Assumes nothing.
use borrow.Author.Tests.{lt-ltb, leb-true, le-leb}
use native.Mathlib.Omega.{arith}
use Prim.Native.Nat.{ℕ, ◌+◌, ◌*◌, ◌-◌, ◌<◌, ◌≤◌}
use mathlib.Core.Path.{◌≡◌, refl, sym, ◌∙◌}
use mathlib.Core.List.{List}
use mathlib.Core.Bool.{Bool, true, false, ◌&&◌, cond}
use lib.ListN.{length, get_or}
use lib.Seq.{slice}
use lib.Dec.{ltb, leb}
use Rattle.primitive.specs.Answer.{Answer, matched, dropped, none, stop, and_then, answer_of}
use Rattle.primitive.specs.Text.{lower, lowered, digit, past, some}
use Rattle.primitive.specs.Primitive.{decimal, parse_uint, dec_uint_str, dec_uint}
use Rattle.primitive.proofs.Lowered.{clash, digit_same}
use Rattle.primitive.proofs.Runs.{past_done, digits_found, digits_next}
use Rattle.primitive.proofs.Forward.{past_onward}
use Rattle.primitive.proofs.Values.{grown_from, grown_start, parse_done, parse_next, over}
use Rattle.primitive.proofs.Chain.{chain}
use Rattle.std.specs.Prelude.{Option}
use Rattle.primitive.proofs.Dropped.{drops_never}

-- `acc` with the digits from i on behind it has the value of all the digits at `at`
pub scanned : ℕ → List ℕ → ℕ → ℕ → Type 0
scanned acc s i at =
    (at ≤ i) × (past digit (lowered s) i ≡ past digit (lowered s) at) × (grown_from acc s i (past digit (lowered s) at) ≡ decimal (slice at (past digit (lowered s) at) (lowered s)))

pub scan_start : (s : List ℕ) (at : ℕ) → scanned 0 s at at
unfolding scanned
scan_start s at = (omega arith, refl, grown_start s at (past digit (lowered s) at))

module _ (s : List ℕ) (at max acc i : ℕ) (inv : scanned acc s i at) where
  module _ (m : acc ≤ max) (r : Option (ℕ × ℕ)) (e : answer_of r ≡ cond (ltb at i) (matched acc i) none) where
    ended : i ≡ past digit (lowered s) at → answer_of r ≡ dec_uint max (lowered s) at
    unfolding scanned dec_uint dec_uint_str some
    ended k = rw (← k) (e ∙ go (ltb at i))
      where
        go : (t : Bool) → cond t (matched acc i) none ≡ and_then (cond t (matched (slice at i (lowered s)) i) none) (λ w n. parse_uint max w (lowered s) n)
        go true = parse_done s acc i i (slice at i (lowered s)) (rw (← k) at inv.2) (lowered s) max i (omega arith) m
        go false = refl

    pub scan_end : length s ≤ i → answer_of r ≡ dec_uint max (lowered s) at
    unfolding scanned
    scan_end h = ended (past_done digit s i at inv.1 h)

    pub scan_found : i < length s → (t : Bool) → t ≡ digit (get_or s i 0) → t ≡ false → answer_of r ≡ dec_uint max (lowered s) at
    unfolding scanned
    scan_found h t f g = ended (digits_found s i at inv.1 h t f g)

  module _ (h : i < length s) (t : Bool) (f : t ≡ digit (get_or s i 0)) (g : t ≡ true) (d : ℕ) (v : d ≡ get_or s i 0 - 48) where
    inside : i < past digit (lowered s) at
    unfolding scanned
    inside =
        let z = past_onward digit (lowered s) (i + 1) in
        let y = z.0 in
        let x = digits_next s i at inv.1 h t f g in
        omega arith

    itself : get_or s i 0 ≡ lower (get_or s i 0)
    itself = digit_same (get_or s i 0) (sym f ∙ g)

    pub scan_next : scanned (acc * 10 + d) s (i + 1) at
    unfolding scanned
    scan_next =
        let a = inv.0 in
        (omega arith, digits_next s i at inv.1 h t f g, parse_next s acc i (past digit (lowered s) at) _ inv.2 (lowered s) inside h (get_or s i 0) itself d v)

    pub scan_over : max < acc * 10 + d → none ≡ dec_uint max (lowered s) at
    unfolding scanned dec_uint dec_uint_str some
    scan_over o =
        let a = inv.0 in
        let y = inside in
        rw (lt-ltb at (past digit (lowered s) at) (omega arith))
        (over s acc i (past digit (lowered s) at) _ inv.2 (lowered s) inside h (get_or s i 0) itself d v max (past digit (lowered s) at) o)

pub digit_worth : (b d : ℕ) (t : Bool) → t ≡ digit b → t ≡ true → d ≡ b - 48 → d ≤ 9
unfolding digit
digit_worth b d t f g e = go (leb 48 b) (leb b 57) refl (sym f ∙ g)
  where
    go : (u v : Bool) → leb b 57 ≡ v → (u && v) ≡ true → d ≤ 9
    go true true h k = let z = leb-true b 57 h in omega arith
    go true false h k = let z : ◌≡◌ {A = ℕ} 0 1 = cc in absurd (clash z)
    go false v h k = let z : ◌≡◌ {A = ℕ} 0 1 = cc in absurd (clash z)

-- a number below one limit is below each that is larger
module _ (text : List ℕ) (at v n : ℕ) (max more : ℕ) (h : leb max more ≡ true) where
  wide : (w : List ℕ) (m : ℕ) → matched v n ≡ parse_uint max w text m → matched v n ≡ parse_uint more w text m
  unfolding parse_uint
  wide w m = go (leb (decimal w) max) refl
    where
      go : (t : Bool) → leb (decimal w) max ≡ t → matched v n ≡ cond t (matched (decimal w) m) none → matched v n ≡ cond (leb (decimal w) more) (matched (decimal w) m) none
      go true e f = let z = leb-true (decimal w) max e in let y = leb-true max more h in rw (le-leb (decimal w) more (omega arith)) f
      go false e f = let z : ◌≡◌ {A = ℕ} 0 1 = cc in absurd (clash z)

  pub wider : matched v n ≡ dec_uint max text at → matched v n ≡ dec_uint more text at
  unfolding dec_uint
  wider e = go (dec_uint_str text at) e
    where
      go : (a : Answer (List ℕ)) → matched v n ≡ and_then a (λ w m. parse_uint max w text m) → matched v n ≡ and_then a (λ w m. parse_uint more w text m)
      go (matched w m) f = wide w m f
      go (dropped w m) f = absurd (drops_never (parse_uint max w text m) v n (sym f))
      go none f = f
      go stop f = f

pub ruleset scans = (scan_start, scan_end, scan_found, scan_next, scan_over, wider, chain)
