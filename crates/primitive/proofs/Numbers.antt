-- The laws of `dec_uint`: a number that was read is at most its limit, so it fits each width that holds the limit; it has a
-- digit. Assumes nothing.
use borrow.Author.Tests.{leb-true, ltb-true}
use native.Mathlib.Omega.{arith}
use Prim.Native.Nat.{ℕ, zero, suc, ◌≤◌, ◌<◌, ◌^◌}
use native.Mathlib.Nat.{lt_of_le_of_lt}
use mathlib.Core.Path.{◌≡◌, refl, sym}
use mathlib.Core.List.{List}
use mathlib.Core.Bool.{Bool, true, false, cond}
use lib.Dec.{ltb, leb}
use mir.Syntax.{Width, w32}
use mir.Val.{Fits, SFits, bits}
use Rattle.primitive.specs.Answer.{Answer, matched, dropped, none, stop, and_then}
use Rattle.primitive.specs.Primitive.{decimal, parse_uint, dec_uint_str, dec_uint}
use Rattle.primitive.specs.Ordinal.{signed}
use Rattle.primitive.proofs.Chain.{chain}
use Rattle.primitive.proofs.Dropped.{drops_never}

-- a number that was read is at most its limit
pub parse_limit : (max : ℕ) (w text : List ℕ) (at v n : ℕ) → parse_uint max w text at ≡ matched v n → v ≤ max
unfolding parse_uint
parse_limit max w text at v n = go (leb (decimal w) max) refl
  where
    go : (t : Bool) → leb (decimal w) max ≡ t → cond t (matched (decimal w) at) none ≡ matched v n → v ≤ max
    go true e k = let z : v ≡ decimal w = cc in rw z (leb-true (decimal w) max e)
    go false e k = let z : ◌≡◌ {A = ℕ} 0 1 = cc in omega arith

-- the same of the value of digits, wherever they stand
pub parse_most : (max : ℕ) (w : List ℕ) (v : ℕ) → ((text : List ℕ) (at : ℕ) → matched v at ≡ parse_uint max w text at) → v ≤ max
parse_most max w v e = parse_limit max w w 0 v 0 (sym (e w 0))

pub number_limit : (max : ℕ) (text : List ℕ) (at v n : ℕ) → dec_uint max text at ≡ matched v n → v ≤ max
unfolding dec_uint
number_limit max text at v n = go (dec_uint_str text at)
  where
    go : (a : Answer (List ℕ)) → and_then a (λ w m. parse_uint max w text m) ≡ matched v n → v ≤ max
    go (matched w m) e = parse_limit max w text m v n e
    go (dropped w m) e = absurd (drops_never (parse_uint max w text m) v n e)
    go none e = let z : ◌≡◌ {A = ℕ} 0 1 = cc in omega arith
    go stop e = let z : ◌≡◌ {A = ℕ} 0 1 = cc in omega arith

-- one law for every width
module _ (v n max at : ℕ) (text : List ℕ) (e : matched v n ≡ dec_uint max text at) where
  pub number_fits : (w : Width) → ltb max (2 ^ bits w) ≡ true → Fits w v
  number_fits w h = record { fits = lt_of_le_of_lt (number_limit max text at v n (sym e)) (ltb-true max (2 ^ bits w) h) }

  pub number_below : (b : ℕ) → ltb max b ≡ true → v < b
  number_below b h = lt_of_le_of_lt (number_limit max text at v n (sym e)) (ltb-true max b h)

-- below 2 to the power 31 a number fits an i32 with either sign
pub signed_fits : (negative : Bool) (n : ℕ) → n < 2147483648 → SFits w32 (signed negative n)
unfolding signed
signed_fits true zero h = record { sfits = omega arith }
signed_fits true (suc k) h = record { sfits = omega arith }
signed_fits false n h = record { sfits = h }

pub ruleset numbers = (number_fits, number_below, chain)
