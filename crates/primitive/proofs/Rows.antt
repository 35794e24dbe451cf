-- Rows of bytes that all pass a test, and rows of digits. Assumes nothing.
use native.Mathlib.Omega.{arith}
use Prim.Native.Nat.{ℕ, ◌<◌, ◌≤◌}
use lib.Dec.{leb}
use borrow.Author.Tests.{leb-true}
use mathlib.Core.Path.{◌≡◌, refl}
use mathlib.Core.List.{List, [], ◌∷◌}
use mathlib.Core.Bool.{Bool, true, false, ◌&&◌}
use lib.ListN.{length}
use Rattle.primitive.specs.Text.{digit, run}

abbrev pub all : (ℕ → Bool) → List ℕ → Bool
all p [] = true
all p (b ∷ bs) = p b && all p bs

pub halves : (a b : Bool) → a && b ≡ true → (a ≡ true) × (b ≡ true)
halves true b e = (refl, e)
halves false b e = let z : ◌≡◌ {A = ℕ} 0 1 = cc in absurd (omega arith)

pub both : {a b : Bool} → a ≡ true → b ≡ true → a && b ≡ true
both f g = rw (f, g)

-- a digit is one of the bytes 48 to 57
pub digit_bounds : (b : ℕ) → digit b ≡ true → (48 ≤ b) × (b ≤ 57)
unfolding digit
digit_bounds b h = let t = halves (leb 48 b) (leb b 57) h in (leb-true 48 b t.0, leb-true b 57 t.1)

-- a row of digits, one or more
pub record Number (ds : List ℕ) : Type 0 where
  pub long : 0 < length ds
  pub digits : all digit ds ≡ true

-- where every byte is of a kind, the run is the whole
pub run_all : (p : ℕ → Bool) (l : List ℕ) → all p l ≡ true → run p l ≡ length l
unfolding run
run_all p [] h = refl
run_all p (b ∷ bs) h = let t = halves (p b) (all p bs) h in rw (t.0, run_all p bs t.1)
