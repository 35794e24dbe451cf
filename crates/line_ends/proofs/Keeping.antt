-- The bytes of a line that are moved to the front. Assumes nothing.
use native.Mathlib.Omega.{arith}
use borrow.Author.Tests.{ltb-true, ltb-false, le-ltb}
use Prim.Native.Nat.{ℕ, ◌+◌, ◌-◌, ◌<◌, ◌≤◌, min}
use native.Mathlib.Nat.{zero-add}
use mathlib.Core.Path.{◌≡◌, refl, ◌∙◌}
use mathlib.Core.Bool.{Bool, true, false, cond}
use mathlib.Core.List.{List, [], ◌++◌}
use Rattle.std.specs.Prelude.{◌⊎◌}
use lib.Dec.{ltb}
use lib.ListN.{length, take, drop, length-drop}
use lib.Seq.{length-take-le, take_all, take-take, paste}
use Rattle.line_ends.specs.Put.{put_at, Put}
use Rattle.line_ends.specs.Lines.{kept}

take_least : (l : List ℕ) (a b : ℕ) → b ≤ length l → take a (take b l) ≡ take (min b a) l
take_least l a b h = by (ltb a b) refl where
  by : (t : Bool) → ltb a b ≡ t → take a (take b l) ≡ take (min b a) l
  by true e =
      let g : a < b = ltb-true a b e in
      let m : min b a ≡ a = omega arith in
      rw m (take-take a b l (omega arith))
  by false e =
      let g : b ≤ a = ltb-false a b e in
      let m : min b a ≡ b = omega arith in
      rw m (take_all a (take b l) (rw (length-take-le b l h) g))

-- ---- no such places
pub kept_none : (b : List ℕ) (from end : ℕ) → (end < from) ⊎ (length b < end) → Put (kept b from end) 0 b 0 b
unfolding kept put_at
kept_none b from end h = by (ltb (length b) end) refl where
  by : (t : Bool) → ltb (length b) end ≡ t → Put (cond t [] (take 4097 (take (end - from) (drop from b)))) 0 b 0 b
  by true e = record { place = refl; bytes = refl }
  by false e =
      let l : end ≤ length b = ltb-false (length b) end e in
      let z : end - from ≡ 0 = grind arith in
      rw z (record { place = refl; bytes = refl })

-- ---- n bytes are moved
pub kept_some : (b : List ℕ) (from end n : ℕ) → from ≤ end → end ≤ length b → n ≡ min (end - from) 4097 → Put (kept b from end) 0 b n (paste b 0 (drop from b) (from + n - from))
unfolding kept put_at
kept_some b from end n p q e =
    let m : from + n - from ≡ n = omega arith in
    let l : end - from ≤ length (drop from b) = rw (length-drop from b) (omega arith) in
    let t : take 4097 (take (end - from) (drop from b)) ≡ take n (drop from b) = take_least (drop from b) 4097 (end - from) l ∙ rw e in
    let s : length (take n (drop from b)) ≡ n = length-take-le n (drop from b) (omega (arith, l)) in
    rw (m, le-ltb (length b) end q, t) (record { place = omega (arith, s); bytes = rw (zero-add (length (take n (drop from b))), s, zero-add n) })

-- ---- i bytes of n are moved, one at a time
pub record Moving (b₀ : List ℕ) (from n i : ℕ) (b : List ℕ) : Type 0 where
  pub few : i ≤ n
  pub same : length b ≡ length b₀
  pub bytes : b ≡ take i (drop from b₀) ++ drop i b₀

pub moving_start : (b : List ℕ) (from n : ℕ) → Moving b from n 0 b
moving_start b from n = record { few = omega arith; same = refl; bytes = refl }
