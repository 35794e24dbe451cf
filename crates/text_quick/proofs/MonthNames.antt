-- The name of a month at a place: the letters that stand there, looked up in the table of months. Assumes nothing.
use native.Mathlib.Omega.{arith}
use Prim.Native.Nat.{ℕ, ◌<◌, ◌≤◌}
use Prim.Native.String.{String}
use borrow.Author.Tests.{leb-true}
use mathlib.Core.Path.{◌≡◌, refl, sym}
use mathlib.Core.List.{List, [], ◌∷◌}
use mathlib.Core.Bool.{Bool, true, false, cond}
use lib.ListN.{length, get_or}
use lib.Seq.{slice, length-slice}
use lib.Dec.{leb}
use Rattle.primitive.specs.Answer.{matched}
use Rattle.primitive.specs.Text.{lower, lowered, bytes, letter}
use Rattle.primitive.specs.Primitive.{alpha1, same, named}
use Rattle.primitive.proofs.Lowered.{length_lowered}
use Rattle.primitive.proofs.Rows.{halves}
use Rattle.dates.specs.Date.{months}
use Rattle.primitive.proofs.WordTables.{every}
use Rattle.text_quick.specs.Days.{Named}
use Rattle.text_quick.proofs.Places.{mark}
use Rattle.text_quick.proofs.Found.{some_row}

-- ---- the table

-- what a word has in a table, it has at any place of any text
record Entry (es : List (String × ℕ)) (w : List ℕ) (k at n : ℕ) : Type 0 where
  pub place : n ≡ at
  pub small : k ≤ 12
  pub anywhere : (text : List ℕ) (i : ℕ) → named es w text i ≡ matched k i

entry_of : (es : List (String × ℕ)) (w text : List ℕ) (k at n : ℕ) → every (λ e. leb e.1 12) es ≡ true → matched k n ≡ named es w text at → Entry es w k at n
unfolding named
entry_of [] w text k at n h e = let z : ◌≡◌ {A = ℕ} 0 1 = cc in absurd (omega arith)
entry_of (x ∷ xs) w text k at n h e = go (same w (bytes x.0)) refl e (λ g. entry_of xs w text k at n (halves (leb x.1 12) _ h).1 g)
  where
    go : (t : Bool) → same w (bytes x.0) ≡ t → matched k n ≡ cond t (matched x.1 at) (named xs w text at) → (matched k n ≡ named xs w text at → Entry xs w k at n) → Entry (x ∷ xs) w k at n
    go true f g behind =
        let small = leb-true x.1 12 (halves (leb x.1 12) _ h).0 in
        let z : k ≡ x.1 = cc in
        record { place = cc; small = omega arith; anywhere = λ text i. rw (f, z) }
    go false f g behind = let r = behind g in record { place = r.place; small = r.small; anywhere = λ text i. rw f (r.anywhere text i) }

months_small : every (λ e. leb e.1 12) months ≡ true
unfolding months
months_small = refl

pub name_found : (s : List ℕ) (at e : ℕ) (w : List ℕ) → matched w e ≡ alpha1 (lowered s) at → e < length s → get_or s e 0 ≡ 32
    → (k : ℕ) → ((text : List ℕ) (i : ℕ) → matched k i ≡ named months w text i) → Named (lowered s) at k e
unfolding lower alpha1
name_found s at e w h l b k f =
    let (far, (row, letters)) = some_row letter (lowered s) w at e (sym h) in
    let m = entry_of months w (lowered s) k e e months_small (f (lowered s) e) in
    let long : e < length (lowered s) = rw (length_lowered s) l in
    let size = length-slice at e (lowered s) (omega arith) in
    record {
      month = record { word = slice at e (lowered s); dot = false; spelling = refl; long = omega arith; letters = rw (← row) letters; found = λ l. record { reads = λ text i z. (i, rw (← row) (m.anywhere text i), z) } };
      small = m.small;
      forward = omega arith;
      more = long;
      space = mark s e 32 l b refl;
    }
