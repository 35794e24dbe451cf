-- The laws of the loop over relative items: what is left from a place on. Assumes nothing.
use native.Mathlib.Omega.{arith}
use native.Mathlib.Numerals.{add-one}
use Prim.Native.Nat.{ℕ, zero, suc, ◌+◌, ◌<◌, ◌≤◌}
use mathlib.Core.Path.{◌≡◌, refl}
use mathlib.Core.List.{List, [], ◌∷◌}
use lib.ListN.{length, drop, get_or}
use lib.Seq.{drop-cons}
use Rattle.answers.specs.Outcome.{Outcome, accepted, refused, ◌>>=◌}
use Rattle.extended.specs.declared.ExtendedDateTime.{ExtendedDateTime}
use Rattle.relative.specs.declared.Relative.{Relative}
use Rattle.builder.specs.Building.{add_relative, add_relatives}

drop_past : {A : Type 0} (n : ℕ) (xs : List A) → length xs ≤ n → drop n xs ≡ []
drop_past zero [] h = refl
drop_past zero (x ∷ xs) h = absurd (omega arith)
drop_past (suc n) [] h = refl
drop_past (suc n) (x ∷ xs) h = drop_past n xs (omega arith)

module _ (rs : List Relative) (i : ℕ) (dt : ExtendedDateTime) (v : Outcome ExtendedDateTime) (inv : add_relatives (drop i rs) dt ≡ v) where
  pub left_end : length rs ≤ i → accepted dt ≡ v
  unfolding add_relatives
  left_end h = rw (drop_past i rs h) at inv

  module _ (h : i < length rs) (d : Relative) where
    step : add_relative (get_or rs i d) dt >>= add_relatives (drop (suc i) rs) ≡ v
    unfolding add_relatives
    step = rw (drop-cons rs i d h) at inv

    pub left_next : (next : ExtendedDateTime) → accepted next ≡ add_relative (get_or rs i d) dt → add_relatives (drop (i + 1) rs) next ≡ v
    left_next next e = rw (add-one i) (rw (← e) at step)

    pub left_refused : (n : ℕ) → refused n ≡ add_relative (get_or rs i d) dt → refused n ≡ v
    left_refused n e = rw (← e) at step
