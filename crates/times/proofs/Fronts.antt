-- A time by what follows its hour: the hour, the minute and the second are read once for both ways to write it. Assumes nothing.
use native.Mathlib.Omega.{arith}
use Prim.Native.Nat.{ℕ, ◌≤◌}
use mathlib.Core.Path.{◌≡◌, refl, sym, ◌∙◌}
use mathlib.Core.List.{List, []}
use mathlib.Core.Logic.{◌⊎◌, inl, inr}
use mathlib.Core.Bool.{Bool, true, false}
use lib.ListN.{length, get_or, get_or-eq_default}
use lib.Dec.{ltb}
use Rattle.primitive.specs.Answer.{Answer, matched, none}
use Rattle.primitive.specs.Text.{lower, lowered, bytes}
use Rattle.primitive.specs.Primitive.{space, colon}
use Rattle.primitive.proofs.Fronts.{tag_first, tag_else}
use Rattle.primitive.proofs.Shared.{shared}
use Rattle.primitive.proofs.Lowered.{get_or_lowered, beyond}
use Rattle.times.specs.Time.{below, hour24, hour12, minute, optional_minute, optional_second, offset_behind, minutes_behind, iso, meridiem, am_pm_time, parse}
use Rattle.times.specs.Fronts.{half_day, whole_day, hour_alone, hour_minute}
use Rattle.times.specs.declared.time.Time.{Time}
use Rattle.times.proofs.Hours.{hourless, hour_minutes, hour_alone as iso_alone}
use Rattle.times.proofs.Minutes.{below_read, below_other, below_fewer, minute_second}
use Rattle.times.proofs.Times.{times}

-- a colon begins neither am nor pm
colon_no_meridiem : (text : List ℕ) (at n : ℕ) → colon text at ≡ matched tt n → meridiem text at ≡ none
unfolding meridiem bytes colon
colon_no_meridiem text at n e =
    let z = tag_first text (space text at) 58 [] n e in
    rw (
      tag_else text (space text at) 97 (bytes "m") (λ y. omega arith),
      tag_else text (space text at) 97 (bytes ".m.") (λ y. omega arith),
      tag_else text (space text at) 112 (bytes "m") (λ y. omega arith),
      tag_else text (space text at) 112 (bytes ".m.") (λ y. omega arith),
    )

module _ (text : List ℕ) (at : ℕ) where
  pub no_hour_read : none ≡ below 24 text at → none ≡ parse text at
  unfolding parse am_pm_time hour12 hour24
  no_hour_read e = rw (below_fewer text at 24 13 (omega arith) e, ← hourless text at e)

  module _ (h n : ℕ) (e : matched h n ≡ below 24 text at) where
    -- no colon
    alone : none ≡ colon text n → am_pm_time text at ≡ half_day h 0 (record { sec = 0; nsec = 0 }) text n
    unfolding am_pm_time hour12 optional_minute optional_second half_day
    alone f = go (ltb h 13) refl
      where
        go : (t : Bool) → ltb h 13 ≡ t → am_pm_time text at ≡ half_day h 0 (record { sec = 0; nsec = 0 }) text n
        go true g = rw (below_other text at 24 13 h n e, g, ← f, ← f)
        go false g = rw (below_other text at 24 13 h n e, g)

    pub hour_then : (a : Answer Time) → none ≡ colon text n → a ≡ hour_alone h text n → a ≡ parse text at
    unfolding parse hour_alone hour24
    hour_then a f q = rw (alone f, ← iso_alone text at h n e (offset_behind h text n) f refl) q

    -- a colon
    module _ (m : ℕ) (f : matched tt m ≡ colon text n) where
      minutes : iso text at ≡ minutes_behind h text m
      unfolding hour24
      minutes = sym (hour_minutes text at h n e (minutes_behind h text m) m f refl)

      no_minute : minute text m ≡ none → parse text at ≡ hour_minute h text m
      unfolding parse am_pm_time hour12 optional_minute optional_second hour_minute
      no_minute q = go (ltb h 13) refl
        where
          go : (t : Bool) → ltb h 13 ≡ t → parse text at ≡ hour_minute h text m
          go true g = rw (below_other text at 24 13 h n e, g, minutes, ← f, q, ← f, minute_second text m (sym q), colon_no_meridiem text n m (sym f))
          go false g = rw (below_other text at 24 13 h n e, g, minutes, q)

      some_minute : (v k : ℕ) → minute text m ≡ matched v k → parse text at ≡ hour_minute h text m
      unfolding parse am_pm_time hour12 optional_minute hour_minute half_day whole_day
      some_minute v k q = go (ltb h 13) refl
        where
          go : (t : Bool) → ltb h 13 ≡ t → parse text at ≡ hour_minute h text m
          go true g = rw (below_other text at 24 13 h n e, g, minutes, ← f, q) (shared (optional_second text k) _ _)
          go false g = rw (below_other text at 24 13 h n e, g, minutes, q)

      pub colon_then : (a : Answer Time) → a ≡ hour_minute h text m → a ≡ parse text at
      unfolding minute
      colon_then a p = rw (go (below_read text m 60)) p
        where
          go : (below 60 text m ≡ none) ⊎ ((v : ℕ) × (k : ℕ) × (below 60 text m ≡ matched v k)) → parse text at ≡ hour_minute h text m
          go (inl q) = no_minute q
          go (inr (v, k, q)) = some_minute v k q

-- a letter that begins neither am nor pm, and the end of the text
module _ (s : List ℕ) (at start : ℕ) (g : start ≡ space (lowered s) at) where
  neither : (b : ℕ) → b ≡ get_or (lowered s) start 0 → (b ≡ 97 → ⊥) → (b ≡ 112 → ⊥) → none ≡ meridiem (lowered s) at
  unfolding meridiem bytes
  neither b e u v =
      rw (
        ← g,
        tag_else (lowered s) start 97 (bytes "m") (λ y. u (e ∙ y)),
        tag_else (lowered s) start 97 (bytes ".m.") (λ y. u (e ∙ y)),
        tag_else (lowered s) start 112 (bytes "m") (λ y. v (e ∙ y)),
        tag_else (lowered s) start 112 (bytes ".m.") (λ y. v (e ∙ y)),
      )

  pub no_letter : length s ≤ start → none ≡ meridiem (lowered s) at
  no_letter h = let z : get_or (lowered s) start 0 ≡ 0 = get_or-eq_default (lowered s) 0 (beyond s start h) in neither 0 (sym z) (λ y. omega arith) (λ y. omega arith)

  pub other_letter : (b : ℕ) → b ≡ lower (get_or s start 0) → (b ≡ 97 → ⊥) → (b ≡ 112 → ⊥) → none ≡ meridiem (lowered s) at
  other_letter b e u v = neither b (rw (get_or_lowered s start) e) u v

pub ruleset fronts = (no_hour_read, hour_then, colon_then, times)

pub ruleset meridiems = (no_letter, other_letter, times)
