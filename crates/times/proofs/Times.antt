-- The laws of a time's numbers: their limits, and the hour of the day by am and pm. Assumes nothing.
use borrow.Author.Tests.{lt-ltb, le-ltb}
use native.Mathlib.Omega.{arith}
use Prim.Native.Nat.{ℕ, ◌+◌, ◌%◌, ◌<◌, ◌≤◌}
use mathlib.Core.Path.{◌≡◌}
use mathlib.Core.Bool.{Bool, cond}
use lib.Dec.{ltb}
use Rattle.primitive.specs.Answer.{Answer, matched, none, stop}
use Rattle.times.specs.declared.time.Time.{Time}
use Rattle.std.specs.Prelude.{None}
use Rattle.primitive.proofs.Limits.{limits}
use Rattle.relative.proofs.Chain.{relatives}

module _ {A : Type 0} (v k : ℕ) (u : A) (n : ℕ) where
  pub below_limit : v < k → matched u n ≡ cond (ltb v k) (matched u n) none
  below_limit h = rw (lt-ltb v k h)

  pub beyond_limit : k ≤ v → none ≡ cond (ltb v k) (matched u n) none
  beyond_limit h = rw (le-ltb v k h)

module _ (hour next : ℕ) where
  pub no_hour : (t : Time) → hour ≡ 0 → stop ≡ cond (ltb 0 hour) (matched t next) stop
  no_hour t h = rw h

  pub some_hour : (h minute second nanosecond : ℕ) (pm : Bool) → h ≡ hour % 12 + cond pm 12 0 → (hour ≡ 0 → ⊥)
      → ◌≡◌ {A = Answer Time} (matched (record { hour = h; minute = minute; second = second; nanosecond = nanosecond; offset = None }) next)
      (cond (ltb 0 hour) (matched (record { hour = hour % 12 + cond pm 12 0; minute = minute; second = second; nanosecond = nanosecond; offset = None }) next) stop)
  some_hour h minute second nanosecond pm e n = rw (lt-ltb 0 hour (omega arith), e)

pub ruleset times = (below_limit, beyond_limit, no_hour, some_hour, limits, relatives)
