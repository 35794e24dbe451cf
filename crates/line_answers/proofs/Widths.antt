-- How many digits a number has, from its last digit on. Assumes nothing.
use native.Mathlib.Omega.{arith}
use Prim.Native.Nat.{ℕ, zero, suc, ◌+◌, ◌*◌, ◌/◌, ◌<◌, ◌≤◌, ◌^◌}
use native.Mathlib.Nat.{pow-suc}
use mathlib.Core.Path.{◌≡◌}
use Rattle.writer.specs.Writer.{width}
use Rattle.writer.proofs.Digits.{width_most, width_more, width_enough}

less : (n k : ℕ) → 1 < k → n < 10 ^ k → width (n / 10) + 1 ≤ k
less n zero h g = absurd (omega arith)
less n (suc j) h g =
    let z : n < 10 ^ j * 10 = rw (pow-suc 10 j) at g in
    let w = width_most (n / 10) j (omega arith) (omega arith) in
    omega arith

most : (n k : ℕ) → n / 10 < 10 ^ k → width n ≤ suc k
most n k h = width_most n (suc k) (omega arith) (rw (pow-suc 10 k) (omega arith))

pub width_step : (n : ℕ) → 10 ≤ n → width n ≡ width (n / 10) + 1
width_step n h =
    let l = less n (width n) (width_more n 1 h) (width_enough n) in
    let m = most n (width (n / 10)) (width_enough (n / 10)) in
    omega arith
