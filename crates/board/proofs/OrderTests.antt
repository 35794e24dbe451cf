-- `before` by the code's tests, one after the other. The code reads a moment from its 64 bits, which have it exactly. Assumes nothing.
use borrow.Author.Rules.{rules}
use borrow.Author.Tests.{lt-ltb, le-ltb, eq-eqb, ne_eqb}
use native.Mathlib.Omega.{arith}
use mir.Facts.{to_z-of_z}
use mir.Syntax.{w64}
use mir.Val.{SFits, to_z, of_z}
use Prim.Native.Nat.{◌<◌, ◌≤◌}
use mathlib.Core.Path.{◌≡◌, refl, sym, ◌∙◌}
use mathlib.Core.Bool.{Bool, true, false, ◌&&◌, ◌||◌}
use lib.Dec.{ltb, eqb}
use lib.IntN.{ℤ}
use lib.Signed.{lt_z}
use Rattle.board.specs.Order.{before}
use Rattle.board.specs.declared.Deadline.{Deadline}

-- what the code's test reads
abbrev read : ℤ → ℤ
read z = to_z w64 (of_z w64 z)

as_read : {x y : ℤ} {t : Bool} → SFits w64 x → SFits w64 y → lt_z (read x) (read y) ≡ t → lt_z x y ≡ t
as_read fx fy e = (λ i. lt_z (sym (to_z-of_z fx) i) (sym (to_z-of_z fy) i)) ∙ e

module _ (a b : Deadline) (fa : SFits w64 a.moment) (fb : SFits w64 b.moment) where
  pub earlier_moment : lt_z (read a.moment) (read b.moment) ≡ true → true ≡ before a b
  unfolding before
  earlier_moment e = sym (rw (as_read fa fb e) refl)

  module _ (e : lt_z (read a.moment) (read b.moment) ≡ false) where
    pub later_moment : lt_z (read b.moment) (read a.moment) ≡ true → false ≡ before a b
    unfolding before
    later_moment f = sym (rw (as_read fa fb e, as_read fb fa f) refl)

    module _ (f : lt_z (read b.moment) (read a.moment) ≡ false) where
      one_moment : before a b ≡ (ltb a.nanosecond b.nanosecond || (eqb a.nanosecond b.nanosecond && ltb a.id b.id))
      unfolding before
      one_moment = rw (as_read fa fb e, as_read fb fa f) refl

      pub smaller_nanosecond : a.nanosecond < b.nanosecond → true ≡ before a b
      smaller_nanosecond l = sym (one_moment ∙ rw (lt-ltb a.nanosecond b.nanosecond l) refl)

      module _ (l : b.nanosecond ≤ a.nanosecond) where
        pub larger_nanosecond : b.nanosecond < a.nanosecond → false ≡ before a b
        larger_nanosecond m = sym (one_moment ∙ rw (le-ltb a.nanosecond b.nanosecond l, ne_eqb a.nanosecond b.nanosecond (λ (q : a.nanosecond ≡ b.nanosecond). omega arith)) refl)

        pub one_nanosecond : a.nanosecond ≤ b.nanosecond → ltb a.id b.id ≡ before a b
        one_nanosecond m = sym (one_moment ∙ rw (le-ltb a.nanosecond b.nanosecond l, eq-eqb a.nanosecond b.nanosecond (omega arith)) refl)

pub ruleset tests = (earlier_moment, later_moment, smaller_nanosecond, larger_nanosecond, one_nanosecond, rules)
