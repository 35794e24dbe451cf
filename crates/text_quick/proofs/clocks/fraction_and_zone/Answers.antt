-- What `fraction_and_zone` answers stands behind the digits of the second. Assumes nothing.
use mathlib.Core.Logic.{inl, inr}
use mathlib.Core.Path.{refl}
use Rattle.text_quick.proofs.ClockForms.{zone_ends, zone_before}
use Rattle.text_quick.proofs.clocks.fraction_and_zone.Goals as goal
use Rattle.text_quick.proofs.clocks.fraction_and_zone.Goals.{else-sign-ne43-via-then-sign-ne43+else-sign-ne45, else-sign-ne43-via-else-sign-ne43}

pub returns-then-end-s : goal.returns-then-end-s
returns-then-end-s c =
    let k = c in (
      refl,
      (
        refl,
        λ ds d e small. zone_ends _ _ _ _ _ k.if-s-lt16.false k.if-s-at.false k.if-s-at-ne46.false k.in_ok-nanosecond.ensures.0 k.in_ok-nanosecond.ensures.1
            (elim k.else-sign-ne43.branch [ else-sign-ne43-via-then-sign-ne43+else-sign-ne45 w ↦ inr w.if-sign-ne45.false | else-sign-ne43-via-else-sign-ne43 w ↦ inl w.if-sign-ne43.false ]) k.in_ok-hours.ensures.1 k.if-hours-gt23.false k.if-s-at-ne58.false k.in_ok-minutes.ensures.1 k.if-minutes-gt59.false d e small c.if-end-s.true,
      ),
    )

pub returns : goal.returns
returns c =
    let k = c in (
      refl,
      (
        refl,
        λ ds d e small. zone_before _ _ _ _ _ k.if-s-lt16.false k.if-s-at.false k.if-s-at-ne46.false k.in_ok-nanosecond.ensures.0 k.in_ok-nanosecond.ensures.1
            (elim k.else-sign-ne43.branch [ else-sign-ne43-via-then-sign-ne43+else-sign-ne45 w ↦ inr w.if-sign-ne45.false | else-sign-ne43-via-else-sign-ne43 w ↦ inl w.if-sign-ne43.false ]) k.in_ok-hours.ensures.1 k.if-hours-gt23.false k.if-s-at-ne58.false k.in_ok-minutes.ensures.1 k.if-minutes-gt59.false d e small c.if-s-end-ne32.false c.if-s-next.false c.if-s-next-lt43.false c.if-s-next-gt57.false,
      ),
    )
