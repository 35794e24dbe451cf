-- `text_profile::read_form` meets its contract: where a pattern has a `0`, a text of this pattern has a digit. Assumes nothing.
use Prim.Native.Nat.{ℕ, ◌<◌}
use native.Mathlib.Omega.{arith}
use mathlib.Core.Path.{◌≡◌, refl, sym, ◌∙◌}
use lib.ListN.{get_or}
use Rattle.primitive.specs.Text.{bytes}
use Rattle.text_profile.specs.Forms.{plain_pattern, week_pattern, form, Digit}
use Rattle.text_profile.proofs.Forms.{digit_there}
use Rattle.text_profile.proofs.read_form.Goals as goal

pub four-year-requires : goal.four-year-requires
unfolding bytes
four-year-requires c =
    let d : (i : ℕ) → i < 10 → get_or plain_pattern i 0 ≡ 48 → Digit c.args.text.now i = digit_there plain_pattern c.args.text.now (sym c.formed.ensures ∙ c.if-formed.true) in
    (d 0 (omega arith) refl, d 1 (omega arith) refl, d 2 (omega arith) refl, d 3 (omega arith) refl)

pub two-month-requires : goal.two-month-requires
unfolding bytes
two-month-requires c =
    let d : (i : ℕ) → i < 10 → get_or plain_pattern i 0 ≡ 48 → Digit c.args.text.now i = digit_there plain_pattern c.args.text.now (sym c.formed.ensures ∙ c.if-formed.true) in
    (d 5 (omega arith) refl, d 6 (omega arith) refl)

pub two-day-requires : goal.two-day-requires
unfolding bytes
two-day-requires c =
    let d : (i : ℕ) → i < 10 → get_or plain_pattern i 0 ≡ 48 → Digit c.args.text.now i = digit_there plain_pattern c.args.text.now (sym c.formed.ensures ∙ c.if-formed.true) in
    (d 8 (omega arith) refl, d 9 (omega arith) refl)

pub four-year-requires-then-formed-2 : goal.four-year-requires-then-formed-2
unfolding bytes
four-year-requires-then-formed-2 c =
    let d : (i : ℕ) → i < 10 → get_or week_pattern i 0 ≡ 48 → Digit c.args.text.now i = digit_there week_pattern c.args.text.now (sym c.formed-2.ensures ∙ c.if-formed-2.true) in
    (d 0 (omega arith) refl, d 1 (omega arith) refl, d 2 (omega arith) refl, d 3 (omega arith) refl)

pub two-week-requires : goal.two-week-requires
unfolding bytes
two-week-requires c =
    let d : (i : ℕ) → i < 10 → get_or week_pattern i 0 ≡ 48 → Digit c.args.text.now i = digit_there week_pattern c.args.text.now (sym c.formed-2.ensures ∙ c.if-formed-2.true) in
    (d 6 (omega arith) refl, d 7 (omega arith) refl)

pub one-day-requires : goal.one-day-requires
unfolding bytes
one-day-requires c = digit_there week_pattern c.args.text.now (sym c.formed-2.ensures ∙ c.if-formed-2.true) 9 (omega arith) refl

pub returns-then-formed : goal.returns-then-formed
unfolding form bytes
returns-then-formed c = rw (← c.formed.ensures, c.if-formed.true, c.four-year.ensures, c.two-month.ensures.0, c.two-day.ensures.0) refl

pub returns-then-formed-2 : goal.returns-then-formed-2
unfolding form bytes
returns-then-formed-2 c = rw (← c.formed.ensures, ← c.formed-2.ensures, c.if-formed.false, c.if-formed-2.true, c.four-year-then-formed-2.ensures, c.two-week.ensures.0, c.one-day.ensures.0) refl

pub returns : goal.returns
unfolding form bytes
returns c = rw (← c.formed.ensures, ← c.formed-2.ensures, c.if-formed.false, c.if-formed-2.false) refl
