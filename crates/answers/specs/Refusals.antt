-- The answers of the code, as answers of the definitions: docs/SCOPE.md, 'Answers by number'.
use Rattle.std.specs.Prelude.{ℕ, Result, Ok, Err}
use Rattle.answers.specs.Outcome.{Outcome, accepted, refused}
use Rattle.answers.specs.Placed.{Placed, fine, refusal}
use Rattle.answers.specs.Numbers as refusal
use Rattle.answers.specs.declared.Refusal.{Refusal}
use Rattle.answers.specs.declared.Refusal.TheVariants as variant
use Rattle.answers.specs.declared.PlacedRefusal.{PlacedRefusal}

-- the number of a refusal
abbrev pub code : Refusal → ℕ
code variant.Oversize = refusal.oversize
code variant.Foreign = refusal.foreign
code variant.Unread = refusal.unread
code variant.Stopped = refusal.stopped
code variant.Packet = refusal.packet
code variant.Twice = refusal.twice
code variant.Rival = refusal.rival
code variant.Pure = refusal.pure
code variant.Over = refusal.over
code variant.Under = refusal.under
code variant.Month = refusal.month
code variant.Day = refusal.day
code variant.Hour = refusal.hour
code variant.Minute = refusal.minute
code variant.Second = refusal.second
code variant.Nanosecond = refusal.nanosecond
code variant.Offset = refusal.offset
code variant.Sum = refusal.sum
code variant.Short = refusal.short
code variant.Seam = refusal.seam
code variant.Week = refusal.week
code variant.Fraction = refusal.fraction
code variant.Present = refusal.present
code variant.Full = refusal.full
code variant.Absent = refusal.absent

abbrev pub outcome_of : {A : Type 0} → Result A Refusal → Outcome A
outcome_of (Ok a) = accepted a
outcome_of (Err e) = refused (code e)

abbrev pub placed_of : {A : Type 0} → Result A PlacedRefusal → Placed A
placed_of (Ok a) = fine a
placed_of (Err e) = refusal (code e.refusal) e.place

-- the same under any number, that of a refusal or another
abbrev pub numbered : {A : Type 0} → Result A ℕ → Outcome A
numbered (Ok a) = accepted a
numbered (Err n) = refused n

abbrev pub numbered_at : {A : Type 0} → Result A (ℕ × ℕ) → Placed A
numbered_at (Ok a) = fine a
numbered_at (Err e) = refusal e.0 e.1
