-- Where an item ends: never before the place asked, and within the text where that place is. Assumes nothing.
use Prim.Native.Nat.{ℕ, ◌-◌, ◌≤◌}
use mathlib.Core.Path.{◌≡◌}
use mathlib.Core.List.{List}
use lib.ListN.{length, drop}
use Rattle.primitive.specs.Answer.{Answer, Reader, matched, dropped, none, stop, pure}
use Rattle.primitive.specs.Primitive.{space}
use Rattle.primitive.proofs.Forward.{Ends, Forward, none_ends, then_forward, next_forward, or_forward, pure_forward, tag_forward, spaced_forward, space_onward}
use Rattle.items.specs.declared.Item.{Item}
use Rattle.primitive.proofs.Walk.{Reads, place_behind}
use Rattle.dates.proofs.Forward.{iso1_forward, iso2_forward, parse_non_iso_forward}
use Rattle.dates.specs.declared.date.Date.{Date}
use Rattle.times.proofs.Forward.{unless_forward, iso_forward}
use Rattle.times.proofs.Forward.{parse_forward as time-forward}
use Rattle.times.specs.declared.time.Time.{Time}
use Rattle.relative.proofs.Forward.{parse_forward as relative-forward}
use Rattle.items.specs.Combined.{unstopped, attempt, skip_space, separator, starts_with_meridiem, unless_meridiem, iso_alone, combined_time, parse_time_after_date}
use Rattle.items.specs.Items.{date_time_item, dated_item, iso_date, iso_item, date_item, time_item, relative_item, time_or_relative, other_item, parse_item}

attempt_forward : {A : Type 0} (p : Reader A) → Forward p → Forward (attempt p)
attempt_forward {A = A} p h text at = go (p text at) (h text at)
  where
    go : (a : Answer A) → Ends text at a → Ends text at (unstopped a)
    go (matched v n) e = e
    go (dropped v n) e = e
    go none e = e
    go stop e = none_ends text at

skip_space_forward : Forward skip_space
skip_space_forward text at = λ v n e. let z : n ≡ space text at = cc in rw z (space_onward text at)

separator_forward : Forward separator
unfolding separator
separator_forward = or_forward _ _ (spaced_forward _ (tag_forward _)) (next_forward _ _ (tag_forward _) skip_space_forward)

unless_meridiem_forward : (t : Time) → Forward (unless_meridiem t)
unfolding unless_meridiem
unless_meridiem_forward t = unless_forward starts_with_meridiem (pure t) (pure_forward t)

combined_time_forward : Forward combined_time
unfolding combined_time iso_alone
combined_time_forward = or_forward _ _ (attempt_forward _ (then_forward _ _ iso_forward unless_meridiem_forward)) time-forward

pub parse_time_after_date_forward : (d : Date) → Forward (parse_time_after_date d)
unfolding parse_time_after_date
parse_time_after_date_forward d = next_forward _ _ separator_forward (then_forward _ _ combined_time_forward (λ t. pure_forward _))

pub dated_item_forward : (d : Date) → Forward (dated_item d)
unfolding dated_item date_time_item
dated_item_forward d = or_forward _ _ (then_forward _ _ (parse_time_after_date_forward d) (λ v. pure_forward _)) (pure_forward _)

iso_item_forward : Forward iso_item
unfolding iso_item iso_date
iso_item_forward = then_forward _ _ (or_forward _ _ iso1_forward iso2_forward) dated_item_forward

other_item_forward : Forward other_item
unfolding other_item date_item time_or_relative time_item relative_item
other_item_forward =
    or_forward _ _ (then_forward _ _ parse_non_iso_forward (λ d. pure_forward _))
    (or_forward _ _ (then_forward _ _ time-forward (λ t. pure_forward _)) (then_forward _ _ relative-forward (λ r. pure_forward _)))

pub parse_item_forward : Forward parse_item
unfolding parse_item
parse_item_forward = or_forward _ _ iso_item_forward other_item_forward

-- Where the text goes on with an item, the next place is behind it: all that is left is what the item leaves.
pub next_place : {l rest : List ℕ} {v : Item} → Reads parse_item l v rest → (text : List ℕ) (at : ℕ) → at ≤ length text → drop at text ≡ l → parse_item text at ≡ matched v (length text - length rest)
next_place = place_behind parse_item_forward
