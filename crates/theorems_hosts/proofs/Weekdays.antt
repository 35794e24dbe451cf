-- What a user means by a weekday in a packet: it leads from the date and the time beside it, or from midnight of the base's day, to the day that
-- builder/specs/Weekdays says. Assumes nothing.
use mathlib.Core.Path.{◌≡◌, sym, ap, ◌∙◌}
use mathlib.Core.List.{List, []}
use mathlib.Core.Logic.{◌⊎◌}
use Prim.Native.Nat.{ℕ}
use Rattle.std.specs.Prelude.{Some, None}
use Rattle.answers.specs.Outcome.{Outcome, accepted, refused}
use Rattle.answers.specs.Placed.{Placed, fine, placed, ◌>>◌, ◌>>=◌}
use Rattle.extended.specs.Extended.{test}
use Rattle.extended.specs.declared.ExtendedDateTime.{ExtendedDateTime}
use Rattle.items.specs.declared.Item.{Item}
use Rattle.items.specs.declared.Weekday.{Weekday}
use Rattle.rules.specs.Rules.{empty, gather, relatives}
use Rattle.rules.specs.declared.DateTimeBuilder.{DateTimeBuilder}
use Rattle.rules.specs.declared.Zone.TheVariants as zone
use Rattle.packet.specs.Packet.{digits, packet_items, read_packet}
use Rattle.builder.specs.Building.{build}
use Rattle.builder.specs.Weekdays.{BuiltFrom}
use Rattle.builder.proofs.Reached.{weekday_built}
use Rattle.theorems_packets.proofs.Theorems.{packet_steps}

passed : (o : Outcome (Unit {0})) (p : Placed ExtendedDateTime) (s : ExtendedDateTime) → (placed 0 o >> p) ≡ fine s → p ≡ fine s
passed (accepted u) p s e = e
passed (refused n) p s e = cc

-- A packet whose items are read and keep the rules, with a weekday, without relative items and without a zone that has an offset.
pub weekday_packet : (l : List ℕ) (xs : List Item) (b : DateTimeBuilder) (w : Weekday) (base s : ExtendedDateTime) →
    packet_items l ≡ fine xs → gather (digits l) 0 empty xs ≡ fine b → relatives xs ≡ [] → b.weekday ≡ Some w → (b.zone ≡ None) ⊎ (b.zone ≡ Some zone.Local) →
    read_packet l base ≡ fine s → BuiltFrom b w base s
weekday_packet l xs b w base s p g r d z e =
    let f = passed (test base) (packet_items l >>= (λ ys. build (digits l) ys base)) s (sym (packet_steps l base) ∙ e) in
    let k : build (digits l) xs base ≡ fine s = ap (λ (q : Placed (List Item)). q >>= (λ ys. build (digits l) ys base)) (sym p) ∙ f in
    weekday_built (digits l) xs b w base s g r d z k
