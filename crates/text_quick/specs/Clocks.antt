-- What is known of a time where a quick reader answers one: the definitions read the same time.
use Rattle.std.specs.Prelude.{Option, Some, None}
use Rattle.times.specs.declared.offset.Offset.{Offset}
use Rattle.std.specs.Prelude.{ℕ, ◌<◌, ◌≤◌, ◌≡◌, true, false, List, [], ◌∷◌, ◌++◌, length, drop}
use Rattle.primitive.specs.Text.{blank, digit}
use Rattle.primitive.specs.Primitive.{decimal}
use Rattle.primitive.proofs.Rows.{all, Number}
use Rattle.times.specs.declared.time.Time.{Time}
use Rattle.times.specs.Time.{optional_second, optional_correction}
use Rattle.items.specs.Combined.{starts_with_meridiem, combined_time}
use Rattle.items.specs.Items.{parse_item}
use Rattle.items.specs.declared.Item.TheVariants as item
use Rattle.primitive.proofs.Walk.{Reads, Fails}
use Rattle.primitive.proofs.Leaves.{head}

abbrev pub zone_small : Option Offset → Type 0
zone_small (Some o) = (o.hours < 24) × (o.minutes < 60)
zone_small None = Unit {0}

abbrev pub time_of : ℕ → ℕ → ℕ → ℕ → Option Offset → Time
time_of h m s ns z = record { hour = h; minute = m; second = s; nanosecond = ns; offset = z }

pub record Ranges (h m s ns : ℕ) (z : Option Offset) : Type 0 where
  pub hour : h < 24
  pub minute : m < 60
  pub second : s < 60
  pub nanosecond : ns < 1000000000
  pub zone : zone_small z

-- a time after an ISO date and its separator; the next place is after the blanks that follow the time
pub record Clock (text : List ℕ) (at h m s ns : ℕ) (z : Option Offset) (n : ℕ) : Type 0 where
  pub ranges : Ranges h m s ns z
  pub within : n ≤ length text
  pub begins : digit (head (drop at text)) ≡ true
  pub gap : List ℕ
  pub blanks : all blank gap ≡ true
  pub reads : Reads combined_time (drop at text) (time_of h m s ns z) (gap ++ drop n text)

abbrev pub ClockAt : List ℕ → ℕ → Option (Time × ℕ) → Type 0
ClockAt text at (Some p) = let t = p.0 in Clock text at t.hour t.minute t.second t.nanosecond t.offset p.1
ClockAt text at None = Unit {0}

-- what follows the minutes, in l: the seconds, the offset, and blanks up to the next place
pub record BehindMinutes (text l : List ℕ) (s ns : ℕ) (z : Option Offset) (n : ℕ) : Type 0 where
  pub second : s < 60
  pub nanosecond : ns < 1000000000
  pub zone : zone_small z
  pub within : n ≤ length text
  pub ends : digit (head l) ≡ false
  pub rest : List ℕ
  pub seconds : Reads optional_second l (record { sec = s; nsec = ns }) rest
  pub gap : List ℕ
  pub blanks : all blank gap ≡ true
  pub correction : Reads optional_correction rest z (gap ++ drop n text)
  pub no_meridiem : Fails starts_with_meridiem (gap ++ drop n text)

abbrev pub SecondAt : List ℕ → ℕ → ℕ → ℕ → Option (Time × ℕ) → Type 0
SecondAt text at hour minute (Some p) = let t = p.0 in (t.hour ≡ hour) × ((t.minute ≡ minute) × BehindMinutes text (drop at text) t.second t.nanosecond t.offset p.1)
SecondAt text at hour minute None = Unit {0}

-- after any digits of the second
abbrev pub ZoneAt : List ℕ → ℕ → ℕ → ℕ → ℕ → Option (Time × ℕ) → Type 0
ZoneAt text at hour minute second (Some p) =
    let t = p.0 in
    (t.hour ≡ hour) × ((t.minute ≡ minute) × ((ds : List ℕ) → Number ds → decimal ds ≡ second → second < 60 → BehindMinutes text (58 ∷ (ds ++ drop at text)) t.second t.nanosecond t.offset p.1))
ZoneAt text at hour minute second None = Unit {0}

-- a time with am or pm that ends the text, after any blanks
pub record HalfDay (text : List ℕ) (at h m s ns : ℕ) (z : Option Offset) (n : ℕ) : Type 0 where
  pub ranges : Ranges h m s ns z
  pub there : at < length text
  pub ends : n ≡ length text
  pub begins : digit (head (drop at text)) ≡ true
  pub reads : (bs : List ℕ) → all blank bs ≡ true → Reads parse_item (bs ++ drop at text) (item.Time (time_of h m s ns z)) []

abbrev pub HalfDayAt : List ℕ → ℕ → Option (Time × ℕ) → Type 0
HalfDayAt text at (Some p) = let t = p.0 in HalfDay text at t.hour t.minute t.second t.nanosecond t.offset p.1
HalfDayAt text at None = Unit {0}
