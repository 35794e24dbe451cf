-- Which numbers a call can give, and how far its place can be: docs/SCOPE.md, 'Answers by number'. That no call gives another number is proved
-- in theorems_hosts, proofs/Theorems.antt, for the shorter lists of an accepted base in proofs/AcceptedBase.antt, and for the board in
-- theorems_board.
use Rattle.answers.specs.Numbers as refusal
use Rattle.answers.specs.Limits.{most_items}
use Rattle.std.specs.Prelude.{ℕ, Bool, false, ◌||◌, List, [], ◌∷◌, eqb, length}
use Rattle.host_calls.specs.Calls.{Question, Weekday, DayOfYear, Call, New, FromUnixSeconds, AddDays, AddHours, AddMinutes, AddSeconds, AddYears, AddMonths, ReadText, ReadProfile, ReadPacket, BoardCall, Join, Leave, Next}

-- whether a number is in a list
abbrev pub has : List ℕ → ℕ → Bool
has [] k = false
has (n ∷ ns) k = eqb k n || has ns k

-- what `new` gives, for a record, a base or eight numbers
abbrev pub record_numbers : List ℕ
record_numbers = refusal.over ∷ refusal.month ∷ refusal.day ∷ refusal.hour ∷ refusal.minute ∷ refusal.second ∷ refusal.nanosecond ∷ refusal.offset ∷ []

-- a moment, a nanosecond and an offset
abbrev pub moment_numbers : List ℕ
moment_numbers = refusal.over ∷ refusal.under ∷ refusal.nanosecond ∷ refusal.offset ∷ refusal.sum ∷ []

-- A record and what is added to it: all from 9 to 18. Years and months reach 18 only for numbers that no i32 is, of which the definitions take any.
abbrev pub sum_numbers : List ℕ
sum_numbers = refusal.under ∷ refusal.sum ∷ record_numbers

-- a text has no zone, no weekday and no pure number, so that it can't get 7 or 8
abbrev pub text_numbers : List ℕ
text_numbers = refusal.oversize ∷ refusal.foreign ∷ refusal.unread ∷ refusal.stopped ∷ refusal.fraction ∷ refusal.twice ∷ sum_numbers

-- A text of the profile is a date alone: 11 and 12 are of a plain date or of the base, 21 is of a week date, and 9, 13 to 17 are the base's.
abbrev pub profile_numbers : List ℕ
profile_numbers = refusal.oversize ∷ refusal.foreign ∷ refusal.unread ∷ refusal.week ∷ record_numbers

abbrev pub packet_numbers : List ℕ
packet_numbers = refusal.oversize ∷ refusal.packet ∷ refusal.twice ∷ refusal.rival ∷ refusal.pure ∷ sum_numbers

-- a text under an accepted base: 12 for 29 February in a base's year that has none; 9, 10 and 18 for sums
abbrev pub text_numbers_accepted : List ℕ
text_numbers_accepted = refusal.oversize ∷ refusal.foreign ∷ refusal.unread ∷ refusal.stopped ∷ refusal.fraction ∷ refusal.twice ∷ refusal.over ∷ refusal.under ∷ refusal.day ∷ refusal.sum ∷ []

-- a text of the profile under an accepted base: 11 and 12 for a plain date, 21 for a week date
abbrev pub profile_numbers_accepted : List ℕ
profile_numbers_accepted = refusal.oversize ∷ refusal.foreign ∷ refusal.unread ∷ refusal.month ∷ refusal.day ∷ refusal.week ∷ []

-- a packet under an accepted base: 16 too, since the nanosecond of its seconds is any u32; 9 for a pure year as well
abbrev pub packet_numbers_accepted : List ℕ
packet_numbers_accepted = refusal.oversize ∷ refusal.packet ∷ refusal.twice ∷ refusal.rival ∷ refusal.pure ∷ refusal.over ∷ refusal.under ∷ refusal.day ∷ refusal.nanosecond ∷ refusal.sum ∷ []

abbrev pub written_numbers : List ℕ
written_numbers = refusal.short ∷ refusal.seam ∷ record_numbers

abbrev pub numbers : Call → List ℕ
numbers (New year month day hour minute second nanosecond offset) = record_numbers
numbers (FromUnixSeconds seconds nanosecond offset) = moment_numbers
numbers (AddDays r n) = sum_numbers
numbers (AddHours r n) = sum_numbers
numbers (AddMinutes r n) = sum_numbers
numbers (AddSeconds r n k) = sum_numbers
numbers (AddYears r n) = sum_numbers
numbers (AddMonths r n) = sum_numbers
numbers (ReadText text base) = text_numbers
numbers (ReadProfile text base) = profile_numbers
numbers (ReadPacket packet base) = packet_numbers

-- The numbers whose refusals have a place. That the place of any other number is 0 is proved in theorems_hosts, proofs/PlaceByNumber.antt.
abbrev pub placed_numbers : List ℕ
placed_numbers = refusal.foreign ∷ refusal.unread ∷ refusal.stopped ∷ refusal.packet ∷ refusal.twice ∷ refusal.rival ∷ refusal.pure ∷ refusal.fraction ∷ []

-- What no place is beyond: a text's length, the number of items that a packet may have, and 0 for a call without a place.
abbrev pub place_limit : Call → ℕ
place_limit (New year month day hour minute second nanosecond offset) = 0
place_limit (FromUnixSeconds seconds nanosecond offset) = 0
place_limit (AddDays r n) = 0
place_limit (AddHours r n) = 0
place_limit (AddMinutes r n) = 0
place_limit (AddSeconds r n k) = 0
place_limit (AddYears r n) = 0
place_limit (AddMonths r n) = 0
place_limit (ReadText text base) = length text
place_limit (ReadProfile text base) = length text
place_limit (ReadPacket packet base) = most_items

-- the numbers that a question is answered with: from Monday, 0, to Sunday, 6; and the days of a year
abbrev pub first_value : Question → ℕ
first_value (Weekday r) = 0
first_value (DayOfYear r) = 1

abbrev pub last_value : Question → ℕ
last_value (Weekday r) = 6
last_value (DayOfYear r) = 366

-- a call of the board: 1 for its run or its count, 5 for an id twice, then the numbers for what joins or leaves
abbrev pub board_numbers : BoardCall → List ℕ
board_numbers (Join run count joining) = refusal.oversize ∷ refusal.packet ∷ refusal.nanosecond ∷ refusal.present ∷ refusal.full ∷ []
board_numbers (Leave run count id) = refusal.oversize ∷ refusal.packet ∷ refusal.absent ∷ []
board_numbers (Next run count) = refusal.oversize ∷ refusal.packet ∷ []
