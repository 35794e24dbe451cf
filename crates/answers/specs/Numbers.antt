-- The numbers of the answers, each with its word and its meaning: docs/SCOPE.md, 'Answers by number'. Number 0 is the answer
-- itself.
use Rattle.std.specs.Prelude.{ℕ}

-- oversize: a text over 4096 bytes, a 65th item, a packet's item count above 64, a board of more than 128 places, or a count above its places
abbrev pub oversize : ℕ
oversize = 1

-- foreign: a byte of 128 or more
abbrev pub foreign : ℕ
foreign = 2

-- unread: no reader matches
abbrev pub unread : ℕ
unread = 3

-- stopped: a reader stops
abbrev pub stopped : ℕ
stopped = 4

-- packet: a packet rule is broken, or an id is twice on a board
abbrev pub packet : ℕ
packet = 5

-- twice: a second date, time, weekday or zone
abbrev pub twice : ℕ
twice = 6

-- rival: a time with an offset after a zone
abbrev pub rival : ℕ
rival = 7

-- pure: a pure number that is no hour and minute
abbrev pub pure : ℕ
pure = 8

-- over: a year above 2147485547, or a pure year that no u32 can represent
abbrev pub over : ℕ
over = 9

-- under: a year below 0, or a sum whose year no u32 can represent
abbrev pub under : ℕ
under = 10

-- month: outside 1 to 12
abbrev pub month : ℕ
month = 11

-- day: outside 1 to the month's last
abbrev pub day : ℕ
day = 12

-- hour: above 23
abbrev pub hour : ℕ
hour = 13

-- minute: above 59
abbrev pub minute : ℕ
minute = 14

-- second: above 59
abbrev pub second : ℕ
second = 15

-- nanosecond: above 999999999
abbrev pub nanosecond : ℕ
nanosecond = 16

-- offset: more than 86400 seconds either way
abbrev pub offset : ℕ
offset = 17

-- sum: a sum or product that leaves an i64, nanoseconds that leave a u32, or a weekday's days that leave an i32
abbrev pub sum : ℕ
sum = 18

-- short: the lent bytes are too few for the text
abbrev pub short : ℕ
short = 19

-- seam: an offset of no whole minutes, on writing
abbrev pub seam : ℕ
seam = 20

-- week: a week that its year does not have, or a day of the week outside 1 to 7
abbrev pub week : ℕ
week = 21

-- fraction: the fraction of a text's item has a digit other than 0 after the ninth
abbrev pub fraction : ℕ
fraction = 22

-- present: an id that joins a board is on it already
abbrev pub present : ℕ
present = 23

-- full: a board has no free place
abbrev pub full : ℕ
full = 24

-- absent: an id that leaves a board is not on it
abbrev pub absent : ℕ
absent = 25
