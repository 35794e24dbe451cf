-- The limits of texts, packets, boards and years: docs/SCOPE.md, 'Domain and limits' and 'The writer'.
use Rattle.std.specs.Prelude.{ℕ}

-- the most bytes that a text may have
abbrev pub max_length : ℕ
max_length = 4096

-- the most items that a text or a packet may have
abbrev pub most_items : ℕ
most_items = 64

-- the most places that a board may have
abbrev pub most_places : ℕ
most_places = 128

-- the bytes of the longest written record
abbrev pub longest_text : ℕ
longest_text = 41

-- the last year of an accepted record
abbrev pub last_year : ℕ
last_year = 2147485547
