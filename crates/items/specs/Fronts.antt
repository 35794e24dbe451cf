-- What the code reads where the first bytes of an item leave few readers. proofs/Fronts.antt shows that no other reader matches there.
use Rattle.primitive.specs.Answer.{Reader, ◌>>=◌, ◌<|>◌, pure}
use Rattle.dates.specs.Date.{iso2, literal1, literal2, literal3}
use Rattle.items.specs.Items.{dated_item, relative_item, time_or_relative, other_item}
use Rattle.items.specs.declared.Item.{Item}
use Rattle.items.specs.declared.Item.TheVariants as item

-- ---- the first byte is a letter

unfoldable pub month_item : Reader Item
month_item = do
  d ← literal2 <|> literal3
  pure (item.Date d)

unfoldable pub word_item : Reader Item
word_item = month_item <|> relative_item

-- ---- a number of at most four digits that a letter follows

unfoldable pub day_item : Reader Item
day_item = do
  d ← literal1
  pure (item.Date d)

-- the letter may begin `am` or `pm`
unfoldable pub day_or_time : Reader Item
day_or_time = day_item <|> time_or_relative

unfoldable pub day_or_relative : Reader Item
day_or_relative = day_item <|> relative_item

-- ---- digits that no hyphen follows

unfoldable pub compact_item : Reader Item
compact_item = do
  d ← iso2
  dated_item d

unfoldable pub unhyphened_item : Reader Item
unhyphened_item = compact_item <|> other_item
