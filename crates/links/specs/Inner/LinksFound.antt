-- What the code finds of numbers of columns: those below 64, or nothing. Assumes nothing.
use Rattle.std.specs.Prelude.{ℕ, ltb, if◌then◌else◌, Option, Some, None}
use Rattle.vocabulary.specs.Bits.{word_size}
use Rattle.links.specs.declared.column.ColumnLink.{ColumnLink}
use Rattle.links.specs.Inner.ClassWords.{is_link}

-- the number of a column that a table may have
unfoldable pub number_found : ℕ → Option ℕ
number_found n = if ltb n word_size then Some n else None

-- a link of two such columns
unfoldable pub link_found : ColumnLink → Option ColumnLink
link_found l = if is_link l then Some l else None
