-- The cells of a whole file.
use Rattle.std.specs.Prelude.{◌≡◌, List, ℕ, None}
use Rattle.layout_model.specs.declared.cells.Cell.{Cell}
use Rattle.layout_model.specs.declared.pair.Pair.{Pair}
use Rattle.oas_reader.specs.Items.{Item, records_in, given}
use Rattle.oas_reader.specs.Meaning.{cells_at}
use Rattle.oas_reader.specs.Names.{first_unknown, first_twins}

-- each number is given, no two cells have one name, and these are the cells
pub record AreCellsBehind (bytes : List ℕ) (wanted : List Pair) (all : List Item) (cells : List Cell) : Type 0 where
  pub known : first_unknown bytes (records_in all) all ≡ None
  pub distinct : first_twins bytes (records_in all) all ≡ None
  pub cells_are : cells ≡ given (cells_at bytes (records_in all) wanted) (records_in all)
