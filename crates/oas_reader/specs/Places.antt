-- Where the program takes a file to be after some records.
use Rattle.std.specs.Prelude.{◌≡◌, ◌≢◌, ℕ, true, false, List, []}
use Rattle.oas_reader.specs.Order.{is_in_cell}
use Rattle.oas_reader.specs.declared.order.Place.{Place}
use Rattle.oas_reader.specs.declared.order.Place.TheVariants.{Start, Outside, Cell}

-- the place after records of these ids
abbrev pub IsPlace : List ℕ → Place → Type 0
IsPlace past Start = past ≡ []
IsPlace past Outside = (past ≢ []) × (is_in_cell past ≡ false)
IsPlace past Cell = (past ≢ []) × (is_in_cell past ≡ true)
