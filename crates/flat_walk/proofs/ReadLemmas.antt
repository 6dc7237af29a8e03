-- What an index reads of cells.
use Rattle.std.proofs.Common.{◌≡◌, ℕ, zero, suc, ◌<◌, List, [], ◌∷◌, length, get_or, refl, arith}
use Rattle.layout_model.specs.declared.cells.Cell.{Cell}
use Rattle.cell_tree.specs.Cells.{shapes_at, placements_at}

pub placements_read : (cells : List Cell) (n : ℕ) (d : Cell) → n < length cells → (get_or cells n d).placements ≡ placements_at cells n
placements_read [] n d inside = absurd (omega arith)
placements_read (cell ∷ cells) zero d inside = refl
placements_read (cell ∷ cells) (suc n) d inside = placements_read cells n d (omega arith)

pub shapes_read : (cells : List Cell) (n : ℕ) (d : Cell) → n < length cells → (get_or cells n d).shapes ≡ shapes_at cells n
shapes_read [] n d inside = absurd (omega arith)
shapes_read (cell ∷ cells) zero d inside = refl
shapes_read (cell ∷ cells) (suc n) d inside = shapes_read cells n d (omega arith)
