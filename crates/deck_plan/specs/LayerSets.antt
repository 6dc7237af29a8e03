-- The tiles that a set operation takes of two layers.
use Rattle.std.specs.Prelude.{ℕ, List}
use Rattle.half_grid.specs.declared.plane.Tile.{Tile}
use Rattle.layout_model.specs.declared.cells.Cell.{Cell}
use Rattle.cell_tree.specs.Flattening.{IsInLayer}
use Rattle.deck_plan.specs.declared.own_layers.Layers.{Layers}
use Rattle.deck_plan.specs.Lists.{OfBoth}

abbrev pub OfLayers : List Cell → ℕ → Layers → Tile → Type 0
OfLayers cells top layers t = OfBoth layers.op (IsInLayer cells top layers.a t) (IsInLayer cells top layers.b t)
