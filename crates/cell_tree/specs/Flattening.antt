-- The flattened layout: the shapes of a cell and of all cells below it, each where it stands.
--
-- A cell shows its own shapes in order, each at its offsets in order, and then its placements in order, each at its
-- offsets in order, and at each of these all that the placed cell shows: enlarged, mirrored and turned as the placement
-- says, and then moved by the placement's move and the offset. Each is a polygon of its own: the windings of two are
-- never added.
--
-- A chain of cells, each of which places the next, has at most 64 cells in a layout that is accepted, so what is said
-- here of chains of at most so many cells is said of all.
use Rattle.std.specs.Prelude.{◌≡◌, ℕ, zero, suc, List, [], ◌++◌, map, length, Any, Contains}
use Rattle.std.specs.List.{flat_map}
use Rattle.std.specs.Option.{option_map_or}
use Rattle.half_grid.specs.Winding.{IsInPolygon}
use Rattle.half_grid.specs.declared.plane.Point.{Point}
use Rattle.half_grid.specs.declared.plane.Tile.{Tile}
use Rattle.layout_model.specs.Images.{image_of_points, moved}
use Rattle.layout_model.specs.declared.pair.Pair.{Pair}
use Rattle.layout_model.specs.declared.orient.Orient.{Orient}
use Rattle.layout_model.specs.declared.shapes.Shape.{Shape}
use Rattle.layout_model.specs.declared.cells.Placement.{Placement}
use Rattle.layout_model.specs.declared.cells.Cell.{Cell}
use Rattle.cell_tree.specs.Cells.{shapes_at, placements_at, cell_number}

-- the things of a placed cell, at each offset of the placement in order. `carry` says how one is enlarged, mirrored,
-- turned and moved.
abbrev pub placed_things : {X : Type 0} → (Orient → Point → X → X) → Placement → List X → List X
placed_things carry placement things = flat_map (λ by. map (carry placement.orient (moved by placement.at)) things) placement.offsets

-- the things of a cell, by what each cell has of its own, over chains of at most so many cells
abbrev pub things_within : {X : Type 0} → (ℕ → List X) → (Orient → Point → X → X) → List Cell → ℕ → ℕ → List X
things_within own carry cells zero n = []
things_within own carry cells (suc depth) n = own n ++ flat_map
    (λ placement. placed_things carry placement
    (option_map_or (things_within own carry cells depth) (cell_number cells placement.target) []))
    (placements_at cells n)

-- a shape where it stands
pub record Flat : Type 0 where
  pub pair : Pair
  pub points : List Point

-- a shape at each of its offsets in order
abbrev pub flats_of_shape : Shape → List Flat
flats_of_shape shape = map (λ by. record { pair = shape.pair; points = map (moved by) shape.points }) shape.offsets

abbrev pub own_flats : List Cell → ℕ → List Flat
own_flats cells n = flat_map flats_of_shape (shapes_at cells n)

abbrev pub flat_image : Orient → Point → Flat → Flat
flat_image orient at flat = record { pair = flat.pair; points = image_of_points orient at flat.points }

-- the flattened shapes of a cell in order
unfoldable pub flattened : List Cell → ℕ → List Flat
flattened cells n = things_within (own_flats cells) flat_image cells 64 n

-- the area of a pair: the tile is in the polygon of some flattened shape of the top cell with this pair
abbrev pub IsInLayer : List Cell → ℕ → Pair → Tile → Type 0
IsInLayer cells top pair t = Any (λ flat. (flat.pair ≡ pair) × IsInPolygon flat.points t) (flattened cells top)

-- a vertex of the cell on the pair: a point of some flattened shape with this pair
abbrev pub IsVertex : List Cell → ℕ → Pair → Point → Type 0
IsVertex cells n pair p = Any (λ flat. (flat.pair ≡ pair) × Contains flat.points p) (flattened cells n)

-- the number of flattened shapes of a cell
abbrev pub shape_count : List Cell → ℕ → ℕ
shape_count cells n = length (flattened cells n)
