-- The cells on the way from the top cell to the one that a walk entered last, and what they still place. This is for the
-- contracts of the walk's own functions.
--
-- What comes is the rest of the own pieces of the cell that was entered last, and then the rests of the cells on the way
-- to it, the innermost first.
use Rattle.std.specs.Prelude.{◌≡◌, ◌≤ℤ◌, ◌<◌, ℕ, ℤ, suc, ◌+◌, ◌*◌, ◌^◌, List, [], ◌∷◌, ◌++◌, Option, Some, None, map, drop, length, slice_get, All, IfSome}
use Rattle.std.specs.List.{flat_map}
use Rattle.std.specs.Option.{option_map_or}
use Rattle.half_grid.specs.Quads.{Corners}
use Rattle.half_grid.specs.declared.plane.Point.{Point}
use Rattle.half_grid.specs.declared.extent.Frame.{Frame}
use Rattle.layout_model.specs.Images.{moved, image_of, IsOrient}
use Rattle.layout_model.specs.Layouts.{IsWithin, IsPlacementOnGrid, IsLayoutOnGrid}
use Rattle.layout_model.specs.declared.orient.Orient.{Orient}
use Rattle.layout_model.specs.declared.cells.Placement.{Placement}
use Rattle.layout_model.specs.declared.cells.Cell.{Cell}
use Rattle.cell_tree.specs.Cells.{placements_at, cell_number}
use Rattle.cell_tree.specs.Chains.{Link, IsChain, chain_end, chain_factor}
use Rattle.cell_tree.specs.Trees.{IsTree}
use Rattle.cell_tree.specs.Flattening.{placed_things}
use Rattle.flat_walk.specs.Poses.{oriented, composed}
use Rattle.flat_walk.specs.Boxes.{Boxed, AreAllBoxed}
use Rattle.flat_walk.specs.Blocks.{boxed_in}
use Rattle.flat_walk.specs.Tables.{AreCut, AreKept}
use Rattle.flat_walk.specs.Rests.{marked_image, marked}
use Rattle.flat_walk.specs.declared.scenes.Scene.{Scene}
use Rattle.flat_walk.specs.declared.levels.Run.{Run}
use Rattle.flat_walk.specs.declared.levels.Level.{Level}

-- ---- what is walked over

abbrev pub cells_of : Scene → List Cell
cells_of scene = scene.tree.now.layout.cells

abbrev pub marked_of : Scene → ℕ → List (Option Corners)
marked_of scene n = marked (cells_of scene) scene.parts.now scene.pair n

abbrev pub boxes_of : Scene → Boxed
boxes_of scene = boxed_in scene.boxes

pub record IsScene (scene : Scene) : Type 0 where
  pub grid : IsLayoutOnGrid scene.tree.now.layout
  pub tree : IsTree (cells_of scene) scene.tree.now.top
  pub top : scene.tree.now.top < length (cells_of scene)
  pub kept : AreKept scene.parts.now
  pub cut : AreCut (cells_of scene) scene.tree.now.top scene.parts.now scene.pair
  pub boxed : AreAllBoxed (cells_of scene) scene.tree.now.top scene.parts.now (boxes_of scene)

-- ---- rests

-- what a placement of a cell shows from this place on, in a cell that is placed so, by what the cell shows
abbrev pub spots_rest : Orient → Point → Placement → List (Option Corners) → ℕ → List (Option Corners)
spots_rest orient at placement things place =
    map (marked_image orient at) (flat_map (λ by. map (marked_image placement.orient (moved by placement.at)) things) (drop place placement.offsets))

abbrev pub run_rest : Scene → Orient → Point → Option Run → List (Option Corners)
run_rest scene orient at None = []
run_rest scene orient at (Some run) = spots_rest orient at run.placement.now (marked_of scene run.target) run.place

abbrev pub things_at : Scene → Placement → List (Option Corners)
things_at scene placement = placed_things marked_image placement (option_map_or (marked_of scene) (cell_number (cells_of scene) placement.target) [])

abbrev pub placements_rest : Scene → Orient → Point → ℕ → ℕ → List (Option Corners)
placements_rest scene orient at cell next = map (marked_image orient at) (flat_map (things_at scene) (drop next (placements_at (cells_of scene) cell)))

abbrev pub level_rest : Scene → Level → List (Option Corners)
level_rest scene level = run_rest scene level.orient level.at level.run ++ placements_rest scene level.orient level.at level.cell level.next

abbrev pub levels_rest : Scene → List Level → List (Option Corners)
levels_rest scene [] = []
levels_rest scene (level ∷ levels) = levels_rest scene levels ++ level_rest scene level

-- ---- what holds of them

-- two corners of a box
abbrev pub low_corner : Frame → Point
low_corner box = record { x = box.x0; y = box.y0 }

abbrev pub high_corner : Frame → Point
high_corner box = record { x = box.x1; y = box.y1 }

-- turned so, the point has a Y from `low` up to `high`
pub record IsBetweenRows (orient : Orient) (low high : ℤ) (p : Point) : Type 0 where
  pub above : low ≤ℤ (oriented orient p).y
  pub below : (oriented orient p).y ≤ℤ high

pub record HasRowsBetween (orient : Orient) (low high : ℤ) (q : Corners) : Type 0 where
  pub a : IsBetweenRows orient low high q.a
  pub b : IsBetweenRows orient low high q.b
  pub c : IsBetweenRows orient low high q.c
  pub d : IsBetweenRows orient low high q.d

abbrev pub AreRowsBetween : Orient → ℤ → ℤ → List (Option Corners) → Type 0
AreRowsBetween orient low high items = All (λ item. IfSome item (HasRowsBetween orient low high)) items

-- a placement of cell n that places this cell
pub record IsRun (scene : Scene) (n : ℕ) (outer : Orient) (run : Run) : Type 0 where
  pub number : ℕ
  pub placed : slice_get (placements_at (cells_of scene) n) number ≡ Some run.placement.now
  pub target : cell_number (cells_of scene) run.placement.now.target ≡ Some run.target
  pub grid : IsPlacementOnGrid run.placement.now
  pub is_orient : IsOrient run.orient
  pub orient : run.orient ≡ composed outer run.placement.now.orient
  pub between : AreRowsBetween run.orient run.rows.low run.rows.high (marked_of scene run.target)
  pub near : IsWithin (2 ^ 58) (record { x = run.rows.low; y = run.rows.high })

-- a cell on the way, which is placed so
pub record IsLevel (scene : Scene) (level : Level) : Type 0 where
  pub links : List Link
  pub chain : IsChain (cells_of scene) scene.tree.now.top links
  pub end : chain_end scene.tree.now.top links ≡ level.cell
  pub depth : length links ≡ level.depth
  pub factor : chain_factor links ≡ level.orient.mag
  pub orient : IsOrient level.orient
  pub near : IsWithin (level.depth * 2 ^ 47) level.at
  pub run : IfSome level.run (IsRun scene level.cell level.orient)

abbrev pub AreLevels : Scene → ℕ → List Level → Type 0
AreLevels scene depth [] = Unit {0}
AreLevels scene depth (level ∷ levels) = (level.depth ≡ depth) × IsLevel scene level × AreLevels scene (suc depth) levels

-- the move of a placed cell at one of the placement's places
pub record IsSpot (outer : Orient) (at : Point) (placement : Placement) (spot : Point) : Type 0 where
  pub by : Point
  pub near : IsWithin (2 ^ 41) by
  pub is : spot ≡ image_of outer at (moved by placement.at)

-- the same cell, placed in the same way
pub record IsSamePlace (before after : Level) : Type 0 where
  pub cell : after.cell ≡ before.cell
  pub orient : after.orient ≡ before.orient
  pub at : after.at ≡ before.at
  pub depth : after.depth ≡ before.depth

-- a cell that the level places, of which nothing was shown
pub record IsInner (scene : Scene) (outer inner : Level) : Type 0 where
  pub level : IsLevel scene inner
  pub depth : inner.depth ≡ outer.depth + 1
  pub run : inner.run ≡ None
  pub next : inner.next ≡ 0
