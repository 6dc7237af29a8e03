-- The edges of the quadrilaterals of a walk are on the half grid.
use Rattle.std.proofs.Common.{List, [], ◌∷◌, Option, Some, None, All, IfSome, subst}
use Rattle.std.specs.List.{AllByRecursion}
use Rattle.std.proofs.lemmas.List.Elements.{All-from_recursion}
use Rattle.half_grid.specs.Outlines.{HasGridEdges, IsOnGrid}
use Rattle.half_grid.specs.Quads.{Corners, ring_of}
use Rattle.half_grid.specs.Winding.{edges_of}
use Rattle.half_grid.specs.declared.plane.Point.{Point}
use Rattle.cell_tree.specs.Flattening.{IsVertex}
use Rattle.cell_tree.proofs.ForCallers.{top_reachable}
use Rattle.flat_walk.specs.Quads.{has_row_in}
use Rattle.flat_walk.specs.Walks.{placed_pieces, pieces_in}
use Rattle.flat_walk.specs.Ways.{IsScene, cells_of, marked_of}
use Rattle.flat_walk.specs.declared.scenes.Scene.{Scene}
use Rattle.flat_walk.proofs.Amid.{IsSpanned}
use Rattle.flat_walk.proofs.RingImages.{IsRing}
use Rattle.flat_walk.proofs.SpanLemmas.{all_shown}
use Rattle.flat_walk.proofs.ListLemmas.{somes, somes_are, each_filter}

abbrev IsOnHalfGrid : Corners → Type 0
IsOnHalfGrid q = HasGridEdges (ring_of q)

rings_of : (P : Point → Type 0) (items : List (Option Corners))
    → AllByRecursion (λ item. IfSome item (λ q. IsSpanned P q × IsRing q)) items
    → AllByRecursion IsOnHalfGrid (somes items)
rings_of P [] all = tt
rings_of P (None ∷ items) all = rings_of P items all.1
rings_of P (Some q ∷ items) all = (All-from_recursion IsOnGrid (edges_of (ring_of q)) all.0.1.loop.grid, rings_of P items all.1)

pub list_grid : (scene : Scene) → IsScene scene
    → All (λ q. HasGridEdges (ring_of q))
    (pieces_in (cells_of scene) scene.tree.now.top scene.parts.now scene.pair scene.window)
unfolding pieces_in
list_grid scene sc = All-from_recursion IsOnHalfGrid _
    (each_filter IsOnHalfGrid (has_row_in scene.window)
    (placed_pieces (cells_of scene) scene.parts.now scene.pair scene.tree.now.top)
    (subst (AllByRecursion IsOnHalfGrid) (somes_are (cells_of scene) scene.parts.now scene.pair scene.tree.now.top)
    (rings_of (IsVertex (cells_of scene) scene.tree.now.top scene.pair) (marked_of scene scene.tree.now.top)
    (all_shown scene sc scene.tree.now.top (top_reachable (cells_of scene) scene.tree.now.top)))))
