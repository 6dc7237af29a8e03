-- Boxes round what placements show.
use Rattle.std.proofs.Common.{◌≡◌, ◌∙◌, ℕ, ◌^◌, List, Some, None, All, length, slice_get, refl, sym, subst, arith}
use Rattle.std.proofs.lemmas.Int.{ints}
use Rattle.std.proofs.lemmas.Option.{same_Some, slice_get_within}
use Rattle.half_grid.specs.declared.plane.Point.{Point}
use Rattle.half_grid.specs.declared.extent.Frame.{Frame}
use Rattle.layout_model.specs.Hulls.{IsInBox}
use Rattle.layout_model.specs.Images.{image_of, moved}
use Rattle.layout_model.specs.Layouts.{IsWithin, IsCellOnGrid}
use Rattle.layout_model.specs.declared.cells.Placement.{Placement}
use Rattle.layout_model.specs.declared.cells.Cell.{Cell}
use Rattle.cell_tree.specs.Boxes.{IsLeastBox, IsHull}
use Rattle.cell_tree.specs.Flattening.{IsVertex}
use Rattle.cell_tree.specs.Cells.{placements_at, cell_number}
use Rattle.cell_tree.specs.Chains.{IsReachable}
use Rattle.cell_tree.specs.Spots.{IsSpotVertex}
use Rattle.cell_tree.specs.Trees.{IsTree}
use Rattle.cell_tree.specs.HullTables.{IsMoveOf, placed_hull, AreCellHulls, whole_from}
use Rattle.cell_tree.specs.declared.hulls.PairHull.{PairHull}
use Rattle.cell_tree.proofs.BoxLemmas.{oriented_point, oriented_least}
use Rattle.cell_tree.proofs.ChainLemmas.{reach_more}
use Rattle.cell_tree.proofs.FlatLemmas.{placed_vertex, short_below}
use Rattle.cell_tree.proofs.ReachLemmas.{near_below}
use Rattle.cell_tree.proofs.TreeLemmas.{Every, whole_of}

-- a box is the least one of its own points, where it has some
own_least : (hull : Frame) (v : Point) → IsInBox hull v → IsLeastBox (IsInBox hull) hull
own_least hull v inside = let l = inside.left in let b = inside.bottom in let r = inside.right in let t = inside.top in record {
  around = λ p h. h;
  left = (record { x = hull.x0; y = v.y }, record { left = omega (arith, ints); bottom = b; right = omega (arith, ints, l, r); top = t }, refl);
  bottom = (record { x = v.x; y = hull.y0 }, record { left = l; bottom = omega (arith, ints); right = r; top = omega (arith, ints, b, t) }, refl);
  right = (record { x = hull.x1; y = v.y }, record { left = omega (arith, ints, l, r); bottom = b; right = omega (arith, ints); top = t }, refl);
  top = (record { x = v.x; y = hull.y1 }, record { left = l; bottom = omega (arith, ints, b, t); right = r; top = omega (arith, ints) }, refl);
}

-- the box of a placed cell has the image of each point of the cell's box
pub spot_in : (placement : Placement) (hull moves box : Frame) (k : ℕ) (by v : Point)
    → slice_get placement.offsets k ≡ Some by → IsInBox hull v → IsLeastBox (IsMoveOf placement) moves
    → box ≡ placed_hull placement.orient moves hull
    → IsInBox box (image_of placement.orient (moved by placement.at) v)
spot_in placement hull moves box k by v here inside least is =
    let o = (oriented_least placement.orient (IsInBox hull) hull (own_least hull v inside)).around (oriented_point placement.orient v) (v, inside, refl) in
    let m = least.around (moved by placement.at) (record { place = k; by = by; offset = here; is = refl }) in
    let ol = o.left in let ob = o.bottom in let or = o.right in let ot = o.top in let ml = m.left in let mb = m.bottom in let mr = m.right in let mt = m.top in
    subst (λ b. IsInBox b (image_of placement.orient (moved by placement.at) v)) (sym is)
    (record {
      left = omega (arith, ints, ol, ml);
      bottom = omega (arith, ints, ob, mb);
      right = omega
          (arith, ints, or, mr);
      top = omega (arith, ints, ot, mt);
    })

module _ (cells : List Cell) (top n k : ℕ) (placed : Placement) (grid : All IsCellOnGrid cells)
    (tree : IsTree cells top) (reach : IsReachable cells top n)
    (here : slice_get (placements_at cells n) k ≡ Some placed) where
  -- what a placement of a reachable cell shows is near
  pub spot_near : (p : Point) → IsSpotVertex cells placed p → IsWithin (2 ^ 53) p
  spot_near p s =
      near_below cells grid top n tree.shallow tree.mild reach s.pair p
      (placed_vertex cells n s.pair p (length (placements_at cells n)) (short_below cells top n tree.shallow reach)
      (record {
        number = k;
        early = slice_get_within (placements_at cells n) k placed here;
        placement = placed;
        placed = here;
        target = s.target;
        targeted = s.targeted;
        place = s.place;
        by = s.by;
        offset = s.offset;
        v = s.v;
        vertex = s.vertex;
        is = s.is;
      }))

  pub spot_reached : (m : ℕ) → cell_number cells placed.target ≡ Some m → IsReachable cells top m
  spot_reached m target = reach_more cells top n m reach (placed, record { number = k; placed = here; target = target })

-- the box of a cell has its vertices, of whatever pair
pub vertex_in : (cells : List Cell) (m : ℕ) (hulls : List PairHull) (hull : Frame) (placed : Placement) (p : Point)
    (s : IsSpotVertex cells placed p) → cell_number cells placed.target ≡ Some m → AreCellHulls cells m hulls
    → whole_from None hulls ≡ Some hull → IsInBox hull s.v
vertex_in cells m hulls hull placed p s target are is =
    let same : s.target ≡ m = same_Some s.target m (sym s.targeted ∙ target) in
    (subst (IsHull (Every cells m)) is (whole_of cells m hulls are)).around s.v (s.pair, subst (λ n. IsVertex cells n s.pair s.v) same s.vertex)
