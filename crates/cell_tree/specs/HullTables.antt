-- The least boxes of a cell, pair by pair, by its own vertices and those of the cells that it places.
use Rattle.std.specs.Prelude.{◌≡◌, ◌⊎◌, ◌<◌, ◌^◌, ℕ, ℤ, nat_lt, Bool, true, false, List, [], ◌∷◌, Option, Some, None, length, slice_get, get_or, if◌then◌else◌}
use Rattle.std.specs.Option.{option_and_then}
use Rattle.half_grid.specs.declared.plane.Point.{Point}
use Rattle.half_grid.specs.declared.extent.Frame.{Frame}
use Rattle.layout_model.specs.Images.{image_of, moved}
use Rattle.layout_model.specs.Layouts.{IsWithin}
use Rattle.layout_model.specs.Pairs.{same_pair}
use Rattle.layout_model.specs.declared.pair.Pair.{Pair}
use Rattle.layout_model.specs.declared.orient.Orient.{Orient}
use Rattle.layout_model.specs.declared.shapes.Shape.{Shape}
use Rattle.layout_model.specs.declared.cells.Placement.{Placement}
use Rattle.layout_model.specs.declared.cells.Cell.{Cell}
use Rattle.cell_tree.specs.Cells.{placements_at, cell_number}
use Rattle.cell_tree.specs.Chains.{IsReachable}
use Rattle.cell_tree.specs.Orders.{IsAmong}
use Rattle.cell_tree.specs.Flattening.{IsVertex}
use Rattle.cell_tree.specs.Boxes.{IsHull, joined_box, summed_box, oriented_box}
use Rattle.cell_tree.specs.Faults.{first_beyond}
use Rattle.cell_tree.specs.declared.hulls.PairHull.{PairHull}

-- the box of a pair
abbrev pub hull_in : List PairHull → Pair → Option Frame
hull_in [] pair = None
hull_in (here ∷ hulls) pair = if same_pair here.pair pair then Some here.hull else hull_in hulls pair

-- whether the first pair comes before the other: by the layer, those of one layer by the datatype
abbrev pub is_before : Pair → Pair → Bool
is_before a b = if nat_lt a.layer b.layer then true else if nat_lt b.layer a.layer then false else nat_lt a.datatype b.datatype

-- the pair comes before all of these
abbrev pub IsBeforeAll : Pair → List PairHull → Type 0
IsBeforeAll pair [] = Unit {0}
IsBeforeAll pair (here ∷ hulls) = (is_before pair here.pair ≡ true) × IsBeforeAll pair hulls

-- the boxes stand in ascending order of their pairs, each pair once
abbrev pub AreInOrder : List PairHull → Type 0
AreInOrder [] = Unit {0}
AreInOrder (here ∷ hulls) = IsBeforeAll here.pair hulls × AreInOrder hulls

abbrev pub wider : Option Frame → Frame → Frame
wider None by = by
wider (Some hull) by = joined_box hull by

abbrev pub widest : Option Frame → Option Frame → Option Frame
widest hull None = hull
widest hull (Some by) = Some (wider hull by)

-- the box of a pair is widened, or put where the pair stands in the order
abbrev pub widened_list : List PairHull → Pair → Frame → List PairHull
widened_list [] pair by = record { pair = pair; hull = by } ∷ []
widened_list (here ∷ hulls) pair by =
    if is_before here.pair pair then here ∷ widened_list hulls pair by
    else if same_pair here.pair pair then record { pair = pair; hull = joined_box here.hull by } ∷ hulls
    else record { pair = pair; hull = by } ∷ here ∷ hulls

-- the box of all pairs
abbrev pub whole_from : Option Frame → List PairHull → Option Frame
whole_from hull [] = hull
whole_from hull (here ∷ hulls) = whole_from (Some (wider hull here.hull)) hulls

abbrev pub placed_hull : Orient → Frame → Frame → Frame
placed_hull orient moves hull = summed_box (oriented_box orient hull) moves

-- a vertex of a shape, at one of its offsets
pub record ShapeVertex (shape : Shape) (p : Point) : Type 0 where
  pub place : ℕ
  pub by : Point
  pub offset : slice_get shape.offsets place ≡ Some by
  pub corner : ℕ
  pub v : Point
  pub point : slice_get shape.points corner ≡ Some v
  pub is : moved by v ≡ p

-- a move of a placement: its own, with one of the offsets
pub record IsMoveOf (placement : Placement) (m : Point) : Type 0 where
  pub place : ℕ
  pub by : Point
  pub offset : slice_get placement.offsets place ≡ Some by
  pub is : moved by placement.at ≡ m

-- a vertex of one of the first shapes
pub record OwnVertex (shapes : List Shape) (bound : ℕ) (pair : Pair) (p : Point) : Type 0 where
  pub number : ℕ
  pub early : number < bound
  pub shape : Shape
  pub here : slice_get shapes number ≡ Some shape
  pub on_pair : shape.pair ≡ pair
  pub vertex : ShapeVertex shape p

-- a vertex of a cell that is placed by one of the first placements
pub record PlacedVertex (cells : List Cell) (n bound : ℕ) (pair : Pair) (p : Point) : Type 0 where
  pub number : ℕ
  pub early : number < bound
  pub placement : Placement
  pub placed : slice_get (placements_at cells n) number ≡ Some placement
  pub target : ℕ
  pub targeted : cell_number cells placement.target ≡ Some target
  pub place : ℕ
  pub by : Point
  pub offset : slice_get placement.offsets place ≡ Some by
  pub v : Point
  pub vertex : IsVertex cells target pair v
  pub is : image_of placement.orient (moved by placement.at) v ≡ p

-- the least box of each pair of the first shapes
abbrev pub AreFirstHulls : List Shape → ℕ → List PairHull → Type 0
AreFirstHulls shapes bound hulls = AreInOrder hulls × ((pair : Pair) → IsHull (OwnVertex shapes bound pair) (hull_in hulls pair))

abbrev pub AreOwnHulls : List Shape → List PairHull → Type 0
AreOwnHulls shapes hulls = AreFirstHulls shapes (length shapes) hulls

-- the least box of each pair of the cell
abbrev pub AreCellHulls : List Cell → ℕ → List PairHull → Type 0
AreCellHulls cells n hulls = AreInOrder hulls × ((pair : Pair) → IsHull (IsVertex cells n pair) (hull_in hulls pair))

-- of each cell of the order
abbrev pub AreHulls : List Cell → List ℕ → List (List PairHull) → Type 0
AreHulls cells order hulls = (n : ℕ) → IsAmong order n → AreCellHulls cells n (get_or hulls n [])

-- of each reachable cell
abbrev pub AreHullsBelow : List Cell → ℕ → List (List PairHull) → Type 0
AreHullsBelow cells top hulls = (n : ℕ) → IsReachable cells top n → AreCellHulls cells n (get_or hulls n [])

-- only cells of the order have boxes
abbrev pub AreOnlyAmong : List ℕ → List (List PairHull) → Type 0
AreOnlyAmong order hulls = (n : ℕ) → (get_or hulls n [] ≡ []) ⊎ IsAmong order n

-- only reachable cells have boxes
abbrev pub AreOnlyBelow : List Cell → ℕ → List (List PairHull) → Type 0
AreOnlyBelow cells top hulls = (n : ℕ) → (get_or hulls n [] ≡ []) ⊎ IsReachable cells top n

-- the boxes of a placed cell, if there is one
abbrev pub hulls_at : List (List PairHull) → Option ℕ → List PairHull
hulls_at hulls None = []
hulls_at hulls (Some m) = get_or hulls m []

-- the vertices of the cell are within 2^53 of 0
abbrev pub HasNearVertices : List Cell → ℕ → Type 0
HasNearVertices cells n = (pair : Pair) (p : Point) → IsVertex cells n pair p → IsWithin (2 ^ 53) p

-- the first side of the box of all pairs that is beyond 2^30
abbrev pub extent_in : List PairHull → Option ℤ
extent_in hulls = option_and_then first_beyond (whole_from None hulls)
