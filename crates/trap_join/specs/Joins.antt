-- What a join is seen as, and what its trapezoids are.
--
-- The rows of the window below some Y were joined. Some trapezoids end at or below that Y: they were given, or wait to
-- be given. The others reach up to it and may still grow: they are the front, seen as if they ended there.
use Rattle.std.specs.Prelude.{ℕ, ℤ, pos, negsuc, ◌+◌, ◌*◌, ◌^◌, ◌-ℤ◌, ◌≤ℤ◌, ◌<ℤ◌, ◌≡◌, Bool, List, [], ◌++◌, map, length, All, Any}
use Rattle.half_grid.specs.Edges.{EdgeParts}
use Rattle.half_grid.specs.Trapezoids.{Trapezoid, IsShot, IsInTrapezoid}
use Rattle.half_grid.specs.Windows.{RowRange, row_range}
use Rattle.half_grid.specs.JoinedLists.{StandInOrder}
use Rattle.half_grid.specs.declared.plane.Tile.{Tile}
use Rattle.scan_line.specs.Runs.{IsTaken}
use Rattle.scan_line.specs.Scans.{ScanState}
use Rattle.trap_join.specs.declared.front.Front.{Front}
use Rattle.trap_join.specs.Fronts.{ended_at}
use Rattle.trap_join.specs.Maximal.{IsMaximal}

-- the tile stands in one of the rows, and the rule takes its two windings
pub record IsTakenIn (post : ℤ → ℤ → Bool → Type 0) (edges : List EdgeParts) (rows : RowRange) (t : Tile) : Type 0 where
  pub from : rows.y0 ≤ℤ t.j
  pub below : t.j <ℤ rows.y1
  pub taken : IsTaken post edges t

-- a maximal trapezoid of the rows, as far as they go, that reaches their top
pub record IsGrowingIn (area : Tile → Type 0) (rows : RowRange) (z : Trapezoid) : Type 0 where
  pub maximal : IsMaximal area rows z
  pub reaches_top : z.y1 ≡ rows.y1
  pub shot : IsShot z

-- the tiles that the rule takes in the window's rows below y, as trapezoids that are done and the front
pub record IsJoinedSoFar (post : ℤ → ℤ → Bool → Type 0) (edges : List EdgeParts) (window : RowRange) (y : ℤ) (done front : List Trapezoid) : Type 0 where
  pub low : window.y0 ≤ℤ y
  pub in_order : StandInOrder (done ++ front)
  pub finished : All (IsMaximal (IsTakenIn post edges window) window) done
  pub end_below : All (λ z. z.y1 ≤ℤ y) done
  pub growing : All (IsGrowingIn (IsTakenIn post edges (row_range window.y0 y)) (row_range window.y0 y)) front
  pub covered : (t : Tile) → IsTakenIn post edges (row_range window.y0 y) t → Any (λ z. IsInTrapezoid z t) (done ++ front)

pub record JoinState (F : Type 0) : Type 0 where
  pub rule : F
  pub edges : List EdgeParts
  pub window : RowRange
  pub y : ℤ
  pub waiting : List Trapezoid
  pub front : List Trapezoid
  pub failed : Bool
  pub walked : ℕ

-- the upper stop of the last slab is known where something grows
abbrev pub TopIsKnown : Front → ℤ → Type 0
TopIsKnown front y = (front.growing.items ≡ [] → ⊥) → front.top ≡ y

-- how many rows lie from y up to below the end
abbrev pub rows_up : ℤ → ℕ
rows_up (pos n) = n
rows_up (negsuc n) = 0

-- a number that falls with each slab, where what grows is ended, and with each trapezoid that is given
unfoldable pub still_left : ℤ → ℤ → ℕ → ℕ → ℕ
still_left end y growing waiting = rows_up (end -ℤ y) * 2 ^ 65 + 2 * growing + waiting

module _ {F : Type 0} where
  -- the join has given these trapezoids, and gives the others of its rule's joined list
  abbrev pub HasGiven : (ℤ → ℤ → Bool → Type 0) → JoinState F → List Trapezoid → Type 0
  HasGiven post state given = IsJoinedSoFar post state.edges state.window state.y (given ++ state.waiting) state.front

  -- a front that stands at the scan's next stop, after these were given
  abbrev pub IsFrontOf : (ℤ → ℤ → Bool → Type 0) → ScanState F → Front → List Trapezoid → Type 0
  IsFrontOf post scan front given = IsJoinedSoFar post scan.edges scan.window scan.y (given ++ front.waiting.items) (map (ended_at scan.y) front.growing.items)

  -- the number that falls
  abbrev pub left_in : ScanState F → Front → ℕ
  left_in scan front = still_left scan.window.y1 scan.y (length front.growing.items) (length front.waiting.items)

  -- the area whose joined list a join gives
  abbrev pub join_area : (ℤ → ℤ → Bool → Type 0) → JoinState F → Tile → Type 0
  join_area post state = IsTakenIn post state.edges state.window

  -- a number that falls with each trapezoid that a join gives, so a loop over a join has it as its measure
  abbrev pub left_to_give : JoinState F → ℕ
  left_to_give state = still_left state.window.y1 state.y (length state.front) (length state.waiting)
