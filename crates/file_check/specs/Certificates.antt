-- The certificate of the shots of an output, whoever made them.
--
-- A tile should be in one shot where it is in the area that the deck denotes for the output, and in none otherwise. The
-- shots are certified where each of them fits the deck's limits, and each tile of the plane is in as many of them as it
-- should be. Otherwise the first shot that doesn't fit is named, and where all fit, the lowest tile that is in another
-- number of shots than it should be, leftmost in its row.
use Rattle.std.specs.Prelude.{ℕ, ℤ, ◌≡◌, ◌<ℤ◌, List, All}
use Rattle.half_grid.specs.Trapezoids.{Trapezoid, CoversExactly, count_in}
use Rattle.half_grid.specs.declared.plane.Tile.{Tile}
use Rattle.plane_sweep.specs.Lowest.{ComesNoLater}
use Rattle.shot_checker.specs.Verdicts.{Fits}
use Rattle.deck_plan.specs.Areas.{IsInOutput}
use Rattle.deck_plan.specs.Plans.{Planned, planned_area}

-- the tile should be in so many shots
pub record IsWantedCount (area : Tile → Type 0) (t : Tile) (n : ℕ) : Type 0 where
  pub once : area t → n ≡ 1
  pub never : (area t → ⊥) → n ≡ 0

abbrev pub IsMiscovered : (Tile → Type 0) → List Trapezoid → Tile → Type 0
IsMiscovered area shots t = IsWantedCount area t (count_in shots t) → ⊥

-- each tile below the Y is in as many shots as it should be
abbrev pub AgreesBelow : (Tile → Type 0) → List Trapezoid → ℤ → Type 0
AgreesBelow area shots y = (t : Tile) → t.j <ℤ y → IsWantedCount area t (count_in shots t)

-- the lowest miscovered tile, leftmost in its row, in how many shots it is, and in how many it should be
pub record IsFirstWrongTile (area : Tile → Type 0) (shots : List Trapezoid) (t : Tile) (count wanted : ℕ) : Type 0 where
  pub miscovered : IsMiscovered area shots t
  pub first : (u : Tile) → IsMiscovered area shots u → ComesNoLater t u
  pub count_is : count ≡ count_in shots t
  pub wanted_is : IsWantedCount area t wanted

-- the shots are certified for output k
pub record IsCertified (p : Planned) (k : ℕ) (shots : List Trapezoid) : Type 0 where
  pub fit : All (Fits p.deck.limits) shots
  pub covers : CoversExactly shots (planned_area p k)

-- all shots fit, and this is the first fault of what they cover
pub record IsMiscover (p : Planned) (k : ℕ) (shots : List Trapezoid) (t : Tile) (count wanted : ℕ) : Type 0 where
  pub fit : All (Fits p.deck.limits) shots
  pub fault : IsFirstWrongTile (planned_area p k) shots t count wanted
