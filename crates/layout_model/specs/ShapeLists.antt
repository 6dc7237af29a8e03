-- The shapes of a cell: some are kept by themselves, and paths that are used again are shared. Runs of the shapes of shared
-- paths stand among the others.
use Rattle.std.specs.Prelude.{ℕ, ◌≡◌, ◌≤◌, ◌<◌, ◌+◌, ◌-◌, List, [], ◌∷◌, ◌++◌, map, length, take, drop, slice_get, Some}
use Rattle.layout_model.specs.declared.shapes.Shape.{Shape}
use Rattle.layout_model.specs.declared.shape_lists.Run.{Run}
use Rattle.layout_model.specs.declared.shape_lists.ShapeRef.{ShapeRef}
use Rattle.layout_model.specs.declared.shape_lists.Named.{Named}
use Rattle.layout_model.specs.declared.shape_lists.Named.TheVariants.{Kept, Drawn}
use Rattle.layout_model.specs.PathBounds.{IsNearBrush}
use Rattle.layout_model.specs.Paths.{rectangle_shape, drawn_along}
use Rattle.layout_model.specs.Segments.{segments_in, moved_segment, AreNearAfter}

-- the shapes of a run's path, which is moved
abbrev pub shapes_of_run : Run → List Shape
shapes_of_run run =
    drawn_along run.pair run.offsets run.is_fixed (map (moved_segment run.by) (segments_in run.path.value.items))
    run.brush.half run.brush.begin run.brush.end

-- the own shapes from number `taken` on, and among them the runs, each after its number of own shapes
abbrev pub shapes_from : List Shape → ℕ → List Run → List Shape
shapes_from own taken [] = drop taken own
shapes_from own taken (run ∷ runs) = take (run.after - taken) (drop taken own) ++ (shapes_of_run run ++ shapes_from own run.after runs)

abbrev pub shapes_of : List Shape → List Run → List Shape
shapes_of own runs = shapes_from own 0 runs

-- a run that stands somewhere after `taken` own shapes and `before` shapes in all, and not after more own shapes than there are
pub record IsRun (many taken before : ℕ) (run : Run) : Type 0 where
  pub ascends : taken ≤ run.after
  pub within : run.after ≤ many
  pub place : run.before + taken ≡ before + run.after
  pub near : AreNearAfter run.by (segments_in run.path.value.items)
  pub brush : IsNearBrush run.brush

-- runs in order, among so many own shapes
abbrev pub AreRuns : ℕ → ℕ → ℕ → List Run → Type 0
AreRuns many taken before [] = taken ≤ many
AreRuns many taken before (run ∷ runs) = IsRun many taken before run × AreRuns many run.after (run.before + length run.path.value.items) runs

-- a run that is another one, given again: with as many own shapes before it, and the same shapes
pub record IsAgain (run again : Run) : Type 0 where
  pub after : again.after ≡ run.after
  pub shapes : shapes_of_run again ≡ shapes_of_run run

-- from each run on so many are that run, given again, as it says, itself the first of them
pub record AreTimes (runs : List Run) : Type 0 where
  pub some : (k : ℕ) (run : Run) → slice_get runs k ≡ Some run → 0 < run.times
  pub same : (k j : ℕ) (run : Run) → slice_get runs k ≡ Some run → j < run.times → (again : Run) × (slice_get runs (k + j) ≡ Some again) × IsAgain run again

-- runs that have the same shapes and places as others
pub record AreKept (old new : List Run) : Type 0 where
  pub many : length new ≡ length old
  pub shapes : (own : List Shape) → shapes_of own new ≡ shapes_of own old
  pub order : (many : ℕ) → AreRuns many 0 0 old → AreRuns many 0 0 new
  pub times : AreTimes old → AreTimes new

pub record AreShapes (own : List Shape) (runs : List Run) (count : ℕ) : Type 0 where
  pub order : AreRuns (length own) 0 0 runs
  pub times : AreTimes runs
  pub total : count ≡ length (shapes_of own runs)

-- so many runs have at most `k` shapes before them: the last of those does, and the next one doesn't
pub record IsRank (runs : List Run) (k rank : ℕ) : Type 0 where
  pub within : rank ≤ length runs
  pub last : (j : ℕ) (run : Run) → j + 1 ≡ rank → slice_get runs j ≡ Some run → run.before ≤ k
  pub next : (run : Run) → slice_get runs rank ≡ Some run → k < run.before

-- one of the own shapes, or one of a run by its rectangle
abbrev pub named_shape : Named → Shape
named_shape (Kept shape) = shape.now
named_shape (Drawn rectangle run) = rectangle_shape run.now.pair run.now.offsets run.now.is_fixed rectangle

abbrev pub shape_in : ShapeRef → Shape
shape_in shape = named_shape shape.named
