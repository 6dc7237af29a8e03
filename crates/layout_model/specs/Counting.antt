-- How far the counts of a file may go.
use Rattle.std.specs.Prelude.{ℕ, ◌≤◌}
use Rattle.layout_model.specs.declared.cells.Counts.{Counts}

-- no count is above this
pub record AreAtMost (limit : ℕ) (counts : Counts) : Type 0 where
  pub kept : counts.kept ≤ limit
  pub other : counts.other ≤ limit
  pub texts : counts.texts ≤ limit
  pub nodes : counts.nodes ≤ limit
  pub boxes : counts.boxes ≤ limit
  pub properties : counts.properties ≤ limit
