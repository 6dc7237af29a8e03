-- Places in a regular grid: a*u + b*v for a < nu and b < nv, where a runs fastest. So place k is
-- (k mod nu)*u + (k div nu)*v. An AREF of a GDSII stream and the repetitions 1 and 8 of OASIS have this order.
use Rattle.std.specs.Prelude.{ℕ, pos, ◌*◌, ◌%◌, ◌/◌, ◌<◌, ◌≤◌, ◌+ℤ◌, ◌*ℤ◌, List, map}
use Rattle.std.specs.List.{range_with_len}
use Rattle.half_grid.specs.declared.plane.Point.{Point}
use Rattle.half_grid.specs.Reach.{IsPointWithinReach}

-- a*u + b*v
abbrev pub grid_place : Point → Point → ℕ → ℕ → Point
grid_place u v a b = record {
  x = (pos a *ℤ u.x) +ℤ (pos b *ℤ v.x);
  y = (pos a *ℤ u.y) +ℤ (pos b *ℤ v.y);
}

abbrev pub nth_place : ℕ → Point → Point → ℕ → Point
nth_place nu u v k = grid_place u v (k % nu) (k / nu)

abbrev pub grid_places : ℕ → ℕ → Point → Point → List Point
grid_places nu nv u v = map (nth_place nu u v) (range_with_len 0 (nu * nv))

-- both counts are 1 to 16,777,216, and all places are within reach
pub record IsGrid (nu : ℕ) (nv : ℕ) (u : Point) (v : Point) : Type 0 where
  pub some_columns : 1 ≤ nu
  pub few_columns : nu ≤ 16777216
  pub some_rows : 1 ≤ nv
  pub few_rows : nv ≤ 16777216
  pub reach : (a b : ℕ) → a < nu → b < nv → IsPointWithinReach (grid_place u v a b)
