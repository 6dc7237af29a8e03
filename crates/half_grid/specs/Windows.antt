-- A window: the rows from y0 up to below y1, which may be none.
use Rattle.std.specs.Prelude.{ℤ, ◌≤ℤ◌}

pub record RowRange : Type 0 where
  pub y0 : ℤ
  pub y1 : ℤ

abbrev pub row_range : ℤ → ℤ → RowRange
row_range y0 y1 = record { y0 = y0; y1 = y1 }

abbrev pub IsWindow : RowRange → Type 0
IsWindow window = window.y0 ≤ℤ window.y1
