-- The weight of the line at a place of a row.
--
-- The edges on a line that span a row count 1 where they go up and -1 where they go down, for the operand that they
-- belong to. In a row a place and a line name each other. Edges that cancel give a line no weight.
use Rattle.std.specs.Prelude.{ℤ, pos, ◌-ℤ◌, ◌≤ℤ◌, ◌<ℤ◌, ◌⊎◌, Bool, ◌&&◌, not, List, All, count_by}
use Rattle.std.specs.Ordering.{int_eq}
use Rattle.half_grid.specs.Edges.{EdgeParts, spans, is_of}
use Rattle.half_grid.specs.Rows.{place}
use Rattle.half_grid.specs.declared.border.Operand.{Operand}

-- the edge spans the row, and stands there at this place
abbrev pub stands_at : ℤ → ℤ → EdgeParts → Bool
stands_at j n e = spans e j && int_eq (place e.line j) n

abbrev pub stands_up : Operand → ℤ → ℤ → EdgeParts → Bool
stands_up o j n e = is_of o e.operand && (e.up && stands_at j n e)

abbrev pub stands_down : Operand → ℤ → ℤ → EdgeParts → Bool
stands_down o j n e = is_of o e.operand && (not e.up && stands_at j n e)

-- the weight of the line at the place n of the row j
unfoldable pub weight : Operand → List EdgeParts → ℤ → ℤ → ℤ
weight o edges j n = pos (count_by (stands_up o j n) edges) -ℤ pos (count_by (stands_down o j n) edges)

-- a Y that isn't above the bottom of the row j, or is above the bottom of the row k
abbrev pub IsOutside : ℤ → ℤ → ℤ → Type 0
IsOutside j k y = (y ≤ℤ j) ⊎ (k <ℤ y)

-- no edge begins or ends above the bottom of the row j and not above that of the row k: the same edges span both rows
abbrev pub NoEnds : List EdgeParts → ℤ → ℤ → Type 0
NoEnds edges j k = All (λ e. IsOutside j k e.y0 × IsOutside j k e.y1) edges

-- no edge spans the row
abbrev pub NoneSpans : List EdgeParts → ℤ → Type 0
NoneSpans edges j = All (λ e. (j <ℤ e.y0) ⊎ (e.y1 ≤ℤ j)) edges
