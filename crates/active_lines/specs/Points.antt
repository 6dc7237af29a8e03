-- Lines beside a point, and lines from left to right at a Y.
use Rattle.std.specs.Prelude.{ℤ, ◌≤ℤ◌, ◌<ℤ◌, List, [], ◌∷◌, All}
use Rattle.half_grid.specs.Lines.{x_on}
use Rattle.active_lines.specs.declared.item.ActiveLine.{ActiveLine}

-- the line passes left of the point
abbrev pub IsBefore : ℤ → ℤ → ActiveLine → Type 0
IsBefore x y l = x_on l.line y <ℤ x

-- the line passes through the point, or right of it
abbrev pub IsNotBefore : ℤ → ℤ → ActiveLine → Type 0
IsNotBefore x y l = x ≤ℤ x_on l.line y

-- at the Y no line is left of one before it; several may pass through one point
abbrev pub AscendAt : ℤ → List ActiveLine → Type 0
AscendAt y [] = Unit {0}
AscendAt y (l ∷ lines) = All (λ m. x_on l.line y ≤ℤ x_on m.line y) lines × AscendAt y lines

-- the last of the lines passes through the point, or right of it
abbrev pub EndsNotBefore : ℤ → ℤ → List ActiveLine → Type 0
EndsNotBefore x y [] = ⊥
EndsNotBefore x y (l ∷ []) = IsNotBefore x y l
EndsNotBefore x y (l ∷ m ∷ lines) = EndsNotBefore x y (m ∷ lines)
