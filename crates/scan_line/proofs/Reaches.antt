-- An edge is within reach at each Y from its lower end to its upper one.
use Rattle.std.proofs.Common.{ℤ, pos, ◌+ℤ◌, ◌≤ℤ◌, arith}
use Rattle.std.proofs.lemmas.Int.{ints}
use Rattle.half_grid.specs.Reach.{IsWithinReach}
use Rattle.half_grid.specs.Lines.{x_on, first_strip}
use Rattle.half_grid.specs.Edges.{EdgeParts, IsEdge}
use Rattle.half_grid.specs.declared.plane.Line.{Line}
use Rattle.half_grid.specs.declared.plane.Line.TheVariants.{Upright, Rising, Falling}
use Rattle.half_grid.proofs.ForCallers.{strip_within}
use Rattle.scan_line.specs.Actives.{SpansRow}

between : (a b y : ℤ) → IsWithinReach a → IsWithinReach b → a ≤ℤ y → y ≤ℤ b → IsWithinReach y
between a b y ha hb l h = record { low = omega (arith, ints, ha.low, l); high = omega (arith, ints, hb.high, h) }

line_between : (l : Line) (y0 y1 y : ℤ) → IsWithinReach (x_on l y0) → IsWithinReach (x_on l y1) → y0 ≤ℤ y → y ≤ℤ y1 → IsWithinReach (x_on l y)
line_between (Upright c) y0 y1 y a b l h = a
line_between (Rising c) y0 y1 y a b l h = record { low = omega (arith, ints, a.low); high = omega (arith, ints, b.high) }
line_between (Falling c) y0 y1 y a b l h = record { low = omega (arith, ints, b.low); high = omega (arith, ints, a.high) }

pub y_within : (e : EdgeParts) (y : ℤ) → IsEdge e → e.y0 ≤ℤ y → y ≤ℤ e.y1 → IsWithinReach y
y_within e y h l u = between e.y0 e.y1 y h.y0 h.y1 l u

pub x_within : (e : EdgeParts) (y : ℤ) → IsEdge e → e.y0 ≤ℤ y → y ≤ℤ e.y1 → IsWithinReach (x_on e.line y)
x_within e y h l u = line_between e.line e.y0 e.y1 y h.lower_end h.upper_end l u

pub strip_of_edge : (e : EdgeParts) → IsEdge e → IsWithinReach (first_strip e.line)
strip_of_edge e h = strip_within e.line e.y0 h.y0 h.lower_end

-- the bottom and the top of a row that it spans
pub record RowWithin (e : EdgeParts) (j : ℤ) : Type 0 where
  pub bottom : IsWithinReach (x_on e.line j)
  pub top : IsWithinReach (x_on e.line (j +ℤ pos 1))
  pub row : IsWithinReach j
  pub next_row : IsWithinReach (j +ℤ pos 1)

pub row_within : (e : EdgeParts) (j : ℤ) → IsEdge e → SpansRow j e → RowWithin e j
row_within e j h s =
    let from = s.from in
    let below = s.below in
    let low : e.y0 ≤ℤ (j +ℤ pos 1) = omega (arith, ints) in
    let high : (j +ℤ pos 1) ≤ℤ e.y1 = omega (arith, ints) in
    let up : j ≤ℤ e.y1 = omega (arith, ints) in
    record {
      bottom = x_within e j h from up;
      top = x_within e (j +ℤ pos 1) h low high;
      row =
          y_within e j h from up;
      next_row = y_within e (j +ℤ pos 1) h low high;
    }
