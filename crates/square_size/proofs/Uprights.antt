-- The edges of upright sides, and of sides of no height.
use Rattle.std.proofs.Common.{◌≡◌, ◌<ℤ◌, ℤ, true, false, Option, Some, None, refl, sym, ap, ◌∙◌, arith}
use Rattle.std.proofs.lemmas.Int.{ints}
use Rattle.std.specs.Ordering.{int_eq}
use Rattle.std.specs.Prelude.{IfSome}
use Rattle.half_grid.specs.Edges.{EdgeParts, IsEdge, edge_parts}
use Rattle.half_grid.specs.Lines.{line_of}
use Rattle.half_grid.specs.Reach.{IsPointWithinReach}
use Rattle.half_grid.specs.declared.border.Operand.TheVariants.{A}
use Rattle.half_grid.specs.declared.plane.Line.TheVariants.{Upright}
use Rattle.half_grid.specs.declared.plane.Point.{Point}
use Rattle.half_grid.proofs.ForCallers.{int_eq_same, int_eq_other}
use Rattle.square_size.specs.Edges.{edge_along, edge_between}
use Rattle.square_size.specs.Rings.{point}
use Rattle.square_size.proofs.Orders.{lt_yes, lt_no}
use Rattle.square_size.proofs.RingPoints.{same_point}

upright_line : (a b : Point) → a.x ≡ b.x → int_eq a.y b.y ≡ false → line_of a b ≡ Some (Upright a.x)
unfolding line_of
upright_line a b x y = rw (y, int_eq_same a.x b.x x) refl

-- an upright edge that goes up
pub up_edge : (a b : Point) → IsPointWithinReach a → IsPointWithinReach b → a.x ≡ b.x → a.y <ℤ b.y → IsEdge (edge_parts a.y b.y (Upright a.x) true A)
up_edge a b wa wb x up = record { has_rows = up; y0 = wa.y; y1 = wb.y; lower_end = wa.x; upper_end = wa.x }

pub upright_up : (a b : Point) (e : EdgeParts) → a.x ≡ b.x → a.y <ℤ b.y → e ≡ edge_parts a.y b.y (Upright a.x) true A → Some e ≡ edge_between A a b
upright_up a b e x up made =
    let differ = int_eq_other a.y b.y (λ e. omega (arith, ints, e, up)) in
    ap Some made ∙ sym (ap (edge_along A a b) (upright_line a b x differ) ∙ (rw (lt_yes a.y b.y up) refl))

-- an upright edge that goes down
pub down_edge : (a b : Point) → IsPointWithinReach a → IsPointWithinReach b → a.x ≡ b.x → b.y <ℤ a.y → IsEdge (edge_parts b.y a.y (Upright a.x) false A)
down_edge a b wa wb x down = record { has_rows = down; y0 = wb.y; y1 = wa.y; lower_end = wa.x; upper_end = wa.x }

pub upright_down : (a b : Point) (e : EdgeParts) → a.x ≡ b.x → b.y <ℤ a.y → e ≡ edge_parts b.y a.y (Upright a.x) false A → Some e ≡ edge_between A a b
upright_down a b e x down made =
    let differ = int_eq_other a.y b.y (λ e. omega (arith, ints, e, down)) in
    ap Some made ∙ sym (ap (edge_along A a b) (upright_line a b x differ) ∙ (rw (lt_no a.y b.y (omega (arith, ints, down))) refl))

-- where there is an edge, it is the one that a list of pieces has
pub this_edge : (r o : Option EdgeParts) → r ≡ o → IfSome r (λ e. Some e ≡ o)
this_edge None o h = tt
this_edge (Some e) o h = h

pub no_edge : (r o : Option EdgeParts) → None ≡ o → IfSome r (λ e. None ≡ o)
no_edge None o h = tt
no_edge (Some e) o h = h

-- a side of no height has no edge
pub level_edge : (a b : Point) → a.y ≡ b.y → None ≡ edge_between A a b
unfolding line_of
level_edge a b e = rw (int_eq_same a.y b.y e) refl

-- points by their numbers
pub point_within : (x y u v : ℤ) → x ≡ u → y ≡ v → IsPointWithinReach (point u v) → IsPointWithinReach (point x y)
point_within x y u v e f h = rw (e, f) h

pub same_edge : (r : Option EdgeParts) (ax ay bx by ux uy vx vy : ℤ) → r ≡ edge_between A (point ax ay) (point bx by) → ax ≡ ux → ay ≡ uy → bx ≡ vx → by ≡ vy
    → r ≡ edge_between A (point ux uy) (point vx vy)
same_edge r ax ay bx by ux uy vx vy h e f g i =
    h ∙ ap (λ (a : Point). edge_between A a (point bx by)) (same_point ax ay ux uy e f)
    ∙ ap (edge_between A (point ux uy)) (same_point bx by vx vy g i)
