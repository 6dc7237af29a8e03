-- A stream of the edges of a point list, and its laws. That the points are within reach is kept in the relation.
use Rattle.std.proofs.Common.{◌≡◌, ◌+◌, ◌≤◌, ◌^◌, List, [], ◌∷◌, Option, Some, None, length, ap, sym, ◌∙◌, arith}
use Rattle.std.specs.List.{filter_map, cons_option}
use Rattle.half_grid.specs.Edges.{EdgeParts}
use Rattle.half_grid.specs.Winding.{edges_of}
use Rattle.half_grid.specs.declared.plane.Point.{Point}
use Rattle.half_grid.specs.declared.border.Operand.{Operand}
use Rattle.scan_line.specs.OutlineEdges.{AreNear, edge_between, edges_along}

-- the edges of a point list whose points are within reach
pub record StandsForOutline (o : Operand) (points : List Point) (edges : List EdgeParts) : Type 0 where
  pub near : AreNear points
  pub is : edges ≡ edges_along o points

pub Outline-one_list : (o : Operand) (points : List Point) (xs ys : List EdgeParts) → StandsForOutline o points xs → StandsForOutline o points ys → xs ≡ ys
Outline-one_list o points xs ys p q = p.is ∙ sym q.is

few_edges : (points : List Point) → length (edges_of points) ≤ length points
few_edges [] = omega arith
few_edges (a ∷ []) = omega arith
few_edges (a ∷ b ∷ points) = omega (arith, few_edges (b ∷ points))

one_kept : {B : Type 0} (o : Option B) (ys : List B) → length (cons_option o ys) ≤ length ys + 1
one_kept None ys = omega arith
one_kept (Some y) ys = omega arith

kept : {A B : Type 0} (f : A → Option B) (xs : List A) → length (filter_map f xs) ≤ length xs
kept f [] = omega arith
kept f (x ∷ xs) = omega (arith, one_kept (f x) (filter_map f xs), kept f xs)

pub Outline-no_longer : (o : Operand) (points : List Point) (xs : List EdgeParts) → StandsForOutline o points xs → length xs ≤ length points
Outline-no_longer o points xs p = omega (arith, ap length p.is, kept (edge_between o) (edges_of points), few_edges points)

pub Outline-bounded : (o : Operand) (points : List Point) (xs : List EdgeParts) → StandsForOutline o points xs → length points ≤ 2 ^ 64
Outline-bounded o points xs p = let few = p.near.few in omega arith
