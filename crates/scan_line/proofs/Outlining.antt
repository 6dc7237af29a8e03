-- The edges of a point list, edge by edge.
use Rattle.std.proofs.Common.{◌≡◌, List, [], ◌∷◌, Option, Some, None, refl, sym, ap, subst, ◌∙◌, arith}
use Rattle.std.specs.List.{cons_option}
use Rattle.std.proofs.lemmas.List.Elements.{All-head, All-tail}
use Rattle.half_grid.specs.Edges.{EdgeParts}
use Rattle.half_grid.specs.Reach.{IsPointWithinReach}
use Rattle.half_grid.specs.declared.plane.Point.{Point}
use Rattle.half_grid.specs.declared.border.Operand.{Operand}
use Rattle.scan_line.specs.OutlineEdges.{AreNear, edges_along, first_edge}

along_cons : (o : Operand) (point : Point) (rest : List Point) → edges_along o (point ∷ rest) ≡ cons_option (first_edge o point rest) (edges_along o rest)
along_cons o point [] = refl
along_cons o point (b ∷ rest) = refl

-- a step past a point that begins no edge
pub along_none : (o : Operand) (points : List Point) (point : Point) (rest : List Point) → points ≡ point ∷ rest
    → None ≡ first_edge o point rest → edges_along o rest ≡ edges_along o points
along_none o points point rest same none =
    sym (ap (λ (l : List Point). edges_along o l) same
    ∙ (along_cons o point rest ∙ ap (λ (e : Option EdgeParts). cons_option e (edges_along o rest)) (sym none)))

-- a step past one that begins an edge
pub along_some : (o : Operand) (points : List Point) (point : Point) (rest : List Point) (e : EdgeParts)
    → points ≡ point ∷ rest → Some e ≡ first_edge o point rest → edges_along o points ≡ e ∷ edges_along o rest
along_some o points point rest e same some =
    ap (λ (l : List Point). edges_along o l) same ∙ (along_cons o point rest ∙ ap (λ (x : Option EdgeParts). cons_option x (edges_along o rest)) (sym some))

-- a point of a list whose points are near, and the others
pub record NearStep (point : Point) (rest : List Point) : Type 0 where
  pub first : IsPointWithinReach point
  pub later : AreNear rest

pub near_step : (points : List Point) (point : Point) (rest : List Point) → AreNear points → points ≡ point ∷ rest → NearStep point rest
near_step points point rest h same =
    let near : AreNear (point ∷ rest) = subst AreNear same h in
    let few = near.few in
    record {
      first = All-head IsPointWithinReach point rest near.reach;
      later =
          record { reach = All-tail IsPointWithinReach point rest near.reach; few = omega (arith, few) };
    }
