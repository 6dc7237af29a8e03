-- The shape of a rectangle by two opposite corners.
use Rattle.std.proofs.Common.{◌≡◌, ℕ, ℤ, pos, true, false, None, List, [], ◌∷◌, refl, sym, ap, subst, ◌∙◌, arith}
use Rattle.std.specs.Prelude.{◌+ℤ◌}
use Rattle.std.proofs.lemmas.Int.{ints}
use Rattle.std.proofs.lemmas.List.Elements.{All-nil, All-cons, All-from_recursion}
use Rattle.half_grid.specs.Outlines.{IsClosed, HasGridEdges}
use Rattle.half_grid.specs.declared.plane.Point.{Point}
use Rattle.layout_model.specs.Images.{moved}
use Rattle.layout_model.specs.Kept.{corner, ring_between, shape_with}
use Rattle.layout_model.specs.Layouts.{IsMove, AreOffsets, IsShapeOnGrid}
use Rattle.layout_model.specs.declared.pair.Pair.{Pair}
use Rattle.oas_shapes.specs.Figures.{IsSize, IsSized}
use Rattle.oas_shapes.specs.Outlines.{figure_outline, outline_shape}
use Rattle.oas_shapes.specs.Plane.{point, origin, doubled, IsNearInSteps, IsNearInHalves}
use Rattle.oas_shapes.specs.Rules.{AreNear, KeepsFigure, IsLowest}
use Rattle.oas_shapes.specs.declared.figures.Figure.TheVariants.{Rectangle}
use Rattle.oas_shapes.proofs.NearLemmas.{halves_near, near_halves}
use Rattle.oas_shapes.proofs.ShapeLemmas.{on_grid}

none_left : (z : ℤ) → pos 0 +ℤ z ≡ z
none_left z = omega (arith, ints)

-- the corner opposite to its position
abbrev pub high_of : Point → ℕ → ℕ → Point
high_of at w h = moved at (point (pos w) (pos h))

abbrev ring_at : Point → ℕ → ℕ → List Point
ring_at at w h = ring_between (doubled at) (doubled (high_of at w h)) true

outline_is : (at : Point) (w h : ℕ) → figure_outline at (Rectangle w h) ≡ ring_at at w h
outline_is at w h = rw (none_left at.x, none_left at.y) refl

corner_near : (a c : Point) → IsNearInHalves a → IsNearInHalves c → IsNearInHalves (corner a c)
corner_near a c m n = record { x_low = m.x_low; x_high = m.x_high; y_low = n.y_low; y_high = n.y_high }

ring_near : (a c : Point) → IsNearInHalves a → IsNearInHalves c → AreNear (ring_between a c true)
ring_near a c m n =
    All-from_recursion IsNearInHalves (ring_between a c true) (m, (corner_near a c m n, (n, (corner_near c a n m, (m, tt)))))

outline_near : (at : Point) (w h : ℕ) → IsNearInSteps at → IsNearInSteps (high_of at w h) → AreNear (figure_outline at (Rectangle w h))
outline_near at w h m n =
    subst AreNear (sym (outline_is at w h)) (ring_near (doubled at) (doubled (high_of at w h)) (halves_near at m) (halves_near (high_of at w h) n))

-- one that isn't near breaks rule 1
pub high_far : (at : Point) (w h : ℕ) → (IsNearInSteps (high_of at w h) → ⊥) → (IsSized (Rectangle w h) × AreNear (figure_outline at (Rectangle w h)) → ⊥)
high_far at w h far keeps = far (near_halves (high_of at w h) (keeps.1 2 origin (omega arith)))

pub first_broken : (at : Point) (w h : ℕ) → (IsSized (Rectangle w h) × AreNear (figure_outline at (Rectangle w h)) → ⊥)
    → IsLowest (KeepsFigure at (Rectangle w h) None) 1
first_broken at w h far = record {
  broken = λ kept. far ((kept.near refl).0, (kept.near refl).1);
  lower = λ other less. record {
    near = λ e. absurd (omega (arith, less, e));
    edges = λ e. absurd (omega (arith, less, e));
    dimension = λ e. absurd (omega (arith, less, e));
  };
}

origin_near : IsNearInHalves origin
origin_near = record {
  x_low = omega (arith, ints);
  x_high = omega (arith, ints);
  y_low = omega (arith, ints);
  y_high = omega (arith, ints);
}

alone : AreOffsets (origin ∷ [])
alone = record {
  nonempty = λ e. absurd (cc);
  moves = All-cons IsMove origin [] (record { even_x = refl; even_y = refl; near = origin_near }) (All-nil IsMove);
}

-- what is known of a rectangle that is near, by its corners in half units
pub record IsBox (at : Point) (w h : ℕ) (low high : Point) : Type 0 where
  pub width : IsSize w
  pub height : IsSize h
  pub at_near : IsNearInSteps at
  pub high_near : IsNearInSteps (high_of at w h)
  pub low_is : low ≡ doubled at
  pub high_is : high ≡ doubled (high_of at w h)
  pub edges : HasGridEdges (ring_between low high true)
  pub closed : IsClosed (ring_between low high true)

ring_is : (at : Point) (w h : ℕ) (low high : Point) → IsBox at w h low high → ring_between low high true ≡ figure_outline at (Rectangle w h)
ring_is at w h low high b =
    ap (λ p. ring_between p high true) b.low_is ∙ ap (λ p. ring_between (doubled at) p true) b.high_is ∙ sym (outline_is at w h)

pub box_keeps : (at : Point) (w h : ℕ) (low high : Point) → IsBox at w h low high → (rule : ℕ) → KeepsFigure at (Rectangle w h) None rule
box_keeps at w h low high b rule = record {
  near = λ e. ((b.width, b.height), outline_near at w h b.at_near b.high_near, All-cons IsNearInHalves origin [] origin_near (All-nil IsNearInHalves));
  edges = λ e. subst HasGridEdges (ring_is at w h low high b) b.edges;
  dimension = λ e. tt;
}

pub box_shape : (pair : Pair) (at : Point) (w h : ℕ) (low high : Point) → IsBox at w h low high
    → shape_with pair (ring_between low high true) (origin ∷ []) false ≡ outline_shape pair (figure_outline at (Rectangle w h)) (origin ∷ [])
box_shape pair at w h low high b = ap (λ points. outline_shape pair points (origin ∷ [])) (ring_is at w h low high b)

pub box_on_grid : (pair : Pair) (at : Point) (w h : ℕ) (low high : Point) → IsBox at w h low high
    → IsShapeOnGrid (outline_shape pair (figure_outline at (Rectangle w h)) (origin ∷ []))
box_on_grid pair at w h low high b =
    let same = ring_is at w h low high b in
    on_grid pair (figure_outline at (Rectangle w h)) (origin ∷ []) (subst IsClosed same b.closed) (subst HasGridEdges same b.edges)
    (outline_near at w h b.at_near b.high_near) alone

pub box_of : (at : Point) (w h : ℕ) (far low high : Point) → IsSize w → IsSize h → IsNearInSteps at → (far ≡ high_of at w h) × IsNearInSteps far
    → low ≡ doubled at → high ≡ doubled far → HasGridEdges (ring_between low high true) → IsClosed (ring_between low high true) → IsBox at w h low high
box_of at w h far low high width height at_near far_is low_is high_is edges closed = record {
  width = width;
  height = height;
  at_near = at_near;
  high_near = subst IsNearInSteps far_is.0 far_is.1;
  low_is = low_is;
  high_is = high_is ∙ ap doubled far_is.0;
  edges = edges;
  closed = closed;
}
