-- Points of a file are on the grid and near 0.
use Rattle.std.proofs.Common.{◌≡◌, ◌-◌, ◌≤◌, ◌^◌, List, [], ◌∷◌, ◌++◌, length, get_or, refl, sym, ap, subst, ◌∙◌, arith}
use Rattle.std.specs.Prelude.{All, ◌↔◌}
use Rattle.std.proofs.lemmas.Int.{ints}
use Rattle.std.proofs.lemmas.List.Elements.{All-append, All-cons, All-nil}
use Rattle.half_grid.specs.declared.plane.Point.{Point}
use Rattle.half_grid.specs.Outlines.{IsClosed, last_of}
use Rattle.half_grid.specs.Reach.{IsPointWithinReach}
use Rattle.layout_model.specs.Layouts.{IsWithin, IsMove, AreOffsets}
use Rattle.gds_reader.specs.Elements.{IsFilePoint}
use Rattle.gds_reader.specs.Meaning.{origin}

pub file_reach : (p : Point) → IsFilePoint p → IsPointWithinReach p
file_reach p f = record {
  x = record { low = omega (arith, ints, f.near.x_low); high = omega (arith, ints, f.near.x_high) };
  y = record { low = omega (arith, ints, f.near.y_low); high = omega (arith, ints, f.near.y_high) };
}

pub file_near : (p : Point) → IsFilePoint p → IsWithin (2 ^ 42) p
file_near p f = record {
  x_low = omega (arith, ints, f.near.x_low);
  x_high = omega (arith, ints, f.near.x_high);
  y_low = omega (arith, ints, f.near.y_low);
  y_high = omega (arith, ints, f.near.y_high);
}

pub file_within : (p : Point) → IsFilePoint p → IsWithin (2 ^ 41) p
file_within p f = record {
  x_low = omega (arith, ints, f.near.x_low);
  x_high = omega (arith, ints, f.near.x_high);
  y_low = omega (arith, ints, f.near.y_low);
  y_high = omega (arith, ints, f.near.y_high);
}

pub file_move : (p : Point) → IsFilePoint p → IsMove p
file_move p f = record { even_x = f.even_x; even_y = f.even_y; near = file_within p f }

pub all_reach : (points : List Point) → All IsFilePoint points → All IsPointWithinReach points
all_reach points all = λ k d lt. file_reach (get_or points k d) (all k d lt)

pub all_near : (points : List Point) → All IsFilePoint points → All (IsWithin (2 ^ 42)) points
all_near points all = λ k d lt. file_near (get_or points k d) (all k d lt)

pub all_within : (points : List Point) → All IsFilePoint points → All (IsWithin (2 ^ 41)) points
all_within points all = λ k d lt. file_within (get_or points k d) (all k d lt)

origin_file : IsFilePoint origin
origin_file = record {
  even_x = refl;
  even_y = refl;
  near = record { x_low = omega (arith, ints); x_high = omega (arith, ints); y_low = omega (arith, ints); y_high = omega (arith, ints) };
}

pub origin_offsets : AreOffsets (origin ∷ [])
origin_offsets = record {
  nonempty = λ e. absurd (cc);
  moves = All-cons IsMove origin [] (file_move origin origin_file) (All-nil IsMove);
}

last_at : (a : Point) (points : List Point) (d : Point) → get_or (a ∷ points) (length points) d ≡ last_of a points
last_at a [] d = refl
last_at a (b ∷ points) d = last_at b points d

pub closed_by_ends : (points : List Point) (d : Point) → 1 ≤ length points
    → (get_or points 0 d ≡ get_or points (length points - 1) d) ↔ IsClosed points
closed_by_ends [] d some = absurd (omega arith)
closed_by_ends (p ∷ points) d some =
    let e : length (p ∷ points) - 1 ≡ length points = omega arith in
    let end : get_or (p ∷ points) (length (p ∷ points) - 1) d ≡ last_of p points = ap (λ k. get_or (p ∷ points) k d) e ∙ last_at p points d in
    (λ same. sym end ∙ sym same, λ closed. sym closed ∙ sym end)

pub all_more : {X : Type 0} (P : X → Type 0) (xs ys : List X) (x : X) → All P xs → P x → ys ≡ xs ++ x ∷ [] → All P ys
all_more P xs ys x all one e = subst (All P) (sym e) (All-append P xs (x ∷ []) all (All-cons P x [] one (All-nil P)))
