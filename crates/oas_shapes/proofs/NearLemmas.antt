-- Points near 0, in grid steps and in half units.
use Rattle.std.proofs.Common.{◌≡◌, ℤ, pos, negsuc, true, List, [], ◌∷◌, ◌++◌, map, refl, ap, ◌∙◌, arith}
use Rattle.std.specs.Prelude.{All, ◌≢◌}
use Rattle.std.proofs.lemmas.Int.{ints}
use Rattle.std.proofs.lemmas.List.Elements.{All-nil, All-cons, All-head, All-tail, All-map, All-weaker}
use Rattle.half_grid.specs.Halves.{twice, is_even}
use Rattle.half_grid.specs.declared.plane.Point.{Point}
use Rattle.layout_model.specs.Layouts.{IsMove, AreOffsets}
use Rattle.oas_shapes.specs.Plane.{point, doubled, IsNearInSteps, IsNearInHalves}
use Rattle.oas_shapes.specs.Rules.{AreNear}

even_twice : (z : ℤ) → is_even (twice z) ≡ true
even_twice (pos n) = grind (arith, ints)
even_twice (negsuc n) = grind (arith, ints)

pub halves_near : (p : Point) → IsNearInSteps p → IsNearInHalves (doubled p)
halves_near p n = record {
  x_low = omega (arith, ints, n.x_low);
  x_high = omega (arith, ints, n.x_high);
  y_low = omega (arith, ints, n.y_low);
  y_high = omega (arith, ints, n.y_high);
}

pub near_halves : (p : Point) → IsNearInHalves (doubled p) → IsNearInSteps p
near_halves p n = record {
  x_low = omega (arith, ints, n.x_low);
  x_high = omega (arith, ints, n.x_high);
  y_low = omega (arith, ints, n.y_low);
  y_high = omega (arith, ints, n.y_high);
}

pub all_mapped : {X Y : Type 0} (P : Y → Type 0) (f : X → Y) (xs : List X) → All P (map f xs) → All (λ x. P (f x)) xs
all_mapped P f [] h = All-nil (λ x. P (f x))
all_mapped P f (x ∷ xs) h =
    All-cons (λ x. P (f x)) x xs (All-head P (f x) (map f xs) h) (all_mapped P f xs (All-tail P (f x) (map f xs) h))

pub all_after : {X : Type 0} (P : X → Type 0) (xs ys : List X) → All P (xs ++ ys) → All P ys
all_after P [] ys h = h
all_after P (x ∷ xs) ys h = all_after P xs ys (All-tail P x (xs ++ ys) h)

pub map_same : {X Y : Type 0} (f g : X → Y) → ((x : X) → f x ≡ g x) → (xs : List X) → map f xs ≡ map g xs
map_same f g e [] = refl
map_same f g e (x ∷ xs) = ap (λ y. y ∷ map f xs) (e x) ∙ ap (λ ys. g x ∷ ys) (map_same f g e xs)

pub all_halves : (ps : List Point) → All IsNearInSteps ps → AreNear (map doubled ps)
all_halves ps h = All-map IsNearInHalves doubled ps (All-weaker IsNearInSteps (λ p. IsNearInHalves (doubled p)) halves_near ps h)

pub halves_all : (ps : List Point) → AreNear (map doubled ps) → All IsNearInSteps ps
halves_all ps h =
    All-weaker (λ p. IsNearInHalves (doubled p)) IsNearInSteps near_halves ps (all_mapped IsNearInHalves doubled ps h)

pub is_move : (p : Point) → IsNearInHalves (doubled p) → IsMove (doubled p)
is_move p n = record { even_x = even_twice p.x; even_y = even_twice p.y; near = n }

pub are_moves : (ps : List Point) → AreNear (map doubled ps) → All IsMove (map doubled ps)
are_moves ps h =
    All-map IsMove doubled ps
    (All-weaker (λ p. IsNearInHalves (doubled p)) (λ p. IsMove (doubled p)) is_move ps (all_mapped IsNearInHalves doubled ps h))

pub are_offsets : (ps : List Point) → map doubled ps ≢ [] → AreNear (map doubled ps) → AreOffsets (map doubled ps)
are_offsets ps some h = record { nonempty = some; moves = are_moves ps h }

-- offsets are near 0
pub offsets_near : (ps : List Point) → AreOffsets ps → AreNear ps
offsets_near ps h = All-weaker IsMove IsNearInHalves (λ p move. move.near) ps h.moves

pub same_point : (a b c d : ℤ) → a ≡ b → c ≡ d → point a c ≡ point b d
same_point a b c d e f = ap (λ x. point x c) e ∙ ap (λ y. point b y) f
