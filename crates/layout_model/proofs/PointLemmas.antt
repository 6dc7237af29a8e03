-- Points moved: their least box, and how many they are.
use Rattle.std.proofs.Common.{◌≡◌, ◌<◌, ℕ, ℤ, ◌+ℤ◌, List, [], All, Any, map, length, get_or, ap, sym, subst, ◌∙◌, arith}
use Rattle.std.specs.Prelude.{◌≢◌, ◌&&◌}
use Rattle.std.specs.Bool.{Decides}
use Rattle.std.specs.Ordering.{int_eq}
use Rattle.std.proofs.lemmas.Bool.Decides.{Decides-int_eq, Decides-and}
use Rattle.std.proofs.lemmas.Int.{ints}
use Rattle.std.proofs.lemmas.List.{length-map}
use Rattle.std.proofs.lemmas.List.Elements.{All-map, All-weaker}
use Rattle.std.proofs.Math.ListN.{get_or-map}
use Rattle.half_grid.specs.Reach.{IsPointWithinReach, IsWithinReach}
use Rattle.half_grid.specs.declared.extent.Frame.{Frame}
use Rattle.half_grid.specs.declared.plane.Point.{Point}
use Rattle.layout_model.specs.Hulls.{IsInBox, IsLeastBoxOf}
use Rattle.layout_model.specs.Images.{moved}

-- what some item meets, its image meets
any_image : {X : Type 0} (P Q : X → Type 0) (f : X → X) (xs : List X) → ((x : X) → P x → Q (f x)) → Any P xs → Any Q (map f xs)
any_image P Q f xs h (k, x, inside, at, p) = (
  k,
  f x,
  subst (λ n. k < n) (sym (length-map xs f)) inside,
  get_or-map f xs k x ∙ ap f at,
  h x p,
)

-- what all images meet, some item's image meets
all_to_any : {X : Type 0} (P Q : X → Type 0) (A : Type 0) (f : X → X) (xs : List X) → ((x : X) → P x → Q (f x) → A) → Any P xs → All Q (map f xs) → A
all_to_any P Q A f xs h (k, x, inside, at, p) all =
    let image : get_or (map f xs) k (f x) ≡ f x = get_or-map f xs k x ∙ ap f at in
    h x p (subst Q image (all k (f x) (subst (λ n. k < n) (sym (length-map xs f)) inside)))

-- what all images meet, that of the item with this number meets
pub image_at : (P : Point → Type 0) (f : Point → Point) (xs : List Point) (k : ℕ) (d : Point) → k < length xs → All P (map f xs) → P (f (get_or xs k d))
image_at P f xs k d inside all = subst P (get_or-map f xs k d) (all k (f d) (subst (λ n. k < n) (sym (length-map xs f)) inside))

-- the least box of points moved is theirs moved
pub box_moved : (points : List Point) (by : Point) (old new : Frame) → IsLeastBoxOf points old
    → new.x0 ≡ old.x0 +ℤ by.x → new.y0 ≡ old.y0 +ℤ by.y → new.x1 ≡ old.x1 +ℤ by.x → new.y1 ≡ old.y1 +ℤ by.y
    → IsLeastBoxOf (map (moved by) points) new
box_moved points by old new least x0 y0 x1 y1 =
    let here : (p : Point) → IsInBox old p → IsInBox new (moved by p) = λ p h. record {
      left = omega (arith, ints, h.left, x0);
      bottom = omega (arith, ints, h.bottom, y0);
      right = omega (arith, ints, h.right, x1);
      top = omega (arith, ints, h.top, y1);
    } in
    record {
      around = All-map (IsInBox new) (moved by) points (All-weaker (IsInBox old) (λ p. IsInBox new (moved by p)) here points least.around);
      left = any_image (λ p. p.x ≡ old.x0) (λ p. p.x ≡ new.x0) (moved by) points (λ p e. omega (arith, ints, e, x0)) least.left;
      bottom = any_image (λ p. p.y ≡ old.y0) (λ p. p.y ≡ new.y0) (moved by) points (λ p e. omega (arith, ints, e, y0)) least.bottom;
      right = any_image (λ p. p.x ≡ old.x1) (λ p. p.x ≡ new.x1) (moved by) points (λ p e. omega (arith, ints, e, x1)) least.right;
      top = any_image (λ p. p.y ≡ old.y1) (λ p. p.y ≡ new.y1) (moved by) points (λ p e. omega (arith, ints, e, y1)) least.top;
    }

-- a side of the box, moved, is within reach where all points moved are
side_reaches : (along : Point → ℤ) (points : List Point) (by : Point) (side : ℤ)
    → ((p : Point) → IsPointWithinReach (moved by p) → IsWithinReach (along p +ℤ along by))
    → Any (λ p. along p ≡ side) points → All IsPointWithinReach (map (moved by) points) → IsWithinReach (side +ℤ along by)
side_reaches along points by side h some all =
    all_to_any (λ p. along p ≡ side) IsPointWithinReach (IsWithinReach (side +ℤ along by)) (moved by) points
    (λ p e near. subst (λ z. IsWithinReach (z +ℤ along by)) e (h p near)) some all

pub left_reaches : (points : List Point) (by : Point) (box : Frame) → IsLeastBoxOf points box → All IsPointWithinReach (map (moved by) points)
    → IsWithinReach (box.x0 +ℤ by.x)
left_reaches points by box least all = side_reaches (λ p. p.x) points by box.x0 (λ p near. near.x) least.left all

pub bottom_reaches : (points : List Point) (by : Point) (box : Frame) → IsLeastBoxOf points box → All IsPointWithinReach (map (moved by) points)
    → IsWithinReach (box.y0 +ℤ by.y)
bottom_reaches points by box least all = side_reaches (λ p. p.y) points by box.y0 (λ p near. near.y) least.bottom all

pub right_reaches : (points : List Point) (by : Point) (box : Frame) → IsLeastBoxOf points box → All IsPointWithinReach (map (moved by) points)
    → IsWithinReach (box.x1 +ℤ by.x)
right_reaches points by box least all = side_reaches (λ p. p.x) points by box.x1 (λ p near. near.x) least.right all

pub top_reaches : (points : List Point) (by : Point) (box : Frame) → IsLeastBoxOf points box → All IsPointWithinReach (map (moved by) points)
    → IsWithinReach (box.y1 +ℤ by.y)
top_reaches points by box least all = side_reaches (λ p. p.y) points by box.y1 (λ p near. near.y) least.top all

-- a list with more than nine items has some
pub many_some : (points : List Point) → 9 < length points → points ≢ []
many_some points many none = absurd (let count : length points ≡ 0 = ap length none in omega (arith, many, count))

-- `==` of points decides whether they are the same
pub points_decide : (p q : Point) → Decides (int_eq p.x q.x && int_eq p.y q.y) (p ≡ q)
points_decide p q =
    let both = Decides-and (int_eq p.x q.x) (int_eq p.y q.y) (Decides-int_eq p.x q.x) (Decides-int_eq p.y q.y) in
    (λ e. (let s = both.0 e in λ i. record { x = s.0 i; y = s.1 i }), λ e. both.1 (ap (λ r. r.x) e, ap (λ r. r.y) e))
