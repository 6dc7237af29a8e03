-- Points that stand between others.
use Rattle.std.proofs.Common.{◌≡◌, ℕ, ℤ, zero, suc, neg_ℤ, ◌≤ℤ◌, Bool, true, false, refl, sym, subst, arith}
use Rattle.std.proofs.lemmas.Int.{ints}
use Rattle.half_grid.specs.Quads.{Corners}
use Rattle.half_grid.specs.declared.plane.Point.{Point}
use Rattle.layout_model.specs.Images.{image_of, moved, turned, flipped, enlarged, quarter_turn}
use Rattle.layout_model.specs.declared.orient.Orient.{Orient}
use Rattle.flat_walk.specs.Quads.{with_corners, turned_round, quad_image, moved_quad}
use Rattle.flat_walk.proofs.Motions.{mul_up}

-- some of the points is as far left, and so on
pub record IsAmid (P : Point → Type 0) (p : Point) : Type 0 where
  pub left : (v : Point) × P v × (v.x ≤ℤ p.x)
  pub right : (v : Point) × P v × (p.x ≤ℤ v.x)
  pub bottom : (v : Point) × P v × (v.y ≤ℤ p.y)
  pub top : (v : Point) × P v × (p.y ≤ℤ v.y)

pub record IsSpanned (P : Point → Type 0) (q : Corners) : Type 0 where
  pub a : IsAmid P q.a
  pub b : IsAmid P q.b
  pub c : IsAmid P q.c
  pub d : IsAmid P q.d

-- ---- images

-- what f makes of a point stands between what f makes of the others
Carries : (Point → Point) → Type 1
Carries f = (P Q : Point → Type 0) (p : Point) → ((v : Point) → P v → Q (f v)) → IsAmid P p → IsAmid Q (f p)

carry_then : (f g : Point → Point) → Carries f → Carries g → Carries (λ p. g (f p))
unfolding Carries
carry_then f g cf cg P Q p step amid = cg (λ w. (v : Point) × P v × (w ≡ f v)) Q (f p)
    (λ w im. subst (λ z. Q (g z)) (sym im.2) (step im.0 im.1))
    (cf P (λ w. (v : Point) × P v × (w ≡ f v)) p (λ v pv. (v, pv, refl)) amid)

carry_same : Carries (λ p. p)
unfolding Carries
carry_same P Q p step amid = record {
  left = (amid.left.0, step amid.left.0 amid.left.1, amid.left.2);
  right = (amid.right.0, step amid.right.0 amid.right.1, amid.right.2);
  bottom = (amid.bottom.0, step amid.bottom.0 amid.bottom.1, amid.bottom.2);
  top = (amid.top.0, step amid.top.0 amid.top.1, amid.top.2);
}

carry_moved : (by : Point) → Carries (moved by)
unfolding Carries
carry_moved by P Q p step amid =
    let l = amid.left.2 in let r = amid.right.2 in let b = amid.bottom.2 in let t = amid.top.2 in
    record {
      left = (moved by amid.left.0, step amid.left.0 amid.left.1, omega (arith, ints, l));
      right = (moved by amid.right.0, step amid.right.0 amid.right.1, omega (arith, ints, r));
      bottom = (moved by amid.bottom.0, step amid.bottom.0 amid.bottom.1, omega (arith, ints, b));
      top = (moved by amid.top.0, step amid.top.0 amid.top.1, omega (arith, ints, t));
    }

carry_enlarged : (m : ℕ) → Carries (enlarged m)
unfolding Carries
carry_enlarged m P Q p step amid = record {
  left = (enlarged m amid.left.0, step amid.left.0 amid.left.1, mul_up m amid.left.0.x p.x amid.left.2);
  right = (enlarged m amid.right.0, step amid.right.0 amid.right.1, mul_up m p.x amid.right.0.x amid.right.2);
  bottom = (enlarged m amid.bottom.0, step amid.bottom.0 amid.bottom.1, mul_up m amid.bottom.0.y p.y amid.bottom.2);
  top = (enlarged m amid.top.0, step amid.top.0 amid.top.1, mul_up m p.y amid.top.0.y amid.top.2);
}

neg_order : (a b : ℤ) → a ≤ℤ b → neg_ℤ b ≤ℤ neg_ℤ a
neg_order a b h = omega (arith, ints, h)

carry_flipped : (flip : Bool) → Carries (flipped flip)
unfolding Carries
carry_flipped true P Q p step amid = record {
  left = (flipped true amid.left.0, step amid.left.0 amid.left.1, amid.left.2);
  right = (flipped true amid.right.0, step amid.right.0 amid.right.1, amid.right.2);
  bottom = (flipped true amid.top.0, step amid.top.0 amid.top.1, neg_order p.y amid.top.0.y amid.top.2);
  top = (flipped true amid.bottom.0, step amid.bottom.0 amid.bottom.1, neg_order amid.bottom.0.y p.y amid.bottom.2);
}
carry_flipped false P Q p step amid = carry_same P Q p step amid

carry_quarter : Carries quarter_turn
unfolding Carries
carry_quarter P Q p step amid = record {
  left = (quarter_turn amid.top.0, step amid.top.0 amid.top.1, neg_order p.y amid.top.0.y amid.top.2);
  right = (quarter_turn amid.bottom.0, step amid.bottom.0 amid.bottom.1, neg_order amid.bottom.0.y p.y amid.bottom.2);
  bottom = (quarter_turn amid.left.0, step amid.left.0 amid.left.1, amid.left.2);
  top = (quarter_turn amid.right.0, step amid.right.0 amid.right.1, amid.right.2);
}

carry_turned : (turns : ℕ) → Carries (turned turns)
carry_turned zero = carry_same
carry_turned (suc turns) = carry_then quarter_turn (turned turns) carry_quarter (carry_turned turns)

carry_image : (orient : Orient) (at : Point) → Carries (image_of orient at)
carry_image orient at = carry_then (enlarged orient.mag) (λ p. moved at (turned orient.turns (flipped orient.flip p))) (carry_enlarged orient.mag)
    (carry_then (flipped orient.flip) (λ p. moved at (turned orient.turns p)) (carry_flipped orient.flip)
    (carry_then (turned orient.turns) (moved at) (carry_turned orient.turns) (carry_moved at)))

spanned_by : (f : Point → Point) (P Q : Point → Type 0) (q : Corners) → Carries f → ((v : Point) → P v → Q (f v))
    → IsSpanned P q → IsSpanned Q (with_corners f q)
unfolding Carries
spanned_by f P Q q c step s = record { a = c P Q q.a step s.a; b = c P Q q.b step s.b; c = c P Q q.c step s.c; d = c P Q q.d step s.d }

spanned_round : (flip : Bool) (P : Point → Type 0) (q : Corners) → IsSpanned P q → IsSpanned P (turned_round flip q)
spanned_round true P q s = record { a = s.a; b = s.d; c = s.c; d = s.b }
spanned_round false P q s = s

pub spanned_image : (orient : Orient) (at : Point) (P Q : Point → Type 0) (q : Corners)
    → ((v : Point) → P v → Q (image_of orient at v)) → IsSpanned P q → IsSpanned Q (quad_image orient at q)
spanned_image orient at P Q q step s = spanned_round orient.flip Q (with_corners (image_of orient at) q)
    (spanned_by (image_of orient at) P Q q (carry_image orient at) step s)

pub spanned_moved : (by : Point) (P Q : Point → Type 0) (q : Corners) → ((v : Point) → P v → Q (moved by v)) → IsSpanned P q → IsSpanned Q (moved_quad by q)
spanned_moved by P Q q step s = spanned_by (moved by) P Q q (carry_moved by) step s
