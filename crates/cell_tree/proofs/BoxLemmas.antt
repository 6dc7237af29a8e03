-- Least boxes of points, and what becomes of them.
use Rattle.std.proofs.Common.{◌≡◌, ◌⊎◌, ℕ, ℤ, zero, suc, pos, negsuc, neg_ℤ, ◌+ℤ◌, ◌*ℤ◌, ◌≤ℤ◌, ◌+◌, ◌*◌, ◌^◌, ◌≤◌, Bool}
use Rattle.std.proofs.Common.{true, false, List, Option, Some, None, Any, refl, sym, ap, subst, ◌∙◌, inl, inr, arith}
use Rattle.std.proofs.Math.IntN.{pos-*ℤ-pos, pos-*ℤ-negsuc}
use Rattle.std.proofs.Math.Nat.{mul-le-mul, mul-le-mul_left}
use Rattle.std.proofs.lemmas.Int.{ints, clamps}
use Rattle.std.specs.Int.{int_min, int_max}
use Rattle.half_grid.specs.declared.plane.Point.{Point}
use Rattle.half_grid.specs.declared.extent.Frame.{Frame}
use Rattle.layout_model.specs.Hulls.{IsInBox, IsLeastBoxOf}
use Rattle.layout_model.specs.Images.{moved, turned, flipped, enlarged, quarter_turn}
use Rattle.layout_model.specs.declared.orient.Orient.{Orient}
use Rattle.layout_model.specs.Layouts.{IsWithin}
use Rattle.cell_tree.proofs.SlotLemmas.{All-slot}
use Rattle.std.proofs.lemmas.Option.{slice_get-get_or}
use Rattle.cell_tree.specs.Boxes.{IsLeastBox, IsOneOf, IsHull, IsUpTo, IsBoxUpTo, joined_box, summed_box, enlarged_box}
use Rattle.cell_tree.specs.Boxes.{flipped_box, quarter_box, turned_box, oriented_box}

pub same_frame : (a b : Frame) → a.x0 ≡ b.x0 → a.y0 ≡ b.y0 → a.x1 ≡ b.x1 → a.y1 ≡ b.y1 → a ≡ b
same_frame a b e f g h = λ i. record { x0 = e i; y0 = f i; x1 = g i; y1 = h i }

pub product_up_to : (mag : ℕ) (z : ℤ) → mag ≤ 16 → IsUpTo (2 ^ 53) z → IsUpTo (2 ^ 57) (pos mag *ℤ z)
product_up_to mag (pos n) small near =
    let low : n ≤ 2 ^ 53 = omega (arith, ints, near.high) in
    let m : mag * n ≤ 16 * 2 ^ 53 = mul-le-mul small low in
    rw (pos-*ℤ-pos mag n) (record { low = omega (arith, ints); high = omega (arith, ints, m) })
product_up_to mag (negsuc n) small near =
    let low : n + 1 ≤ 2 ^ 53 = omega (arith, ints, near.low) in
    let m : mag * (n + 1) ≤ 16 * 2 ^ 53 = mul-le-mul small low in
    rw (pos-*ℤ-negsuc mag n) (record { low = omega (arith, ints, m); high = omega (arith, ints) })

pub enlarged_up_to : (mag : ℕ) (a b : Frame) → mag ≤ 16 → IsBoxUpTo (2 ^ 53) a → b ≡ enlarged_box mag a → IsBoxUpTo (2 ^ 57) b
enlarged_up_to mag a b small near is = subst (IsBoxUpTo (2 ^ 57)) (sym is) (record {
  x0 = product_up_to mag a.x0 small near.x0;
  y0 = product_up_to mag a.y0 small near.y0;
  x1 = product_up_to mag a.x1 small near.x1;
  y1 = product_up_to mag a.y1 small near.y1;
})

-- ---- the least and the greatest of two numbers

-- one of two numbers is the least, or the greatest
least_one : (a b : ℤ) → (int_min a b ≡ a) ⊎ (int_min a b ≡ b)
least_one a b = elim (order a b) [ inl h ↦ inl (omega (arith, ints, clamps)) | inr h ↦ inr (omega (arith, ints, clamps)) ]
  where
    order : (a b : ℤ) → (a ≤ℤ b) ⊎ (b ≤ℤ a)
    order (pos m) (pos n) = elim (either m n) [ inl h ↦ inl (omega (arith, ints)) | inr h ↦ inr (omega (arith, ints)) ]
      where
        either : (m n : ℕ) → (m ≤ n) ⊎ (n ≤ m)
        either zero n = inl (omega arith)
        either (suc m) zero = inr (omega arith)
        either (suc m) (suc n) = elim (either m n) [ inl h ↦ inl (omega arith) | inr h ↦ inr (omega arith) ]
    order (pos m) (negsuc n) = inr (omega (arith, ints))
    order (negsuc m) (pos n) = inl (omega (arith, ints))
    order (negsuc m) (negsuc n) = elim (either n m) [ inl h ↦ inl (omega (arith, ints)) | inr h ↦ inr (omega (arith, ints)) ]
      where
        either : (m n : ℕ) → (m ≤ n) ⊎ (n ≤ m)
        either zero n = inl (omega arith)
        either (suc m) zero = inr (omega arith)
        either (suc m) (suc n) = elim (either m n) [ inl h ↦ inl (omega arith) | inr h ↦ inr (omega arith) ]

greatest_one : (a b : ℤ) → (int_max a b ≡ a) ⊎ (int_max a b ≡ b)
greatest_one a b = elim (least_one a b) [ inl h ↦ inr (omega (arith, ints, clamps)) | inr h ↦ inl (omega (arith, ints, clamps)) ]

-- ---- predicates

pub same_least : (P Q : Point → Type 0) (box : Frame) → ((p : Point) → P p → Q p) → ((p : Point) → Q p → P p) → IsLeastBox P box → IsLeastBox Q box
same_least P Q box into out least = record {
  around = λ p q. least.around p (out p q);
  left = (least.left.0, into least.left.0 least.left.1, least.left.2);
  bottom = (least.bottom.0, into least.bottom.0 least.bottom.1, least.bottom.2);
  right = (least.right.0, into least.right.0 least.right.1, least.right.2);
  top = (least.top.0, into least.top.0 least.top.1, least.top.2);
}

pub same_hull : (P Q : Point → Type 0) (hull : Option Frame) → ((p : Point) → P p → Q p) → ((p : Point) → Q p → P p) → IsHull P hull → IsHull Q hull
same_hull P Q None into out none = λ p q. none p (out p q)
same_hull P Q (Some box) into out least = same_least P Q box into out least

-- a least box of a list of points
pub least_of : (points : List Point) (box : Frame) → IsLeastBoxOf points box → IsLeastBox (IsOneOf points) box
least_of points box least =
    let side : (P : Point → Type 0) → Any P points → (p : Point) × IsOneOf points p
    × P p = λ P a. (a.1, (a.0, slice_get-get_or points a.0 a.1 a.2 ∙ ap Some a.3), a.4) in
    record {
      around = λ p one. All-slot points (IsInBox box) least.around one.0 p one.1;
      left = side (λ p. p.x ≡ box.x0) least.left;
      bottom = side (λ p. p.y ≡ box.y0) least.bottom;
      right = side (λ p. p.x ≡ box.x1) least.right;
      top = side (λ p. p.y ≡ box.y1) least.top;
    }

-- ---- of either of two kinds

module _ (P Q R : Point → Type 0) (a b : Frame) (left : (p : Point) → P p → R p) (right : (p : Point) → Q p → R p) (out : (p : Point) → R p → P p ⊎ Q p) where
  pub joined_least : IsLeastBox P a → IsLeastBox Q b → IsLeastBox R (joined_box a b)
  joined_least p q = record {
    around = λ r h. elim (out r h) [
      | inl hp ↦ (let i = p.around r hp in let l = i.left in let m = i.bottom in let n = i.right in let o = i.top in
          record {
            left = omega (arith, ints, clamps);
            bottom = omega (arith, ints, clamps);
            right = omega
                (arith, ints, clamps);
            top = omega (arith, ints, clamps);
          })
      | inr hq ↦ (let i = q.around r hq in let l = i.left in let m = i.bottom in let n = i.right in let o = i.top in
          record {
            left = omega (arith, ints, clamps);
            bottom = omega (arith, ints, clamps);
            right = omega
                (arith, ints, clamps);
            top = omega (arith, ints, clamps);
          })
    ];
    left = elim (least_one a.x0 b.x0) [
      | inl e ↦ (p.left.0, left p.left.0 p.left.1, p.left.2 ∙ sym e)
      | inr e ↦
          (q.left.0, right q.left.0 q.left.1, q.left.2 ∙ sym e)
    ];
    bottom = elim (least_one a.y0 b.y0) [
      | inl e ↦ (p.bottom.0, left p.bottom.0 p.bottom.1, p.bottom.2 ∙ sym e)
      | inr e ↦ (q.bottom.0, right q.bottom.0 q.bottom.1, q.bottom.2 ∙ sym e)
    ];
    right = elim (greatest_one a.x1 b.x1) [
      | inl e ↦ (p.right.0, left p.right.0 p.right.1, p.right.2 ∙ sym e)
      | inr e ↦
          (q.right.0, right q.right.0 q.right.1, q.right.2 ∙ sym e)
    ];
    top = elim (greatest_one a.y1 b.y1) [
      | inl e ↦ (p.top.0, left p.top.0 p.top.1, p.top.2 ∙ sym e)
      | inr e ↦
          (q.top.0, right q.top.0 q.top.1, q.top.2 ∙ sym e)
    ];
  }

-- ---- sums

pub summed_least : (P Q R : Point → Type 0) (a b : Frame) → ((p q : Point) → P p → Q q → R (moved q p))
    → ((r : Point) → R r → (p : Point) × (q : Point) × P p × Q q × (moved q p ≡ r))
    → IsLeastBox P a → IsLeastBox Q b → IsLeastBox R (summed_box a b)
summed_least P Q R a b into out p q = record {
  around = λ r h. (let o = out r h in let i = p.around o.0 o.2 in let j = q.around o.1 o.3 in let x = ap (λ s. s.x) o.4 in let y = ap (λ s. s.y) o.4 in
      let il = i.left in let ib = i.bottom in let ir = i.right in let it = i.top in let jl = j.left in let jb =
      j.bottom in let jr = j.right in let jt = j.top in
      record { left = omega (arith, ints); bottom = omega (arith, ints); right = omega (arith, ints); top = omega (arith, ints) });
  left = (moved q.left.0 p.left.0, into p.left.0 q.left.0 p.left.1 q.left.1, λ i. p.left.2 i +ℤ q.left.2 i);
  bottom = (moved q.bottom.0 p.bottom.0, into p.bottom.0 q.bottom.0 p.bottom.1 q.bottom.1, λ i. p.bottom.2 i +ℤ q.bottom.2 i);
  right = (moved q.right.0 p.right.0, into p.right.0 q.right.0 p.right.1 q.right.1, λ i. p.right.2 i +ℤ q.right.2 i);
  top = (moved q.top.0 p.top.0, into p.top.0 q.top.0 p.top.1 q.top.1, λ i. p.top.2 i +ℤ q.top.2 i);
}

-- ---- orientations

-- the images of the points
abbrev pub Image : (Point → Point) → (Point → Type 0) → Point → Type 0
Image f P r = (p : Point) × P p × (f p ≡ r)

product_order : (m : ℕ) (a b : ℤ) → a ≤ℤ b → (pos m *ℤ a) ≤ℤ (pos m *ℤ b)
product_order m (pos a) (pos b) h = rw (pos-*ℤ-pos m a, pos-*ℤ-pos m b)
    (let low : a ≤ b = omega (arith, ints, h) in let p : m * a ≤ m * b = mul-le-mul_left m low in omega
    (arith, ints, p))
product_order m (pos a) (negsuc b) h = absurd (omega (arith, ints, h))
product_order m (negsuc a) (pos b) h = rw (pos-*ℤ-negsuc m a, pos-*ℤ-pos m b) (omega (arith, ints))
product_order m (negsuc a) (negsuc b) h = rw (pos-*ℤ-negsuc m a, pos-*ℤ-negsuc m b)
    (let low : b + 1 ≤ a + 1 = omega (arith, ints, h) in let p : m * (b + 1) ≤ m * (a + 1) = mul-le-mul_left m low in omega (arith, ints, p))

enlarged_least : (m : ℕ) (P : Point → Type 0) (a : Frame) → IsLeastBox P a → IsLeastBox (Image (enlarged m) P) (enlarged_box m a)
enlarged_least m P a p = record {
  around = λ r h. (let i = p.around h.0 h.1 in subst (IsInBox (enlarged_box m a)) h.2 (record {
    left = product_order m a.x0 h.0.x i.left;
    bottom = product_order m a.y0 h.0.y i.bottom;
    right = product_order m h.0.x a.x1 i.right;
    top = product_order m h.0.y a.y1 i.top;
  }));
  left = (enlarged m p.left.0, (p.left.0, p.left.1, refl), ap (λ z. pos m *ℤ z) p.left.2);
  bottom = (enlarged m p.bottom.0, (p.bottom.0, p.bottom.1, refl), ap (λ z. pos m *ℤ z) p.bottom.2);
  right = (enlarged m p.right.0, (p.right.0, p.right.1, refl), ap (λ z. pos m *ℤ z) p.right.2);
  top = (enlarged m p.top.0, (p.top.0, p.top.1, refl), ap (λ z. pos m *ℤ z) p.top.2);
}

neg_order : (a b : ℤ) → a ≤ℤ b → neg_ℤ b ≤ℤ neg_ℤ a
neg_order a b h = omega (arith, ints)

flipped_least : (flip : Bool) (P : Point → Type 0) (a : Frame) → IsLeastBox P a → IsLeastBox (Image (flipped flip) P) (flipped_box flip a)
flipped_least false P a p = same_least P (Image (flipped false) P) a (λ q h. (q, h, refl)) (λ q h. subst P h.2 h.1) p
flipped_least true P a p = record {
  around = λ r h. (let i = p.around h.0 h.1 in subst (IsInBox (flipped_box true a)) h.2 (record {
    left = i.left;
    bottom = neg_order h.0.y a.y1 i.top;
    right = i.right;
    top = neg_order a.y0 h.0.y i.bottom;
  }));
  left = (flipped true p.left.0, (p.left.0, p.left.1, refl), p.left.2);
  bottom = (flipped true p.top.0, (p.top.0, p.top.1, refl), ap neg_ℤ p.top.2);
  right = (flipped true p.right.0, (p.right.0, p.right.1, refl), p.right.2);
  top = (flipped true p.bottom.0, (p.bottom.0, p.bottom.1, refl), ap neg_ℤ p.bottom.2);
}

quarter_least : (P : Point → Type 0) (a : Frame) → IsLeastBox P a → IsLeastBox (Image quarter_turn P) (quarter_box a)
quarter_least P a p = record {
  around = λ r h. (let i = p.around h.0 h.1 in subst (IsInBox (quarter_box a)) h.2 (record {
    left = neg_order h.0.y a.y1 i.top;
    bottom = i.left;
    right = neg_order a.y0 h.0.y i.bottom;
    top = i.right;
  }));
  left = (quarter_turn p.top.0, (p.top.0, p.top.1, refl), ap neg_ℤ p.top.2);
  bottom = (quarter_turn p.left.0, (p.left.0, p.left.1, refl), p.left.2);
  right = (quarter_turn p.bottom.0, (p.bottom.0, p.bottom.1, refl), ap neg_ℤ p.bottom.2);
  top = (quarter_turn p.right.0, (p.right.0, p.right.1, refl), p.right.2);
}

-- images of images
composed_least : (f g : Point → Point) (P : Point → Type 0) (a : Frame) → IsLeastBox (Image g (Image f P)) a → IsLeastBox (Image (λ p. g (f p)) P) a
composed_least f g P a p = same_least (Image g (Image f P)) (Image (λ p. g (f p)) P) a
    (λ q h. (h.1.0, h.1.1, ap g h.1.2 ∙ h.2)) (λ q h. (f h.0, (h.0, h.1, refl), h.2)) p

turned_least : (turns : ℕ) (P : Point → Type 0) (a : Frame) → IsLeastBox P a → IsLeastBox (Image (turned turns) P) (turned_box turns a)
turned_least zero P a p = same_least P (Image (turned zero) P) a (λ q h. (q, h, refl)) (λ q h. subst P h.2 h.1) p
turned_least (suc turns) P a p = composed_least quarter_turn (turned turns) P (turned_box turns (quarter_box a))
    (turned_least turns (Image quarter_turn P) (quarter_box a) (quarter_least P a p))

abbrev pub oriented_point : Orient → Point → Point
oriented_point orient p = turned orient.turns (flipped orient.flip (enlarged orient.mag p))

pub oriented_least : (orient : Orient) (P : Point → Type 0) (a : Frame) → IsLeastBox P a → IsLeastBox (Image (oriented_point orient) P) (oriented_box orient a)
oriented_least orient P a p =
    composed_least (λ q. flipped orient.flip (enlarged orient.mag q)) (turned orient.turns) P (oriented_box orient a)
    (turned_least orient.turns (Image (λ q. flipped orient.flip (enlarged orient.mag q)) P) (flipped_box orient.flip (enlarged_box orient.mag a))
    (composed_least (enlarged orient.mag) (flipped orient.flip) P (flipped_box orient.flip (enlarged_box orient.mag a))
    (flipped_least orient.flip (Image (enlarged orient.mag) P) (enlarged_box orient.mag a) (enlarged_least orient.mag P a p))))

-- ---- how far a box reaches

pub least_up_to : (P : Point → Type 0) (box : Frame) (bound : ℕ) → IsLeastBox P box → ((p : Point) → P p → IsWithin bound p) → IsBoxUpTo bound box
least_up_to P box bound least near =
    let l = near least.left.0 least.left.1 in let b = near least.bottom.0 least.bottom.1 in let r =
    near least.right.0 least.right.1 in let t = near least.top.0 least.top.1 in
    record {
      x0 = subst (IsUpTo bound) least.left.2 (record { low = l.x_low; high = l.x_high });
      y0 = subst (IsUpTo bound) least.bottom.2 (record { low = b.y_low; high = b.y_high });
      x1 = subst (IsUpTo bound) least.right.2 (record { low = r.x_low; high = r.x_high });
      y1 = subst (IsUpTo bound) least.top.2 (record { low = t.y_low; high = t.y_high });
    }
