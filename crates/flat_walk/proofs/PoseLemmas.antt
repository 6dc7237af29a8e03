-- One image after another.
use Rattle.std.proofs.Common.{◌≡◌, ℕ, ℤ, zero, suc, pos, negsuc, neg_ℤ, ◌+ℤ◌, ◌*ℤ◌, ◌+◌, ◌*◌, ◌%◌, ◌-◌, ◌<◌, Bool, true}
use Rattle.std.proofs.Common.{false, refl, sym, ap, ◌∙◌, arith}
use Rattle.std.proofs.Math.IntN.{zero-*ℤ, suc_ℤ-*ℤ, pos-*ℤ-pos, pos-*ℤ-negsuc}
use Rattle.std.proofs.lemmas.Int.{ints}
use Rattle.half_grid.specs.declared.plane.Point.{Point}
use Rattle.half_grid.specs.Quads.{Corners, corners}
use Rattle.layout_model.specs.Images.{moved, turned, flipped, enlarged, quarter_turn, image_of}
use Rattle.layout_model.specs.declared.orient.Orient.{Orient}
use Rattle.flat_walk.specs.Poses.{oriented, turns_after, flips_after, composed, IsPlain}
use Rattle.flat_walk.specs.Quads.{with_corners, turned_round, quad_image, moved_quad}
use Rattle.flat_walk.proofs.Motions.{mul_add}
use Rattle.flat_walk.proofs.PointLemmas.{same_point}

mul_neg : (m : ℕ) (z : ℤ) → pos m *ℤ neg_ℤ z ≡ neg_ℤ (pos m *ℤ z)
mul_neg zero z = rw (zero-*ℤ (neg_ℤ z), zero-*ℤ z) refl
mul_neg (suc m) z = rw (suc_ℤ-*ℤ (pos m) (neg_ℤ z), suc_ℤ-*ℤ (pos m) z) (omega (arith, ints, mul_neg m z))

mul_sum : (m n : ℕ) (z : ℤ) → pos (m + n) *ℤ z ≡ (pos m *ℤ z) +ℤ (pos n *ℤ z)
mul_sum zero n z = rw (zero-*ℤ z) (let e : zero + n ≡ n = omega arith in rw e (omega (arith, ints)))
mul_sum (suc m) n z = let e : suc m + n ≡ suc (m + n) = omega arith in rw (e, suc_ℤ-*ℤ (pos (m + n)) z, suc_ℤ-*ℤ (pos m) z) (omega (arith, ints, mul_sum m n z))

mul_mul : (m n : ℕ) (z : ℤ) → pos m *ℤ (pos n *ℤ z) ≡ pos (m * n) *ℤ z
mul_mul zero n z = let e : zero * n ≡ zero = omega arith in rw (e, zero-*ℤ z, zero-*ℤ (pos n *ℤ z)) refl
mul_mul (suc m) n z = let e : suc m * n ≡ m * n + n = omega arith in rw
    (e, suc_ℤ-*ℤ (pos m) (pos n *ℤ z), mul_sum (m * n) n z) (omega (arith, ints, mul_mul m n z))

-- ---- sums

enlarged_sum : (m : ℕ) (by p : Point) → enlarged m (moved by p) ≡ moved (enlarged m by) (enlarged m p)
enlarged_sum m by p = same_point _ _ (mul_add m p.x by.x) (mul_add m p.y by.y)

flipped_sum : (flip : Bool) (by p : Point) → flipped flip (moved by p) ≡ moved (flipped flip by) (flipped flip p)
flipped_sum true by p = same_point _ _ refl (omega (arith, ints))
flipped_sum false by p = refl

quarter_sum : (by p : Point) → quarter_turn (moved by p) ≡ moved (quarter_turn by) (quarter_turn p)
quarter_sum by p = same_point _ _ (omega (arith, ints)) refl

turned_sum : (turns : ℕ) (by p : Point) → turned turns (moved by p) ≡ moved (turned turns by) (turned turns p)
turned_sum zero by p = refl
turned_sum (suc turns) by p = ap (turned turns) (quarter_sum by p) ∙ turned_sum turns (quarter_turn by) (quarter_turn p)

oriented_sum : (orient : Orient) (by p : Point) → oriented orient (moved by p) ≡ moved (oriented orient by) (oriented orient p)
oriented_sum orient by p =
    ap (λ q. turned orient.turns (flipped orient.flip q)) (enlarged_sum orient.mag by p)
    ∙ (ap (turned orient.turns) (flipped_sum orient.flip (enlarged orient.mag by) (enlarged orient.mag p))
    ∙ turned_sum orient.turns (flipped orient.flip (enlarged orient.mag by)) (flipped orient.flip (enlarged orient.mag p)))

moved_twice : (at by p : Point) → moved at (moved by p) ≡ moved (moved at by) p
moved_twice at by p = same_point _ _ (omega (arith, ints)) (omega (arith, ints))

-- the image of a moved point
pub image_moved : (orient : Orient) (at by p : Point) → image_of orient at (moved by p) ≡ image_of orient (image_of orient at by) p
image_moved orient at by p = ap (moved at) (oriented_sum orient by p) ∙ moved_twice at (oriented orient by) (oriented orient p)

-- ---- one orientation after another

quarter_enlarged : (m : ℕ) (p : Point) → enlarged m (quarter_turn p) ≡ quarter_turn (enlarged m p)
quarter_enlarged m p = same_point _ _ (mul_neg m p.y) refl

turned_enlarged : (m turns : ℕ) (p : Point) → enlarged m (turned turns p) ≡ turned turns (enlarged m p)
turned_enlarged m zero p = refl
turned_enlarged m (suc turns) p = turned_enlarged m turns (quarter_turn p) ∙ ap (turned turns) (quarter_enlarged m p)

flipped_enlarged : (m : ℕ) (flip : Bool) (p : Point) → enlarged m (flipped flip p) ≡ flipped flip (enlarged m p)
flipped_enlarged m true p = same_point _ _ refl (mul_neg m p.y)
flipped_enlarged m false p = refl

enlarged_twice : (m n : ℕ) (p : Point) → enlarged m (enlarged n p) ≡ enlarged (m * n) p
enlarged_twice m n p = same_point _ _ (mul_mul m n p.x) (mul_mul m n p.y)

whole_turn : (p : Point) → quarter_turn (quarter_turn (quarter_turn (quarter_turn p))) ≡ p
whole_turn p = same_point _ _ (omega (arith, ints)) (omega (arith, ints))

turned_by : (a b : ℕ) (p : Point) → turned a (turned b p) ≡ turned (b + a) p
turned_by a zero p = let e : zero + a ≡ a = omega arith in rw e refl
turned_by a (suc b) p = let e : suc b + a ≡ suc (b + a) = omega arith in rw e (turned_by a b (quarter_turn p))

turned_mod : (a : ℕ) (p : Point) → a < 8 → turned a p ≡ turned (a % 4) p
turned_mod zero p h = refl
turned_mod (suc zero) p h = refl
turned_mod (suc (suc zero)) p h = refl
turned_mod (suc (suc (suc zero))) p h = refl
turned_mod (suc (suc (suc (suc zero)))) p h = whole_turn p
turned_mod (suc (suc (suc (suc (suc zero))))) p h = ap quarter_turn (whole_turn p)
turned_mod (suc (suc (suc (suc (suc (suc zero)))))) p h = ap (λ q. quarter_turn (quarter_turn q)) (whole_turn p)
turned_mod (suc (suc (suc (suc (suc (suc (suc zero))))))) p h = ap (λ q. quarter_turn (quarter_turn (quarter_turn q))) (whole_turn p)
turned_mod (suc (suc (suc (suc (suc (suc (suc (suc a)))))))) p h = absurd (omega arith)

turned_twice : (a b : ℕ) (p : Point) → a < 4 → b < 4 → turned a (turned b p) ≡ turned ((a + b) % 4) p
turned_twice a b p ha hb = turned_by a b p ∙ (let e : b + a ≡ a + b = omega arith in rw e (turned_mod (a + b) p (omega arith)))

flipped_turned : (b : ℕ) (p : Point) → b < 4 → flipped true (turned b p) ≡ turned (4 - b) (flipped true p)
flipped_turned zero p h = sym (whole_turn (flipped true p))
flipped_turned (suc zero) p h = same_point _ _ (omega (arith, ints)) (omega (arith, ints))
flipped_turned (suc (suc zero)) p h = same_point _ _ (omega (arith, ints)) (omega (arith, ints))
flipped_turned (suc (suc (suc zero))) p h = same_point _ _ (omega (arith, ints)) (omega (arith, ints))
flipped_turned (suc (suc (suc (suc b)))) p h = absurd (omega arith)

flipped_twice : (p : Point) → flipped true (flipped true p) ≡ p
flipped_twice p = same_point _ _ refl (omega (arith, ints))

flip_after : (f g : Bool) (p : Point) → flipped f (flipped g p) ≡ flipped (flips_after f g) p
flip_after true true p = flipped_twice p
flip_after true false p = refl
flip_after false g p = refl

turn_after : (f : Bool) (a b : ℕ) (p : Point) → a < 4 → b < 4 → turned a (flipped f (turned b p)) ≡ turned (turns_after f a b) (flipped f p)
turn_after true a b p ha hb =
    ap (turned a) (flipped_turned b p hb) ∙ (turned_by a (4 - b) (flipped true p)
    ∙ (let e : (4 - b) + a ≡ a + (4 - b) = omega arith in rw e (turned_mod (a + (4 - b)) (flipped true p) (omega arith))))
turn_after false a b p ha hb = turned_twice a b p ha hb

oriented_twice : (a b : Orient) (p : Point) → a.turns < 4 → b.turns < 4 → oriented a (oriented b p) ≡ oriented (composed a b) p
oriented_twice a b p ha hb =
    ap (λ q. turned a.turns (flipped a.flip q))
    (turned_enlarged a.mag b.turns (flipped b.flip (enlarged b.mag p)) ∙ ap (turned b.turns)
    (flipped_enlarged a.mag b.flip (enlarged b.mag p) ∙ ap (flipped b.flip) (enlarged_twice a.mag b.mag p)))
    ∙ (turn_after a.flip a.turns b.turns (flipped b.flip (enlarged (a.mag * b.mag) p)) ha hb
    ∙ ap (turned (turns_after a.flip a.turns b.turns)) (flip_after a.flip b.flip (enlarged (a.mag * b.mag) p)))

-- one image after another is one image
pub image_twice : (a b : Orient) (at by p : Point) → a.turns < 4 → b.turns < 4 → image_of a at (image_of b by p) ≡ image_of (composed a b) (image_of a at by) p
image_twice a b at by p ha hb =
    image_moved a at by (oriented b p)
    ∙ ap (moved (image_of a at by)) (oriented_twice a b p ha hb)

-- ---- quadrilaterals

same_corners : (f g : Point → Point) (q : Corners) → ((p : Point) → f p ≡ g p) → with_corners f q ≡ with_corners g q
same_corners f g q same = λ i. corners (same q.a i) (same q.b i) (same q.c i) (same q.d i)

round_twice : (f g : Bool) (h k : Point → Point) (q : Corners)
    → turned_round f (with_corners h (turned_round g (with_corners k q))) ≡ turned_round (flips_after f g)
    (with_corners (λ p. h (k p)) q)
round_twice true true h k q = refl
round_twice true false h k q = refl
round_twice false true h k q = refl
round_twice false false h k q = refl

pub quad_twice : (a b : Orient) (at by : Point) (q : Corners) → a.turns < 4 → b.turns < 4
    → quad_image a at (quad_image b by q) ≡ quad_image (composed a b) (image_of a at by) q
quad_twice a b at by q ha hb =
    round_twice a.flip b.flip (image_of a at) (image_of b by) q
    ∙ ap (turned_round (flips_after a.flip b.flip)) (same_corners _ _ q (λ p. image_twice a b at by p ha hb))

pub quad_moved : (a : Orient) (at by : Point) (q : Corners) → quad_image a at (moved_quad by q) ≡ quad_image a (image_of a at by) q
quad_moved a at by q = ap (turned_round a.flip) (same_corners _ _ q (λ p. image_moved a at by p))

one_times : (z : ℤ) → pos 1 *ℤ z ≡ z
one_times (pos n) = rw (pos-*ℤ-pos 1 n) (omega (arith, ints))
one_times (negsuc n) = rw (pos-*ℤ-negsuc 1 n) (omega (arith, ints))

not_enlarged : (p : Point) → enlarged 1 p ≡ p
not_enlarged p = same_point _ _ (one_times p.x) (one_times p.y)

plain_by : (flip : Bool) (turns mag : ℕ) (at : Point) (q : Corners) → flip ≡ false → turns ≡ 0 → mag ≡ 1
    → turned_round flip (with_corners (λ p. moved at (turned turns (flipped flip (enlarged mag p)))) q) ≡ moved_quad at q
plain_by flip turns mag at q f t m = rw (f, t, m)
    (λ i. corners (moved at (not_enlarged q.a i)) (moved at (not_enlarged q.b i)) (moved at (not_enlarged q.c i)) (moved at (not_enlarged q.d i)))

-- what is neither enlarged, mirrored nor turned is moved
pub plain_image : (orient : Orient) (at : Point) (q r : Corners) → r ≡ q → IsPlain orient → quad_image orient at q ≡ moved_quad at r
plain_image orient at q r e u = plain_by orient.flip orient.turns orient.mag at q u.flip u.turns u.mag ∙ ap (moved_quad at) (sym e)

plain_point_by : (flip : Bool) (turns mag : ℕ) (at p : Point) → flip ≡ false → turns ≡ 0 → mag ≡ 1
    → moved at (turned turns (flipped flip (enlarged mag p))) ≡ moved at p
plain_point_by flip turns mag at p f t m = rw (f, t, m) (ap (moved at) (not_enlarged p))

pub plain_point : (orient : Orient) (at p : Point) → IsPlain orient → image_of orient at p ≡ moved at p
plain_point orient at p u = plain_point_by orient.flip orient.turns orient.mag at p u.flip u.turns u.mag
