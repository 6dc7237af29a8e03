-- The fields of a shot name its corners, and its corners name its lines.
use Rattle.std.proofs.Common.{◌≡◌, ℕ, ℤ, pos, negsuc, ◌-ℤ◌, ◌+ℤ◌, ◌≤ℤ◌, unsigned_abs, refl, arith, ap, sym, ◌∙◌}
use Rattle.std.proofs.lemmas.Int.{ints}
use Rattle.std.specs.Int.{int_min, int_max}
use Rattle.half_grid.specs.Lines.{x_on, Passes}
use Rattle.half_grid.specs.Trapezoids.{Trapezoid, trapezoid, IsShot, box_width}
use Rattle.half_grid.specs.declared.plane.Line.{Line}
use Rattle.half_grid.proofs.ForCallers.{line_names, same_trapezoid}
use Rattle.oas_lex.specs.ShotText.{least_x, left_delta, right_delta, fields_of}
use Rattle.oas_lex.specs.declared.fields.ShotFields.{ShotFields}
use Rattle.oas_lex.proofs.ForCallers.{least_names, greatest_names, width_some, same_fields}
use Rattle.shot_reader.specs.declared.corners.Corners.{Corners}
use Rattle.shot_reader.specs.Fields.{HasShape, AreCorners, IsCornered}

-- the trapezoid between the lines through the corners of a shot is the shot
pub same_trap : (c : Corners) (z : Trapezoid) (l m : Line) → IsShot z → IsCornered c z → Passes l c.bottom_left
    → Passes l c.top_left → Passes m c.bottom_right → Passes m c.top_right
    → trapezoid c.bottom_left.y c.top_left.y l m ≡ z
same_trap c z l m shot k p q r s =
    let left : l ≡ z.left = line_names l z.left z.y0 z.y1 shot.legal.has_rows
    (sym (ap (x_on l) k.bottom_left_y) ∙ (sym p ∙ k.bottom_left))
    (sym (ap (x_on l) k.top_left_y) ∙ (sym q ∙ k.top_left)) in
    let right : m ≡ z.right = line_names m z.right z.y0 z.y1 shot.legal.has_rows
    (sym (ap (x_on m) k.bottom_right_y) ∙ (sym r ∙ k.bottom_right))
    (sym (ap (x_on m) k.top_right_y) ∙ (sym s ∙ k.top_right)) in
    same_trapezoid c.bottom_left.y z.y0 c.top_left.y z.y1 l z.left m z.right k.bottom_left_y k.top_left_y left right

-- a size that isn't negative
pub size_back : (n : ℕ) (a : ℤ) → pos 0 ≤ℤ a → n ≡ unsigned_abs a → pos n ≡ a
size_back n (pos a) h e = ap pos e
size_back n (negsuc a) h e = absurd (omega (arith, ints))

pub size_fore : (n : ℕ) (a : ℤ) → a ≡ pos n → n ≡ unsigned_abs a
size_fore n a e = sym (ap unsigned_abs e)

sum_back : (a b n : ℤ) → n ≡ a -ℤ b → b +ℤ n ≡ a
sum_back a b n e = omega (arith, ints)

diff_back : (a b n : ℤ) → a ≡ b +ℤ n → a -ℤ b ≡ n
diff_back a b n e = omega (arith, ints)

-- the corners that the fields of a shot say are its corners
pub cornered : (f : ShotFields) (c : Corners) (z : Trapezoid) → IsShot z → HasShape f z → AreCorners f c → IsCornered c z
cornered f c z shot h k =
    let own_width : f.width ≡ unsigned_abs (box_width z) = ap (λ (g : ShotFields). g.width) h in
    let own_height : f.height ≡ unsigned_abs (z.y1 -ℤ z.y0) = ap (λ (g : ShotFields). g.height) h in
    let own_left : f.left_delta ≡ left_delta z = ap (λ (g : ShotFields). g.left_delta) h in
    let own_right : f.right_delta ≡ right_delta z = ap (λ (g : ShotFields). g.right_delta) h in
    let own_x : f.x ≡ least_x z = ap (λ (g : ShotFields). g.x) h in
    let own_y : f.y ≡ z.y0 = ap (λ (g : ShotFields). g.y) h in
    let rows : pos f.height ≡ z.y1 -ℤ z.y0 = size_back f.height (z.y1 -ℤ z.y0) (omega (arith, ints, shot.legal.has_rows)) own_height in
    let wide : pos f.width ≡ box_width z = size_back f.width (box_width z)
    (width_some (x_on z.left z.y0) (x_on z.left z.y1) (x_on z.right z.y0)
    (x_on z.right z.y1) shot.legal.bottom) own_width in
    let top : f.y +ℤ pos f.height ≡ z.y1 = ap (λ (y : ℤ). y +ℤ pos f.height) own_y ∙ sum_back z.y1 z.y0 (pos f.height) rows in
    let most : f.x +ℤ pos f.width ≡ int_max (x_on z.right z.y0) (x_on z.right z.y1) = ap
    (λ (x : ℤ). x +ℤ pos f.width) own_x ∙ sum_back (int_max (x_on z.right z.y0) (x_on z.right z.y1))
    (least_x z) (pos f.width) wide in
    let lefts = least_names c.bottom_left.x c.top_left.x (x_on z.left z.y0) (x_on z.left z.y1) (k.least ∙ own_x) (k.left ∙ own_left) in
    let rights = greatest_names c.bottom_right.x c.top_right.x (x_on z.right z.y0) (x_on z.right z.y1) (k.greatest ∙ most) (k.right ∙ own_right) in
    record {
      bottom_left = lefts.0;
      bottom_right = rights.0;
      top_left = lefts.1;
      top_right = rights.1;
      bottom_left_y = k.bottom_left_y ∙ own_y;
      bottom_right_y = k.bottom_right_y ∙ own_y;
      top_left_y = k.top_left_y ∙ top;
      top_right_y = k.top_right_y ∙ top;
    }

ap2 : (f : ℤ → ℤ → ℤ) {a b c d : ℤ} → a ≡ b → c ≡ d → f a c ≡ f b d
ap2 f {a} {b} {c} {d} p q = ap (λ (x : ℤ). f x c) p ∙ ap (f b) q

-- and a trapezoid of these corners has the fields
pub shaped : (f : ShotFields) (c : Corners) (z : Trapezoid) → IsCornered c z → AreCorners f c → HasShape f z
shaped f c z h k =
    same_fields f (fields_of f.layer f.datatype z) refl refl
    (size_fore f.width (box_width z)
    (diff_back (int_max (x_on z.right z.y0) (x_on z.right z.y1)) (least_x z) (pos f.width)
    (ap2 int_max (sym h.bottom_right)
    (sym h.top_right) ∙ (k.greatest ∙ ap (λ (x : ℤ). x +ℤ pos f.width)
    (sym k.least ∙ ap2 int_min h.bottom_left h.top_left)))))
    (size_fore f.height (z.y1 -ℤ z.y0)
    (diff_back z.y1 z.y0 (pos f.height)
    (sym h.top_left_y ∙ (k.top_left_y ∙ ap (λ (y : ℤ). y +ℤ pos f.height)
    (sym k.bottom_left_y ∙ h.bottom_left_y)))))
    (sym k.left ∙ ap2 (λ (a b : ℤ). a -ℤ b) h.top_left h.bottom_left)
    (sym k.right ∙ ap2 (λ (a b : ℤ). a -ℤ b) h.top_right h.bottom_right)
    (sym k.least ∙ ap2 int_min h.bottom_left h.top_left)
    (sym k.bottom_left_y ∙ h.bottom_left_y)
