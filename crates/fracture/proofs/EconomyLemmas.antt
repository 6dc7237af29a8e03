-- No cut between two shots of one trapezoid is needless.
use Rattle.std.proofs.Common.{◌≡◌, ℤ, pos, ◌+ℤ◌, ◌-ℤ◌, ◌≤ℤ◌, ◌<ℤ◌, List, [], ◌∷◌, All, arith, refl, sym, ap, subst, ◌∙◌}
use Rattle.std.proofs.lemmas.Int.{ints, clamps}
use Rattle.std.proofs.lemmas.List.Elements.{All-nil, All-cons, All-contains, All-weaker}
use Rattle.std.specs.List.{Contains}
use Rattle.std.specs.Int.{int_min, int_max}
use mathlib.Core.Logic.{◌⊎◌, inl, inr}
use Rattle.half_grid.specs.Lines.{x_on}
use Rattle.half_grid.specs.Rows.{place}
use Rattle.half_grid.specs.Trapezoids.{Trapezoid, IsShot, box_width}
use Rattle.half_grid.specs.declared.plane.Line.{Line}
use Rattle.half_grid.specs.declared.plane.Tile.{Tile}
use Rattle.half_grid.proofs.ForCallers.{legal_places}
use Rattle.fracture.specs.Limits.{AreLimits}
use Rattle.fracture.specs.Cutting.{height_of, lowest_rows, rows_above, cut_by_height, cut_at, leftmost_part, part_beyond, cut_by_width, cut_list}
use Rattle.fracture.specs.Economy.{side_by_side, stacked, HasNoNeedlessCut}
use Rattle.fracture.proofs.CutNumbers.{x_steps}
use Rattle.fracture.proofs.PartLemmas.{IsLow, inside, lowest_is_low, left_is_shot, cut_is}
use Rattle.fracture.proofs.Recursions.{of_heights, of_widths}
use Rattle.fracture.proofs.TileLemmas.{cut_right_of_left}
use Rattle.fracture.proofs.Members.{first_or_later, none_in_empty, of_some}

-- ---- a piece that is cut by width

-- a part of z: in its rows, legal, and its left line no further left
pub record IsPart (z y : Trapezoid) : Type 0 where
  pub bottom : y.y0 ≡ z.y0
  pub top : y.y1 ≡ z.y1
  pub shot : IsShot y
  pub from_left : place z.left z.y0 ≤ℤ place y.left z.y0

-- in the lowest row its left line lies left of its right line
part_width : (z y : Trapezoid) → IsPart z y → place y.left z.y0 <ℤ place y.right z.y0
part_width z y p =
    let rows = p.shot.legal.has_rows in
    let low : y.y0 ≤ℤ z.y0 = omega (arith, ints, p.bottom) in
    let high : z.y0 <ℤ y.y1 = omega (arith, ints, p.bottom, rows) in
    legal_places y z.y0 p.shot.legal low high

abbrev place_at : ℤ → Line → ℤ
place_at j line = place line j

-- a line isn't one that lies further right
not_one : (l m : Line) (j : ℤ) → place l j <ℤ place m j → l ≡ m → ⊥
not_one l m j h e = let same : place l j ≡ place m j = ap (place_at j) e in omega (arith, ints, same, h)

-- A piece whose least X is m is cut at c, and what lies beyond it at d: the first two parts together are too wide.
joint_wide : (m a b h height width c d : ℤ) → pos 0 <ℤ h → h ≤ℤ height → (height +ℤ height) ≤ℤ width → (b -ℤ a) ≤ℤ h → (a -ℤ b) ≤ℤ h → m <ℤ c
    → c ≡ int_min (m +ℤ width) (int_min a b) → width <ℤ (int_max a b -ℤ c) → d ≡ int_min (c +ℤ width) (int_min a b) → width <ℤ (d -ℤ m)
joint_wide m a b h height width c d some low wide ba ab left is over then = omega (arith, ints, clamps)

min_same : (c : ℤ) → int_min c c ≡ c
min_same c = omega (arith, ints, clamps)

max_same : (c : ℤ) → int_max c c ≡ c
max_same c = omega (arith, ints, clamps)

module _ (height width : ℤ) (limits : AreLimits height width) where
  -- the first part, by its left line
  abbrev pub IsBegin : Trapezoid → Trapezoid → Type 0
  IsBegin z w = (w ≡ z) ⊎ ((width <ℤ box_width z) × (w ≡ leftmost_part width z))

  abbrev pub AreTooWide : Trapezoid → Trapezoid → Type 0
  AreTooWide y w = width <ℤ box_width (side_by_side y w)

  -- what holds of the parts of a piece
  record ArePartsOf (z : Trapezoid) (parts : List Trapezoid) : Type 0 where
    each : All (IsPart z) parts
    begin : (w : Trapezoid) → Contains parts w → w.left ≡ z.left → IsBegin z w
    wide : (y w : Trapezoid) → Contains parts y → Contains parts w → y.right ≡ w.left → AreTooWide y w

  itself : (z : Trapezoid) → IsShot z → IsPart z z
  itself z s = record { bottom = refl; top = refl; shot = s; from_left = omega (arith, ints) }

  no_width : (z : Trapezoid) → IsShot z → z.right ≡ z.left → ⊥
  no_width z s e = not_one z.left z.right z.y0 (part_width z z (itself z s)) (sym e)

  one_part : (z : Trapezoid) → IsLow height z → box_width z ≤ℤ width → ArePartsOf z (z ∷ [])
  one_part z s h = record {
    each = All-cons (IsPart z) z [] (itself z s.shot) (All-nil (IsPart z));
    begin = λ w at e. elim (first_or_later z w [] at) [ inl is ↦ inl (sym is) | inr is ↦ absurd (none_in_empty w is) ];
    wide = λ y w at by e.
        elim (first_or_later z y [] at) [
          | inl is ↦ elim (first_or_later z w [] by) [
            | inl same ↦ absurd
                (no_width z s.shot (ap (λ v. v.right) is ∙ e ∙ sym (ap (λ v. v.left) same)))
            | inr same ↦ absurd
                (none_in_empty w same)
          ]
          | inr is ↦ absurd (none_in_empty y is)
        ];
  }

  module _ (z : Trapezoid) (s : IsLow height z) (over : width <ℤ box_width z) where
    here : place z.left z.y0 <ℤ (cut_at width z +ℤ cut_at width z)
    here = cut_right_of_left height width limits z s over z.y0 (omega (arith, ints)) s.shot.legal.has_rows

    first_is : IsPart z (leftmost_part width z)
    first_is = record { bottom = refl; top = refl; shot = left_is_shot height width limits z s over; from_left = omega (arith, ints) }

    -- a part of what lies beyond is a part, and its left line isn't the piece's
    later_is : (y : Trapezoid) → IsPart (part_beyond width z) y → IsPart z y
    later_is y p = record { bottom = p.bottom; top = p.top; shot = p.shot; from_left = omega (arith, ints, p.from_left, here) }

    later_left : (y : Trapezoid) → IsPart (part_beyond width z) y → y.left ≡ z.left → ⊥
    later_left y p e = not_one z.left y.left z.y0 (omega (arith, ints, p.from_left, here)) (sym e)

    later_right : (y : Trapezoid) → IsPart (part_beyond width z) y → y.right ≡ z.left → ⊥
    later_right y p e = not_one z.left y.right z.y0 (omega (arith, ints, p.from_left, here, part_width (part_beyond width z) y p)) (sym e)

    -- the first part with the one that begins what lies beyond
    first_two : (w : Trapezoid) → IsBegin (part_beyond width z) w → AreTooWide (leftmost_part width z) w
    first_two w (inl e) = subst (λ v. AreTooWide (leftmost_part width z) v) (sym e) over
    first_two w (inr (more, e)) =
        let c = cut_is height width limits z s over in
        let rows : z.y0 ≤ℤ z.y1 = omega (arith, ints, s.shot.legal.has_rows) in
        let right = x_steps z.right z.y0 z.y1 rows in
        let some : pos 0 <ℤ height_of z = omega (arith, ints, s.shot.legal.has_rows) in
        let least : int_min (x_on z.left z.y0) (x_on z.left z.y1) <ℤ cut_at width z =
        (let a = c.bottom_left in let b = c.top_left in omega (arith, ints, clamps)) in
        let beyond : width <ℤ (int_max (x_on z.right z.y0) (x_on z.right z.y1) -ℤ cut_at width z) = rw min_same at more in
        let next : cut_at width (part_beyond width z) ≡ int_min (cut_at width z +ℤ width) (int_min (x_on z.right z.y0) (x_on z.right z.y1)) =
        ap (λ m. int_min (m +ℤ width) (int_min (x_on z.right z.y0) (x_on z.right z.y1))) (min_same (cut_at width z)) in
        let joint = joint_wide (int_min (x_on z.left z.y0) (x_on z.left z.y1)) (x_on z.right z.y0) (x_on z.right z.y1)
        (height_of z) height width (cut_at width z)
        (cut_at width (part_beyond width z)) some s.low limits.wide right.0 right.1 least refl beyond next in
        subst (λ v. AreTooWide (leftmost_part width z) v) (sym e) (rw (max_same (cut_at width (part_beyond width z))) joint)

    more_parts : (parts : List Trapezoid) → ArePartsOf (part_beyond width z) parts → ArePartsOf z (leftmost_part width z ∷ parts)
    more_parts parts q =
        let part : (y : Trapezoid) → Contains parts y → IsPart (part_beyond width z) y = λ y at. All-contains
        (IsPart (part_beyond width z)) parts y q.each at in
        record {
          each = All-cons (IsPart z) (leftmost_part width z) parts first_is (All-weaker (IsPart (part_beyond width z)) (IsPart z) later_is parts q.each);
          begin = λ w at e. elim
              (first_or_later (leftmost_part width z) w parts at) [
                | inl is ↦ inr (over, sym is)
                | inr is ↦ absurd
                    (later_left w (part w is) e)
              ];
          wide = λ y w at by e.
              elim (first_or_later (leftmost_part width z) y parts at) [
                | inl is ↦ elim (first_or_later (leftmost_part width z) w parts by) [
                  | inl same ↦ absurd (no_width (leftmost_part width z) first_is.shot (ap (λ v. v.right) is ∙ e ∙ sym (ap (λ v. v.left) same)))
                  | inr same ↦ subst (λ v. AreTooWide v w) is (first_two w (q.begin w same (sym e ∙ sym (ap (λ v. v.right) is))))
                ]
                | inr is ↦ elim (first_or_later (leftmost_part width z) w parts by) [
                  | inl same ↦ absurd (later_right y (part y is) (e ∙ sym (ap (λ v. v.left) same)))
                  | inr same ↦ q.wide y w is same e
                ]
              ];
        }

  parts_of : (z : Trapezoid) → IsLow height z → ArePartsOf z (cut_by_width width z)
  parts_of = of_widths height width limits ArePartsOf one_part (λ z parts s h q. more_parts z s h parts q)

  pub part_is : (z y : Trapezoid) → IsLow height z → Contains (cut_by_width width z) y → IsPart z y
  part_is z y s at = All-contains (IsPart z) (cut_by_width width z) y (parts_of z s).each at

  -- ---- a trapezoid that is cut by height

  -- a piece of z: some of its rows, between its lines
  pub record IsPiece (z p : Trapezoid) : Type 0 where
    pub low : IsLow height p
    pub above : z.y0 ≤ℤ p.y0
    pub below : p.y1 ≤ℤ z.y1
    pub left : p.left ≡ z.left
    pub right : p.right ≡ z.right

  record ArePiecesOf (z : Trapezoid) (pieces : List Trapezoid) : Type 0 where
    each : All (IsPiece z) pieces
    named : (p q : Trapezoid) → Contains pieces p → Contains pieces q → p.y0 ≡ q.y0 → p ≡ q
    tall : (p q : Trapezoid) → Contains pieces p → Contains pieces q → p.y1 ≡ q.y0 → height <ℤ (q.y1 -ℤ p.y0)

  one_piece : (z : Trapezoid) → IsShot z → height_of z ≤ℤ height → ArePiecesOf z (z ∷ [])
  one_piece z s h = record {
    each = All-cons (IsPiece z) z []
        (record {
          low = record { shot = s; low = h };
          above = omega (arith, ints);
          below = omega (arith, ints);
          left =
              refl;
          right = refl;
        }) (All-nil (IsPiece z));
    named = λ p q at by e.
        elim (first_or_later z p [] at) [
          | inl is ↦ elim (first_or_later z q [] by) [ inl same ↦ sym is ∙ same | inr same ↦ absurd (none_in_empty q same) ]
          | inr is ↦ absurd (none_in_empty p is)
        ];
    tall = λ p q at by e.
        elim (first_or_later z p [] at) [
          | inl is ↦ elim (first_or_later z q [] by) [
            | inl same ↦ (let top = ap (λ v. v.y1) is in let bottom = ap (λ v. v.y0) same in let rows =
                s.legal.has_rows in absurd (omega (arith, ints, top, bottom, e, rows)))
            | inr same ↦ absurd (none_in_empty q same)
          ]
          | inr is ↦ absurd (none_in_empty p is)
        ];
  }

  module _ (z : Trapezoid) (s : IsShot z) (over : height <ℤ height_of z) where
    lowest_is : IsPiece z (lowest_rows height z)
    lowest_is =
        let both = inside height width limits z over in
        record { low = lowest_is_low height width limits z s over; above = omega (arith, ints); below = omega (arith, ints, both); left = refl; right = refl }

    higher_is : (p : Trapezoid) → IsPiece (rows_above height z) p → IsPiece z p
    higher_is p q = record { low = q.low; above = omega (arith, ints, q.above, limits.some_rows); below = q.below; left = q.left; right = q.right }

    more_pieces : (pieces : List Trapezoid) → ArePiecesOf (rows_above height z) pieces → ArePiecesOf z (lowest_rows height z ∷ pieces)
    more_pieces pieces r =
        let some = limits.some_rows in
        let piece : (p : Trapezoid) → Contains pieces p → IsPiece (rows_above height z) p = λ p at. All-contains
        (IsPiece (rows_above height z)) pieces p r.each at in
        record {
          each = All-cons (IsPiece z) (lowest_rows height z) pieces lowest_is (All-weaker (IsPiece (rows_above height z)) (IsPiece z) higher_is pieces r.each);
          named = λ p q at by e.
              elim (first_or_later (lowest_rows height z) p pieces at) [
                | inl is ↦ elim (first_or_later (lowest_rows height z) q pieces by) [
                  | inl same ↦ sym is ∙ same
                  | inr same ↦ (let bottom = ap (λ v. v.y0) is in let above = (piece q same).above in absurd (omega (arith, ints, bottom, above, e, some)))
                ]
                | inr is ↦ elim (first_or_later (lowest_rows height z) q pieces by) [
                  | inl same ↦ (let bottom = ap (λ v. v.y0) same in let above = (piece p is).above in absurd (omega (arith, ints, bottom, above, e, some)))
                  | inr same ↦ r.named p q is same e
                ]
              ];
          tall = λ p q at by e.
              elim (first_or_later (lowest_rows height z) p pieces at) [
                | inl is ↦ elim (first_or_later (lowest_rows height z) q pieces by) [
                  | inl same ↦ (let bottom = ap (λ v. v.y0) same in let top = ap (λ v. v.y1) is in absurd (omega (arith, ints, bottom, top, e, some)))
                  | inr same ↦ (let bottom = ap (λ v. v.y0) is in let top = ap (λ v. v.y1) is in let rows =
                      (piece q same).low.shot.legal.has_rows in omega (arith, ints, bottom, top, e, rows))
                ]
                | inr is ↦ elim (first_or_later (lowest_rows height z) q pieces by) [
                  | inl same ↦ (let bottom = ap (λ v. v.y0) same in let above = (piece p is).above in let rows =
                      (piece p is).low.shot.legal.has_rows in absurd
                      (omega (arith, ints, bottom, above, e, some, rows)))
                  | inr same ↦ r.tall p q is same e
                ]
              ];
        }

  pieces_of : (z : Trapezoid) → IsShot z → ArePiecesOf z (cut_by_height height z)
  pieces_of = of_heights height width limits ArePiecesOf one_piece (λ z pieces s h r. more_pieces z s h pieces r)

  -- ---- together

  -- a shot of a trapezoid: a part of a piece of it
  pub record IsShotOf (z y : Trapezoid) : Type 0 where
    pub piece : Trapezoid
    pub among : Contains (cut_by_height height z) piece
    pub of : IsPiece z piece
    pub at : Contains (cut_by_width width piece) y
    pub part : IsPart piece y

  pub shot_of : (z y : Trapezoid) → IsShot z → Contains (cut_list height width z) y → IsShotOf z y
  shot_of z y s at =
      let some = of_some (cut_by_width width) (cut_by_height height z) y at in
      let piece = All-contains (IsPiece z) (cut_by_height height z) some.0 (pieces_of z s).each some.1 in
      record { piece = some.0; among = some.1; of = piece; at = some.2; part = part_is some.0 y piece.low some.2 }

  pub side_by_side_wide : (z y w : Trapezoid) → IsShot z → IsShotOf z y → IsShotOf z w → y.y0 ≡ w.y0 → y.right ≡ w.left → AreTooWide y w
  side_by_side_wide z y w s p q rows e =
      let bottoms : p.piece.y0 ≡ q.piece.y0 = sym p.part.bottom ∙ rows ∙ q.part.bottom in
      let same : p.piece ≡ q.piece = (pieces_of z s).named p.piece q.piece p.among q.among bottoms in
      (parts_of p.piece p.of.low).wide y w p.at (subst (λ v. Contains (cut_by_width width v) w) (sym same) q.at) e

  pub stacked_tall : (z y w : Trapezoid) → IsShot z → IsShotOf z y → IsShotOf z w → y.y1 ≡ w.y0 → height <ℤ height_of (stacked y w)
  stacked_tall z y w s p q e =
      let ends : p.piece.y1 ≡ q.piece.y0 = sym p.part.top ∙ e ∙ q.part.bottom in
      let tall = (pieces_of z s).tall p.piece q.piece p.among q.among ends in
      omega (arith, ints, tall, p.part.bottom, q.part.top)

  -- whatever the bands and the area are
  pub none_needless : (rows : ℤ) (area : Tile → Type 0) (z : Trapezoid) → IsShot z → HasNoNeedlessCut rows height width area (cut_list height width z)
  none_needless rows area z s = record {
    upright = λ y w at by bottoms tops e. side_by_side_wide z y w s (shot_of z y s at) (shot_of z w s by) bottoms e;
    level = λ y w at by left right e band alone. stacked_tall z y w s (shot_of z y s at) (shot_of z w s by) e;
  }
