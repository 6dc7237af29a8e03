-- The three pieces as they are computed: from the rows in the columns, and from where both sides turn.
use Rattle.std.proofs.Common.{◌≡◌, ℤ, pos, ◌+ℤ◌, ◌*ℤ◌, ◌<ℤ◌, Option, refl, sym, ap, subst}
use Rattle.std.specs.Int.{int_min, int_max}
use Rattle.half_grid.specs.Trapezoids.{Trapezoid, trapezoid, IsShot}
use Rattle.half_grid.specs.declared.plane.Line.{Line}
use Rattle.field_split.specs.declared.parts.Rows.{Rows}
use Rattle.field_split.specs.declared.parts.Columns.{Columns}
use Rattle.field_split.specs.Cutting.{AreColumns, rows, turn, rows_in, in_stripe, piece_shape, piece, lower_piece, middle_piece, upper_piece}
use Rattle.field_split.proofs.FieldLemmas.{part_shot}
use Rattle.field_split.proofs.ColumnLemmas.{piece_shot, lower_steady, middle_steady, upper_steady}

module _ (z : Trapezoid) (cols : Columns) (range : Rows) (a b f s : ℤ) (shot : IsShot z) (c : AreColumns cols) (er : range ≡ rows_in z cols)
    (ea : a ≡ turn z.left cols.x0 range) (eb : b ≡ turn z.right cols.x1 range) (ef : f ≡ int_min a b) (es : s ≡ int_max a b) where
  pub lower_shot : range.y0 <ℤ f → IsShot (piece_shape z cols (rows range.y0 f))
  lower_shot lt =
      let some = rw (ef, ea, eb, er) at lt in
      rw (ef, ea, eb, er) (piece_shot z cols shot.legal c.some shot _ _ (lower_steady z cols shot.legal c.some) some)

  pub middle_shot : f <ℤ s → IsShot (piece_shape z cols (rows f s))
  middle_shot lt =
      let some = rw (ef, es, ea, eb, er) at lt in
      rw (ef, es, ea, eb, er) (piece_shot z cols shot.legal c.some shot _ _ (middle_steady z cols shot.legal c.some) some)

  pub upper_shot : s <ℤ range.y1 → IsShot (piece_shape z cols (rows s range.y1))
  upper_shot lt =
      let some = rw (es, ea, eb, er) at lt in
      rw (es, ea, eb, er) (piece_shot z cols shot.legal c.some shot _ _ (upper_steady z cols shot.legal c.some) some)

  pub lower_is : {given : Option Trapezoid} → given ≡ piece z cols (rows range.y0 f) → given ≡ lower_piece z cols (rows_in z cols)
  lower_is e = rw (e, ef, ea, eb, er) refl

  pub middle_is : {given : Option Trapezoid} → given ≡ piece z cols (rows f s) → given ≡ middle_piece z cols (rows_in z cols)
  middle_is e = rw (e, ef, es, ea, eb, er) refl

  pub upper_is : {given : Option Trapezoid} → given ≡ piece z cols (rows s range.y1) → given ≡ upper_piece z cols (rows_in z cols)
  upper_is e = rw (e, es, ea, eb, er) refl

-- a shot's rows in a stripe, as they are computed
pub rows_taken : (size k : ℤ) (z : Trapezoid) (range : Rows) (y0 y1 low high : ℤ) (left right : Line)
    → range ≡ rows (k *ℤ size) ((k +ℤ pos 1) *ℤ size) → y0 ≡ z.y0 → y1 ≡ z.y1 → left ≡ z.left → right ≡ z.right
    → low ≡ int_max y0 range.y0 → high ≡ int_min y1 range.y1 → (trapezoid low high left right ≡ in_stripe size k z)
    × (IsShot z → low <ℤ high → IsShot (trapezoid low high left right))
rows_taken size k z range y0 y1 low high left right er e0 e1 el eh a b =
    let is : trapezoid low high left right ≡ in_stripe size k z = rw (a, b, e0, e1, er, el, eh) refl in
    let first : low ≡ (in_stripe size k z).y0 = ap (λ (w : Trapezoid). w.y0) is in
    let last : high ≡ (in_stripe size k z).y1 = ap (λ (w : Trapezoid). w.y1) is in
    (is, λ shot some. subst IsShot (sym is) (part_shot size k z shot (rw (first, last) at some)))
