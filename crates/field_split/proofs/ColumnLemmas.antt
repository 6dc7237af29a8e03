-- The pieces of a trapezoid in some columns together: they are the joined list of its tiles there, each is a shot within
-- the trapezoid's limits, and there are at most three.
use Rattle.std.proofs.Common.{◌≡◌, ◌≢◌, ◌≤◌, ◌+◌, ℤ, pos, ◌+ℤ◌, ◌≤ℤ◌, ◌<ℤ◌, List, [], ◌∷◌, ◌++◌, arith, refl, ap, length, length-append, append-nil}
use Rattle.std.proofs.lemmas.Int.{ints, clamps, by_lt_z}
use Rattle.std.proofs.lemmas.List.Elements.{All-nil, All-cons, All-append}
use Rattle.std.specs.List.{All}
use Rattle.std.specs.Option.{option_to_list}
use mathlib.Core.Logic.{◌⊎◌, inl, inr}
use Rattle.half_grid.specs.Halves.{twice}
use Rattle.half_grid.specs.JoinedLists.{IsJoined, IsInWindow}
use Rattle.half_grid.specs.Lines.{x_on}
use Rattle.half_grid.specs.Rows.{place}
use Rattle.half_grid.specs.Trapezoids.{Trapezoid, IsInTrapezoid, IsLegal, IsShot, FitsLimits, count_in}
use Rattle.half_grid.specs.Windows.{RowRange}
use Rattle.half_grid.specs.declared.plane.Tile.{Tile}
use Rattle.half_grid.specs.declared.plane.Line.{Line}
use Rattle.half_grid.specs.declared.plane.Line.TheVariants.{Upright}
use Rattle.half_grid.proofs.ForCallers.{number_between}
use Rattle.field_split.specs.declared.parts.Rows.{Rows}
use Rattle.field_split.specs.declared.parts.Columns.{Columns}
use Rattle.field_split.specs.Cutting.{rows, turn, rows_left_of, rows_in, left_in, right_in, piece_shape, piece, first_turn, second_turn, pieces_in}
use Rattle.field_split.proofs.Turns.{lt_yes, lt_no, IsRow, turn_low, turn_high, OnOneSide, stays_left, stays_right}
use Rattle.field_split.proofs.Turns.{turned, AreRowsOf, left_rows, right_rows, lies_left, lies_right, is_left_row}
use Rattle.field_split.proofs.Turns.{is_right_row}
use Rattle.field_split.proofs.Stacks.{StandFrom, joined_one_more, joined_none, counted_in, counted_out, count_in-append}
use Rattle.field_split.proofs.PieceLemmas.{IsInColumns, IsSteady, IsBoxed, piece_legal, piece_in, in_piece, numbers_of}
use Rattle.field_split.proofs.PieceLemmas.{x_low, x_high, boxed_by_reach, boxed_by_itself, shot_of_box, width_in_box}

-- ---- the rows of the columns

pub inner_rows : (z : Trapezoid) (cols : Columns) → z.y0 ≤ℤ z.y1 → AreRowsOf (rows z.y0 z.y1) (rows_in z cols)
inner_rows z cols h =
    let one = left_rows z.left cols.x1 (rows z.y0 z.y1) h in
    let two = right_rows z.right cols.x0 (rows_left_of z.left cols.x1 (rows z.y0 z.y1)) one.order in
    record { low = omega (arith, ints, one.low, two.low); order = two.order; high = omega (arith, ints, one.high, two.high) }

left_row : (z : Trapezoid) (cols : Columns) (j : ℤ) → z.y0 ≤ℤ z.y1 → IsRow (rows_in z cols) j → IsRow (rows_left_of z.left cols.x1 (rows z.y0 z.y1)) j
left_row z cols j h r =
    let one = left_rows z.left cols.x1 (rows z.y0 z.y1) h in
    let two = right_rows z.right cols.x0 (rows_left_of z.left cols.x1 (rows z.y0 z.y1)) one.order in
    record { from = omega (arith, ints, r.from, two.low); below = omega (arith, ints, r.below, two.high) }

row_in : (z : Trapezoid) (cols : Columns) (t : Tile) → IsInColumns z cols t → IsRow (rows_in z cols) t.j
row_in z cols t h =
    let n = number_between z t h.inside in
    let c = numbers_of t cols h.from h.below in
    let one = is_left_row z.left cols.x1 (rows z.y0 z.y1) t.j (record { from = n.above_bottom; below = n.below_top }) (omega (arith, ints, n.from_left, c.1)) in
    is_right_row z.right cols.x0 (rows_left_of z.left cols.x1 (rows z.y0 z.y1)) t.j one (omega (arith, ints, n.below_right, c.0))

-- the piece of some rows, as a list of one or none
abbrev pub opt : Trapezoid → Columns → ℤ → ℤ → List Trapezoid
opt z cols p q = option_to_list (piece z cols (rows p q))

opt_some : (z : Trapezoid) (cols : Columns) (p q : ℤ) → p <ℤ q → opt z cols p q ≡ piece_shape z cols (rows p q) ∷ []
unfolding piece
opt_some z cols p q h = rw (lt_yes p q h) refl

opt_none : (z : Trapezoid) (cols : Columns) (p q : ℤ) → q ≤ℤ p → opt z cols p q ≡ []
unfolding piece
opt_none z cols p q h = rw (lt_no p q h) refl

all_opt : (P : Trapezoid → Type 0) (z : Trapezoid) (cols : Columns) (p q : ℤ) → (p <ℤ q → P (piece_shape z cols (rows p q))) → All P (opt z cols p q)
all_opt P z cols p q h =
    by_lt_z p q (λ lt. rw (opt_some z cols p q lt) (All-cons P (piece_shape z cols (rows p q)) [] (h lt) (All-nil P)))
    (λ le. rw (opt_none z cols p q le) (All-nil P))

pub opt_length : (z : Trapezoid) (cols : Columns) (p q : ℤ) → length (opt z cols p q) ≤ 1
opt_length z cols p q = by_lt_z p q (λ lt. rw (opt_some z cols p q lt) (omega arith)) (λ le. rw (opt_none z cols p q le) (omega arith))

-- it doesn't begin at q with the lines of the piece that begins at p
abbrev Differs : Trapezoid → Columns → ℤ → ℤ → Trapezoid → Type 0
Differs z cols p q y = left_in z cols p ≡ y.left → right_in z cols p ≡ y.right → q ≢ y.y0

joined_opt : (window : RowRange) (z : Trapezoid) (cols : Columns) (p q : ℤ) (rest : List Trapezoid) → (p <ℤ q → IsLegal (piece_shape z cols (rows p q)))
    → (p <ℤ q → IsInWindow window (piece_shape z cols (rows p q))) → StandFrom q rest
    → (p <ℤ q → All (Differs z cols p q) rest) → IsJoined window rest → IsJoined window (opt z cols p q ++ rest)
joined_opt window z cols p q rest legal inside above differ joined =
    by_lt_z p q
    (λ lt. rw (opt_some z cols p q lt) (joined_one_more window (piece_shape z cols (rows p q)) rest (legal lt) (inside lt) above (differ lt) joined))
    (λ le. rw (opt_none z cols p q le) joined)

later : {x y : ℤ} → x <ℤ y → x ≤ℤ y
later h = omega (arith, ints, h)

module _ (z : Trapezoid) (cols : Columns) (legal : IsLegal z) (wide : cols.x0 <ℤ cols.x1) where
  abbrev range : Rows
  range = rows_in z cols

  abbrev left_turn : ℤ
  left_turn = turn z.left cols.x0 range

  abbrev right_turn : ℤ
  right_turn = turn z.right cols.x1 range

  z_order : z.y0 ≤ℤ z.y1
  z_order = omega (arith, ints, legal.has_rows)

  in_range : AreRowsOf (rows z.y0 z.y1) range
  in_range = inner_rows z cols z_order

  left_turn_low : range.y0 ≤ℤ left_turn
  left_turn_low = turn_low z.left cols.x0 range in_range.order

  left_turn_high : left_turn ≤ℤ range.y1
  left_turn_high = turn_high z.left cols.x0 range in_range.order

  right_turn_low : range.y0 ≤ℤ right_turn
  right_turn_low = turn_low z.right cols.x1 range in_range.order

  right_turn_high : right_turn ≤ℤ range.y1
  right_turn_high = turn_high z.right cols.x1 range in_range.order

  one_side : (y p q j k : ℤ) → (q ≤ℤ y) ⊎ (y ≤ℤ p) → p ≤ℤ j → j <ℤ q → p ≤ℤ k → k <ℤ q → OnOneSide y j k
  one_side y p q j k (inl h) a b c d = record { side = inl (omega (arith, ints, h, b), omega (arith, ints, h, d)) }
  one_side y p q j k (inr h) a b c d = record { side = inr (omega (arith, ints, h, a), omega (arith, ints, h, c)) }

  steady : (p q : ℤ) → range.y0 ≤ℤ p → q ≤ℤ range.y1 → (q ≤ℤ left_turn) ⊎ (left_turn ≤ℤ p) → (q ≤ℤ right_turn) ⊎ (right_turn ≤ℤ p) → IsSteady z cols p q
  steady p q low high l r = record {
    low = omega (arith, ints, low, in_range.low);
    high = omega (arith, ints, high, in_range.high);
    left = λ j k a b c d lt. stays_left range cols.x0 j k
        (record { from = omega (arith, ints, a, low); below = omega (arith, ints, b, high) })
        (record { from = omega (arith, ints, c, low); below = omega (arith, ints, d, high) }) z.left
        (one_side left_turn p q j k l a b c d) lt;
    right = λ j k a b c d lt. stays_right range cols.x1 j k
        (record { from = omega (arith, ints, a, low); below = omega (arith, ints, b, high) })
        (record { from = omega (arith, ints, c, low); below = omega (arith, ints, d, high) }) z.right
        (one_side right_turn p q j k r a b c d) lt;
    from_left = λ j a b. lies_left z.left cols.x1 (rows z.y0 z.y1) j
        (left_row z cols j z_order
        (record { from = omega (arith, ints, a, low); below = omega (arith, ints, b, high) }));
    to_right = λ j a b. lies_right z.right cols.x0 (rows_left_of z.left cols.x1 (rows z.y0 z.y1)) j
        (record { from = omega (arith, ints, a, low); below = omega (arith, ints, b, high) });
  }

  abbrev first : ℤ
  first = first_turn z cols range

  abbrev second : ℤ
  second = second_turn z cols range

  first_low : range.y0 ≤ℤ first
  first_low = omega (arith, ints, clamps, left_turn_low, right_turn_low)

  second_high : second ≤ℤ range.y1
  second_high = omega (arith, ints, clamps, left_turn_high, right_turn_high)

  turns_order : first ≤ℤ second
  turns_order = omega (arith, ints, clamps)

  pub lower_steady : IsSteady z cols range.y0 first
  lower_steady = steady range.y0 first (omega (arith, ints)) (omega (arith, ints, turns_order, second_high))
      (inl (omega (arith, ints, clamps))) (inl (omega (arith, ints, clamps)))

  pub middle_steady : IsSteady z cols first second
  middle_steady =
      by_lt_z left_turn right_turn
      (λ lt. steady first second first_low second_high (inr (omega (arith, ints, clamps, lt))) (inl (omega (arith, ints, clamps, lt))))
      (λ le. steady first second first_low second_high (inl (omega (arith, ints, clamps, le))) (inr (omega (arith, ints, clamps, le))))

  pub upper_steady : IsSteady z cols second range.y1
  upper_steady = steady second range.y1 (omega (arith, ints, first_low, turns_order)) (omega (arith, ints))
      (inr (omega (arith, ints, clamps))) (inr (omega (arith, ints, clamps)))

  -- ---- touching pieces differ

  left_differs : (p r : ℤ) → range.y0 ≤ℤ p → p <ℤ left_turn → left_turn ≤ℤ r → r <ℤ range.y1 → left_in z cols p ≡ left_in z cols r → ⊥
  left_differs p r a b c d e =
      let hp : IsRow range p = record { from = a; below = omega (arith, ints, b, c, d) } in
      let hr : IsRow range r = record { from = omega (arith, ints, a, b, c); below = d } in
      let same : place (left_in z cols p) p ≡ place (left_in z cols r) p = ap (λ (l : Line). place l p) e in
      elim (turned range cols.x0 p r hp hr z.left b c) [
        | inl s ↦ (let here : place (Upright cols.x0) p ≡ place z.left p = rw (lt_yes _ _ s.0, lt_no _ _ (later s.1)) at same in omega (arith, ints, here, s.0))
        | inr s ↦ (let here : place z.left p ≡ place (Upright cols.x0) p = rw (lt_no _ _ (later s.0), lt_yes _ _ s.1) at same in omega (arith, ints, here, s.0))
      ]

  right_differs : (p r : ℤ) → range.y0 ≤ℤ p → p <ℤ right_turn → right_turn ≤ℤ r → r <ℤ range.y1 → right_in z cols p ≡ right_in z cols r → ⊥
  right_differs p r a b c d e =
      let hp : IsRow range p = record { from = a; below = omega (arith, ints, b, c, d) } in
      let hr : IsRow range r = record { from = omega (arith, ints, a, b, c); below = d } in
      let same : place (right_in z cols p) p ≡ place (right_in z cols r) p = ap (λ (l : Line). place l p) e in
      elim (turned range cols.x1 p r hp hr z.right b c) [
        | inl s ↦ (let here : place z.right p ≡ place (Upright cols.x1) p = rw
            (lt_no _ _ (later s.0), lt_yes _ _ s.1) at same in omega (arith, ints, here, s.0))
        | inr s ↦ (let here : place (Upright cols.x1) p ≡ place z.right p = rw
            (lt_yes _ _ s.0, lt_no _ _ (later s.1)) at same in omega (arith, ints, here, s.0))
      ]

  -- the Y at which two pieces touch is a turn
  differ_at : (p q r : ℤ) → (q ≡ left_turn) ⊎ (q ≡ right_turn) → range.y0 ≤ℤ p → p <ℤ q → r <ℤ range.y1
      → left_in z cols p ≡ left_in z cols r → right_in z cols p ≡ right_in z cols r → q ≢ r
  differ_at p q r (inl e) a b c el er = λ same. left_differs p r a (omega (arith, ints, b, e)) (omega (arith, ints, e, same)) c el
  differ_at p q r (inr e) a b c el er = λ same. right_differs p r a (omega (arith, ints, b, e)) (omega (arith, ints, e, same)) c er

  first_is : (first ≡ left_turn) ⊎ (first ≡ right_turn)
  first_is = by_lt_z left_turn right_turn (λ lt. inl (omega (arith, ints, clamps, lt))) (λ le. inr (omega (arith, ints, clamps, le)))

  second_is : (second ≡ left_turn) ⊎ (second ≡ right_turn)
  second_is = by_lt_z left_turn right_turn (λ lt. inr (omega (arith, ints, clamps, lt))) (λ le. inl (omega (arith, ints, clamps, le)))

  -- ---- the joined list

  lower_legal : range.y0 <ℤ first → IsLegal (piece_shape z cols (rows range.y0 first))
  lower_legal lt = piece_legal z cols legal wide range.y0 first lower_steady lt

  middle_legal : first <ℤ second → IsLegal (piece_shape z cols (rows first second))
  middle_legal lt = piece_legal z cols legal wide first second middle_steady lt

  upper_legal : second <ℤ range.y1 → IsLegal (piece_shape z cols (rows second range.y1))
  upper_legal lt = piece_legal z cols legal wide second range.y1 upper_steady lt

  abbrev upper : List Trapezoid
  upper = opt z cols second range.y1

  abbrev middle : List Trapezoid
  middle = opt z cols first second

  module _ (window : RowRange) (low : window.y0 ≤ℤ z.y0) (high : z.y1 ≤ℤ window.y1) where
    inside : (p q : ℤ) → range.y0 ≤ℤ p → q ≤ℤ range.y1 → IsInWindow window (piece_shape z cols (rows p q))
    inside p q a b = record { low = omega (arith, ints, a, low, in_range.low); high = omega (arith, ints, b, high, in_range.high) }

    joined_upper : IsJoined window (upper ++ [])
    joined_upper =
        joined_opt window z cols second range.y1 [] upper_legal
        (λ lt. inside second range.y1 (omega (arith, ints, first_low, turns_order)) (omega (arith, ints)))
        (All-nil (λ (y : Trapezoid). range.y1 ≤ℤ y.y0)) (λ lt. All-nil _) (joined_none window)

    joined_middle : IsJoined window (middle ++ (upper ++ []))
    joined_middle =
        joined_opt window z cols first second (upper ++ []) middle_legal (λ lt. inside first second first_low second_high)
        (All-append (λ (y : Trapezoid). second ≤ℤ y.y0) upper []
        (all_opt (λ (y : Trapezoid). second ≤ℤ y.y0) z cols second range.y1 (λ lt. omega (arith, ints)))
        (All-nil _))
        (λ lt. All-append (Differs z cols first second) upper []
        (all_opt (Differs z cols first second) z cols second range.y1
        (λ some el er. differ_at first second second second_is first_low lt some el er)) (All-nil _))
        joined_upper

    joined_lower : IsJoined window (opt z cols range.y0 first ++ (middle ++ (upper ++ [])))
    joined_lower =
        joined_opt window z cols range.y0 first (middle ++ (upper ++ [])) lower_legal
        (λ lt. inside range.y0 first (omega (arith, ints)) (omega (arith, ints, turns_order, second_high)))
        (All-append (λ (y : Trapezoid). first ≤ℤ y.y0) middle (upper ++ [])
        (all_opt (λ (y : Trapezoid). first ≤ℤ y.y0) z cols first second (λ lt. omega (arith, ints)))
        (All-append (λ (y : Trapezoid). first ≤ℤ y.y0) upper []
        (all_opt (λ (y : Trapezoid). first ≤ℤ y.y0) z cols second range.y1
        (λ lt. omega (arith, ints, turns_order))) (All-nil _)))
        (λ lt. All-append (Differs z cols range.y0 first) middle (upper ++ [])
        (all_opt (Differs z cols range.y0 first) z cols first second
        (λ some el er. differ_at range.y0 first first first_is (omega (arith, ints)) lt
        (omega (arith, ints, some, second_high)) el er))
        (All-append (Differs z cols range.y0 first) upper []
        (all_opt (Differs z cols range.y0 first) z cols second range.y1
        (λ some el er. differ_at range.y0 first second first_is (omega (arith, ints)) lt some el er)) (All-nil _)))
        joined_middle

    pub pieces_joined : IsJoined window (pieces_in z cols)
    unfolding pieces_in
    pieces_joined = simp append-nil at joined_lower

  -- ---- the tiles

  opt_out : (p q : ℤ) (t : Tile) → (p <ℤ q → IsInTrapezoid (piece_shape z cols (rows p q)) t → ⊥) → count_in (opt z cols p q) t ≡ 0
  opt_out p q t h =
      by_lt_z p q
      (λ lt. rw (opt_some z cols p q lt) (let none = counted_out t (piece_shape z cols (rows p q)) [] (h lt) in omega (arith, none)))
      (λ le. rw (opt_none z cols p q le) (omega arith))

  opt_in : (p q : ℤ) (t : Tile) → IsSteady z cols p q → p ≤ℤ t.j → t.j <ℤ q → IsInColumns z cols t → count_in (opt z cols p q) t ≡ 1
  opt_in p q t s a b h =
      let lt : p <ℤ q = omega (arith, ints, a, b) in
      rw (opt_some z cols p q lt)
      (let one = counted_in t (piece_shape z cols (rows p q)) [] (in_piece z cols legal wide p q s lt t a b h) in
      omega (arith, one))

  pieces_counted : (t : Tile) → count_in (pieces_in z cols) t ≡ count_in (opt z cols range.y0 first) t + (count_in middle t + count_in upper t)
  unfolding pieces_in
  pieces_counted t = omega (arith, count_in-append (opt z cols range.y0 first) (middle ++ upper) t, count_in-append middle upper t)

  pub pieces_once : (t : Tile) → IsInColumns z cols t → count_in (pieces_in z cols) t ≡ 1
  pieces_once t h =
      let r = row_in z cols t h in
      let all = pieces_counted t in
      by_lt_z t.j first
      (λ low. (let one = opt_in range.y0 first t lower_steady r.from low h in
      let two = opt_out first second t (λ lt i. omega (arith, ints, low, i.above_bottom)) in
      let three = opt_out second range.y1 t (λ lt i. omega (arith, ints, low, i.above_bottom, turns_order)) in
      omega (arith, all, one, two, three)))
      (λ from. by_lt_z t.j second
      (λ low. (let one = opt_out range.y0 first t (λ lt i. omega (arith, ints, from, i.below_top)) in
      let two = opt_in first second t middle_steady from low h in
      let three = opt_out second range.y1 t (λ lt i. omega (arith, ints, low, i.above_bottom)) in
      omega (arith, all, one, two, three)))
      (λ high. (let one = opt_out range.y0 first t (λ lt i. omega (arith, ints, from, i.below_top)) in
      let two = opt_out first second t (λ lt i. omega (arith, ints, high, i.below_top)) in
      let three = opt_in second range.y1 t upper_steady high r.below h in
      omega (arith, all, one, two, three))))

  pub pieces_never : (t : Tile) → (IsInColumns z cols t → ⊥) → count_in (pieces_in z cols) t ≡ 0
  pieces_never t h =
      let one = opt_out range.y0 first t (λ lt i. h (piece_in z cols legal wide range.y0 first lower_steady lt t i)) in
      let two = opt_out first second t (λ lt i. h (piece_in z cols legal wide first second middle_steady lt t i)) in
      let three = opt_out second range.y1 t (λ lt i. h (piece_in z cols legal wide second range.y1 upper_steady lt t i)) in
      omega (arith, pieces_counted t, one, two, three)

  pub pieces_few : length (pieces_in z cols) ≤ 3
  unfolding pieces_in
  pieces_few =
      omega (
        arith,
        length-append (opt z cols range.y0 first)
            (middle ++ upper),
        length-append middle upper,
        opt_length z cols range.y0 first,
        opt_length z cols first
            second,
        opt_length z cols second range.y1,
      )

  -- ---- the corners

  corner_left : (low high : ℤ) → IsBoxed z low high → (p y : ℤ) → z.y0 ≤ℤ p → p <ℤ z.y1 → z.y0 ≤ℤ y → y ≤ℤ z.y1 → twice cols.x0 <ℤ place z.right p
      → (low ≤ℤ x_on (left_in z cols p) y) × (x_on (left_in z cols p) y ≤ℤ high)
  corner_left low high b p y a c d e lt =
      by_lt_z (place z.left p) (twice cols.x0)
      (λ less. rw (lt_yes _ _ less) (
      let at = x_low z.left z.y0 p z.y1 low a (omega (arith, ints, c)) b.bottom_left b.top_left in
      let next = x_low z.left z.y0 (p +ℤ pos 1) z.y1 low (omega (arith, ints, a)) (omega (arith, ints, c)) b.bottom_left b.top_left in
      let far = x_high z.right z.y0 p z.y1 high a (omega (arith, ints, c)) b.bottom_right b.top_right in
      let further = x_high z.right z.y0 (p +ℤ pos 1) z.y1 high (omega (arith, ints, a)) (omega (arith, ints, c)) b.bottom_right b.top_right in
      (omega (arith, ints, less, at, next), omega (arith, ints, lt, far, further))))
      (λ more. rw (lt_no _ _ more) (x_low z.left z.y0 y z.y1 low d e b.bottom_left b.top_left, x_high z.left z.y0 y z.y1 high d e b.left_bottom b.left_top))

  corner_right : (low high : ℤ) → IsBoxed z low high → (p y : ℤ) → z.y0 ≤ℤ p → p <ℤ z.y1 → z.y0 ≤ℤ y → y ≤ℤ z.y1 → place z.left p <ℤ twice cols.x1
      → (low ≤ℤ x_on (right_in z cols p) y) × (x_on (right_in z cols p) y ≤ℤ high)
  corner_right low high b p y a c d e lt =
      by_lt_z (twice cols.x1) (place z.right p)
      (λ more. rw (lt_yes _ _ more) (
      let at = x_low z.left z.y0 p z.y1 low a (omega (arith, ints, c)) b.bottom_left b.top_left in
      let next = x_low z.left z.y0 (p +ℤ pos 1) z.y1 low (omega (arith, ints, a)) (omega (arith, ints, c)) b.bottom_left b.top_left in
      let far = x_high z.right z.y0 p z.y1 high a (omega (arith, ints, c)) b.bottom_right b.top_right in
      let further = x_high z.right z.y0 (p +ℤ pos 1) z.y1 high (omega (arith, ints, a)) (omega (arith, ints, c)) b.bottom_right b.top_right in
      (omega (arith, ints, lt, at, next), omega (arith, ints, more, far, further))))
      (λ less. rw (lt_no _ _ less) (
        x_low z.right z.y0 y z.y1 low d e b.right_bottom b.right_top,
        x_high z.right z.y0 y z.y1 high d e
            b.bottom_right b.top_right,
      ))

  pub piece_boxed : (low high : ℤ) → IsBoxed z low high → (p q : ℤ) → IsSteady z cols p q → p <ℤ q → IsBoxed (piece_shape z cols (rows p q)) low high
  piece_boxed low high b p q s lt =
      let below : p <ℤ z.y1 = omega (arith, ints, s.high, lt) in
      let over : z.y0 ≤ℤ q = omega (arith, ints, s.low, lt) in
      let same : p ≤ℤ p = omega (arith, ints) in
      let left0 = corner_left low high b p p s.low below s.low (omega (arith, ints, below)) (s.to_right p same lt) in
      let left1 = corner_left low high b p q s.low below over s.high (s.to_right p same lt) in
      let right0 = corner_right low high b p p s.low below s.low (omega (arith, ints, below)) (s.from_left p same lt) in
      let right1 = corner_right low high b p q s.low below over s.high (s.from_left p same lt) in
      record {
        bottom_left = left0.0;
        top_left = left1.0;
        left_bottom = left0.1;
        left_top = left1.1;
        right_bottom = right0.0;
        right_top = right1.0;
        bottom_right = right0.1;
        top_right = right1.1;
      }

  pub piece_shot : IsShot z → (p q : ℤ) → IsSteady z cols p q → p <ℤ q → IsShot (piece_shape z cols (rows p q))
  piece_shot shot p q s lt =
      let r = shot.reach in
      shot_of_box (piece_shape z cols (rows p q)) (piece_legal z cols legal wide p q s lt)
      (record { low = omega (arith, ints, s.low, r.y0.low); high = omega (arith, ints, s.high, lt, r.y1.high) })
      (record { low = omega (arith, ints, s.low, lt, r.y0.low); high = omega (arith, ints, s.high, r.y1.high) })
      (piece_boxed _ _ (boxed_by_reach z shot) p q s lt)

  pub piece_fits : (height width : ℤ) → FitsLimits height width z → (p q : ℤ) → IsSteady z cols p q → p <ℤ q
      → FitsLimits height width (piece_shape z cols (rows p q))
  piece_fits height width f p q s lt =
      let wide = width_in_box (piece_shape z cols (rows p q)) _ _ (piece_boxed _ _ (boxed_by_itself z legal) p q s lt) in
      let most = f.not_too_wide in
      record { not_too_high = omega (arith, ints, s.low, s.high, f.not_too_high); not_too_wide = omega (arith, ints, wide, most) }

  -- what holds of each piece
  pub all_pieces : (P : Trapezoid → Type 0) → ((p q : ℤ) → IsSteady z cols p q → p <ℤ q → P (piece_shape z cols (rows p q))) → All P (pieces_in z cols)
  unfolding pieces_in
  all_pieces P h =
      All-append P (opt z cols range.y0 first) (middle ++ upper) (all_opt P z cols range.y0 first (λ lt. h range.y0 first lower_steady lt))
      (All-append P middle upper (all_opt P z cols first second (λ lt. h first second middle_steady lt))
      (all_opt P z cols second range.y1 (λ lt. h second range.y1 upper_steady lt)))
