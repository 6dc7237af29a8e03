-- The ways up along an outline: what each edge of them winds, and each stretch.
use Rattle.std.proofs.Common.{◌≡◌, ◌<◌, ◌≤◌, ◌+◌, ℕ, zero, suc, length, ℤ, pos, ◌+ℤ◌, ◌≤ℤ◌, ◌<ℤ◌, neg_ℤ, arith}
use Rattle.std.proofs.Common.{true, false, ◌&&◌, int_le, int_lt, refl, ap, sym, ◌∙◌, subst, List, [], ◌∷◌}
use Rattle.std.proofs.lemmas.Int.{ints, by_lt_z}
use Rattle.half_grid.specs.Lines.{Passes}
use Rattle.half_grid.specs.Winding.{crossing_of}
use Rattle.half_grid.specs.declared.plane.Line.{Line}
use Rattle.half_grid.specs.declared.plane.Point.{Point}
use Rattle.half_grid.specs.declared.plane.Tile.{Tile}
use Rattle.half_grid.proofs.ForCallers.{winding-cons, line_is, le_yes, le_no}
use Rattle.bool_ops.specs.Monotone.{point_of, winding_after, stretch, IsLevel, IsAlong, IsAscent, IsWayFrom}
use Rattle.bool_ops.specs.declared.ascents.Ascent.{Ascent}
use Rattle.bool_ops.proofs.LoneLemmas.{no_row, level, side_up, side_down}

-- ---- stretches

pub no_stretch : (t : Tile) (line : Line) (y : ℤ) → stretch t line y y ≡ pos 0
no_stretch t line y = rw (no_row t y) refl

pub stretch_over : (t : Tile) (line : Line) (y0 y1 : ℤ) → t.j <ℤ y0 → stretch t line y0 y1 ≡ pos 0
stretch_over t line y0 y1 h = rw (le_no y0 t.j h) refl

pub stretch_under : (t : Tile) (line : Line) (y0 y1 : ℤ) → y1 ≤ℤ t.j → stretch t line y0 y1 ≡ pos 0
stretch_under t line y0 y1 h = let above : (int_le y0 t.j && int_lt t.j y1) ≡ false = grind (arith, ints) in rw above refl

lt_yes : (x y : ℤ) → x <ℤ y → int_lt x y ≡ true
lt_yes x y h = grind (arith, ints)

stretch_low : (t : Tile) (line : Line) (y0 y1 y2 : ℤ) → t.j <ℤ y1 → y1 ≤ℤ y2 → stretch t line y0 y1 ≡ stretch t line y0 y2
stretch_low t line y0 y1 y2 h k = rw (lt_yes t.j y1 h, lt_yes t.j y2 (omega (arith, ints, h, k))) refl

stretch_high : (t : Tile) (line : Line) (y0 y1 y2 : ℤ) → y1 ≤ℤ t.j → y0 ≤ℤ y1 → stretch t line y1 y2 ≡ stretch t line y0 y2
stretch_high t line y0 y1 y2 h k = rw (le_yes y1 t.j h, le_yes y0 t.j (omega (arith, ints, h, k))) refl

pub stretches : (t : Tile) (line : Line) (y0 y1 y2 : ℤ) → y0 ≤ℤ y1 → y1 ≤ℤ y2 → stretch t line y0 y2 ≡ stretch t line y0 y1 +ℤ stretch t line y1 y2
stretches t line y0 y1 y2 low high =
    by_lt_z t.j y1
    (λ lt. omega (arith, ints, stretch_low t line y0 y1 y2 lt high, stretch_over t line y1 y2 lt))
    (λ ge. omega (arith, ints, stretch_high t line y0 y1 y2 ge low, stretch_under t line y0 y1 ge))

-- ---- edges

edge_up : (t : Tile) (a b : Point) (line : Line) → Passes line a → Passes line b → a.y ≤ℤ b.y → crossing_of t a b ≡ stretch t line a.y b.y
edge_up t a b line pa pb h =
    by_lt_z a.y b.y
    (λ lt. side_up t a b line (line_is a b line pa pb (λ e. absurd (omega (arith, ints, lt, e)))) lt)
    (λ ge. (let same : a.y ≡ b.y = omega (arith, ints, h, ge) in
    level t a b same ∙ sym (rw (← same) (no_stretch t line a.y))))

edge_down : (t : Tile) (a b : Point) (line : Line) → Passes line a → Passes line b → a.y ≤ℤ b.y → crossing_of t b a ≡ neg_ℤ (stretch t line a.y b.y)
edge_down t a b line pa pb h =
    by_lt_z a.y b.y
    (λ lt. side_down t b a line (line_is b a line pb pa (λ e. absurd (omega (arith, ints, lt, e)))) lt)
    (λ ge. (let same : a.y ≡ b.y = omega (arith, ints, h, ge) in
    level t b a (sym same) ∙ sym (rw (← same) (rw (no_stretch t line a.y) refl))))

-- ---- the edges from one point on

edge_from : (ring : List Point) (k : ℕ) (t : Tile) → suc k < length ring
    → winding_after ring k t ≡ crossing_of t (point_of ring k) (point_of ring (suc k)) +ℤ winding_after ring (suc k) t
edge_from [] k t h = absurd (omega (arith, h))
edge_from (a ∷ []) k t h = absurd (omega (arith, h))
edge_from (a ∷ b ∷ points) zero t h = winding-cons t a b points
edge_from (a ∷ b ∷ points) (suc k) t h = edge_from (b ∷ points) k t (omega (arith, h))

next_edge : (ring : List Point) (k : ℕ) (t : Tile) → k + 1 < length ring
    → winding_after ring k t ≡ crossing_of t (point_of ring k) (point_of ring (k + 1)) +ℤ winding_after ring (k + 1) t
next_edge ring k t h = let e : k + 1 ≡ suc k = omega arith in rw e (edge_from ring k t (omega (arith, h)))

-- ---- points on one line

pub along_none : (ring : List Point) (line : Line) (k : ℕ) → Passes line (point_of ring k) → IsAlong ring line k k
along_none ring line k p = record {
  passes = p;
  up = omega (arith, ints);
  winds = λ t. omega (arith, ints, no_stretch t line (point_of ring k).y);
}

along_edge : (ring : List Point) (line : Line) (k : ℕ) → k + 1 < length ring → Passes line (point_of ring k) → Passes line (point_of ring (k + 1))
    → (point_of ring k).y ≤ℤ (point_of ring (k + 1)).y → IsAlong ring line k (k + 1)
along_edge ring line k within p q up = record {
  passes = q;
  up = up;
  winds = λ t. omega (arith, ints, next_edge ring k t within, edge_up t (point_of ring k) (point_of ring (k + 1)) line p q up);
}

along_edge_back : (ring : List Point) (line : Line) (k : ℕ) → k + 1 < length ring → Passes line (point_of ring (k + 1)) → Passes line (point_of ring k)
    → (point_of ring (k + 1)).y ≤ℤ (point_of ring k).y → IsAlong ring line (k + 1) k
along_edge_back ring line k within p q up = record {
  passes = q;
  up = up;
  winds = λ t. omega (arith, ints, next_edge ring k t within, edge_down t (point_of ring (k + 1)) (point_of ring k) line p q up);
}

pub along_join : (ring : List Point) (line : Line) (i j k : ℕ) → IsAlong ring line i j → IsAlong ring line j k → IsAlong ring line i k
along_join ring line i j k first second = record {
  passes = second.passes;
  up = omega (arith, ints, first.up, second.up);
  winds = λ t. omega (
    arith,
    ints,
    first.winds t,
    second.winds t,
    stretches t line (point_of ring i).y (point_of ring j).y (point_of ring k).y first.up second.up,
  );
}

pub along_on : (ring : List Point) (line : Line) (i k : ℕ) → IsAlong ring line i k → k + 1 < length ring → Passes line (point_of ring (k + 1))
    → (point_of ring k).y ≤ℤ (point_of ring (k + 1)).y → IsAlong ring line i (k + 1)
along_on ring line i k so within q up = along_join ring line i k (k + 1) so (along_edge ring line k within so.passes q up)

pub along_on_back : (ring : List Point) (line : Line) (i k : ℕ) → IsAlong ring line i (k + 1) → k + 1 < length ring → Passes line (point_of ring k)
    → (point_of ring (k + 1)).y ≤ℤ (point_of ring k).y → IsAlong ring line i k
along_on_back ring line i k so within q up = along_join ring line i (k + 1) k so (along_edge_back ring line k within so.passes q up)

-- ---- points at one Y

pub level_none : (ring : List Point) (k : ℕ) → IsLevel ring k k
level_none ring k = record { row = refl; winds = λ t. refl }

pub level_on : (ring : List Point) (i k : ℕ) → IsLevel ring i k → k + 1 < length ring → (point_of ring (k + 1)).y ≡ (point_of ring i).y → IsLevel ring i (k + 1)
level_on ring i k so within e = record {
  row = e;
  winds = λ t. omega (arith, ints, so.winds t, next_edge ring k t within, level t (point_of ring k) (point_of ring (k + 1)) (so.row ∙ sym e));
}

pub level_on_back : (ring : List Point) (i k : ℕ) → IsLevel ring i (k + 1) → k + 1 < length ring → (point_of ring k).y ≡ (point_of ring i).y → IsLevel ring i k
level_on_back ring i k so within e = record {
  row = e;
  winds = λ t. omega (arith, ints, so.winds t, next_edge ring k t within, level t (point_of ring k) (point_of ring (k + 1)) (e ∙ sym so.row));
}

-- ---- ways up

pub ascent_by : (ring : List Point) (i k : ℕ) (a : Ascent) → IsAlong ring a.line i k → IsLevel ring k a.at → (point_of ring i).y <ℤ (point_of ring k).y
    → a.top ≡ (point_of ring k).y → IsAscent ring i a
ascent_by ring i k a along so rows e = record {
  top = e ∙ sym so.row;
  rows = rw e rows;
  winds = λ t. rw e (omega (arith, ints, along.winds t, so.winds t));
}

pub way_stays : (ring : List Point) (y : ℤ) (a : Ascent) → a.top ≡ (point_of ring a.at).y → y <ℤ a.top → IsWayFrom ring y a a
way_stays ring y a top rows = record { top = top; rows = rows; winds = λ t. refl }

pub way_next : (ring : List Point) (y : ℤ) (a b : Ascent) → a.top ≡ (point_of ring a.at).y → y ≡ a.top → IsAscent ring a.at b → IsWayFrom ring y a b
way_next ring y a b top e up =
    let low : y ≡ (point_of ring a.at).y = e ∙ top in
    record {
      top = up.top;
      rows = rw low up.rows;
      winds = λ t. rw (← e) (omega (arith, ints, no_stretch t a.line y, ap (λ z. stretch t b.line z b.top) low, up.winds t));
    }

-- ---- as the code has it: by the points that were looked at

pub along_step : (ring : List Point) (line : Line) (i k : ℕ) (here next : Point) → IsAlong ring line i k → k + 1 < length ring
    → here ≡ point_of ring k → next ≡ point_of ring (k + 1) → Passes line next → here.y ≤ℤ next.y → IsAlong ring line i (k + 1)
along_step ring line i k here next so within e f q up =
    along_on ring line i k so within (subst (Passes line) f q)
    (subst (λ (p : Point). p.y ≤ℤ (point_of ring (k + 1)).y) e (subst (λ (p : Point). here.y ≤ℤ p.y) f up))

pub along_step_back : (ring : List Point) (line : Line) (i k j : ℕ) (here next : Point) → j + 1 ≡ k → IsAlong ring line i k → k < length ring
    → here ≡ point_of ring k → next ≡ point_of ring j → Passes line next → here.y ≤ℤ next.y → IsAlong ring line i j
along_step_back ring line i k j here next same so within e f q up =
    along_on_back ring line i j (subst (IsAlong ring line i) (sym same) so) (omega (arith, same, within)) (subst (Passes line) f q)
    (subst (λ (p : Point). p.y ≤ℤ (point_of ring j).y) (e ∙ ap (point_of ring) (sym same)) (subst (λ (p : Point). here.y ≤ℤ p.y) f up))

pub level_step : (ring : List Point) (i k : ℕ) (first next : Point) → IsLevel ring i k → k + 1 < length ring
    → first ≡ point_of ring i → next ≡ point_of ring (k + 1) → next.y ≡ first.y → IsLevel ring i (k + 1)
level_step ring i k first next so within e f same =
    level_on ring i k so within (ap (λ (p : Point). p.y) (sym f) ∙ same ∙ ap (λ (p : Point). p.y) e)

pub level_step_back : (ring : List Point) (i k j : ℕ) (first next : Point) → j + 1 ≡ k → IsLevel ring i k → k < length ring
    → first ≡ point_of ring i → next ≡ point_of ring j → next.y ≡ first.y → IsLevel ring i j
level_step_back ring i k j first next same so within e f y =
    level_on_back ring i j (subst (IsLevel ring i) (sym same) so) (omega (arith, same, within))
    (ap (λ (p : Point). p.y) (sym f) ∙ y ∙ ap (λ (p : Point). p.y) e)

pub ascent_is : (ring : List Point) (i end : ℕ) (a : Ascent) (low next : Point) → i + 1 < length ring → low ≡ point_of ring i → next ≡ point_of ring (i + 1)
    → Passes a.line low → Passes a.line next → low.y <ℤ next.y → IsAlong ring a.line (i + 1) end → IsLevel ring end a.at → a.top ≡ (point_of ring end).y
    → IsAscent ring i a
ascent_is ring i end a low next within e f p q up along so top =
    let higher : (point_of ring i).y <ℤ (point_of ring (i + 1)).y
    = subst (λ (x : Point). x.y <ℤ (point_of ring (i + 1)).y) e (subst (λ (x : Point). low.y <ℤ x.y) f up) in
    let first = along_edge ring a.line i within (subst (Passes a.line) e p) (subst (Passes a.line) f q) (omega (arith, ints, higher)) in
    ascent_by ring i end a (along_join ring a.line i (i + 1) end first along) so (omega (arith, ints, higher, along.up)) top

pub ascent_back_is : (ring : List Point) (i j end : ℕ) (a : Ascent) (low next : Point) → j + 1 ≡ i → i < length ring → low ≡ point_of ring i
    → next ≡ point_of ring j → Passes a.line low → Passes a.line next → low.y <ℤ next.y → IsAlong ring a.line j end → IsLevel ring end a.at
    → a.top ≡ (point_of ring end).y
    → IsAscent ring i a
ascent_back_is ring i j end a low next same within e f p q up along so top =
    let higher : (point_of ring i).y <ℤ (point_of ring j).y
    = subst (λ (x : Point). x.y <ℤ (point_of ring j).y) e (subst (λ (x : Point). low.y <ℤ x.y) f up) in
    let first = along_step_back ring a.line i i j low next same (along_none ring a.line i (subst (Passes a.line) e p)) within e f q (omega (arith, ints, up)) in
    ascent_by ring i end a (along_join ring a.line i j end first along) so (omega (arith, ints, higher, along.up)) top
