-- From windings on both sides of an upright line to the area of a column.
use Rattle.std.proofs.Common.{◌≡◌, ◌^◌, ◌+◌, ℤ, pos, negsuc, ◌+ℤ◌, ◌≤ℤ◌, ◌<ℤ◌, Bool, arith, sym, ◌∙◌, subst, List, ◌++◌}
use Rattle.std.proofs.lemmas.Int.{ints, by_lt_z, clamps}
use Rattle.std.proofs.lemmas.List.Elements.{All-weaker}
use Rattle.std.specs.List.{All}
use Rattle.std.specs.Prelude.{IsPermutation}
use Rattle.half_grid.specs.Edges.{EdgeParts, IsEdge, edges_winding}
use Rattle.half_grid.specs.Lines.{x_on}
use Rattle.half_grid.specs.Trapezoids.{Trapezoid}
use Rattle.half_grid.specs.Windows.{RowRange}
use Rattle.half_grid.specs.declared.plane.Tile.{Tile}
use Rattle.half_grid.specs.declared.plane.Line.{Line}
use Rattle.half_grid.specs.declared.plane.Line.TheVariants.{Upright, Rising, Falling}
use Rattle.half_grid.specs.declared.border.Operand.{Operand}
use Rattle.half_grid.specs.declared.border.Operand.TheVariants.{A, B}
use Rattle.half_grid.proofs.ForCallers.{windings_add}
use Rattle.scan_line.specs.Rules.{IsRule, Takes}
use Rattle.scan_line.specs.Runs.{IsBalanced}
use Rattle.scan_line.proofs.ForCallers.{winding_permuted, takes_no_nothing}
use Rattle.trap_join.specs.Joins.{IsTakenIn}
use Rattle.column_sweep.specs.ColumnLaws.{IsInColumn}
use Rattle.column_sweep.specs.RowSums.{any_line}
use Rattle.column_sweep.specs.Parts.{LiesLeft, LiesRight, AreParts}
use Rattle.column_sweep.specs.Sewing.{AreLeft, AreSweptTo, AreSweptIn, AreSweptBehind}
use Rattle.column_sweep.specs.Sweeps.{IsSwept}
use Rattle.column_sweep.proofs.Adding.{sum_append, sum_permuted, balanced_by_sum, sum_by_balance}
use Rattle.column_sweep.proofs.Awaiting.{right_of_least}
use Rattle.column_sweep.proofs.Closing.{right_of_left, left_of_right}
use Rattle.column_sweep.proofs.Progressing.{column_swept}

-- in the window's rows these edges wind in the column as all do, and round no tile outside of it
pub record WindInColumn (window : RowRange) (from x : ℤ) (edges own : List EdgeParts) : Type 0 where
  pub same : (o : Operand) (t : Tile) → window.y0 ≤ℤ t.j → t.j <ℤ window.y1 → IsInColumn from x t → edges_winding o own t ≡ edges_winding o edges t
  pub left : (o : Operand) (t : Tile) → window.y0 ≤ℤ t.j → t.j <ℤ window.y1 → t.i <ℤ from → edges_winding o own t ≡ pos 0
  pub right : (o : Operand) (t : Tile) → window.y0 ≤ℤ t.j → t.j <ℤ window.y1 → x ≤ℤ t.i → edges_winding o own t ≡ pos 0

takes_as : (post : ℤ → ℤ → Bool → Type 0) (a b c d : ℤ) → a ≡ c → b ≡ d → Takes post a b → Takes post c d
takes_as post a b c d h k t = subst (λ (x : ℤ). Takes post x d) h (subst (λ (y : ℤ). Takes post a y) k t)

module _ (pre : ℤ → ℤ → Type 0) (post : ℤ → ℤ → Bool → Type 0) (rule : IsRule pre post) (window : RowRange)
    (from x : ℤ) (edges own : List EdgeParts) (winds : WindInColumn window from x edges own) where
  not_taken : (t : Tile) → edges_winding A own t ≡ pos 0 → edges_winding B own t ≡ pos 0 → IsTakenIn post own window t → ⊥
  not_taken t a b h = takes_no_nothing pre post rule (takes_as post _ _ (pos 0) (pos 0) a b h.taken)

  pub column_of : (t : Tile) → IsTakenIn post own window t → IsInColumn from x t
  column_of t h = record {
    from_left = by_lt_z t.i from (λ lt. absurd (not_taken t (winds.left A t h.from h.below lt) (winds.left B t h.from h.below lt) h)) (λ ge. ge);
    below_right = by_lt_z t.i x (λ lt. lt) (λ ge. absurd (not_taken t (winds.right A t h.from h.below ge) (winds.right B t h.from h.below ge) h));
  }

  pub own_to_area : (t : Tile) → IsTakenIn post own window t → IsTakenIn post edges window t
  own_to_area t h =
      let c = column_of t h in
      record {
        from = h.from;
        below = h.below;
        taken = takes_as post (edges_winding A own t) (edges_winding B own t)
            (edges_winding A edges t) (edges_winding B edges t) (winds.same A t h.from h.below c)
            (winds.same B t h.from h.below c) h.taken;
      }

  pub area_to_own : (t : Tile) → IsInColumn from x t → IsTakenIn post edges window t → IsTakenIn post own window t
  area_to_own t c h =
      record {
        from = h.from;
        below = h.below;
        taken = takes_as post (edges_winding A edges t)
            (edges_winding B edges t) (edges_winding A own t) (edges_winding B own t)
            (sym (winds.same A t h.from h.below c)) (sym (winds.same B t h.from h.below c)) h.taken;
      }

  -- with the trapezoids of the column the area is swept up to its right side
  pub further : (low : ℤ) → low ≤ℤ from → from <ℤ x → (finals seams insides crossings : List Trapezoid)
      → AreSweptTo (IsTakenIn post edges window) window low from finals seams
      → AreSweptIn (IsTakenIn post own window) window from x insides crossings
      → AreSweptTo (IsTakenIn post edges window) window low x (finals ++ insides) (seams ++ crossings)
  further low low_from from_x finals seams insides crossings before part =
      column_swept (IsTakenIn post edges window) (IsTakenIn post own window) window low from x low_from from_x column_of own_to_area area_to_own
      finals seams part.traps insides crossings before part.joined part.covers part.sorted

  -- the same where those of the column were put after those before
  pub further_behind : (low : ℤ) → low ≤ℤ from → from <ℤ x → (finals seams all_finals all_seams : List Trapezoid)
      → AreSweptTo (IsTakenIn post edges window) window low from finals seams
      → AreSweptBehind (IsSwept post own window) from x finals seams all_finals all_seams
      → AreSweptTo (IsTakenIn post edges window) window low x all_finals all_seams
  further_behind low low_from from_x finals seams all_finals all_seams before part =
      rw (part.sorted.finals_are, part.sorted.seams_are)
      (further low low_from from_x finals seams part.sorted.insides part.sorted.crossings before
      (record { traps = part.traps; joined = part.all.joined; covers = part.all.covers; sorted = part.sorted.sorted }))

-- ---- a column between two cuts

module _ (edges rest later own beyond : List EdgeParts) (from x : ℤ) (from_x : from <ℤ x)
    (right : All (LiesRight x) later) (left : AreLeft from edges (rest ++ later))
    (parts : AreParts x rest own beyond) where
  rest_left : (o : Operand) (t : Tile) → t.i <ℤ x → edges_winding o own t ≡ edges_winding o (rest ++ later) t
  rest_left o t lt =
      let none = left_of_right o x t later right lt in
      let same = parts.left o t lt in
      rw (windings_add o rest later t) (omega (arith, ints, none, same))

  pub part_winds : (window : RowRange) → WindInColumn window from x edges own
  part_winds window = record {
    same = λ o t _ _ c. rest_left o t c.below_right ∙ left.same o t c.from_left;
    left = λ o t _ _ lt. rest_left o t (omega (arith, ints, lt, from_x)) ∙ left.nothing o t lt;
    right = λ o t a b ge. parts.left_only o t ge;
  }

  pub next_left : AreLeft x edges (beyond ++ later)
  next_left = record {
    same = λ o t ge.
        (let now = parts.right o t ge in
        let before = left.same o t (omega (arith, ints, ge, from_x)) in
        let added = windings_add o rest later t in
        rw (windings_add o beyond later t) (omega (arith, ints, now, before, added)));
    nothing = λ o t lt.
        (let now = parts.right_only o t lt in
        let none = left_of_right o x t later right lt in
        rw (windings_add o beyond later t) (omega (arith, ints, now, none)));
    sums = λ o j.
        (let now = parts.sums o j in
        let before = left.sums o j in
        let added = sum_append o j any_line rest later in
        rw (sum_append o j any_line beyond later) (omega (arith, ints, now, before, added)));
  }

pub part_balanced : (x : ℤ) (rest own beyond : List EdgeParts) (window : RowRange) → AreParts x rest own beyond → IsBalanced own window
part_balanced x rest own beyond window parts = λ o j a b. balanced_by_sum o j own (parts.even o j)

-- ---- before the first cut, and after the last

pub edge_right : (e : EdgeParts) → IsEdge e → LiesRight (negsuc (2 ^ 44)) e
edge_right e h = right_of_least (negsuc (2 ^ 44)) e (let a = h.lower_end.low in let b = h.upper_end.low in omega (arith, ints, clamps, a, b))

x_below : (l : Line) (low high y x : ℤ) → low ≤ℤ y → y ≤ℤ high → x_on l low <ℤ x → x_on l high <ℤ x → x_on l y <ℤ x
x_below (Upright c) low high y x h k f g = f
x_below (Rising c) low high y x h k f g = omega (arith, ints, k, g)
x_below (Falling c) low high y x h k f g = omega (arith, ints, h, f)

pub edge_left : (e : EdgeParts) → IsEdge e → LiesLeft (pos (2 ^ 44 + 1)) e
edge_left e h = λ j s.
    let from = s.from in
    let below = s.below in
    let a = h.lower_end.high in
    let b = h.upper_end.high in
    let low : x_on e.line e.y0 <ℤ pos (2 ^ 44 + 1) = omega (arith, ints, a) in
    let high : x_on e.line e.y1 <ℤ pos (2 ^ 44 + 1) = omega (arith, ints, b) in
    let bottom = x_below e.line e.y0 e.y1 j (pos (2 ^ 44 + 1)) from (omega (arith, ints, below)) low high in
    let top = x_below e.line e.y0 e.y1 (j +ℤ pos 1) (pos (2 ^ 44 + 1)) (omega (arith, ints, from)) (omega (arith, ints, below)) low high in
    omega (arith, ints, bottom, top)

pub first_left : (edges waiting : List EdgeParts) → IsPermutation edges waiting → All IsEdge waiting → AreLeft (negsuc (2 ^ 44)) edges waiting
first_left edges waiting same known = record {
  same = λ o t _. winding_permuted o edges waiting t same;
  nothing = λ o t lt. left_of_right o (negsuc (2 ^ 44)) t waiting (All-weaker IsEdge (LiesRight (negsuc (2 ^ 44))) edge_right waiting known) lt;
  sums = λ o j. sum_permuted o j any_line edges waiting same;
}

pub rest_balanced : (from : ℤ) (edges rest : List EdgeParts) (window : RowRange) → AreLeft from edges rest → IsBalanced edges window → IsBalanced rest window
rest_balanced from edges rest window left h = λ o j a b. balanced_by_sum o j rest (left.sums o j ∙ sum_by_balance o j edges (h o j a b))

pub last_winds : (window : RowRange) (from : ℤ) (edges rest : List EdgeParts) → from <ℤ pos (2 ^ 44 + 1)
    → All IsEdge edges → IsBalanced edges window → AreLeft from edges rest
    → WindInColumn window from (pos (2 ^ 44 + 1)) edges rest
last_winds window from edges rest from_x known balanced left = record {
  same = λ o t _ _ c. left.same o t c.from_left;
  left = λ o t _ _ lt. left.nothing o t lt;
  right = λ o t a b ge. left.same o t (omega (arith, ints, ge, from_x))
      ∙ right_of_left o (pos (2 ^ 44 + 1)) t edges (All-weaker IsEdge (LiesLeft (pos (2 ^ 44 + 1))) edge_left edges known) ge
      ∙ sum_by_balance o t.j edges (balanced o t.j a b);
}

module _ (pre : ℤ → ℤ → Type 0) (post : ℤ → ℤ → Bool → Type 0) (rule : IsRule pre post) (window : RowRange) (edges : List EdgeParts) where
  pub none_before : All IsEdge edges → (t : Tile) → t.i <ℤ negsuc (2 ^ 44) → IsTakenIn post edges window t → ⊥
  none_before known t lt h =
      let none : (o : Operand) → edges_winding o edges t ≡ pos 0 = λ o. left_of_right o (negsuc (2 ^ 44)) t edges
      (All-weaker IsEdge (LiesRight (negsuc (2 ^ 44))) edge_right edges known) lt in
      takes_no_nothing pre post rule (takes_as post _ _ (pos 0) (pos 0) (none A) (none B) h.taken)

  pub none_behind : All IsEdge edges → IsBalanced edges window → (t : Tile) → IsTakenIn post edges window t → t.i <ℤ pos (2 ^ 44 + 1)
  none_behind known balanced t h =
      by_lt_z t.i (pos (2 ^ 44 + 1)) (λ lt. lt)
      (λ ge. (let none : (o : Operand) → edges_winding o edges t ≡ pos 0 = λ o. right_of_left o
      (pos (2 ^ 44 + 1)) t edges (All-weaker IsEdge (LiesLeft (pos (2 ^ 44 + 1))) edge_left edges known) ge
      ∙ sum_by_balance o t.j edges (balanced o t.j h.from h.below) in
      absurd (takes_no_nothing pre post rule (takes_as post _ _ (pos 0) (pos 0) (none A) (none B) h.taken))))
