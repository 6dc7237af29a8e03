-- One strip more of a band is joined, and what waits is given.
use Rattle.std.proofs.Common.{◌≡◌, ℕ, ◌+◌, ◌<◌, ◌≤◌, ℤ, pos, negsuc, ◌≤ℤ◌, ◌<ℤ◌, List, [], ◌∷◌, ◌++◌, All, map, length, arith, refl, sym, ap, subst, ◌∙◌}
use Rattle.std.proofs.lemmas.Int.{ints, by_lt_z}
use Rattle.std.proofs.lemmas.List.{append-nil, append_assoc}
use Rattle.std.proofs.lemmas.List.Elements.{All-append, All-contains, Contains-append_right}
use Rattle.std.specs.List.{Contains}
use Rattle.std.specs.Int.{int_gap}
use Rattle.half_grid.specs.Trapezoids.{Trapezoid, IsShot, CoversExactly, count_in}
use Rattle.half_grid.specs.Windows.{RowRange, row_range}
use Rattle.half_grid.specs.JoinedLists.{IsInWindow, IsJoined}
use Rattle.half_grid.specs.declared.plane.Tile.{Tile}
use Rattle.half_grid.proofs.ForCallers.{one_joined_list, same_tiles}
use Rattle.trap_join.proofs.ForCallers.{is_first, all_members, order_second}
use Rattle.deck_plan.specs.Areas.{IsInBand}
use Rattle.deck_plan.specs.Needs.{IsBand, IsAskedBand}
use Rattle.deck_plan.specs.Plans.{Planned, IsBandOf}
use Rattle.deck_plan.specs.Stacks.{IsJoinedUpTo, ended, lengthened}
use Rattle.deck_plan.proofs.ForCallers.{stacked_shots, stacked_joined, stacked_count, ended_below}
use Rattle.band_areas.specs.Growing.{AreGrowing, TopsAscend, IsStack}
use Rattle.band_areas.specs.Strips.{HasGiven, IsTopFor, list_of, rows_of, one_for, left_in}
use Rattle.band_areas.specs.declared.stacks.Stack.{Stack}
use Rattle.band_areas.specs.declared.strips.Strips.{Strips}
use Rattle.band_areas.proofs.GrowingLemmas.{order_growing, order_tops}

-- ---- what a strip is put to

pub growing_stand : (p : Planned) (k : ℕ) (strips : Strips) (given : List Trapezoid) → HasGiven p k strips given → AreGrowing strips.growing.items
growing_stand p k strips given has =
    order_growing strips.growing.items strips.next.y has.reach
    (order_second (given ++ strips.waiting.items) strips.growing.items has.list.joined.joined.in_order)

pub strip_ascends : (p : Planned) (k : ℕ) (rows : RowRange) (strip : List Trapezoid) → IsBandOf p k rows strip → TopsAscend strip
strip_ascends p k rows strip is = order_tops strip is.joined.joined.in_order

-- ---- one strip more

module _ (p : Planned) (k : ℕ) (low y top : ℤ) (done growing strip : List Trapezoid) (le : low ≤ℤ y) (some : y <ℤ top)
    (lower_is : IsBandOf p k (row_range low y) (done ++ growing)) (below : All (λ z. z.y1 <ℤ y) done) (reach : All (λ z. z.y1 ≡ y) growing)
    (upper_is : IsBandOf p k (row_range y top) strip) where
  abbrev whole : List Trapezoid
  whole = done ++ (ended strip growing ++ map (lengthened growing) strip)

  lower : IsJoinedUpTo (row_range low y) done growing
  lower = record { shots = lower_is.shots; joined = lower_is.joined.joined; below = below; reach = reach }

  count : (t : Tile) → count_in whole t ≡ count_in (done ++ growing) t + count_in strip t
  count t = stacked_count low y top done growing strip some lower upper_is.shots upper_is.joined.joined t

  once : (t : Tile) → IsInBand p.cells p.top p.deck k (row_range low top) t → count_in whole t ≡ 1
  once t h =
      let n = count t in
      let from = h.rows.from in
      let to = h.rows.below in
      by_lt_z t.j y
      (λ lt. (let first = lower_is.joined.covers.once t (record { rows = record { from = from; below = lt }; area = h.area }) in
      let second = upper_is.joined.covers.never t (λ g. (let up = g.rows.from in omega (arith, ints, lt, up))) in
      omega (arith, n, first, second)))
      (λ ge. (let first = lower_is.joined.covers.never t (λ g. (let under = g.rows.below in omega (arith, ints, ge, under))) in
      let second = upper_is.joined.covers.once t (record { rows = record { from = ge; below = to }; area = h.area }) in
      omega (arith, n, first, second)))

  never : (t : Tile) → (IsInBand p.cells p.top p.deck k (row_range low top) t → ⊥) → count_in whole t ≡ 0
  never t out =
      let n = count t in
      let first = lower_is.joined.covers.never t
      (λ g. (let under = g.rows.below in out (record { rows = record { from = g.rows.from; below = omega (arith, ints, under, some) }; area = g.area }))) in
      let second = upper_is.joined.covers.never t
      (λ g. (let up = g.rows.from in out (record { rows = record { from = omega (arith, ints, up, le); below = g.rows.below }; area = g.area }))) in
      omega (arith, n, first, second)

  one_more : IsBandOf p k (row_range low top) whole
  one_more = record {
    shots = stacked_shots low y top done growing strip some lower upper_is.shots upper_is.joined.joined;
    joined = record {
      joined = stacked_joined low y top done growing strip some lower upper_is.shots upper_is.joined.joined le;
      covers = record { once = once; never = never };
    };
  }

  ends_under : All (λ z. z.y1 <ℤ top) (done ++ ended strip growing)
  ends_under = ended_below low y top done growing strip some lower upper_is.shots upper_is.joined.joined

module _ (p : Planned) (k : ℕ) (strips : Strips) (given : List Trapezoid) (has : HasGiven p k strips given) (none : strips.waiting.items ≡ [])
    (rows : RowRange) (strip : List Trapezoid) (is : IsBandOf p k rows strip) (from : rows.y0 ≡ strips.next.y)
    (some : rows.y0 <ℤ rows.y1) (to : rows.y1 ≤ℤ strips.band.y1) where
  abbrev growing : List Trapezoid
  growing = strips.growing.items

  abbrev y : ℤ
  y = strips.next.y

  abbrev more : List Trapezoid
  more = given ++ (ended strip growing ++ map (lengthened growing) strip)

  above : y <ℤ rows.y1
  above = omega (arith, ints, from, some)

  all_given : given ++ strips.waiting.items ≡ given
  all_given = ap (λ (zs : List Trapezoid). given ++ zs) none ∙ append-nil given

  lower_list : IsBandOf p k (rows_of strips) (given ++ growing)
  lower_list = subst (IsBandOf p k (rows_of strips)) (ap (λ (zs : List Trapezoid). zs ++ growing) all_given) has.list

  given_below : All (λ z. z.y1 <ℤ y) given
  given_below = subst (All (λ (z : Trapezoid). z.y1 <ℤ y)) all_given (has.below (omega (arith, ints, above, to)))

  upper_list : IsBandOf p k (row_range y rows.y1) strip
  upper_list = subst (λ (w : ℤ). IsBandOf p k (row_range w rows.y1) strip) from is

  more_is : IsBandOf p k (row_range strips.band.y0 rows.y1) more
  more_is = one_more p k strips.band.y0 y rows.y1 given growing strip has.low above lower_list given_below has.reach upper_list

  -- the strips after it
  module _ (next : Strips) (stack : Stack) (top : ℤ) (band : next.band ≡ strips.band) (at : next.next.y ≡ rows.y1)
      (waiting : next.waiting ≡ stack.below) (grows : next.growing ≡ stack.growing) (stacked : IsStack growing strip stack)
      (below : All (λ z. z.y1 <ℤ top) stack.below.items) (reach : All (λ z. top ≤ℤ z.y1) stack.growing.items)
      (top_is : IsTopFor rows strips.band top) where
    regrouped : more ≡ list_of next (given ++ stack.ended.items)
    regrouped =
        ap (λ (zs : List Trapezoid). given ++ (zs ++ map (lengthened growing) strip)) (sym stacked.ended)
        ∙ ap (λ (zs : List Trapezoid). given ++ (stack.ended.items ++ zs)) (sym stacked.above)
        ∙ sym (append_assoc given stack.ended.items (stack.below.items ++ stack.growing.items))
        ∙ sym (append_assoc (given ++ stack.ended.items) stack.below.items stack.growing.items)
        ∙ sym (ap (λ v. ((given ++ stack.ended.items) ++ v.items) ++ stack.growing.items) waiting)
        ∙ sym (ap (λ v. ((given ++ stack.ended.items) ++ next.waiting.items) ++ v.items) grows)

    window_is : row_range strips.band.y0 rows.y1 ≡ rows_of next
    window_is = ap (λ (w : RowRange). row_range w.y0 rows.y1) (sym band) ∙ ap (row_range next.band.y0) (sym at)

    list : IsBandOf p k (rows_of next) (list_of next (given ++ stack.ended.items))
    list = subst (λ (w : RowRange). IsBandOf p k w (list_of next (given ++ stack.ended.items))) window_is
        (subst (IsBandOf p k (row_range strips.band.y0 rows.y1)) regrouped more_is)

    high_at : (z : Trapezoid) → Contains stack.growing.items z → z.y1 ≤ℤ rows.y1
    high_at z h =
        let member : Contains (list_of next (given ++ stack.ended.items)) z =
        Contains-append_right ((given ++ stack.ended.items) ++ next.waiting.items) next.growing.items z
        (subst (λ v. Contains v.items z) (sym grows) h) in
        let inside = (All-contains (IsInWindow (rows_of next)) (list_of next (given ++ stack.ended.items)) z list.joined.joined.in_window member).high in
        omega (arith, ints, inside, at)

    top_at : (z : Trapezoid) → Contains stack.growing.items z → top ≤ℤ z.y1
    top_at z h = All-contains (λ (x : Trapezoid). top ≤ℤ x.y1) stack.growing.items z reach h

    no_member : {X : Type 0} (xs : List X) → ((x : X) → Contains xs x → ⊥) → xs ≡ []
    no_member [] h = refl
    no_member (x ∷ xs) h = absurd (h x (is_first x xs))

    pub strip_more : HasGiven p k next (given ++ stack.ended.items)
    strip_more = record {
      band = subst IsAskedBand (sym band) has.band;
      low = (let low = has.low in let same = ap (λ (w : RowRange). w.y0) band in omega (arith, ints, low, same, at, above));
      high = (let same = ap (λ (w : RowRange). w.y1) band in omega (arith, ints, same, at, to));
      list = list;
      below = λ inner.
          let end_of = ap (λ (w : RowRange). w.y1) band in
          let same : top ≡ next.next.y = (let own = top_is.inner (omega (arith, ints, inner, end_of, at)) in omega (arith, ints, own, at)) in
          let first = ends_under p k strips.band.y0 y rows.y1 given growing strip has.low above lower_list given_below has.reach upper_list in
          let ends = subst (λ (zs : List Trapezoid). All (λ (z : Trapezoid). z.y1 <ℤ rows.y1) (given ++ zs)) (sym stacked.ended) first in
          let here = subst (λ (x : ℤ). All (λ (z : Trapezoid). z.y1 <ℤ x) (given ++ stack.ended.items)) (sym at) ends in
          let second = subst (λ (x : ℤ). All (λ (z : Trapezoid). z.y1 <ℤ x) stack.below.items) same below in
          All-append (λ (z : Trapezoid). z.y1 <ℤ next.next.y) (given ++ stack.ended.items) next.waiting.items here
          (subst (λ v. All (λ (z : Trapezoid). z.y1 <ℤ next.next.y) v.items) (sym waiting) second);
      reach = subst (λ v. All (λ (z : Trapezoid). z.y1 ≡ next.next.y) v.items) (sym grows)
          (all_members (λ (z : Trapezoid). z.y1 ≡ next.next.y) stack.growing.items (λ z h.
          (let high = high_at z h in
          let low = top_at z h in
          let own = top_is.low in
          omega (arith, ints, high, low, own, at))));
      ended = λ last.
          let end_of = ap (λ (w : RowRange). w.y1) band in
          let over = top_is.last (omega (arith, ints, last, end_of, at)) in
          ap (λ v. v.items) grows
          ∙ no_member stack.growing.items (λ z h. (let high = high_at z h in let low = top_at z h in omega (arith, ints, high, low, over)));
    }

-- ---- what waits is given

module _ (p : Planned) (k : ℕ) (strips next : Strips) (given : List Trapezoid) (has : HasGiven p k strips given) (band : next.band ≡ strips.band)
    (at : next.next ≡ strips.next) (none : next.waiting.items ≡ []) (grows : next.growing ≡ strips.growing) where
  waits_not : (given ++ strips.waiting.items) ++ next.waiting.items ≡ given ++ strips.waiting.items
  waits_not = ap (λ (zs : List Trapezoid). (given ++ strips.waiting.items) ++ zs) none ∙ append-nil (given ++ strips.waiting.items)

  pub waiting_given : HasGiven p k next (given ++ strips.waiting.items)
  waiting_given =
      let rows : rows_of strips ≡ rows_of next =
      ap (λ (w : RowRange). row_range w.y0 strips.next.y) (sym band) ∙ ap (λ row. row_range next.band.y0 row.y) (sym at) in
      let list : list_of strips given ≡ list_of next (given ++ strips.waiting.items) =
      ap (λ (zs : List Trapezoid). zs ++ strips.growing.items) (sym waits_not)
      ∙ ap (λ v. ((given ++ strips.waiting.items) ++ next.waiting.items) ++ v.items) (sym grows) in
      let row = ap (λ row. row.y) at in
      let low = ap (λ (w : RowRange). w.y0) band in
      let high = ap (λ (w : RowRange). w.y1) band in
      let has_low = has.low in
      let has_high = has.high in
      record {
        band = subst IsAskedBand (sym band) has.band;
        low = omega (arith, ints, row, low, has_low);
        high = omega (arith, ints, row, high, has_high);
        list = subst (λ (w : RowRange). IsBandOf p k w (list_of next (given ++ strips.waiting.items))) rows
            (subst (IsBandOf p k (rows_of strips)) list has.list);
        below = λ inner.
            let first = has.below (omega (arith, ints, inner, row, high)) in
            subst (λ (zs : List Trapezoid). All (λ (z : Trapezoid). z.y1 <ℤ next.next.y) zs) (sym waits_not)
            (subst (λ (x : ℤ). All (λ (z : Trapezoid). z.y1 <ℤ x) (given ++ strips.waiting.items)) (sym row) first);
        reach = subst (λ v. All (λ (z : Trapezoid). z.y1 ≡ next.next.y) v.items) (sym grows)
            (subst (λ (x : ℤ). All (λ (z : Trapezoid). z.y1 ≡ x) strips.growing.items) (sym row) has.reach);
        ended = λ last. ap (λ v. v.items) grows ∙ has.ended (omega (arith, ints, last, row, high));
      }

-- ---- all is given

pub all_given_of : (p : Planned) (k : ℕ) (strips : Strips) (given : List Trapezoid) → HasGiven p k strips given → strips.waiting.items ≡ []
    → strips.band.y1 ≤ℤ strips.next.y → IsBandOf p k strips.band given
all_given_of p k strips given has none last =
    let high = has.high in
    let rows : rows_of strips ≡ strips.band =
    ap (row_range strips.band.y0) (let same : strips.next.y ≡ strips.band.y1 = omega (arith, ints, last, high) in same) in
    let list : list_of strips given ≡ given =
    ap (λ (zs : List Trapezoid). (given ++ zs) ++ strips.growing.items) none
    ∙ ap (λ (zs : List Trapezoid). (given ++ []) ++ zs) (has.ended last) ∙ append-nil (given ++ []) ∙ append-nil given in
    subst (λ (w : RowRange). IsBandOf p k w given) rows (subst (IsBandOf p k (rows_of strips)) list has.list)

-- ---- what is given begins the band's list

one_list : (p : Planned) (k : ℕ) (band : RowRange) (xs ys : List Trapezoid) → IsBandOf p k band xs → IsBandOf p k band ys → xs ≡ ys
one_list p k band xs ys a b =
    one_joined_list band xs ys a.joined.joined b.joined.joined (same_tiles (IsInBand p.cells p.top p.deck k band) xs ys a.joined.covers b.joined.covers)

-- the list of the rows above, whatever memory there is
upper_band : (strips : Strips) → IsAskedBand strips.band → strips.band.y0 ≤ℤ strips.next.y → strips.next.y <ℤ strips.band.y1
    → IsBand (row_range strips.next.y strips.band.y1)
upper_band strips asked le inner =
    let low = asked.is_band.low in
    let high = asked.is_band.high in
    record {
      low = record { low = omega (arith, ints, low.low, le); high = omega (arith, ints, high.high, inner) };
      high = high;
      has_rows = inner;
    }

pub given_first : (p : Planned) (k : ℕ) (strips : Strips) (given traps : List Trapezoid) → HasGiven p k strips given
    → ((band : RowRange) → IsBand band → (list : List Trapezoid) × IsBandOf p k band list) → IsBandOf p k strips.band traps
    → (rest : List Trapezoid) × (traps ≡ given ++ rest)
given_first p k strips given traps has lists is =
    by_lt_z strips.next.y strips.band.y1
    (λ inner.
    let upper = lists (row_range strips.next.y strips.band.y1) (upper_band strips has.band has.low inner) in
    let done = given ++ strips.waiting.items in
    let growing = strips.growing.items in
    let later = ended upper.0 growing ++ map (lengthened growing) upper.0 in
    let whole = one_more p k strips.band.y0 strips.next.y strips.band.y1 done growing upper.0 has.low inner has.list (has.below inner) has.reach upper.1 in
    (strips.waiting.items ++ later, one_list p k strips.band traps (done ++ later) is whole ∙ append_assoc given strips.waiting.items later))
    (λ last.
    let high = has.high in
    let top : strips.next.y ≡ strips.band.y1 = omega (arith, ints, last, high) in
    let whole = subst (λ (w : RowRange). IsBandOf p k w (list_of strips given)) (ap (row_range strips.band.y0) top) has.list in (
      strips.waiting.items ++ strips.growing.items,
      one_list p k strips.band traps (list_of strips given) is whole
          ∙ append_assoc given strips.waiting.items strips.growing.items,
    ))

-- ---- the number that falls

one_none : (traps : List Trapezoid) → traps ≡ [] → one_for traps ≡ 0
one_none traps e = rw e refl

one_some : (traps : List Trapezoid) → (traps ≡ [] → ⊥) → one_for traps ≡ 1
one_some [] some = absurd (some refl)
one_some (z ∷ traps) some = refl

-- it falls where what waits is given
pub one_less : (strips next : Strips) → next.band ≡ strips.band → next.next ≡ strips.next → next.waiting.items ≡ []
    → (strips.waiting.items ≡ [] → ⊥) → left_in next < left_in strips
one_less strips next band at none some =
    let gap : int_gap next.next.y next.band.y1 ≡ int_gap strips.next.y strips.band.y1 =
    ap (λ row. int_gap row.y next.band.y1) at ∙ ap (λ (w : RowRange). int_gap strips.next.y w.y1) band in
    let zero = one_none next.waiting.items none in
    let one = one_some strips.waiting.items some in
    omega (arith, gap, zero, one)

pub empty_list : {X : Type 0} (xs : List X) → length xs ≡ 0 → xs ≡ []
empty_list [] e = refl
empty_list (x ∷ xs) e = absurd (omega (arith, e))
