-- What a slab, or the end, leaves of a front.
use Rattle.std.proofs.Common.{◌≡◌, ℕ, ◌+◌, ◌<◌, ◌≤◌, Bool, ℤ, pos, ◌-ℤ◌, ◌≤ℤ◌, arith, refl, ap, subst, ◌∙◌, sym, List}
use Rattle.std.proofs.Common.{[], ◌∷◌, ◌++◌, map, append_assoc, append-nil, length-append, ◌^◌, length, drop}
use Rattle.std.proofs.lemmas.Int.{ints}
use Rattle.std.proofs.lemmas.List.{length-map, length-drop}
use Rattle.std.specs.List.{All}
use Rattle.half_grid.specs.Edges.{EdgeParts}
use Rattle.half_grid.specs.Trapezoids.{Trapezoid, IsShot, CoversExactly}
use Rattle.half_grid.specs.JoinedLists.{IsJoined, StandsBefore}
use Rattle.half_grid.specs.Windows.{RowRange, row_range}
use Rattle.scan_line.specs.Runs.{AreRunsOfSlab}
use Rattle.scan_line.specs.Stops.{IsSlab}
use Rattle.scan_line.specs.declared.runs.Run.{Run}
use Rattle.trap_join.specs.declared.front.Growing.{Growing}
use Rattle.trap_join.specs.Fronts.{grown_into, ended_at, ended, FrontStandsApart}
use Rattle.trap_join.specs.Joins.{IsTakenIn, IsJoinedSoFar, still_left}
use Rattle.trap_join.specs.Maximal.{IsMaximal, AreMaximal}
use Rattle.trap_join.proofs.Growth.{joined_more, joined_end, front_shots, front_stands, stop_within, slab_falls}
use Rattle.trap_join.proofs.Growth.{end_falls, ended_length, giving_falls, given_one, given_maximal, given_after}
use Rattle.trap_join.proofs.Growth.{joined_whole, maximal_whole, covered_whole}

module _ (post : ℤ → ℤ → Bool → Type 0) (edges : List EdgeParts) (window : RowRange) (y : ℤ)
    (given waiting : List Trapezoid) (front : List Growing)
    (so_far : IsJoinedSoFar post edges window y (given ++ waiting) (map (ended_at y) front)) where
  pub shots_at : (x : ℤ) → x ≡ y → All (λ (o : Growing). IsShot (ended_at x o)) front
  shots_at x e = subst (λ (z : ℤ). All (λ (o : Growing). IsShot (ended_at z o)) front) (sym e) (front_shots post edges window y (given ++ waiting) front so_far)

  pub stands_at : (x : ℤ) → x ≡ y → FrontStandsApart (x -ℤ pos 1) front
  stands_at x e = subst (λ (z : ℤ). FrontStandsApart (z -ℤ pos 1) front) (sym e) (front_stands post edges window y (given ++ waiting) front so_far)

  module _ (low top : ℤ) (at_y : low ≡ y) (slab : IsSlab edges window (row_range low top)) where
    slab_here : IsSlab edges window (row_range y top)
    slab_here = subst (λ (z : ℤ). IsSlab edges window (row_range z top)) at_y slab

    pub within : top ≤ℤ window.y1
    within = stop_within edges window (row_range y top) so_far.low slab_here

    pub slab_joined : (runs : List Run) → AreRunsOfSlab post edges (row_range low top) runs
        → (x next : ℤ) (later : List Trapezoid) (grown : List Growing) → x ≡ y → next ≡ top
        → later ≡ waiting ++ ended runs x front → grown ≡ map (grown_into front x) runs
        → IsJoinedSoFar post edges window next (given ++ later) (map (ended_at next) grown)
    slab_joined runs are x next later grown ex en el eg =
        let here = subst (λ (z : ℤ). AreRunsOfSlab post edges (row_range z top) runs) at_y are in
        let more = joined_more post edges window y (given ++ waiting) front so_far top runs slab_here.has_rows within here in
        let grown_is : grown ≡ map (grown_into front y) runs = eg ∙ ap (λ (z : ℤ). map (grown_into front z) runs) ex in
        let later_is : given ++ later ≡ (given ++ waiting) ++ ended runs y front = ap
        (λ (zs : List Trapezoid). given ++ zs) (el ∙ ap (λ (z : ℤ). waiting ++ ended runs z front) ex) ∙ sym
        (append_assoc given waiting (ended runs y front)) in
        subst (λ (z : ℤ). IsJoinedSoFar post edges window z (given ++ later) (map (ended_at z) grown)) (sym en)
        (subst (λ (zs : List Trapezoid). IsJoinedSoFar post edges window top zs (map (ended_at top) grown)) (sym later_is)
        (subst (λ (os : List Growing). IsJoinedSoFar post edges window top ((given ++ waiting) ++ ended runs y front)
        (map (ended_at top) os)) (sym grown_is) more))

    pub slab_left : (runs : List Run) (x next : ℤ) (later : List Trapezoid) (grown : List Growing) → next ≡ top → length runs < 2 ^ 64
        → later ≡ waiting ++ ended runs x front → grown ≡ map (grown_into front x) runs
        → still_left window.y1 next (length grown) (length later) < still_left window.y1 y (length front)
        (length waiting)
    slab_left runs x next later grown en few el eg =
        let rows = slab_here.has_rows in
        let high = within in
        let count : length grown ≡ length runs = ap length eg ∙ length-map runs (grown_into front x) in
        let put = ap length el ∙ length-append waiting (ended runs x front) in
        let some = ended_length runs x front in
        slab_falls window.y1 y next (length grown) (length front) (length waiting) (length later)
        (omega (arith, ints, rows, en)) (omega (arith, ints, high, en)) (omega (arith, count, few))
        (omega (arith, put, some))

  pub end_joined : y ≡ window.y1 → (x next : ℤ) (later : List Trapezoid) (grown : List Growing) → x ≡ y → next ≡ y
      → later ≡ waiting ++ map (ended_at x) front → grown ≡ []
      → IsJoinedSoFar post edges window next (given ++ later) (map (ended_at next) grown)
  end_joined at_end x next later grown ex en el eg =
      let more = joined_end post edges window y (given ++ waiting) front so_far at_end in
      let later_is : given ++ later ≡ (given ++ waiting) ++ map (ended_at y) front = ap
      (λ (zs : List Trapezoid). given ++ zs) (el ∙ ap (λ (z : ℤ). waiting ++ map (ended_at z) front) ex) ∙ sym
      (append_assoc given waiting (map (ended_at y) front)) in
      subst (λ (z : ℤ). IsJoinedSoFar post edges window z (given ++ later) (map (ended_at z) grown)) (sym en)
      (subst (λ (zs : List Trapezoid). IsJoinedSoFar post edges window y zs (map (ended_at y) grown)) (sym later_is)
      (subst (λ (os : List Growing). IsJoinedSoFar post edges window y ((given ++ waiting) ++ map (ended_at y) front) (map (ended_at y) os)) (sym eg) more))

pub end_left : (end y x next : ℤ) (waiting later : List Trapezoid) (front grown : List Growing) → next ≡ y
    → 0 < length front → later ≡ waiting ++ map (ended_at x) front → grown ≡ []
    → still_left end next (length grown) (length later) < still_left end y (length front) (length waiting)
end_left end y x next waiting later front grown en some el eg =
    let put = ap length el ∙ length-append waiting (map (ended_at x) front) ∙ ap (λ n. length waiting + n) (length-map front (ended_at x)) in
    let fall = end_falls end y (length front) (length waiting) (length later) some put in
    subst (λ (z : ℤ). still_left end z (length grown) (length later) < still_left end y (length front) (length waiting)) (sym en)
    (subst (λ (os : List Growing). still_left end y (length os) (length later) < still_left end y (length front) (length waiting)) (sym eg) fall)

-- the edges and the window stay
pub stays_joined : (post : ℤ → ℤ → Bool → Type 0) (edges other : List EdgeParts) (window range : RowRange) (y : ℤ)
    (done front : List Trapezoid) → other ≡ edges → range ≡ window → IsJoinedSoFar post edges window y done front
    → IsJoinedSoFar post other range y done front
stays_joined post edges other window range y done front ee ew h =
    subst (λ (es : List EdgeParts). IsJoinedSoFar post es range y done front) (sym ee)
    (subst (λ (w : RowRange). IsJoinedSoFar post edges w y done front) (sym ew) h)

pub stays_less : (window range : RowRange) (y next : ℤ) (g h v w : ℕ) → range ≡ window
    → still_left window.y1 next g v < still_left window.y1 y h w
    → still_left range.y1 next g v < still_left window.y1 y h w
stays_less window range y next g h v w e fall = subst (λ (u : RowRange). still_left u.y1 next g v < still_left window.y1 y h w) (sym e) fall

pub some_growing : {X : Type 0} (xs : List X) → (xs ≡ [] → ⊥) → 0 < length xs
some_growing [] h = absurd (h refl)
some_growing (x ∷ xs) h = omega arith

-- ---- the next one is given

module _ (post : ℤ → ℤ → Bool → Type 0) (edges : List EdgeParts) (window : RowRange) (y : ℤ)
    (given waiting front : List Trapezoid) (so_far : IsJoinedSoFar post edges window y (given ++ waiting) front) where
  pub waits_as : (rest : List Trapezoid) → waiting ≡ rest → IsJoinedSoFar post edges window y (given ++ rest) front
  waits_as rest e = subst (λ (zs : List Trapezoid). IsJoinedSoFar post edges window y (given ++ zs) front) e so_far

  pub taken_some : (z : Trapezoid) (rest : List Trapezoid) → waiting ≡ z ∷ rest → IsJoinedSoFar post edges window y ((given ++ z ∷ []) ++ rest) front
  taken_some z rest e = given_one post edges window y given z rest front (waits_as (z ∷ rest) e)

  pub taken_maximal : (z : Trapezoid) (rest : List Trapezoid) → waiting ≡ z ∷ rest → IsMaximal (IsTakenIn post edges window) window z
  taken_maximal z rest e = given_maximal post edges window y given z rest front (waits_as (z ∷ rest) e)

  pub taken_after : (z : Trapezoid) (rest : List Trapezoid) → waiting ≡ z ∷ rest → All (λ x. StandsBefore x z) given
  taken_after z rest e = given_after post edges window y given z rest front (waits_as (z ∷ rest) e)

  nothing_held : waiting ≡ [] → front ≡ [] → IsJoinedSoFar post edges window y given []
  nothing_held ew ef =
      subst (λ (zs : List Trapezoid). IsJoinedSoFar post edges window y zs []) (append-nil given)
      (subst (λ (zs : List Trapezoid). IsJoinedSoFar post edges window y (given ++ []) zs) ef (waits_as [] ew))

  pub ends_joined : waiting ≡ [] → front ≡ [] → y ≡ window.y1 → IsJoined window given
  ends_joined ew ef at_end = joined_whole post edges window y given (nothing_held ew ef) at_end

  pub ends_maximal : waiting ≡ [] → front ≡ [] → y ≡ window.y1 → AreMaximal (IsTakenIn post edges window) window given
  ends_maximal ew ef at_end = maximal_whole post edges window y given (nothing_held ew ef) at_end

  pub ends_covers : waiting ≡ [] → front ≡ [] → y ≡ window.y1 → CoversExactly given (IsTakenIn post edges window)
  ends_covers ew ef at_end = covered_whole post edges window y given (nothing_held ew ef) at_end

pub moved_rule : {R : Type 0} (post : R → ℤ → ℤ → Bool → Type 0) (r s : R) (edges : List EdgeParts) (window : RowRange)
    (y : ℤ) (done front : List Trapezoid) → r ≡ s → IsJoinedSoFar (post r) edges window y done front
    → IsJoinedSoFar (post s) edges window y done front
moved_rule post r s edges window y done front e h = subst (λ u. IsJoinedSoFar (post u) edges window y done front) e h

nothing_by : {X : Type 0} (xs : List X) → length xs ≡ 0 → xs ≡ []
nothing_by [] h = refl
nothing_by (x ∷ xs) h = absurd (omega (arith, h))

-- a queue whose first item is none has none
pub nothing_waits : {X : Type 0} (xs ys : List X) → xs ≡ ys → ys ≡ drop 1 xs → ys ≡ []
nothing_waits xs ys e f = nothing_by ys (omega (arith, ap length e, ap length f, length-drop 1 xs))

pub given_less : (end y : ℤ) (h whole : ℕ) (waiting rest : List Trapezoid) (z : Trapezoid) → waiting ≡ z ∷ rest
    → still_left end y h (length waiting) ≤ whole → still_left end y h (length rest) + 1 ≤ whole
given_less end y h whole waiting rest z e fewer =
    let count : length waiting ≡ length rest + 1 = ap length e ∙ (omega arith) in
    let falls = giving_falls end y h (length rest) in
    let same : still_left end y h (length waiting) ≡ still_left end y h (length rest + 1) = ap (λ n. still_left end y h n) count in
    omega (arith, falls, same, fewer)

pub moved_cover : {R : Type 0} (post : R → ℤ → ℤ → Bool → Type 0) (r s : R) (edges other : List EdgeParts)
    (window range : RowRange) (traps : List Trapezoid) → r ≡ s → edges ≡ other → window ≡ range
    → CoversExactly traps (IsTakenIn (post r) edges window) → CoversExactly traps (IsTakenIn (post s) other range)
moved_cover post r s edges other window range traps er ee ew h =
    subst (λ u. CoversExactly traps (IsTakenIn (post u) other range)) er
    (subst (λ (es : List EdgeParts). CoversExactly traps (IsTakenIn (post r) es range)) ee
    (subst (λ (w : RowRange). CoversExactly traps (IsTakenIn (post r) edges w)) ew h))
