-- Areas that grow and shrink, by the windings of rings.
use Rattle.std.proofs.Common.{◌≡◌, ◌≢◌, ◌↔◌, ◌^◌, ◌≤◌, ℕ, zero, suc, ℤ, pos, ◌+ℤ◌, ◌≤ℤ◌, Bool, true, false, ◌⊎◌, inl}
use Rattle.std.proofs.Common.{inr, List, [], ◌∷◌, ◌++◌, flat_map, length, append_assoc, ap, sym, refl, ◌∙◌, arith, All}
use Rattle.std.proofs.lemmas.Int.{ints, by_lt_z, clamps}
use Rattle.std.proofs.lemmas.List.Elements.{All-head, All-tail}
use Rattle.std.proofs.lemmas.List.{append-nil}
use Rattle.std.proofs.lemmas.List.Sums.{sum_by-append}
use Rattle.half_grid.specs.Edges.{EdgeParts, edges_winding}
use Rattle.half_grid.specs.Nearness.{IsNear, IsGrown, IsShrunk}
use Rattle.half_grid.specs.Trapezoids.{Trapezoid, IsInTrapezoid, IsLegal, count_in, trapezoid_has}
use Rattle.half_grid.specs.Windows.{RowRange}
use Rattle.half_grid.specs.Winding.{count_one}
use Rattle.half_grid.specs.declared.border.Operand.{Operand}
use Rattle.half_grid.specs.declared.border.Operand.TheVariants.{A, B}
use Rattle.half_grid.specs.declared.plane.Tile.{Tile}
use Rattle.half_grid.specs.declared.extent.Frame.{Frame}
use Rattle.half_grid.proofs.ForCallers.{count_by-cons, has_in, in_has, windings_add}
use Rattle.scan_line.specs.Runs.{IsBalanced, IsBalancedAt}
use Rattle.column_sweep.specs.Operands.{WindsByCount}
use Rattle.square_size.specs.EdgeLaws.{IsInSome}
use Rattle.square_size.specs.Edges.{edges_of_grown}
use Rattle.square_size.specs.Ranges.{IsRectangle}
use Rattle.square_size.specs.Rings.{IsSizing, HasRingWithinReach}
use Rattle.square_size.proofs.ForCallers.{half_twice, near_or_not, grown_wind, others_do_not_wind, grown_not_for_other, grown_are_balanced}
use Rattle.tone_mirror.specs.Frames.{IsInFrame}
use Rattle.bool_ops.specs.declared.operations.Op.TheVariants.{Sub}
use Rattle.bool_ops.specs.Operations.{IsInRows, IsJoinedOf, IsInResult, IsLeftIn, IsWoundIn}
use Rattle.deck_plan.specs.Lists.{HasArea}
use Rattle.deck_plan.specs.Needs.{widened}
use Rattle.deck_plan.specs.Bounds.{wider, HasCornersUpTo, IsFullBox}
use Rattle.deck_plan.proofs.Boxes.{wider_tile}
use Rattle.deck_plan.proofs.Corners.{corners_of_all}
use Rattle.deck_plan.proofs.AreaLists.{Decided, rows_decided, joined_has, combined_has, some_decided}
use Rattle.deck_plan.proofs.Singles.{in_one, one_in}

-- ---- grown

in_first : (z : Trapezoid) (traps : List Trapezoid) (u : Tile) → IsInTrapezoid z u → IsInSome (z ∷ traps) u
in_first z traps u h = let here = ap count_one (in_has u z h) in omega (arith, count_by-cons (trapezoid_has u) z traps, here)

in_later : (z : Trapezoid) (traps : List Trapezoid) (u : Tile) → IsInSome traps u → IsInSome (z ∷ traps) u
in_later z traps u h = omega (arith, count_by-cons (trapezoid_has u) z traps, h)

in_either : (z : Trapezoid) (traps : List Trapezoid) (u : Tile) (has : Bool) → trapezoid_has u z ≡ has
    → IsInSome (z ∷ traps) u → IsInTrapezoid z u ⊎ IsInSome traps u
in_either z traps u true e h = inl (has_in u z e)
in_either z traps u false e h = let none = ap count_one e in inr (omega (arith, count_by-cons (trapezoid_has u) z traps, none, h))

near_decided : (dx dy : ℤ) → IsRectangle dx dy → (traps : List Trapezoid) (t : Tile) → All IsLegal traps → Decided (IsGrown dx dy (IsInSome traps) t)
near_decided dx dy r [] t legal = inr (λ h. omega (arith, h.1))
near_decided dx dy r (z ∷ traps) t legal =
    near_or_not dx dy z r (All-head IsLegal z traps legal) t
    (λ close. inl (close.0, in_first z traps close.0 close.1, close.2))
    (λ far. elim (near_decided dx dy r traps t (All-tail IsLegal z traps legal)) [
      | inl h ↦ inl (h.0, in_later z traps h.0 h.1, h.2)
      | inr none ↦ inr (λ h. elim (in_either z traps h.0 (trapezoid_has h.0 z) refl h.1) [ inl i ↦ far (h.0, i, h.2) | inr i ↦ none (h.0, i, h.2) ])
    ])

wound_by : (edges : List EdgeParts) (window : RowRange) (t : Tile) → IsInRows window t
    → Decided (edges_winding A edges t ≡ pos 0) → Decided (IsWoundIn edges window t)
wound_by edges window t rows (inl none) = inr (λ h. h.wound none)
wound_by edges window t rows (inr wound) = inl (record { rows = rows; wound = wound })

pub zero_decided : (w : ℤ) → Decided (w ≡ pos 0)
zero_decided w = by_lt_z w (pos 0) (λ lt. inr (λ e. omega (arith, ints, lt, e)))
    (λ ge. by_lt_z (pos 0) w (λ gt. inr (λ e. omega (arith, ints, gt, e))) (λ le. inl (omega (arith, ints, ge, le))))

-- whether a tile is wound round in the window
pub wound_decided : (edges : List EdgeParts) (window : RowRange) (t : Tile) → Decided (IsWoundIn edges window t)
wound_decided edges window t = elim
    (rows_decided window t) [
      | inl rows ↦ wound_by edges window t rows (zero_decided (edges_winding A edges t))
      | inr out ↦ inr (λ h. out h.rows)
    ]

by_near : (P : Type 0) → Decided P → (w : ℤ) → w ≢ pos 0 → ((P → ⊥) → w ≡ pos 0) → P
by_near P (inl h) w wound none = h
by_near P (inr h) w wound none = absurd (wound (none h))

pub grown_has : (dx dy : ℤ) → IsRectangle dx dy → (traps : List Trapezoid) → All IsLegal traps
    → (edges : List EdgeParts) → edges ≡ flat_map (edges_of_grown dx dy) traps
    → (window : RowRange) (grown : List Trapezoid) → IsJoinedOf window (IsWoundIn edges window) grown → HasArea window (IsGrown dx dy (IsInSome traps)) grown
grown_has dx dy r traps legal edges is window grown joined =
    let winding : (t : Tile) → edges_winding A edges t ≡ edges_winding A (flat_map (edges_of_grown dx dy) traps) t = λ t. ap (λ es. edges_winding A es t) is in
    joined_has window (IsWoundIn edges window) (IsGrown dx dy (IsInSome traps)) grown joined (wound_decided edges window)
    (λ t h. (
      h.rows,
      by_near (IsGrown dx dy (IsInSome traps) t) (near_decided dx dy r traps t legal)
          (edges_winding A edges t) h.wound (λ out. winding t ∙ others_do_not_wind dx dy r traps t legal out),
    ))
    (λ t rows h. record { rows = rows; wound = λ e. (let w = grown_wind dx dy r traps t legal h in let same = winding t in omega (arith, ints, w, same, e)) })

pub grown_balanced : (dx dy : ℤ) → IsRectangle dx dy → (traps : List Trapezoid) → All IsLegal traps
    → (edges : List EdgeParts) → edges ≡ flat_map (edges_of_grown dx dy) traps
    → (window : RowRange) → IsBalanced edges window
grown_balanced dx dy r traps legal edges is window = λ o j low high. rw is (grown_are_balanced dx dy traps o j r legal)

pub ring_within : (dx dy : ℤ) (z : Trapezoid) → IsSizing dx dy → HasCornersUpTo (2 ^ 43) z → HasRingWithinReach dx dy z
ring_within dx dy z s h = record {
  left = record {
    low = omega (arith, ints, clamps, h.bottom_left.low, h.top_left.low, s.columns);
    high = omega
        (arith, ints, clamps, h.bottom_left.high, h.top_left.high, s.rectangle.columns);
  };
  right = record {
    low = omega (arith, ints, clamps, h.bottom_right.low, h.top_right.low, s.rectangle.columns);
    high =
        omega (arith, ints, clamps, h.bottom_right.high, h.top_right.high, s.columns);
  };
  bottom = record { low = omega (arith, ints, h.y0.low, s.rows); high = omega (arith, ints, h.y0.high, s.rectangle.rows) };
  top = record { low = omega (arith, ints, h.y1.low, s.rectangle.rows); high = omega (arith, ints, h.y1.high, s.rows) };
}

-- ---- shrunk

half_positive : (dx dy h : ℤ) → IsRectangle dx dy → h +ℤ h ≡ dx +ℤ dy → pos 0 ≤ℤ h
half_positive dx dy h r e = omega (arith, ints, r.columns, r.rows, e)

pub near_itself : (dx dy : ℤ) → IsRectangle dx dy → (t : Tile) → IsNear dx dy t t
near_itself dx dy r t =
    let h = half_positive dx dy _ r (half_twice (dx +ℤ dy) r.even) in
    record {
      columns = record { above = omega (arith, ints, r.columns); below = omega (arith, ints, r.columns) };
      rows = record { above = omega (arith, ints, r.rows); below = omega (arith, ints, r.rows) };
      sums = record { above = omega (arith, ints, h); below = omega (arith, ints, h) };
      differences = record { above = omega (arith, ints, h); below = omega (arith, ints, h) };
    }

-- a tile near to one of the window's rows is in a row of the widened window
pub near_rows : (dx dy : ℤ) (window : RowRange) (t u : Tile) → IsInRows window t → IsNear dx dy t u → IsInRows (widened dy window) u
near_rows dx dy window t u rows near =
    record {
      from = omega (arith, ints, rows.from, near.rows.above, near.rows.below);
      below = omega
          (arith, ints, rows.below, near.rows.above, near.rows.below);
    }

-- one ring is put at the end, of those that are still to come
pub ring_put : (dx dy : ℤ) (z : Trapezoid) (rest more : List Trapezoid) (edges after whole : List EdgeParts) → rest ≡ z ∷ more
    → after ≡ edges ++ edges_of_grown dx dy z → edges ++ flat_map (edges_of_grown dx dy) rest ≡ whole → after ++ flat_map (edges_of_grown dx dy) more ≡ whole
ring_put dx dy z rest more edges after whole first put before =
    ap (λ (es : List EdgeParts). es ++ flat_map (edges_of_grown dx dy) more) put
    ∙ append_assoc edges (edges_of_grown dx dy z) (flat_map (edges_of_grown dx dy) more)
    ∙ ap (λ (zs : List Trapezoid). edges ++ flat_map (edges_of_grown dx dy) zs) (sym first)
    ∙ before

-- and none is left
pub rings_put : (dx dy : ℤ) (rest : List Trapezoid) (edges whole : List EdgeParts) → rest ≡ []
    → edges ++ flat_map (edges_of_grown dx dy) rest ≡ whole → edges ≡ whole
rings_put dx dy rest edges whole none all =
    sym (append-nil edges) ∙ (ap (λ (zs : List Trapezoid). edges ++ flat_map (edges_of_grown dx dy) zs) (sym none) ∙ all)

some_of : (n : ℕ) → (n ≡ 0 → ⊥) → 1 ≤ n
some_of zero f = absurd (f refl)
some_of (suc n) f = omega arith

-- two lists of edges in balance are in balance together
pub both_balanced : (es fs : List EdgeParts) (o : Operand) (j : ℤ) → IsBalancedAt es o j → IsBalancedAt fs o j → IsBalancedAt (es ++ fs) o j
both_balanced es fs o j h k = sum_by-append _ es fs ∙ (rw (h, k) (sym (sum_by-append _ es fs)))

-- the edges of a trapezoid as operand B, and those of the rings round a list
module _ (dx dy : ℤ) (r : IsRectangle dx dy) (z : Trapezoid) (outside : List Trapezoid) (legal : All IsLegal outside) (window : RowRange)
    (own edges : List EdgeParts) (first : WindsByCount A own [] window) (second : WindsByCount B own (z ∷ []) window)
    (is : edges ≡ own ++ flat_map (edges_of_grown dx dy) outside) where
  abbrev rings : List EdgeParts
  rings = flat_map (edges_of_grown dx dy) outside

  pub rings_balanced : IsBalanced own window → IsBalanced edges window
  rings_balanced balanced = λ o j low high. rw is (both_balanced own rings o j (balanced o j low high) (grown_are_balanced dx dy outside o j r legal))

  round_rings : (t : Tile) → IsInRows window t → edges_winding A edges t ≡ edges_winding A rings t
  round_rings t rows =
      let sum = ap (λ (es : List EdgeParts). edges_winding A es t) is ∙ windings_add A own rings t in
      let none = first t rows.from rows.below in
      omega (arith, ints, sum, none)

  round_whole : (t : Tile) → IsInRows window t → edges_winding B edges t ≡ pos (count_in (z ∷ []) t)
  round_whole t rows =
      let sum = ap (λ (es : List EdgeParts). edges_winding B es t) is ∙ windings_add B own rings t in
      let count = second t rows.from rows.below in
      let none = grown_not_for_other dx dy outside t in
      omega (arith, ints, sum, count, none)

  left_by : (t : Tile) → IsInRows window t → Decided (edges_winding A edges t ≡ pos 0)
      → Decided (edges_winding B edges t ≡ pos 0) → Decided (IsLeftIn edges window t)
  left_by t rows (inl free) (inl none) = inr (λ h. h.wound none)
  left_by t rows (inl free) (inr wound) = inl (record { rows = rows; free = free; wound = wound })
  left_by t rows (inr round) b = inr (λ h. round h.free)

  left_decided : (t : Tile) → Decided (IsLeftIn edges window t)
  left_decided t = elim (rows_decided window t) [
    | inl rows ↦ left_by t rows (zero_decided (edges_winding A edges t)) (zero_decided (edges_winding B edges t))
    | inr out ↦ inr (λ h. out h.rows)
  ]

  module _ (traps : List Trapezoid) (frame : Frame) (tiles : (t : Tile) → IsInTrapezoid z t ↔ IsInFrame frame t)
      (around : (t : Tile) → IsInSome traps t → (u : Tile) → IsNear dx dy t u → IsInFrame frame u)
      (outside_is : IsJoinedOf (widened dy window) (IsInResult Sub (z ∷ []) traps (widened dy window)) outside) where
    outside_has : HasArea (widened dy window) (λ t. IsInSome (z ∷ []) t × (IsInSome traps t → ⊥)) outside
    outside_has = combined_has Sub (z ∷ []) traps (widened dy window) outside outside_is

    kept : (t : Tile) → IsInRows window t → IsInSome traps t → edges_winding A edges t ≡ pos 0 → (u : Tile) → IsNear dx dy t u → IsInSome traps u
    kept t rows some free u near = elim (some_decided traps u) [
      | inl h ↦ h
      | inr none ↦ (let there = outside_has.all u (near_rows dx dy window t u rows near) (one_in z u ((tiles u).1 (around t some u near)), none) in
          let round = grown_wind dx dy r outside t legal (u, there, near) in
          let same = round_rings t rows in
          absurd (omega (arith, ints, round, same, free)))
    ]

    not_round : (t : Tile) → IsInRows window t → IsShrunk dx dy (IsInSome traps) t → edges_winding A edges t ≡ pos 0
    not_round t rows all = round_rings t rows ∙ others_do_not_wind dx dy r outside t legal (λ g. (outside_has.inside g.0 g.1).1.1 (all g.0 g.2))

    -- what no ring winds round isn't outside
    some_by : (t : Tile) → IsLeftIn edges window t → IsInSome traps t
    some_by t h =
        let near = near_itself dx dy r t in
        let inner = some_of (count_in (z ∷ []) t) (λ e. h.wound (round_whole t h.rows ∙ ap pos e)) in
        elim (some_decided traps t) [
          | inl some ↦ some
          | inr none ↦ (let there = outside_has.all t (near_rows dx dy window t t h.rows near) (inner, none) in
              let round = grown_wind dx dy r outside t legal (t, there, near) in
              let same = round_rings t h.rows in
              let free = h.free in
              absurd (omega (arith, ints, round, same, free)))
        ]

    wound_by_some : (t : Tile) → IsInRows window t → IsInSome traps t → edges_winding B edges t ≢ pos 0
    wound_by_some t rows some e =
        let same = round_whole t rows in
        let inner = one_in z t ((tiles t).1 (around t some t (near_itself dx dy r t))) in
        omega (arith, ints, same, inner, e)

    pub shrunk_has : (shrunk : List Trapezoid) → IsJoinedOf window (IsLeftIn edges window) shrunk → HasArea window (IsShrunk dx dy (IsInSome traps)) shrunk
    shrunk_has shrunk joined =
        joined_has window (IsLeftIn edges window) (IsShrunk dx dy (IsInSome traps)) shrunk joined left_decided
        (λ t h. (h.rows, kept t h.rows (some_by t h) h.free))
        (λ t rows all. record { rows = rows; free = not_round t rows all; wound = wound_by_some t rows (all t (near_itself dx dy r t)) })

-- what isn't in the list, within the widened hull, isn't far
pub outside_near : (dx dy : ℤ) (hull : Frame) → IsSizing dx dy → IsFullBox (2 ^ 42) hull → (z : Trapezoid)
    → ((t : Tile) → IsInTrapezoid z t ↔ IsInFrame (wider dx dy hull) t)
    → (traps : List Trapezoid) (rows : RowRange) (outside : List Trapezoid)
    → IsJoinedOf rows (IsInResult Sub (z ∷ []) traps rows) outside → All (HasCornersUpTo (2 ^ 43)) outside
outside_near dx dy hull s full z tiles traps rows outside joined =
    let has = combined_has Sub (z ∷ []) traps rows outside joined in
    corners_of_all 4398046576640 (2 ^ 43) outside joined.joined.legal
    (λ t some. wider_tile dx dy hull s full t ((tiles t).0 (in_one z t (has.inside t some).1.0))) (omega arith)

none_in : (t : Tile) → IsInSome [] t → ⊥
none_in t h = omega (arith, h)

pub no_items : {X : Type 0} (xs : List X) → length xs ≡ 0 → xs ≡ []
no_items [] e = refl
no_items (x ∷ xs) e = absurd (omega (arith, e))

-- nothing shrinks to nothing
pub empty_shrunk : (dx dy : ℤ) → IsRectangle dx dy → (traps none : List Trapezoid) (window : RowRange) → traps ≡ []
    → none ≡ [] → HasArea window (IsShrunk dx dy (IsInSome traps)) none
empty_shrunk dx dy r traps none window is empty = rw (is, empty) (record {
  joined = record {
    legal = λ k d inside. absurd (omega (arith, inside));
    in_window = λ k d inside. absurd (omega (arith, inside));
    apart = λ t. omega arith;
    ends_free = λ z t among beside. refl;
    not_stacked = λ y z among other left right. absurd (omega (arith, among.1));
    in_order = tt;
  };
  inside = λ t some. absurd (none_in t some);
  all = λ t rows all. absurd (none_in t (all t (near_itself dx dy r t)));
})
