-- A known set of tiles that isn't far from 0 has a joined list in each window of rows.
--
-- In one row its tiles form spans: some numbers that follow each other, with one between two spans that is in none. Each
-- span is a trapezoid of the row, and these are the row's joined list. The window's list grows from the bottom up, row
-- by row: the row's trapezoids go on from those that reach it, or begin there.
use Rattle.std.proofs.Common.{◌≡◌, ◌⊎◌, inl, inr, ℕ, zero, suc, ◌+◌, ◌^◌, ℤ, pos, negsuc, neg_ℤ, ◌+ℤ◌, ◌-ℤ◌, ◌≤ℤ◌, ◌<ℤ◌}
use Rattle.std.proofs.Common.{Bool, true, false, if◌then◌else◌, List, [], ◌∷◌, ◌++◌, All, Contains, map, refl, sym, ap, subst, ◌∙◌, arith}
use Rattle.std.proofs.lemmas.Int.{ints, by_lt_z}
use Rattle.std.proofs.lemmas.List.{append_assoc}
use Rattle.std.proofs.lemmas.List.Elements.{All-map, All-nil, Contains-append_cases, Contains-push_cases}
use Rattle.half_grid.specs.Halves.{half, twice, is_even}
use Rattle.half_grid.specs.Reach.{IsWithinReach}
use Rattle.half_grid.specs.Rows.{place, number_at, number_in_row, line_with_place}
use Rattle.half_grid.specs.Trapezoids.{Trapezoid, trapezoid, IsShot, CoversExactly, count_in}
use Rattle.half_grid.specs.Windows.{RowRange, row_range}
use Rattle.half_grid.specs.JoinedLists.{IsJoined, StandsBefore, StandInOrder}
use Rattle.half_grid.specs.declared.plane.Tile.{Tile}
use Rattle.half_grid.specs.declared.plane.Side.{Side}
use Rattle.half_grid.specs.declared.plane.Side.TheVariants.{Left, Right}
use Rattle.half_grid.specs.declared.plane.Line.TheVariants.{Upright, Rising, Falling}
use Rattle.half_grid.proofs.ForCallers.{tile_with, tile_with_number, same_number, in_by_number, in_has, i_low, i_high, row_shot}
use Rattle.trap_join.specs.Maximal.{IsRunAt, IsMaximal}
use Rattle.bool_ops.specs.Operations.{IsInRows, IsJoinedOf}
use Rattle.deck_plan.specs.Needs.{IsBand}
use Rattle.deck_plan.specs.Bounds.{IsTileUpTo}
use Rattle.deck_plan.specs.Stacks.{IsJoinedUpTo, ended, lengthened}
use Rattle.trap_join.proofs.ForCallers.{is_first, among_rest, all_members, mapped, origin, Found, maximal_joined, maximal_cover}
use Rattle.deck_plan.proofs.StackLemmas.{stacked_shots, stacked_joined, stacked_count, ended_below}
use Rattle.std.proofs.Common.{Option, Some, None, IfSome, ◌<◌, slice_get}
use Rattle.std.specs.Prelude.{IsSomeAnd}
use Rattle.layout_model.specs.declared.pair.Pair.{Pair}
use Rattle.layout_model.specs.declared.cells.Cell.{Cell}
use Rattle.cell_tree.specs.Flattening.{IsInLayer}
use Rattle.deck_text.specs.Sound.{IsSoundStep, IsFrame}
use Rattle.deck_text.specs.declared.deck.Step.{Step}
use Rattle.deck_text.specs.declared.deck.Output.{Output}
use Rattle.deck_text.specs.declared.deck.Deck.{Deck}
use Rattle.deck_plan.specs.Areas.{IsInArea, IsInOutput}
use Rattle.deck_plan.specs.Plans.{IsBandOf}
use Rattle.deck_plan.proofs.StepLemmas.{area_near}
use Rattle.deck_plan.proofs.KnownAreas.{output_known}

-- ---- the line of a place

abbrev side_by : Bool → Side
side_by b = if b then Left else Right

even_half : (z : ℤ) → is_even z ≡ true → twice (half z) ≡ z
even_half z e = subst (λ (b : Bool). number_at (half z) (side_by b) ≡ z) e (tile_with_number z (pos 0))

odd_half : (z : ℤ) → is_even z ≡ false → twice (half z) +ℤ pos 1 ≡ z
odd_half z e = subst (λ (b : Bool). number_at (half z) (side_by b) ≡ z) e (tile_with_number z (pos 0))

half_by : (b : Bool) (z : ℤ) → is_even z ≡ b → (twice (half z) ≤ℤ z) × (z ≤ℤ (twice (half z) +ℤ pos 1))
half_by true z e = let h = even_half z e in (omega (arith, ints, h), omega (arith, ints, h))
half_by false z e = let h = odd_half z e in (omega (arith, ints, h), omega (arith, ints, h))

line_by : (b c : Bool) (n j : ℤ) → is_even n ≡ b → is_even (half n -ℤ j) ≡ c
    → place (if b then Upright (half n) else if c then Rising (half (half n -ℤ j)) else Falling (half ((half n +ℤ j) +ℤ pos 1))) j ≡ n
line_by true c n j e f = omega (arith, ints, even_half n e)
line_by false true n j e f = omega (arith, ints, odd_half n e, even_half (half n -ℤ j) f)
line_by false false n j e f =
    let h = half_by (is_even ((half n +ℤ j) +ℤ pos 1)) ((half n +ℤ j) +ℤ pos 1) refl in
    omega (arith, ints, odd_half n e, odd_half (half n -ℤ j) f, h.0, h.1)

line_place : (n j : ℤ) → place (line_with_place n j) j ≡ n
unfolding line_with_place
line_place n j = line_by (is_even n) (is_even (half n -ℤ j)) n j refl refl

-- ---- spans of numbers

-- the numbers from the one up to below the other
record Span : Type 0 where
  from : ℤ
  below : ℤ

abbrev span : ℤ → ℤ → Span
span from below = record { from = from; below = below }

-- the number is in one of the spans
abbrev IsAmong : ℤ → List Span → Type 0
IsAmong n [] = ⊥
IsAmong n (s ∷ ss) = ((s.from ≤ℤ n) × (n <ℤ s.below)) ⊎ IsAmong n ss

-- from a on and up to e, each has a number, and between two is one that is in none
abbrev StandWithin : ℤ → ℤ → List Span → Type 0
StandWithin a e [] = Unit {0}
StandWithin a e (s ∷ ss) = (a ≤ℤ s.from) × (s.from <ℤ s.below) × (s.below ≤ℤ e) × StandWithin (s.below +ℤ pos 1) e ss

-- spans that have exactly those numbers from a up to below e that are inside
record AreSpans (inside : ℤ → Type 0) (a e : ℤ) : Type 0 where
  spans : List Span
  stand : StandWithin a e spans
  only : (n : ℤ) → IsAmong n spans → inside n
  all : (n : ℤ) → a ≤ℤ n → n <ℤ e → inside n → IsAmong n spans

module _ (inside : ℤ → Type 0) (e : ℤ) where
  at_number : (n a : ℤ) → n ≡ a → inside a → inside n
  at_number n a same here = subst inside (sym same) here

  no_spans : AreSpans inside e e
  no_spans = record { spans = []; stand = tt; only = λ n h. absurd h; all = λ n a b _. absurd (omega (arith, ints, a, b)) }

  stand_lower : (a : ℤ) (ss : List Span) → StandWithin (a +ℤ pos 1) e ss → StandWithin a e ss
  stand_lower a [] h = tt
  stand_lower a (s ∷ ss) h = let low = h.0 in (omega (arith, ints, low), h.1, h.2, h.3)

  -- the number before them isn't inside
  spans_after : (a : ℤ) → AreSpans inside (a +ℤ pos 1) e → (inside a → ⊥) → AreSpans inside a e
  spans_after a s out = record {
    spans = s.spans;
    stand = stand_lower a s.spans s.stand;
    only = s.only;
    all = λ n low high h. by_lt_z a n
        (λ lt. s.all n (omega (arith, ints, lt)) high h)
        (λ ge. absurd (out (at_number a n (omega (arith, ints, low, ge)) h)));
  }

  module _ (a : ℤ) (up : a <ℤ e) (here : inside a) where
    -- the number before them begins a span
    begun : (ss : List Span) → StandWithin ((a +ℤ pos 1) +ℤ pos 1) e ss → ((n : ℤ) → IsAmong n ss → inside n)
        → ((n : ℤ) → (a +ℤ pos 1) ≤ℤ n → n <ℤ e → inside n → IsAmong n ss) → AreSpans inside a e
    begun ss stand only all = record {
      spans = span a (a +ℤ pos 1) ∷ ss;
      stand = (omega (arith, ints), omega (arith, ints), omega (arith, ints, up), stand);
      only = λ n h. elim h [
        | inl k ↦ (let low = k.0 in let high = k.1 in at_number n a (omega (arith, ints, low, high)) here)
        | inr later ↦ only n later
      ];
      all = λ n low high h. by_lt_z a n
          (λ lt. inr (all n (omega (arith, ints, lt)) high h))
          (λ ge. inl (low, omega (arith, ints, ge)));
    }

    -- the first span begins right after the number before them, which lengthens it
    longer : (s : Span) (ss : List Span) → s.from ≡ a +ℤ pos 1 → StandWithin (a +ℤ pos 1) e (s ∷ ss)
        → ((n : ℤ) → IsAmong n (s ∷ ss) → inside n)
        → ((n : ℤ) → (a +ℤ pos 1) ≤ℤ n → n <ℤ e → inside n → IsAmong n (s ∷ ss)) → AreSpans inside a e
    longer s ss next stand only all = record {
      spans = span a s.below ∷ ss;
      stand = (let some = stand.1 in (omega (arith, ints), omega (arith, ints, some, next), stand.2, stand.3));
      only = λ n h. elim h [
        | inl k ↦ by_lt_z a n
            (λ lt. only n (inl (omega (arith, ints, lt, next), k.1)))
            (λ ge. (let low = k.0 in at_number n a (omega (arith, ints, low, ge)) here))
        | inr later ↦ only n (inr later)
      ];
      all = λ n low high h. by_lt_z a n
          (λ lt. elim (all n (omega (arith, ints, lt)) high h) [ inl k ↦ inl (low, k.1) | inr later ↦ inr later ])
          (λ ge. (let some = stand.1 in inl (low, omega (arith, ints, ge, some, next))));
    }

    spans_with : (ss : List Span) → StandWithin (a +ℤ pos 1) e ss → ((n : ℤ) → IsAmong n ss → inside n)
        → ((n : ℤ) → (a +ℤ pos 1) ≤ℤ n → n <ℤ e → inside n → IsAmong n ss) → AreSpans inside a e
    spans_with [] stand only all = begun [] tt only all
    spans_with (s ∷ ss) stand only all =
        by_lt_z (a +ℤ pos 1) s.from
        (λ lt. begun (s ∷ ss) (omega (arith, ints, lt), stand.1, stand.2, stand.3) only all)
        (λ ge. (let low = stand.0 in longer s ss (omega (arith, ints, low, ge)) stand only all))

  -- the k numbers up to below e have spans, where it is known of each whether it is inside
  spans_of : ((n : ℤ) → inside n ⊎ (inside n → ⊥)) → (k : ℕ) (a : ℤ) → a +ℤ pos k ≡ e → AreSpans inside a e
  spans_of decided zero a same = subst (λ (x : ℤ). AreSpans inside x e) (let h : e ≡ a = omega (arith, ints, same) in h) no_spans
  spans_of decided (suc k) a same =
      let later = spans_of decided k (a +ℤ pos 1) (omega (arith, ints, same)) in
      elim (decided a) [
        | inl h ↦ spans_with a (omega (arith, ints, same)) h later.spans later.stand later.only later.all
        | inr out ↦ spans_after a later out
      ]

-- ---- members of spans

none_in_empty : {P : Type 0} (s : Span) → Contains [] s → P
none_in_empty s h = absurd (omega (arith, h.1))

only_one : (x s : Span) → Contains (x ∷ []) s → x ≡ s
only_one x s h = elim (Contains-push_cases [] x s h) [ inl e ↦ none_in_empty s e | inr e ↦ e ]

first_or_later : (x s : Span) (ss : List Span) → Contains (x ∷ ss) s → (x ≡ s) ⊎ Contains ss s
first_or_later x s ss h = elim (Contains-append_cases (x ∷ []) ss s h) [ inl e ↦ inl (only_one x s e) | inr e ↦ inr e ]

abbrev LiesWithin : ℤ → ℤ → Span → Type 0
LiesWithin a e s = (a ≤ℤ s.from) × (s.from <ℤ s.below) × (s.below ≤ℤ e)

span_within : (a e : ℤ) (s : Span) (ss : List Span) → StandWithin a e ss → Contains ss s → LiesWithin a e s
span_within a e s [] stand h = none_in_empty s h
span_within a e s (x ∷ ss) stand h =
    elim (first_or_later x s ss h) [
      | inl same ↦ subst (LiesWithin a e) same (stand.0, stand.1, stand.2)
      | inr later ↦ (let low = stand.0 in let some = stand.1 in let w = span_within (x.below +ℤ pos 1) e s ss stand.3 later in
          let from = w.0 in (omega (arith, ints, low, some, from), w.1, w.2))
    ]

-- a number in a span is in some member
holder : (n : ℤ) (ss : List Span) → IsAmong n ss → (s : Span) × Contains ss s × (s.from ≤ℤ n) × (n <ℤ s.below)
holder n [] h = absurd h
holder n (x ∷ ss) h =
    elim h [
      | inl k ↦ (x, is_first x ss, k.0, k.1)
      | inr later ↦ (let w = holder n ss later in (w.0, among_rest x w.0 ss w.1, w.2, w.3))
    ]

-- a number of a member is in a span
held : (n : ℤ) (s : Span) (ss : List Span) → Contains ss s → s.from ≤ℤ n → n <ℤ s.below → IsAmong n ss
held n s [] h low high = none_in_empty s h
held n s (x ∷ ss) h low high =
    elim (first_or_later x s ss h) [
      | inl same ↦ inl (subst (λ (u : Span). u.from ≤ℤ n) (sym same) low, subst (λ (u : Span). n <ℤ u.below) (sym same) high)
      | inr later ↦ inr (held n s ss later low high)
    ]

-- a number before them is in none
none_before : (n a e : ℤ) (ss : List Span) → StandWithin a e ss → n <ℤ a → IsAmong n ss → ⊥
none_before n a e [] stand lt h = h
none_before n a e (x ∷ ss) stand lt h =
    let low = stand.0 in
    let some = stand.1 in
    elim h [
      | inl k ↦ (let from = k.0 in omega (arith, ints, low, from, lt))
      | inr later ↦ none_before n (x.below +ℤ pos 1) e ss stand.3 (omega (arith, ints, low, some, lt)) later
    ]

-- the number is just left of the span or just right of it
abbrev Borders : ℤ → Span → Type 0
Borders n s = (n +ℤ pos 1 ≡ s.from) ⊎ (n ≡ s.below)

not_in_first : (n e : ℤ) (s : Span) (ss : List Span) → s.from <ℤ s.below → StandWithin (s.below +ℤ pos 1) e ss → Borders n s → IsAmong n (s ∷ ss) → ⊥
not_in_first n e s ss some stand (inl b) (inl k) = let from = k.0 in omega (arith, ints, from, b)
not_in_first n e s ss some stand (inr b) (inl k) = let below = k.1 in omega (arith, ints, below, b)
not_in_first n e s ss some stand (inl b) (inr later) = none_before n (s.below +ℤ pos 1) e ss stand (omega (arith, ints, some, b)) later
not_in_first n e s ss some stand (inr b) (inr later) = none_before n (s.below +ℤ pos 1) e ss stand (omega (arith, ints, b)) later

not_before : (n : ℤ) (x s : Span) → Borders n s → (x.below +ℤ pos 1) ≤ℤ s.from → s.from <ℤ s.below → n <ℤ x.below → ⊥
not_before n x s (inl b) low some lt = omega (arith, ints, b, low, lt)
not_before n x s (inr b) low some lt = omega (arith, ints, b, low, some, lt)

-- such a number is in none
border_free : (n a e : ℤ) (s : Span) (ss : List Span) → StandWithin a e ss → Contains ss s → Borders n s → IsAmong n ss → ⊥
border_free n a e s [] stand h b k = k
border_free n a e s (x ∷ ss) stand h b k =
    elim (first_or_later x s ss h) [
      | inl same ↦ not_in_first n e x ss stand.1 stand.3 (subst (Borders n) (sym same) b) k
      | inr later ↦ (let w = span_within (x.below +ℤ pos 1) e s ss stand.3 later in
          elim k [
            | inl here ↦ not_before n x s b w.0 w.1 here.1
            | inr after ↦ border_free n (x.below +ℤ pos 1) e s ss stand.3 later b after
          ])
    ]

-- ---- the trapezoids of a row

abbrev row_trap : ℤ → Span → Trapezoid
row_trap y s = trapezoid y (y +ℤ pos 1) (line_with_place s.from y) (line_with_place s.below y)

place_at : (n y j : ℤ) → y ≡ j → place (line_with_place n y) j ≡ n
place_at n y j same = subst (λ (x : ℤ). place (line_with_place n y) x ≡ n) same (line_place n y)

-- the place of a line in the row below the top of its row
place_under : (n y : ℤ) → place (line_with_place n y) ((y +ℤ pos 1) -ℤ pos 1) ≡ n
place_under n y = place_at n y ((y +ℤ pos 1) -ℤ pos 1) (omega (arith, ints))

left_of : (y : ℤ) (s u : Span) → s.from <ℤ u.from → StandsBefore (row_trap y s) (row_trap y u)
left_of y s u lt = inr (refl, omega (arith, ints, place_under s.from y, place_under u.from y, lt))

row_order : (y a e : ℤ) (ss : List Span) → StandWithin a e ss → StandInOrder (map (row_trap y) ss)
row_order y a e [] stand = tt
row_order y a e (s ∷ ss) stand = (
  all_members (StandsBefore (row_trap y s)) (map (row_trap y) ss) (λ z h. (let o = origin (row_trap y) z ss h in
      let w = span_within (s.below +ℤ pos 1) e o.0 ss stand.3 o.1 in
      let from = w.0 in
      let some = stand.1 in
      subst (StandsBefore (row_trap y s)) o.2 (left_of y s o.0 (omega (arith, ints, from, some))))),
  row_order y (s.below +ℤ pos 1) e ss stand.3,
)

abbrev first_number : ℤ
first_number = neg_ℤ (pos (2 ^ 43))

abbrev last_number : ℤ
last_number = pos (2 ^ 43)

-- the joined list of one row
record HasRow (area : Tile → Type 0) (y : ℤ) : Type 0 where
  strip : List Trapezoid
  shots : All IsShot strip
  joined : IsJoined (row_range y (y +ℤ pos 1)) strip
  covers : CoversExactly strip (λ t. IsInRows (row_range y (y +ℤ pos 1)) t × area t)
  tops : All (λ z. z.y1 ≡ y +ℤ pos 1) strip

place_within : (n y : ℤ) → first_number ≤ℤ n → n ≤ℤ last_number → IsWithinReach (place (line_with_place n y) y)
place_within n y low high = subst IsWithinReach (sym (line_place n y)) (record { low = omega (arith, ints, low); high = omega (arith, ints, high) })

span_shot : (y : ℤ) (s : Span) → IsWithinReach y → IsWithinReach (y +ℤ pos 1) → LiesWithin first_number last_number s → IsShot (row_trap y s)
span_shot y s low high w =
    let from = w.0 in
    let some = w.1 in
    let below = w.2 in
    row_shot (line_with_place s.from y) (line_with_place s.below y) y low high
    (place_within s.from y from (omega (arith, ints, some, below))) (place_within s.below y (omega (arith, ints, from, some)) below)
    (omega (arith, ints, line_place s.from y, line_place s.below y, some))

module _ (area : Tile → Type 0) (y : ℤ) (ss : List Span) (stand : StandWithin first_number last_number ss)
    (only : (t : Tile) → t.j ≡ y → IsAmong (number_in_row t) ss → area t)
    (all : (t : Tile) → t.j ≡ y → area t → IsAmong (number_in_row t) ss) where
  abbrev InRow : Tile → Type 0
  InRow t = IsInRows (row_range y (y +ℤ pos 1)) t × area t

  in_this_row : (t : Tile) → t.j ≡ y → IsInRows (row_range y (y +ℤ pos 1)) t
  in_this_row t e = record { from = omega (arith, ints, e); below = omega (arith, ints, e) }

  this_row : (t : Tile) → IsInRows (row_range y (y +ℤ pos 1)) t → t.j ≡ y
  this_row t h = let low = h.from in let high = h.below in omega (arith, ints, low, high)

  no_border : (s : Span) (t : Tile) → Contains ss s → t.j ≡ y → Borders (number_in_row t) s → InRow t → ⊥
  no_border s t h e b a = border_free (number_in_row t) first_number last_number s ss stand h b (all t e a.1)

  span_run : (s : Span) → Contains ss s → IsRunAt InRow (line_with_place s.from y) (line_with_place s.below y) y
  span_run s h =
      let left = line_place s.from y in
      let right = line_place s.below y in
      let some = (span_within first_number last_number s ss stand h).1 in
      record {
        has_tile = omega (arith, ints, left, right, some);
        inside = λ t e from to. (in_this_row t e, only t e (held (number_in_row t) s ss h (omega (arith, ints, left, from)) (omega (arith, ints, right, to))));
        left_end = λ t e b. no_border s t h e (inl (b ∙ left));
        right_end = λ t e b. no_border s t h e (inr (b ∙ right));
      }

  module _ (low : IsWithinReach y) (high : IsWithinReach (y +ℤ pos 1)) where
    shot_of : (s : Span) → Contains ss s → IsShot (row_trap y s)
    shot_of s h = span_shot y s low high (span_within first_number last_number s ss stand h)

    span_maximal : (s : Span) → Contains ss s → IsMaximal InRow (row_range y (y +ℤ pos 1)) (row_trap y s)
    span_maximal s h = record {
      legal = (shot_of s h).legal;
      in_window = record { low = omega (arith, ints); high = omega (arith, ints) };
      runs = λ j a b. subst (IsRunAt InRow (line_with_place s.from y) (line_with_place s.below y))
          (let same : y ≡ j = omega (arith, ints, a, b) in same) (span_run s h);
      top = λ lt _. omega (arith, ints, lt);
      bottom = λ lt _. omega (arith, ints, lt);
    }

    strip_found : (t : Tile) → InRow t → Found t (map (row_trap y) ss)
    strip_found t a =
        let e = this_row t a.0 in
        let w = holder (number_in_row t) ss (all t e a.1) in
        let from = w.2 in
        let below = w.3 in
        let left = place_at w.0.from y t.j (sym e) in
        let right = place_at w.0.below y t.j (sym e) in (
          row_trap y w.0,
          mapped (row_trap y) w.0 ss w.1,
          in_has t (row_trap y w.0) (in_by_number (row_trap y w.0) t (record {
            above_bottom = omega (arith, ints, e);
            below_top = omega (arith, ints, e);
            from_left = omega (arith, ints, left, from);
            below_right = omega (arith, ints, right, below);
          })),
        )

    each_maximal : All (IsMaximal InRow (row_range y (y +ℤ pos 1))) (map (row_trap y) ss)
    each_maximal = All-map (IsMaximal InRow (row_range y (y +ℤ pos 1))) (row_trap y) ss
        (all_members (λ s. IsMaximal InRow (row_range y (y +ℤ pos 1)) (row_trap y s)) ss span_maximal)

    row_of_spans : HasRow area y
    row_of_spans =
        let order = row_order y first_number last_number ss stand in
        record {
          strip = map (row_trap y) ss;
          shots = All-map IsShot (row_trap y) ss (all_members (λ s. IsShot (row_trap y s)) ss shot_of);
          joined = maximal_joined InRow (row_range y (y +ℤ pos 1)) (map (row_trap y) ss) order each_maximal strip_found;
          covers = maximal_cover InRow (row_range y (y +ℤ pos 1)) (map (row_trap y) ss) order each_maximal strip_found;
          tops = All-map (λ z. z.y1 ≡ y +ℤ pos 1) (row_trap y) ss (all_members (λ s. (row_trap y s).y1 ≡ y +ℤ pos 1) ss (λ s h. refl));
        }

-- ---- one row more

-- The rows below some Y have a joined list, and those from there up to below b have one, the strip. This is so of the
-- list of all rows from a up to below b.
record IsStacked (a b : ℤ) (done growing strip : List Trapezoid) : Type 0 where
  shots : All IsShot (done ++ (ended strip growing ++ map (lengthened growing) strip))
  joined : IsJoined (row_range a b) (done ++ (ended strip growing ++ map (lengthened growing) strip))
  count : (t : Tile) → count_in (done ++ (ended strip growing ++ map (lengthened growing) strip)) t ≡ count_in (done ++ growing) t + count_in strip t
  ended_below : All (λ z. z.y1 <ℤ b) (done ++ ended strip growing)

-- joined lists of rows that lie upon each other make one
stacked : (a y b : ℤ) (done growing strip : List Trapezoid) → a ≤ℤ y → y <ℤ b → IsJoinedUpTo (row_range a y) done growing
    → All IsShot strip → IsJoined (row_range y b) strip → IsStacked a b done growing strip
stacked a y b done growing strip low some lower shots upper = record {
  shots = stacked_shots a y b done growing strip some lower shots upper;
  joined = stacked_joined a y b done growing strip some lower shots upper low;
  count = stacked_count a y b done growing strip some lower shots upper;
  ended_below = ended_below a y b done growing strip some lower shots upper;
}

-- the area's joined list of the rows from a up to below y
record HasRows (area : Tile → Type 0) (a y : ℤ) : Type 0 where
  done : List Trapezoid
  growing : List Trapezoid
  so_far : IsJoinedUpTo (row_range a y) done growing
  covers : CoversExactly (done ++ growing) (λ t. IsInRows (row_range a y) t × area t)

no_rows : (area : Tile → Type 0) (a : ℤ) → HasRows area a a
no_rows area a =
    let here : Tile → Type 0 = λ t. IsInRows (row_range a a) t × area t in
    let none : (t : Tile) → IsInRows (row_range a a) t × area t → Found t [] =
    λ t h. absurd (let low = h.0.from in let high = h.0.below in omega (arith, ints, low, high)) in
    record {
      done = [];
      growing = [];
      so_far = record {
        shots = All-nil IsShot;
        joined = maximal_joined here (row_range a a) [] tt (All-nil (IsMaximal here (row_range a a))) none;
        below = All-nil (λ (z : Trapezoid). z.y1 <ℤ a);
        reach = All-nil (λ (z : Trapezoid). z.y1 ≡ a);
      };
      covers = maximal_cover here (row_range a a) [] tt (All-nil (IsMaximal here (row_range a a))) none;
    }

module _ (area : Tile → Type 0) (a y : ℤ) (up : a ≤ℤ y) (lower : HasRows area a y) (row : HasRow area y)
    (stack : IsStacked a (y +ℤ pos 1) lower.done lower.growing row.strip) where
  abbrev ends : List Trapezoid
  ends = lower.done ++ ended row.strip lower.growing

  abbrev grows : List Trapezoid
  grows = map (lengthened lower.growing) row.strip

  regrouped : lower.done ++ (ended row.strip lower.growing ++ grows) ≡ ends ++ grows
  regrouped = sym (append_assoc lower.done (ended row.strip lower.growing) grows)

  stack_count : (t : Tile) → count_in (ends ++ grows) t ≡ count_in (lower.done ++ lower.growing) t + count_in row.strip t
  stack_count t = sym (ap (λ (zs : List Trapezoid). count_in zs t) regrouped) ∙ stack.count t

  once : (t : Tile) → IsInRows (row_range a (y +ℤ pos 1)) t → area t → count_in (ends ++ grows) t ≡ 1
  once t rows h =
      let n = stack_count t in
      let low = rows.from in
      let high = rows.below in
      by_lt_z t.j y
      (λ lt. (let first = lower.covers.once t (record { from = low; below = lt }, h) in
      let second = row.covers.never t (λ k. (let from = k.0.from in omega (arith, ints, lt, from))) in
      omega (arith, n, first, second)))
      (λ ge. (let first = lower.covers.never t (λ k. (let below = k.0.below in omega (arith, ints, ge, below))) in
      let second = row.covers.once t (record { from = ge; below = high }, h) in
      omega (arith, n, first, second)))

  never : (t : Tile) → (IsInRows (row_range a (y +ℤ pos 1)) t × area t → ⊥) → count_in (ends ++ grows) t ≡ 0
  never t out =
      let n = stack_count t in
      let first = lower.covers.never t (λ k. (let below = k.0.below in out (record { from = k.0.from; below = omega (arith, ints, below) }, k.1))) in
      let second = row.covers.never t (λ k. (let from = k.0.from in out (record { from = omega (arith, ints, up, from); below = k.0.below }, k.1))) in
      omega (arith, n, first, second)

  one_row_more : HasRows area a (y +ℤ pos 1)
  one_row_more = record {
    done = ends;
    growing = grows;
    so_far = record {
      shots = subst (All IsShot) regrouped stack.shots;
      joined = subst (IsJoined (row_range a (y +ℤ pos 1))) regrouped stack.joined;
      below = stack.ended_below;
      reach = All-map (λ z. z.y1 ≡ y +ℤ pos 1) (lengthened lower.growing) row.strip row.tops;
    };
    covers = record { once = λ t h. once t h.0 h.1; never = never };
  }

-- ---- the rows of a known area

same_tile : (t : Tile) (y : ℤ) → t.j ≡ y → tile_with (number_in_row t) y ≡ t
same_tile t y e = same_number (tile_with (number_in_row t) y) t (sym e) (tile_with_number (number_in_row t) y)

module _ (area : Tile → Type 0) (known : (t : Tile) → area t ⊎ (area t → ⊥))
    (near : (t : Tile) → area t → IsTileUpTo 2199023255552 t) where
  number_from : (t : Tile) → area t → first_number ≤ℤ number_in_row t
  number_from t h = let low = (near t h).column.low in omega (arith, ints, i_low t, low)

  number_to : (t : Tile) → area t → number_in_row t <ℤ last_number
  number_to t h = let high = (near t h).column.high in omega (arith, ints, i_high t, high)

  row_of : (y : ℤ) → IsWithinReach y → IsWithinReach (y +ℤ pos 1) → HasRow area y
  row_of y low high =
      let s = spans_of (λ n. area (tile_with n y)) last_number (λ n. known (tile_with n y)) (2 ^ 44) first_number (omega (arith, ints)) in
      row_of_spans area y s.spans s.stand
      (λ t e h. subst area (same_tile t y e) (s.only (number_in_row t) h))
      (λ t e h. s.all (number_in_row t) (number_from t h) (number_to t h) (subst area (sym (same_tile t y e)) h))
      low high

  module _ (window : RowRange) (band : IsBand window) where
    row_in : (y : ℤ) → window.y0 ≤ℤ y → y <ℤ window.y1 → HasRow area y
    row_in y from below =
        let low = band.low.low in
        let high = band.high.high in
        row_of y (record { low = omega (arith, ints, low, from); high = omega (arith, ints, high, below) })
        (record { low = omega (arith, ints, low, from); high = omega (arith, ints, high, below) })

    next_row : (y : ℤ) → window.y0 ≤ℤ y → y <ℤ window.y1 → HasRows area window.y0 y → HasRows area window.y0 (y +ℤ pos 1)
    next_row y from below lower =
        let row = row_in y from below in
        one_row_more area window.y0 y from lower row
        (stacked window.y0 y (y +ℤ pos 1) lower.done lower.growing row.strip from (omega (arith, ints)) lower.so_far row.shots row.joined)

    first_rows : (k : ℕ) (y : ℤ) → window.y0 +ℤ pos k ≡ y → y ≤ℤ window.y1 → HasRows area window.y0 y
    first_rows zero y e top = subst (HasRows area window.y0) (let same : window.y0 ≡ y = omega (arith, ints, e) in same) (no_rows area window.y0)
    first_rows (suc k) y e top =
        let lower = first_rows k (y -ℤ pos 1) (omega (arith, ints, e)) (omega (arith, ints, top)) in
        let same : (y -ℤ pos 1) +ℤ pos 1 ≡ y = omega (arith, ints) in
        subst (HasRows area window.y0) same (next_row (y -ℤ pos 1) (omega (arith, ints, e)) (omega (arith, ints, top)) lower)

    all_rows : (height : ℤ) → window.y0 +ℤ height ≡ window.y1 → pos 0 ≤ℤ height → HasRows area window.y0 window.y1
    all_rows (pos k) e some = first_rows k window.y1 e (omega (arith, ints))
    all_rows (negsuc k) e some = absurd (omega (arith, ints, some))

  -- a known set of tiles that isn't far from 0 has a joined list in each band
  pub list_exists : (window : RowRange) → IsBand window
      → (traps : List Trapezoid) × All IsShot traps × IsJoinedOf window (λ t. IsInRows window t × area t) traps
  list_exists window band =
      let some = band.has_rows in
      let rows = all_rows window band (window.y1 -ℤ window.y0) (omega (arith, ints)) (omega (arith, ints, some)) in
      (rows.done ++ rows.growing, rows.so_far.shots, record { joined = rows.so_far.joined; covers = rows.covers })

-- ---- the area of an output

named_area : (area : ℕ → Type 0) (name : ℕ) (found : Option Output) → IsSomeAnd found (λ output. output.name ≡ name)
    → IsSomeAnd found (λ output. area output.name) → area name
named_area area name None same h = absurd h
named_area area name (Some output) same h = subst area same h

module _ (cells : List Cell) (top : ℕ) (deck : Deck)
    (sound : (k : ℕ) (step : Step) → slice_get deck.steps k ≡ Some step → IsSoundStep deck.frame k step)
    (layers : (pair : Pair) (t : Tile) → IsInLayer cells top pair t → IsTileUpTo (2 ^ 30) t) (frames : IfSome deck.frame IsFrame)
    (k name : ℕ) (named : IsSomeAnd (slice_get deck.outputs k) (λ output. output.name ≡ name)) (few : name < 256) where
  output_near : (t : Tile) → IsInOutput cells top deck k t → IsTileUpTo 2199023255552 t
  output_near t h =
      let at = named_area (λ n. IsInArea cells top deck n t) name (slice_get deck.outputs k) named h in
      let b = area_near cells top deck sound layers frames name t at in
      record {
        column = record { low = omega (arith, ints, few, b.column.low); high = omega (arith, ints, few, b.column.high) };
        row = record { low = omega (arith, ints, few, b.row.low); high = omega (arith, ints, few, b.row.high) };
      }

  pub output_list : (band : RowRange) → IsBand band
      → (traps : List Trapezoid) × IsBandOf (record { deck = deck; cells = cells; top = top }) k band traps
  output_list band is =
      let list = list_exists (IsInOutput cells top deck k) (output_known cells top deck k) output_near band is in (
        list.0,
        record {
          shots = list.1;
          joined = record {
            joined = list.2.joined;
            covers = record {
              once = λ t h. list.2.covers.once t (h.rows, h.area);
              never = λ t out. list.2.covers.never t (λ h. out (record { rows = h.0; area = h.1 }));
            };
          };
        },
      )
