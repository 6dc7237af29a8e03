-- Each area of a deck is decided at each tile: the tile is in the area, or it isn't.
use Rattle.std.proofs.Common.{◌≡◌, ◌⊎◌, inl, inr, ℕ, zero, suc, ℤ, pos, negsuc, ◌+ℤ◌, ◌-ℤ◌, ◌≤ℤ◌, ◌<ℤ◌, List, [], ◌∷◌}
use Rattle.std.proofs.Common.{Option, Some, None, IsSomeAnd, Any, length, slice_get, ap₂, ap, subst, arith}
use Rattle.std.proofs.lemmas.Bool.Decides.{eqb_tells}
use Rattle.std.proofs.lemmas.Int.{ints, by_lt_z}
use Rattle.half_grid.specs.Nearness.{DifferAtMost, IsNear, IsGrown, IsShrunk}
use Rattle.half_grid.specs.Tiles.{strips_of}
use Rattle.half_grid.specs.Halves.{half}
use Rattle.half_grid.specs.Winding.{winding, IsInPolygon}
use Rattle.half_grid.specs.declared.plane.Point.{Point}
use Rattle.half_grid.specs.declared.plane.Side.{Side}
use Rattle.half_grid.specs.declared.plane.Side.TheVariants.{Left, Right}
use Rattle.half_grid.specs.declared.plane.Tile.{Tile}
use Rattle.half_grid.specs.declared.extent.Frame.{Frame}
use Rattle.layout_model.specs.declared.pair.Pair.{Pair}
use Rattle.layout_model.specs.declared.cells.Cell.{Cell}
use Rattle.cell_tree.specs.Flattening.{Flat, flattened, IsInLayer}
use Rattle.cell_tree.proofs.ForCallers.{Has, has_any, any_has}
use Rattle.tone_mirror.specs.Frames.{IsInFrame}
use Rattle.tone_mirror.specs.Mirrors.{mirrored_tile}
use Rattle.deck_text.specs.declared.deck.Step.{Step}
use Rattle.deck_text.specs.declared.deck.Step.TheVariants.{Layer, Or, And, Sub, Xor, Grow, Shrink, Invert, Mirror}
use Rattle.deck_text.specs.declared.deck.Deck.{Deck}
use Rattle.deck_plan.specs.Areas.{IsInStep, area_over, IsInArea}
use Rattle.job_laws.specs.AreaLaws.{IsDecided, AreasDecided, CountsTell}

-- ---- what is made of what is known

known_not : (P : Type 0) → IsDecided P → IsDecided (P → ⊥)
known_not P (inl p) = inr (λ f. f p)
known_not P (inr out) = inl out

known_both : (P Q : Type 0) → IsDecided P → IsDecided Q → IsDecided (P × Q)
known_both P Q (inl p) (inl q) = inl (p, q)
known_both P Q (inl p) (inr out) = inr (λ h. out h.1)
known_both P Q (inr out) q = inr (λ h. out h.0)

known_either : (P Q : Type 0) → IsDecided P → IsDecided Q → IsDecided (P ⊎ Q)
known_either P Q (inl p) q = inl (inl p)
known_either P Q (inr out) (inl q) = inl (inr q)
known_either P Q (inr out) (inr off) = inr (λ h. elim h [ inl p ↦ out p | inr q ↦ off q ])

-- what holds exactly where something known does
known_as : (P Q : Type 0) → (P → Q) → (Q → P) → IsDecided P → IsDecided Q
known_as P Q to back (inl p) = inl (to p)
known_as P Q to back (inr out) = inr (λ q. out (back q))

module _ {X : Type 0} (P : X → Type 0) (each : (x : X) → IsDecided (P x)) where
  option_known : (found : Option X) → IsDecided (IsSomeAnd found P)
  option_known None = inr (λ h. h)
  option_known (Some x) = each x

  has_known : (xs : List X) → IsDecided (Has P xs)
  has_known [] = inr (λ h. h)
  has_known (x ∷ xs) = known_either (P x) (Has P xs) (each x) (has_known xs)

  any_known : (xs : List X) → IsDecided (Any P xs)
  any_known xs = known_as (Has P xs) (Any P xs) (has_any P xs) (any_has P xs) (has_known xs)

-- ---- whole numbers

at_most_known : (a b : ℤ) → IsDecided (a ≤ℤ b)
at_most_known a b = by_lt_z b a (λ lt. inr (λ le. omega (arith, ints, lt, le))) (λ le. inl le)

below_known : (a b : ℤ) → IsDecided (a <ℤ b)
below_known a b = by_lt_z a b (λ lt. inl lt) (λ le. inr (λ lt. omega (arith, ints, lt, le)))

same_known : (a b : ℤ) → IsDecided (a ≡ b)
same_known a b = known_as ((a ≤ℤ b) × (b ≤ℤ a)) (a ≡ b) (λ h. omega (arith, ints, h.0, h.1))
    (λ e. (omega (arith, ints, e), omega (arith, ints, e)))
    (known_both (a ≤ℤ b) (b ≤ℤ a) (at_most_known a b) (at_most_known b a))

-- some number from a up to below a + n has P
record SomeFrom (P : ℤ → Type 0) (a : ℤ) (n : ℕ) : Type 0 where
  number : ℤ
  low : a ≤ℤ number
  high : number <ℤ (a +ℤ pos n)
  holds : P number

-- a count above a whole number
count_above : (d : ℤ) → (n : ℕ) × (d <ℤ pos n)
count_above (pos n) = (suc n, omega (arith, ints))
count_above (negsuc n) = (0, omega (arith, ints))

module _ (P : ℤ → Type 0) (each : (z : ℤ) → IsDecided (P z)) where
  -- by the last of n + 1 numbers, and by those before it
  one_more : (a : ℤ) (n : ℕ) → IsDecided (P (a +ℤ pos n)) → IsDecided (SomeFrom P a n) → IsDecided (SomeFrom P a (suc n))
  one_more a n (inl last) rest = inl (record { number = a +ℤ pos n; low = omega (arith, ints); high = omega (arith, ints); holds = last })
  one_more a n (inr out) (inl s) =
      let high = s.high in
      inl (record { number = s.number; low = s.low; high = omega (arith, ints, high); holds = s.holds })
  one_more a n (inr out) (inr none) = inr (λ s. by_lt_z s.number (a +ℤ pos n)
      (λ lt. none (record { number = s.number; low = s.low; high = lt; holds = s.holds }))
      (λ ge. (let high = s.high in out (subst P (omega (arith, ints, ge, high)) s.holds))))

  some_known : (a : ℤ) (n : ℕ) → IsDecided (SomeFrom P a n)
  some_known a zero = inr (λ s. (let low = s.low in let high = s.high in omega (arith, ints, low, high)))
  some_known a (suc n) = one_more a n (each (a +ℤ pos n)) (some_known a n)

  -- whether any number has P, where those that have it are from a up to b
  within_known : (a b : ℤ) → ((z : ℤ) → P z → (a ≤ℤ z) × (z ≤ℤ b)) → IsDecided ((z : ℤ) × P z)
  within_known a b within =
      let size = count_above (b -ℤ a) in
      let far = size.1 in
      known_as (SomeFrom P a size.0) ((z : ℤ) × P z) (λ s. (s.number, s.holds))
      (λ s. (let w = within s.0 s.1 in
      let low = w.0 in
      let high = w.1 in
      record { number = s.0; low = low; high = omega (arith, ints, high, far); holds = s.1 }))
      (some_known a size.0)

-- ---- near tiles

differ_known : (d a b : ℤ) → IsDecided (DifferAtMost d a b)
differ_known d a b = known_as (((a -ℤ b) ≤ℤ d) × ((b -ℤ a) ≤ℤ d)) (DifferAtMost d a b)
    (λ h. record { above = h.0; below = h.1 }) (λ h. (h.above, h.below))
    (known_both ((a -ℤ b) ≤ℤ d) ((b -ℤ a) ≤ℤ d) (at_most_known (a -ℤ b) d) (at_most_known (b -ℤ a) d))

differ_within : (d a b : ℤ) → DifferAtMost d a b → ((a -ℤ d) ≤ℤ b) × (b ≤ℤ (a +ℤ d))
differ_within d a b h =
    let above = h.above in
    let below = h.below in
    (omega (arith, ints, above), omega (arith, ints, below))

module _ (dx dy : ℤ) (t : Tile) where
  -- the parts of nearness
  abbrev Columns : Tile → Type 0
  Columns u = DifferAtMost dx t.i u.i

  abbrev Rows : Tile → Type 0
  Rows u = DifferAtMost dy t.j u.j

  abbrev Sums : Tile → Type 0
  Sums u = DifferAtMost (half (dx +ℤ dy)) (strips_of t).p (strips_of u).p

  abbrev Differences : Tile → Type 0
  Differences u = DifferAtMost (half (dx +ℤ dy)) (strips_of t).q (strips_of u).q

  near_known : (u : Tile) → IsDecided (IsNear dx dy t u)
  near_known u = known_as ((Columns u × Rows u) × (Sums u × Differences u)) (IsNear dx dy t u)
      (λ h. record { columns = h.0.0; rows = h.0.1; sums = h.1.0; differences = h.1.1 })
      (λ h. ((h.columns, h.rows), (h.sums, h.differences)))
      (known_both (Columns u × Rows u) (Sums u × Differences u)
      (known_both (Columns u) (Rows u) (differ_known dx t.i u.i) (differ_known dy t.j u.j))
      (known_both (Sums u) (Differences u) (differ_known (half (dx +ℤ dy)) (strips_of t).p (strips_of u).p)
      (differ_known (half (dx +ℤ dy)) (strips_of t).q (strips_of u).q)))

-- ---- grown and shrunk sets

abbrev tile_at : ℤ → ℤ → Side → Tile
tile_at i j side = record { i = i; j = j; side = side }

module _ (set : Tile → Type 0) (each : (t : Tile) → IsDecided (set t)) (dx dy : ℤ) (t : Tile) where
  -- the tile is near, and in the set
  abbrev At : ℤ → ℤ → Side → Type 0
  At i j side = set (tile_at i j side) × IsNear dx dy t (tile_at i j side)

  at_known : (i j : ℤ) (side : Side) → IsDecided (At i j side)
  at_known i j side = known_both (set (tile_at i j side)) (IsNear dx dy t (tile_at i j side))
      (each (tile_at i j side)) (near_known dx dy t (tile_at i j side))

  -- such a tile in the cell, and in the column
  abbrev InCell : ℤ → ℤ → Type 0
  InCell i j = (side : Side) × At i j side

  abbrev InColumn : ℤ → Type 0
  InColumn i = (j : ℤ) × InCell i j

  one_of_two : (i j : ℤ) (side : Side) → At i j side → At i j Left ⊎ At i j Right
  one_of_two i j Left h = inl h
  one_of_two i j Right h = inr h

  cell_known : (i j : ℤ) → IsDecided (InCell i j)
  cell_known i j = known_as (At i j Left ⊎ At i j Right) (InCell i j) (λ h. elim h [ inl l ↦ (Left, l) | inr r ↦ (Right, r) ])
      (λ h. one_of_two i j h.0 h.1) (known_either (At i j Left) (At i j Right) (at_known i j Left) (at_known i j Right))

  column_known : (i : ℤ) → IsDecided (InColumn i)
  column_known i = within_known (InCell i) (cell_known i) (t.j -ℤ dy) (t.j +ℤ dy) (λ j h. differ_within dy t.j j h.1.1.rows)

  columns_known : IsDecided ((i : ℤ) × InColumn i)
  columns_known = within_known InColumn column_known (t.i -ℤ dx) (t.i +ℤ dx) (λ i h. differ_within dx t.i i h.1.1.1.columns)

  grown_known : IsDecided (IsGrown dx dy set t)
  grown_known = known_as ((i : ℤ) × InColumn i) (IsGrown dx dy set t)
      (λ h. (tile_at h.0 h.1.0 h.1.1.0, h.1.1.1.0, h.1.1.1.1)) (λ h. (h.0.i, (h.0.j, (h.0.side, (h.1, h.2)))))
      columns_known

-- a tile is in the shrunk set exactly where no tile near it is outside of the set
shrunk_known : (set : Tile → Type 0) → ((t : Tile) → IsDecided (set t)) → (dx dy : ℤ) (t : Tile) → IsDecided (IsShrunk dx dy set t)
shrunk_known set each dx dy t = elim (grown_known (λ u. set u → ⊥) (λ u. known_not (set u) (each u)) dx dy t) [
  | inl g ↦ inr (λ all. g.1 (all g.0 g.2))
  | inr none ↦ inl (λ u near. elim (each u) [ inl h ↦ h | inr out ↦ absurd (none (u, out, near)) ])
]

-- ---- layers and frames

number_known : (a b : ℕ) → IsDecided (a ≡ b)
number_known a b = elim (eqb_tells a b) [ inl same ↦ inl same.1 | inr differs ↦ inr differs.1 ]

abbrev pair_of : ℕ → ℕ → Pair
pair_of layer datatype = record { layer = layer; datatype = datatype }

pair_known : (a b : Pair) → IsDecided (a ≡ b)
pair_known a b = known_as ((a.layer ≡ b.layer) × (a.datatype ≡ b.datatype)) (a ≡ b) (λ h. ap₂ pair_of h.0 h.1)
    (λ e. (ap (λ (pair : Pair). pair.layer) e, ap (λ (pair : Pair). pair.datatype) e))
    (known_both (a.layer ≡ b.layer) (a.datatype ≡ b.datatype) (number_known a.layer b.layer) (number_known a.datatype b.datatype))

polygon_known : (points : List Point) (t : Tile) → IsDecided (IsInPolygon points t)
polygon_known points t = known_not (winding points t ≡ pos 0) (same_known (winding points t) (pos 0))

layer_known : (cells : List Cell) (top : ℕ) (pair : Pair) (t : Tile) → IsDecided (IsInLayer cells top pair t)
layer_known cells top pair t = any_known (λ (flat : Flat). (flat.pair ≡ pair) × IsInPolygon flat.points t)
    (λ flat. known_both (flat.pair ≡ pair) (IsInPolygon flat.points t) (pair_known flat.pair pair) (polygon_known flat.points t))
    (flattened cells top)

frame_known : (frame : Frame) (t : Tile) → IsDecided (IsInFrame frame t)
frame_known frame t = known_as (((frame.x0 ≤ℤ t.i) × (t.i <ℤ frame.x1)) × ((frame.y0 ≤ℤ t.j) × (t.j <ℤ frame.y1))) (IsInFrame frame t)
    (λ h. record { from_left = h.0.0; below_right = h.0.1; above_bottom = h.1.0; below_top = h.1.1 })
    (λ h. ((h.from_left, h.below_right), (h.above_bottom, h.below_top)))
    (known_both ((frame.x0 ≤ℤ t.i) × (t.i <ℤ frame.x1)) ((frame.y0 ≤ℤ t.j) × (t.j <ℤ frame.y1))
    (known_both (frame.x0 ≤ℤ t.i) (t.i <ℤ frame.x1) (at_most_known frame.x0 t.i) (below_known t.i frame.x1))
    (known_both (frame.y0 ≤ℤ t.j) (t.j <ℤ frame.y1) (at_most_known frame.y0 t.j) (below_known t.j frame.y1)))

-- ---- steps, and areas by steps upon steps

module _ (cells : List Cell) (top : ℕ) (frame : Option Frame) (area : ℕ → Tile → Type 0) (each : (n : ℕ) (t : Tile) → IsDecided (area n t)) where
  first_only : (a b : ℕ) (t : Tile) → IsDecided (area a t × (area b t → ⊥))
  first_only a b t = known_both (area a t) (area b t → ⊥) (each a t) (known_not (area b t) (each b t))

  second_only : (a b : ℕ) (t : Tile) → IsDecided ((area a t → ⊥) × area b t)
  second_only a b t = known_both (area a t → ⊥) (area b t) (known_not (area a t) (each a t)) (each b t)

  step_known : (step : Step) (t : Tile) → IsDecided (IsInStep cells top frame area step t)
  step_known (Layer pair) t = layer_known cells top pair t
  step_known (Or a b) t = known_either (area a t) (area b t) (each a t) (each b t)
  step_known (And a b) t = known_both (area a t) (area b t) (each a t) (each b t)
  step_known (Sub a b) t = first_only a b t
  step_known (Xor a b) t = known_either (area a t × (area b t → ⊥)) ((area a t → ⊥) × area b t) (first_only a b t) (second_only a b t)
  step_known (Grow a dx dy) t = grown_known (area a) (each a) dx dy t
  step_known (Shrink a dx dy) t = shrunk_known (area a) (each a) dx dy t
  step_known (Invert a) t = known_both (IsSomeAnd frame (λ frame. IsInFrame frame t)) (area a t → ⊥)
      (option_known (λ frame. IsInFrame frame t) (λ frame. frame_known frame t) frame) (known_not (area a t) (each a t))
  step_known (Mirror a m) t = each a (mirrored_tile m t)

over_known : (cells : List Cell) (top : ℕ) (deck : Deck) (steps n : ℕ) (t : Tile) → IsDecided (area_over cells top deck steps n t)
over_known cells top deck zero n t = inr (λ h. h)
over_known cells top deck (suc steps) n t =
    option_known (λ step. IsInStep cells top deck.frame (area_over cells top deck steps) step t)
    (λ step. step_known cells top deck.frame (area_over cells top deck steps) (over_known cells top deck steps) step t)
    (slice_get deck.steps n)

pub area_known : AreasDecided
unfolding IsInArea
area_known cells top deck n t = over_known cells top deck (length deck.steps) n t

pub counts_tell : CountsTell
counts_tell cells top deck name traps t covers = elim (area_known cells top deck name t) [
  | inl inside ↦ ((λ one. inside), (λ h. covers.once t inside))
  | inr out ↦ ((λ one. (let none = covers.never t out in absurd (omega (arith, one, none)))), (λ inside. absurd (out inside)))
]
