-- What the two pieces of a ring's side add to the winding.
use Rattle.std.proofs.Common.{◌≡◌, ℕ, ◌+◌, Bool, false, ◌&&◌, ℤ, pos, neg_ℤ, ◌+ℤ◌, ◌≤ℤ◌, ◌<ℤ◌, arith, refl}
use Rattle.std.proofs.lemmas.Int.{ints, by_lt_z}
use Rattle.std.specs.Prelude.{int_le, int_lt}
use Rattle.half_grid.specs.Lines.{Passes, IsRightOf, IsLeftOf, strip_along, first_strip}
use Rattle.half_grid.specs.Winding.{crossing_of, count_one}
use Rattle.half_grid.specs.declared.plane.Tile.{Tile}
use Rattle.half_grid.specs.declared.plane.Point.{Point}
use Rattle.half_grid.specs.declared.plane.Line.{Line}
use Rattle.half_grid.proofs.ForCallers.{line_is, crossing_none, le_yes, le_no}
use Rattle.square_size.proofs.Ends.{Chain}
use Rattle.square_size.proofs.Orders.{lt_yes, lt_no}

-- whether the tile is in the rows and right of the line
abbrev pub is_beyond : Tile → Line → ℤ → ℤ → Bool
is_beyond t line y0 y1 = (int_le y0 t.j && int_lt t.j y1) && int_le (first_strip line) (strip_along line t)

pub no_rows : (t : Tile) (y0 y1 : ℤ) → y0 ≤ℤ y1 → (int_le y1 t.j && int_lt t.j y0) ≡ false
no_rows t y0 y1 h = grind (arith, ints)

beyond_nothing : (t : Tile) (line : Line) (y0 y1 : ℤ) → y1 ≤ℤ y0 → is_beyond t line y0 y1 ≡ false
beyond_nothing t line y0 y1 h = rw (no_rows t y1 y0 h) refl

-- a side from its lower end up, which may have no rows
side_up : (t : Tile) (a b : Point) (line : Line) → Passes line a → Passes line b → a.y ≤ℤ b.y → crossing_of t a b ≡ pos (count_one (is_beyond t line a.y b.y))
side_up t a b line pa pb h =
    by_lt_z a.y b.y
    (λ lt. rw (line_is a b line pa pb (λ e. absurd (omega (arith, ints, lt, e))), no_rows t a.y b.y h) (omega (arith, ints)))
    (λ ge. rw (beyond_nothing t line a.y b.y ge) (crossing_none t a b (no_rows t b.y a.y ge) (no_rows t a.y b.y h)))

-- a side from its upper end down
side_down : (t : Tile) (a b : Point) (line : Line) → Passes line a → Passes line b → a.y ≤ℤ b.y
    → crossing_of t b a ≡ neg_ℤ (pos (count_one (is_beyond t line a.y b.y)))
side_down t a b line pa pb h =
    by_lt_z a.y b.y
    (λ lt. rw (line_is b a line pb pa (λ e. absurd (omega (arith, ints, lt, e))), no_rows t a.y b.y h) (omega (arith, ints)))
    (λ ge. rw (beyond_nothing t line a.y b.y ge) (crossing_none t b a (no_rows t a.y b.y h) (no_rows t b.y a.y ge)))

-- how many pieces of a side span the tile's row and have it on their right
abbrev pub chain_count : Tile → ℤ → Chain → ℤ → ℕ
chain_count t y0 c y1 = count_one (is_beyond t c.lower y0 c.bend) + count_one (is_beyond t c.upper c.bend y1)

-- the three points of a side lie on its lines
pub record IsAlong (c : Chain) (foot bend head : Point) : Type 0 where
  pub foot_on : Passes c.lower foot
  pub bend_on : Passes c.lower bend
  pub bend_upper : Passes c.upper bend
  pub head_on : Passes c.upper head
  pub bend_at : bend.y ≡ c.bend
  pub low : foot.y ≤ℤ bend.y
  pub high : bend.y ≤ℤ head.y

pub chain_up : (t : Tile) (c : Chain) (foot bend head : Point) → IsAlong c foot bend head
    → crossing_of t foot bend +ℤ crossing_of t bend head ≡ pos (chain_count t foot.y c head.y)
chain_up t c foot bend head h =
    let lower = side_up t foot bend c.lower h.foot_on h.bend_on h.low in
    let upper = side_up t bend head c.upper h.bend_upper h.head_on h.high in
    rw (lower, upper, h.bend_at) (omega (arith, ints))

pub chain_down : (t : Tile) (c : Chain) (foot bend head : Point) → IsAlong c foot bend head
    → crossing_of t head bend +ℤ crossing_of t bend foot ≡ neg_ℤ (pos (chain_count t foot.y c head.y))
chain_down t c foot bend head h =
    let lower = side_down t foot bend c.lower h.foot_on h.bend_on h.low in
    let upper = side_down t bend head c.upper h.bend_upper h.head_on h.high in
    rw (lower, upper, h.bend_at) (omega (arith, ints))

pub level : (t : Tile) (a b : Point) → a.y ≡ b.y → crossing_of t a b ≡ pos 0
level t a b e = crossing_none t a b (no_rows t b.y a.y (omega (arith, ints, e))) (no_rows t a.y b.y (omega (arith, ints, e)))

-- the tile is right of the piece that spans its row, or left of it
pub record IsRightOfChain (t : Tile) (c : Chain) : Type 0 where
  pub below : t.j <ℤ c.bend → IsRightOf t c.lower
  pub above : c.bend ≤ℤ t.j → IsRightOf t c.upper

pub record IsLeftOfChain (t : Tile) (c : Chain) : Type 0 where
  pub below : t.j <ℤ c.bend → IsLeftOf t c.lower
  pub above : c.bend ≤ℤ t.j → IsLeftOf t c.upper

pub count_right : (t : Tile) (y0 y1 : ℤ) (c : Chain) → y0 ≤ℤ t.j → t.j <ℤ y1 → IsRightOfChain t c → chain_count t y0 c y1 ≡ 1
count_right t y0 y1 c a b h =
    by_lt_z t.j c.bend
    (λ lt. rw (le_yes y0 t.j a, lt_yes t.j c.bend lt, le_yes _ _ (h.below lt), le_no c.bend t.j lt) refl)
    (λ ge. rw (le_yes c.bend t.j ge, lt_yes t.j y1 b, le_yes _ _ (h.above ge), lt_no t.j c.bend ge, le_yes y0 t.j a) refl)

pub count_left : (t : Tile) (y0 y1 : ℤ) (c : Chain) → y0 ≤ℤ t.j → t.j <ℤ y1 → IsLeftOfChain t c → chain_count t y0 c y1 ≡ 0
count_left t y0 y1 c a b h =
    by_lt_z t.j c.bend
    (λ lt. rw (le_yes y0 t.j a, lt_yes t.j c.bend lt, le_no _ _ (h.below lt), le_no c.bend t.j lt) refl)
    (λ ge. rw (le_yes c.bend t.j ge, lt_yes t.j y1 b, le_no _ _ (h.above ge), lt_no t.j c.bend ge, le_yes y0 t.j a) refl)

pub count_under : (t : Tile) (y0 y1 : ℤ) (c : Chain) → t.j <ℤ y0 → y0 ≤ℤ c.bend → chain_count t y0 c y1 ≡ 0
count_under t y0 y1 c h low = rw (le_no y0 t.j h, le_no c.bend t.j (omega (arith, ints, h, low))) refl

over_rows : (t : Tile) (y0 y1 : ℤ) → y1 ≤ℤ t.j → (int_le y0 t.j && int_lt t.j y1) ≡ false
over_rows t y0 y1 h = grind (arith, ints)

pub count_over : (t : Tile) (y0 y1 : ℤ) (c : Chain) → y1 ≤ℤ t.j → c.bend ≤ℤ y1 → chain_count t y0 c y1 ≡ 0
count_over t y0 y1 c h high = rw (over_rows t y0 c.bend (omega (arith, ints, h, high)), over_rows t c.bend y1 h) refl

-- one of the two
pub by_side : {P : Type 0} (t : Tile) (c : Chain) → (IsRightOfChain t c → P) → (IsLeftOfChain t c → P) → P
by_side {P} t c right left =
    by_lt_z t.j c.bend
    (λ lt. by_lt_z (strip_along c.lower t) (first_strip c.lower)
    (λ out. left (record { below = λ _. out; above = λ ge. absurd (omega (arith, ints, lt, ge)) }))
    (λ on. right (record { below = λ _. on; above = λ ge. absurd (omega (arith, ints, lt, ge)) })))
    (λ ge. by_lt_z (strip_along c.upper t) (first_strip c.upper)
    (λ out. left (record { below = λ lt. absurd (omega (arith, ints, lt, ge)); above = λ _. out }))
    (λ on. right (record { below = λ lt. absurd (omega (arith, ints, lt, ge)); above = λ _. on })))
