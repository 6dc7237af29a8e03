-- Maps of the plane that keep the half grid, and the winding of an outline's image.
use Rattle.std.proofs.Common.{◌≡◌, ◌⊎◌, inl, inr, ℕ, zero, suc, Bool, true, false, ℤ, pos, negsuc, ◌≤◌}
use Rattle.std.proofs.Common.{◌<◌, ◌/◌, ◌%◌, ◌+ℤ◌, ◌-ℤ◌, ◌*ℤ◌, neg_ℤ, ◌≤ℤ◌, ◌<ℤ◌, ◌&&◌, not, mod-lt, map-id, arith}
use Rattle.std.proofs.Common.{refl, ap, sym, subst, ◌∙◌, List, [], ◌∷◌, map, int_le, cond}
use Rattle.std.proofs.lemmas.Int.{ints, by_lt_z}
use Rattle.std.proofs.lemmas.Bool.Decides.{nat_tests}
use Rattle.std.proofs.Math.IntN.{zero-*ℤ, suc_ℤ-*ℤ}
use Rattle.std.proofs.Math.Nat.{div-add-mod}
use Rattle.std.specs.List.{AllByRecursion}
use Rattle.half_grid.specs.Halves.{half, is_even, twice}
use Rattle.half_grid.specs.Lines.{Passes}
use Rattle.half_grid.specs.Rows.{place, number_in_row}
use Rattle.half_grid.specs.Outlines.{IsOnGrid, IsClosed, last_of}
use Rattle.half_grid.specs.Winding.{edges_of, crossing_of, count_one, winding}
use Rattle.half_grid.specs.declared.plane.Tile.{Tile}
use Rattle.half_grid.specs.declared.plane.Point.{Point}
use Rattle.half_grid.specs.declared.plane.Line.{Line}
use Rattle.half_grid.specs.declared.plane.Line.TheVariants.{Upright, Rising, Falling}
use Rattle.half_grid.proofs.ForCallers.{le_yes, le_no, winding_from, winding_along, tile_with, tile_with_number}
use Rattle.layout_model.specs.Images.{moved, flipped, turned, quarter_turn, enlarged, image_of, image_of_points}
use Rattle.layout_model.specs.declared.orient.Orient.{Orient}
use Rattle.flat_walk.proofs.EdgeCrossings.{is_below, crossing_right, crossing_left, crossing_flat}

-- a closed outline on the half grid
pub record IsLoop (points : List Point) : Type 0 where
  pub closed : IsClosed points
  pub grid : AllByRecursion IsOnGrid (edges_of points)

last_map : (f : Point → Point) (a : Point) (points : List Point) → last_of (f a) (map f points) ≡ f (last_of a points)
last_map f a [] = refl
last_map f a (b ∷ points) = last_map f b points

pub closed_map : (f : Point → Point) (points : List Point) → IsClosed points → IsClosed (map f points)
closed_map f [] h = absurd h
closed_map f (a ∷ points) h = last_map f a points ∙ ap f h

pub grid_map : (f : Point → Point) (points : List Point) → ((a b : Point) → IsOnGrid (a, b) → IsOnGrid (f a, f b))
    → AllByRecursion IsOnGrid (edges_of points) → AllByRecursion IsOnGrid (edges_of (map f points))
grid_map f [] each all = tt
grid_map f (a ∷ []) each all = tt
grid_map f (a ∷ b ∷ points) each all = (each a b all.0, grid_map f (b ∷ points) each all.1)

-- ---- maps that send rows to rows, upward

pub record IsUpward (f : Point → Point) (t u : Tile) : Type 0 where
  pub row : (p : Point) → int_le (f p).y t.j ≡ int_le p.y u.j
  pub flat : (a b : Point) → a.y ≡ b.y → (f a).y ≡ (f b).y
  pub line : Line → Line
  pub through : (l : Line) (p : Point) → Passes l p → Passes (line l) (f p)
  pub right : (l : Line) → place l u.j ≤ℤ number_in_row u → place (line l) t.j ≤ℤ number_in_row t
  pub left : (l : Line) → number_in_row u <ℤ place l u.j → number_in_row t <ℤ place (line l) t.j

upward_edge : (f : Point → Point) (t u : Tile) (a b : Point) → IsUpward f t u → IsOnGrid (a, b) → crossing_of t (f a) (f b) ≡ crossing_of u a b
upward_edge f t u a b up (inl e) = crossing_flat t (f a) (f b) (up.flat a b e) ∙ sym (crossing_flat u a b e)
upward_edge f t u a b up (inr share) =
    let l = share.0 in
    let pa = share.1 in
    let pb = share.2 in
    by_lt_z (number_in_row u) (place l u.j)
    (λ lt. crossing_left t (f a) (f b) (up.line l) (up.through l a pa) (up.through l b pb) (up.left l lt) ∙ sym (crossing_left u a b l pa pb lt))
    (λ ge. crossing_right t (f a) (f b) (up.line l) (up.through l a pa) (up.through l b pb) (up.right l ge)
    ∙ rw (up.row a, up.row b) (sym (crossing_right u a b l pa pb ge)))

upward_from : (f : Point → Point) (t u : Tile) (a : Point) (points : List Point) → IsUpward f t u
    → AllByRecursion IsOnGrid (edges_of (a ∷ points)) → winding_from t (f a) (map f points) ≡ winding_from u a points
upward_from f t u a [] up grid = refl
upward_from f t u a (b ∷ points) up grid = rw (upward_edge f t u a b up grid.0, upward_from f t u b points up grid.1) refl

pub upward : (f : Point → Point) (t u : Tile) (points : List Point) → IsUpward f t u → IsLoop points → winding (map f points) t ≡ winding points u
upward f t u [] up loop = absurd loop.closed
upward f t u (a ∷ points) up loop = winding_along t (f a) (map f points) ∙ upward_from f t u a points up loop.grid ∙ sym (winding_along u a points)

-- ---- a move by whole grid steps

even_is : (z : ℤ) → is_even z ≡ true → z ≡ twice (half z)
even_is (pos n) e = grind (arith, ints, nat_tests)
even_is (negsuc n) e = grind (arith, ints, nat_tests)

le_same : (a b c d : ℤ) → (a ≤ℤ b → c ≤ℤ d) → (b <ℤ a → d <ℤ c) → int_le a b ≡ int_le c d
le_same a b c d upward downward = by_lt_z b a (λ lt. le_no a b lt ∙ sym (le_no c d (downward lt))) (λ ge. le_yes a b ge ∙ sym (le_yes c d (upward ge)))

abbrev pub before_move : Point → Tile → Tile
before_move by t = tile_with (number_in_row t -ℤ twice by.x) (t.j -ℤ by.y)

abbrev move_line : ℤ → ℤ → Line → Line
move_line hx hy (Upright c) = Upright (c +ℤ twice hx)
move_line hx hy (Rising c) = Rising (c +ℤ (hx -ℤ hy))
move_line hx hy (Falling c) = Falling (c +ℤ (hx +ℤ hy))

move_through : (hx hy : ℤ) (by : Point) (l : Line) (p : Point) → by.x ≡ twice hx → by.y ≡ twice hy → Passes l p → Passes (move_line hx hy l) (moved by p)
move_through hx hy by (Upright c) p ex ey h = omega (arith, ints, ex, ey, h)
move_through hx hy by (Rising c) p ex ey h = omega (arith, ints, ex, ey, h)
move_through hx hy by (Falling c) p ex ey h = omega (arith, ints, ex, ey, h)

move_right : (hx hy n j : ℤ) (by : Point) (l : Line) → by.x ≡ twice hx → by.y ≡ twice hy
    → place l (j -ℤ by.y) ≤ℤ (n -ℤ twice by.x) → place (move_line hx hy l) j ≤ℤ n
move_right hx hy n j by (Upright c) ex ey h = omega (arith, ints, ex, ey, h)
move_right hx hy n j by (Rising c) ex ey h = omega (arith, ints, ex, ey, h)
move_right hx hy n j by (Falling c) ex ey h = omega (arith, ints, ex, ey, h)

move_left : (hx hy n j : ℤ) (by : Point) (l : Line) → by.x ≡ twice hx → by.y ≡ twice hy
    → (n -ℤ twice by.x) <ℤ place l (j -ℤ by.y) → n <ℤ place (move_line hx hy l) j
move_left hx hy n j by (Upright c) ex ey h = omega (arith, ints, ex, ey, h)
move_left hx hy n j by (Rising c) ex ey h = omega (arith, ints, ex, ey, h)
move_left hx hy n j by (Falling c) ex ey h = omega (arith, ints, ex, ey, h)

move_upward : (by : Point) (t : Tile) → is_even by.x ≡ true → is_even by.y ≡ true → IsUpward (moved by) t (before_move by t)
move_upward by t x y =
    let ex = even_is by.x x in
    let ey = even_is by.y y in
    record {
      row = λ p. le_same (p.y +ℤ by.y) t.j p.y (t.j -ℤ by.y) (λ h. omega (arith, ints, h)) (λ h. omega (arith, ints, h));
      flat = λ a b e. ap (λ z. z +ℤ by.y) e;
      line = move_line (half by.x) (half by.y);
      through = λ l p h. move_through (half by.x) (half by.y) by l p ex ey h;
      right = λ l h. move_right (half by.x) (half by.y) (number_in_row t) t.j by l ex ey
          (rw (tile_with_number (number_in_row t -ℤ twice by.x) (t.j -ℤ by.y)) at h);
      left = λ l h. move_left (half by.x) (half by.y) (number_in_row t) t.j by l ex ey
          (rw (tile_with_number (number_in_row t -ℤ twice by.x) (t.j -ℤ by.y)) at h);
    }

pub move_winding : (by : Point) (t : Tile) (points : List Point) → is_even by.x ≡ true → is_even by.y ≡ true
    → IsLoop points → winding (map (moved by) points) t ≡ winding points (before_move by t)
move_winding by t points x y loop = upward (moved by) t (before_move by t) points (move_upward by t x y) loop

move_grid : (by a b : Point) → is_even by.x ≡ true → is_even by.y ≡ true → IsOnGrid (a, b) → IsOnGrid (moved by a, moved by b)
move_grid by a b x y (inl e) = inl (ap (λ z. z +ℤ by.y) e)
move_grid by a b x y (inr share) = inr (
  move_line (half by.x) (half by.y) share.0,
  move_through (half by.x) (half by.y) by share.0 a (even_is by.x x) (even_is by.y y) share.1,
  move_through (half by.x) (half by.y) by share.0 b (even_is by.x x) (even_is by.y y) share.2,
)

pub move_loop : (by : Point) (points : List Point) → is_even by.x ≡ true → is_even by.y ≡ true → IsLoop points → IsLoop (map (moved by) points)
move_loop by points x y loop =
    record {
      closed = closed_map (moved by) points loop.closed;
      grid = grid_map (moved by) points
          (λ a b g. move_grid by a b x y g) loop.grid;
    }

-- ---- a flip of Y

abbrev pub mirrored : Point → Point
mirrored p = record { x = p.x; y = neg_ℤ p.y }

abbrev pub before_flip : Tile → Tile
before_flip t = tile_with (number_in_row t) (neg_ℤ t.j -ℤ pos 1)

abbrev flip_line : Line → Line
flip_line (Upright c) = Upright c
flip_line (Rising c) = Falling c
flip_line (Falling c) = Rising c

flip_through : (l : Line) (p : Point) → Passes l p → Passes (flip_line l) (mirrored p)
flip_through (Upright c) p h = h
flip_through (Rising c) p h = omega (arith, ints, h)
flip_through (Falling c) p h = omega (arith, ints, h)

flip_right : (l : Line) (n j : ℤ) → place l (neg_ℤ j -ℤ pos 1) ≤ℤ n → place (flip_line l) j ≤ℤ n
flip_right (Upright c) n j h = h
flip_right (Rising c) n j h = omega (arith, ints, h)
flip_right (Falling c) n j h = omega (arith, ints, h)

flip_left : (l : Line) (n j : ℤ) → n <ℤ place l (neg_ℤ j -ℤ pos 1) → n <ℤ place (flip_line l) j
flip_left (Upright c) n j h = h
flip_left (Rising c) n j h = omega (arith, ints, h)
flip_left (Falling c) n j h = omega (arith, ints, h)

flip_below : (t : Tile) (p : Point) → pos (is_below t (mirrored p)) ≡ pos 1 -ℤ pos (is_below (before_flip t) p)
flip_below t p = by_lt_z (neg_ℤ t.j -ℤ pos 1) p.y
    (λ lt. rw (le_no p.y (neg_ℤ t.j -ℤ pos 1) lt, le_yes (neg_ℤ p.y) t.j (omega (arith, ints, lt))) refl)
    (λ ge. rw (le_yes p.y (neg_ℤ t.j -ℤ pos 1) ge, le_no (neg_ℤ p.y) t.j (omega (arith, ints, ge))) refl)

flip_edge : (t : Tile) (a b : Point) → IsOnGrid (a, b) → crossing_of t (mirrored a) (mirrored b) ≡ neg_ℤ (crossing_of (before_flip t) a b)
flip_edge t a b (inl e) = crossing_flat t (mirrored a) (mirrored b) (ap neg_ℤ e) ∙ ap neg_ℤ (sym (crossing_flat (before_flip t) a b e))
flip_edge t a b (inr share) =
    let l = share.0 in
    let pa = share.1 in
    let pb = share.2 in
    let named = tile_with_number (number_in_row t) (neg_ℤ t.j -ℤ pos 1) in
    by_lt_z (number_in_row (before_flip t)) (place l (before_flip t).j)
    (λ lt. crossing_left t (mirrored a) (mirrored b) (flip_line l) (flip_through l a pa) (flip_through l b pb)
    (flip_left l (number_in_row t) t.j (rw named at lt)) ∙ ap neg_ℤ
    (sym (crossing_left (before_flip t) a b l pa pb lt)))
    (λ ge.
    let image = crossing_right t (mirrored a) (mirrored b) (flip_line l) (flip_through l a pa) (flip_through l b pb)
    (flip_right l (number_in_row t) t.j (rw named at ge)) in
    let here = crossing_right (before_flip t) a b l pa pb ge in
    omega (arith, ints, image, here, flip_below t a, flip_below t b))

flip_from : (t : Tile) (a : Point) (points : List Point) → AllByRecursion IsOnGrid (edges_of (a ∷ points))
    → winding_from t (mirrored a) (map mirrored points) ≡ neg_ℤ (winding_from (before_flip t) a points)
flip_from t a [] grid = refl
flip_from t a (b ∷ points) grid = omega (arith, ints, flip_edge t a b grid.0, flip_from t b points grid.1)

pub flip_winding : (t : Tile) (points : List Point) → IsLoop points → winding (map mirrored points) t ≡ neg_ℤ (winding points (before_flip t))
flip_winding t [] loop = absurd loop.closed
flip_winding t (a ∷ points) loop = winding_along t (mirrored a) (map mirrored points) ∙ flip_from t a points loop.grid
    ∙ ap neg_ℤ (sym (winding_along (before_flip t) a points))

flip_grid : (a b : Point) → IsOnGrid (a, b) → IsOnGrid (mirrored a, mirrored b)
flip_grid a b (inl e) = inl (ap neg_ℤ e)
flip_grid a b (inr share) = inr (flip_line share.0, flip_through share.0 a share.1, flip_through share.0 b share.2)

pub flip_loop : (points : List Point) → IsLoop points → IsLoop (map mirrored points)
flip_loop points loop = record { closed = closed_map mirrored points loop.closed; grid = grid_map mirrored points flip_grid loop.grid }

-- ---- a quarter turn

le_true : (x y : ℤ) → int_le x y ≡ true → x ≤ℤ y
le_true x y h = grind (arith, ints)

le_false : (x y : ℤ) → int_le x y ≡ false → y <ℤ x
le_false x y h = grind (arith, ints)

odd_is : (z : ℤ) → is_even z ≡ false → z ≡ twice (half z) +ℤ pos 1
odd_is (pos n) e = grind (arith, ints, nat_tests)
odd_is (negsuc n) e = grind (arith, ints, nat_tests)

-- the tile of number n in the row j comes from that of number m in the row k, by the column i of the first and by whether
-- i + j is even
record AreTurned (n j m k : ℤ) : Type 0 where
  pub i : ℤ
  pub column_low : twice i ≤ℤ n
  pub column_high : n ≤ℤ (twice i +ℤ pos 1)
  pub row : k ≡ neg_ℤ i -ℤ pos 1
  pub h : ℤ
  pub parity : ((i +ℤ j ≡ twice h) × (m ≡ twice j +ℤ (pos 1 -ℤ (n -ℤ twice i)))) ⊎ ((i +ℤ j ≡ twice h +ℤ pos 1) × (m ≡ twice j +ℤ (n -ℤ twice i)))

abbrev turned_number : ℤ → ℤ → ℤ
turned_number n j = cond (is_even (half n +ℤ j)) (twice j +ℤ (pos 1 -ℤ (n -ℤ twice (half n)))) (twice j +ℤ (n -ℤ twice (half n)))

abbrev pub before_turn : Tile → Tile
before_turn t = tile_with (turned_number (number_in_row t) t.j) (neg_ℤ (half (number_in_row t)) -ℤ pos 1)

half_under : (b : Bool) (n : ℤ) → is_even n ≡ b → twice (half n) ≤ℤ n
half_under true n e = omega (arith, ints, even_is n e)
half_under false n e = omega (arith, ints, odd_is n e)

half_over : (b : Bool) (n : ℤ) → is_even n ≡ b → n ≤ℤ (twice (half n) +ℤ pos 1)
half_over true n e = omega (arith, ints, even_is n e)
half_over false n e = omega (arith, ints, odd_is n e)

turned_by : (b : Bool) (n j : ℤ) → is_even (half n +ℤ j) ≡ b → AreTurned n j (turned_number n j) (neg_ℤ (half n) -ℤ pos 1)
turned_by true n j e =
    record {
      i = half n;
      column_low = half_under _ n refl;
      column_high = half_over _ n refl;
      row = refl;
      h = half
          (half n +ℤ j);
      parity = inl (even_is _ e, rw e refl);
    }
turned_by false n j e =
    record {
      i = half n;
      column_low = half_under _ n refl;
      column_high = half_over _ n refl;
      row = refl;
      h = half
          (half n +ℤ j);
      parity = inr (odd_is _ e, rw e refl);
    }

turned_tile : (t : Tile) → AreTurned (number_in_row t) t.j (number_in_row (before_turn t)) (before_turn t).j
turned_tile t = rw (tile_with_number (turned_number (number_in_row t) t.j) (neg_ℤ (half (number_in_row t)) -ℤ pos 1)) (turned_by _ (number_in_row t) t.j refl)

module _ (n j m k : ℤ) (turned : AreTurned n j m k) where
  number_low : twice j ≤ℤ m
  number_low = let a = turned.column_low in let b = turned.column_high in
      elim turned.parity [
        | inl p ↦ (let e = p.1 in omega (arith, ints, a, b, e))
        | inr p ↦
            (let e = p.1 in omega (arith, ints, a, b, e))
      ]

  number_high : m ≤ℤ (twice j +ℤ pos 1)
  number_high = let a = turned.column_low in let b = turned.column_high in
      elim turned.parity [
        | inl p ↦ (let e = p.1 in omega (arith, ints, a, b, e))
        | inr p ↦
            (let e = p.1 in omega (arith, ints, a, b, e))
      ]

  rising_right : (c : ℤ) → place (Rising c) k ≤ℤ m → place (Falling c) j ≤ℤ n
  rising_right c h = let a = turned.column_low in let b = turned.column_high in let r = turned.row in
      elim turned.parity [
        | inl p ↦ (let d = p.0 in let e = p.1 in omega (arith, ints, a, b, r, d, e, h))
        | inr p ↦
            (let d = p.0 in let e = p.1 in omega (arith, ints, a, b, r, d, e, h))
      ]

  rising_left : (c : ℤ) → m <ℤ place (Rising c) k → n <ℤ place (Falling c) j
  rising_left c h = let a = turned.column_low in let b = turned.column_high in let r = turned.row in
      elim turned.parity [
        | inl p ↦ (let d = p.0 in let e = p.1 in omega (arith, ints, a, b, r, d, e, h))
        | inr p ↦
            (let d = p.0 in let e = p.1 in omega (arith, ints, a, b, r, d, e, h))
      ]

  falling_right : (c : ℤ) → place (Falling c) k ≤ℤ m → n <ℤ place (Rising (neg_ℤ c)) j
  falling_right c h = let a = turned.column_low in let b = turned.column_high in let r = turned.row in
      elim turned.parity [
        | inl p ↦ (let d = p.0 in let e = p.1 in omega (arith, ints, a, b, r, d, e, h))
        | inr p ↦
            (let d = p.0 in let e = p.1 in omega (arith, ints, a, b, r, d, e, h))
      ]

  falling_left : (c : ℤ) → m <ℤ place (Falling c) k → place (Rising (neg_ℤ c)) j ≤ℤ n
  falling_left c h = let a = turned.column_low in let b = turned.column_high in let r = turned.row in
      elim turned.parity [
        | inl p ↦ (let d = p.0 in let e = p.1 in omega (arith, ints, a, b, r, d, e, h))
        | inr p ↦
            (let d = p.0 in let e = p.1 in omega (arith, ints, a, b, r, d, e, h))
      ]

-- the point stands left of the column and above the row, by the two tests
abbrev corner : Bool → Bool → ℕ
corner c l = count_one (c && not l)

when_left : (c l : Bool) → (l ≡ true → c ≡ true) → pos (count_one c) ≡ pos (count_one l) +ℤ pos (corner c l)
when_left true true h = refl
when_left true false h = refl
when_left false true h = absurd (let bad = h refl in let clash : ⊥ = cc in clash)
when_left false false h = refl

when_below : (c l : Bool) → (c ≡ true → l ≡ true) → pos (corner c l) ≡ pos 0
when_below true true h = refl
when_below true false h = absurd (let bad = h refl in let clash : ⊥ = cc in clash)
when_below false true h = refl
when_below false false h = refl

when_either : (c l : Bool) → (c ≡ false → l ≡ true) → pos (count_one l) +ℤ pos (corner c l) ≡ pos 1
when_either true true h = refl
when_either true false h = refl
when_either false true h = refl
when_either false false h = absurd (let bad = h refl in let clash : ⊥ = cc in clash)

when_apart : (c l : Bool) → (c ≡ true → l ≡ false) → pos (corner c l) ≡ pos (count_one c)
when_apart true true h = absurd (let bad = h refl in let clash : ⊥ = cc in clash)
when_apart true false h = refl
when_apart false true h = refl
when_apart false false h = refl

abbrev corner_at : Tile → Point → ℕ
corner_at t p = corner (int_le p.x t.j) (int_le p.y (before_turn t).j)

turn_flat : (t : Tile) (a b : Point) → a.y ≡ b.y → crossing_of t (quarter_turn a) (quarter_turn b) ≡ crossing_of
    (before_turn t) a b +ℤ (pos (corner_at t a) -ℤ pos (corner_at t b))
turn_flat t a b e =
    let flat = crossing_flat (before_turn t) a b e in
    let turned = turned_tile t in
    let cl = turned.column_low in
    let ch = turned.column_high in
    let r = turned.row in
    let pb : neg_ℤ b.y ≡ neg_ℤ a.y = ap neg_ℤ (sym e) in
    by_lt_z (number_in_row t) (place (Upright (neg_ℤ a.y)) t.j)
    (λ lt.
    let image = crossing_left t (quarter_turn a) (quarter_turn b) (Upright (neg_ℤ a.y)) refl pb lt in
    let la = le_yes a.y (before_turn t).j (omega (arith, ints, lt, cl, ch, r)) in
    let lb = le_yes b.y (before_turn t).j (omega (arith, ints, lt, cl, ch, r, e)) in
    let qa = when_below (int_le a.x t.j) (int_le a.y (before_turn t).j) (λ _. la) in
    let qb = when_below (int_le b.x t.j) (int_le b.y (before_turn t).j) (λ _. lb) in
    omega (arith, ints, flat, image, qa, qb))
    (λ ge.
    let image = crossing_right t (quarter_turn a) (quarter_turn b) (Upright (neg_ℤ a.y)) refl pb ge in
    let la = le_no a.y (before_turn t).j (omega (arith, ints, ge, cl, ch, r)) in
    let lb = le_no b.y (before_turn t).j (omega (arith, ints, ge, cl, ch, r, e)) in
    let qa = when_apart (int_le a.x t.j) (int_le a.y (before_turn t).j) (λ _. la) in
    let qb = when_apart (int_le b.x t.j) (int_le b.y (before_turn t).j) (λ _. lb) in
    omega (arith, ints, flat, image, qa, qb))

turn_upright : (t : Tile) (a b : Point) (c : ℤ) → a.x ≡ c → b.x ≡ c
    → crossing_of t (quarter_turn a) (quarter_turn b) ≡ crossing_of
    (before_turn t) a b +ℤ (pos (corner_at t a) -ℤ pos (corner_at t b))
turn_upright t a b c pa pb =
    let turned = turned_tile t in
    let high = number_high _ _ _ _ turned in
    let low = number_low _ _ _ _ turned in
    let image = crossing_flat t (quarter_turn a) (quarter_turn b) (pa ∙ sym pb) in
    by_lt_z (number_in_row (before_turn t)) (place (Upright c) (before_turn t).j)
    (λ lt.
    let here = crossing_left (before_turn t) a b (Upright c) pa pb lt in
    let ca = le_no a.x t.j (omega (arith, ints, lt, low, pa)) in
    let cb = le_no b.x t.j (omega (arith, ints, lt, low, pb)) in
    let qa = when_apart (int_le a.x t.j) (int_le a.y (before_turn t).j) (λ e. absurd (let clash : ⊥ = cc in clash)) in
    let qb = when_apart (int_le b.x t.j) (int_le b.y (before_turn t).j) (λ e. absurd (let clash : ⊥ = cc in clash)) in
    let na = ap (λ x. pos (count_one x)) ca in
    let nb = ap (λ x. pos (count_one x)) cb in
    omega (arith, ints, image, here, qa, qb, na, nb))
    (λ ge.
    let here = crossing_right (before_turn t) a b (Upright c) pa pb ge in
    let ca = le_yes a.x t.j (omega (arith, ints, ge, high, pa)) in
    let cb = le_yes b.x t.j (omega (arith, ints, ge, high, pb)) in
    let qa = when_either (int_le a.x t.j) (int_le a.y (before_turn t).j) (λ e. absurd (let clash : ⊥ = cc in clash)) in
    let qb = when_either (int_le b.x t.j) (int_le b.y (before_turn t).j) (λ e. absurd (let clash : ⊥ = cc in clash)) in
    omega (arith, ints, image, here, qa, qb))

turn_rising : (t : Tile) (a b : Point) (c : ℤ) → Passes (Rising c) a → Passes (Rising c) b
    → crossing_of t (quarter_turn a) (quarter_turn b) ≡ crossing_of
    (before_turn t) a b +ℤ (pos (corner_at t a) -ℤ pos (corner_at t b))
turn_rising t a b c pa pb =
    let turned = turned_tile t in
    let high = number_high _ _ _ _ turned in
    let low = number_low _ _ _ _ turned in
    let qpa : Passes (Falling c) (quarter_turn a) = omega (arith, ints, pa) in
    let qpb : Passes (Falling c) (quarter_turn b) = omega (arith, ints, pb) in
    by_lt_z (number_in_row (before_turn t)) (place (Rising c) (before_turn t).j)
    (λ lt.
    let here = crossing_left (before_turn t) a b (Rising c) pa pb lt in
    let image = crossing_left t (quarter_turn a) (quarter_turn b) (Falling c) qpa qpb (rising_left _ _ _ _ turned c lt) in
    let qa = when_below (int_le a.x t.j) (int_le a.y (before_turn t).j)
    (λ e. le_yes a.y (before_turn t).j (let h = le_true a.x t.j e in omega (arith, ints, lt, low, pa, h))) in
    let qb = when_below (int_le b.x t.j) (int_le b.y (before_turn t).j)
    (λ e. le_yes b.y (before_turn t).j (let h = le_true b.x t.j e in omega (arith, ints, lt, low, pb, h))) in
    omega (arith, ints, image, here, qa, qb))
    (λ ge.
    let here = crossing_right (before_turn t) a b (Rising c) pa pb ge in
    let image = crossing_right t (quarter_turn a) (quarter_turn b) (Falling c) qpa qpb (rising_right _ _ _ _ turned c ge) in
    let qa = when_left (int_le a.x t.j) (int_le a.y (before_turn t).j)
    (λ e. le_yes a.x t.j (let h = le_true a.y (before_turn t).j e in omega (arith, ints, ge, high, pa, h))) in
    let qb = when_left (int_le b.x t.j) (int_le b.y (before_turn t).j)
    (λ e. le_yes b.x t.j (let h = le_true b.y (before_turn t).j e in omega (arith, ints, ge, high, pb, h))) in
    omega (arith, ints, image, here, qa, qb))

turn_falling : (t : Tile) (a b : Point) (c : ℤ) → Passes (Falling c) a → Passes (Falling c) b
    → crossing_of t (quarter_turn a) (quarter_turn b) ≡ crossing_of
    (before_turn t) a b +ℤ (pos (corner_at t a) -ℤ pos (corner_at t b))
turn_falling t a b c pa pb =
    let turned = turned_tile t in
    let high = number_high _ _ _ _ turned in
    let low = number_low _ _ _ _ turned in
    let qpa : Passes (Rising (neg_ℤ c)) (quarter_turn a) = omega (arith, ints, pa) in
    let qpb : Passes (Rising (neg_ℤ c)) (quarter_turn b) = omega (arith, ints, pb) in
    by_lt_z (number_in_row (before_turn t)) (place (Falling c) (before_turn t).j)
    (λ lt.
    let here = crossing_left (before_turn t) a b (Falling c) pa pb lt in
    let image = crossing_right t (quarter_turn a) (quarter_turn b) (Rising (neg_ℤ c)) qpa qpb (falling_left _ _ _ _ turned c lt) in
    let qa = when_apart (int_le a.x t.j) (int_le a.y (before_turn t).j)
    (λ e. le_no a.y (before_turn t).j (let h = le_true a.x t.j e in omega (arith, ints, lt, low, pa, h))) in
    let qb = when_apart (int_le b.x t.j) (int_le b.y (before_turn t).j)
    (λ e. le_no b.y (before_turn t).j (let h = le_true b.x t.j e in omega (arith, ints, lt, low, pb, h))) in
    omega (arith, ints, image, here, qa, qb))
    (λ ge.
    let here = crossing_right (before_turn t) a b (Falling c) pa pb ge in
    let image = crossing_left t (quarter_turn a) (quarter_turn b) (Rising (neg_ℤ c)) qpa qpb (falling_right _ _ _ _ turned c ge) in
    let qa = when_either (int_le a.x t.j) (int_le a.y (before_turn t).j)
    (λ e. le_yes a.y (before_turn t).j (let h = le_false a.x t.j e in omega (arith, ints, ge, high, pa, h))) in
    let qb = when_either (int_le b.x t.j) (int_le b.y (before_turn t).j)
    (λ e. le_yes b.y (before_turn t).j (let h = le_false b.x t.j e in omega (arith, ints, ge, high, pb, h))) in
    omega (arith, ints, image, here, qa, qb))

turn_line : (t : Tile) (a b : Point) (l : Line) → Passes l a → Passes l b
    → crossing_of t (quarter_turn a) (quarter_turn b) ≡ crossing_of
    (before_turn t) a b +ℤ (pos (corner_at t a) -ℤ pos (corner_at t b))
turn_line t a b (Upright c) pa pb = turn_upright t a b c pa pb
turn_line t a b (Rising c) pa pb = turn_rising t a b c pa pb
turn_line t a b (Falling c) pa pb = turn_falling t a b c pa pb

turn_edge : (t : Tile) (a b : Point) → IsOnGrid (a, b) → crossing_of t (quarter_turn a) (quarter_turn b) ≡ crossing_of
    (before_turn t) a b +ℤ (pos (corner_at t a) -ℤ pos (corner_at t b))
turn_edge t a b (inl e) = turn_flat t a b e
turn_edge t a b (inr share) = turn_line t a b share.0 share.1 share.2

turn_from : (t : Tile) (a : Point) (points : List Point) → AllByRecursion IsOnGrid (edges_of (a ∷ points))
    → winding_from t (quarter_turn a) (map quarter_turn points) ≡ winding_from (before_turn t) a points
    +ℤ (pos (corner_at t a) -ℤ pos (corner_at t (last_of a points)))
turn_from t a [] grid = omega (arith, ints)
turn_from t a (b ∷ points) grid = omega (arith, ints, turn_edge t a b grid.0, turn_from t b points grid.1)

pub turn_winding : (t : Tile) (points : List Point) → IsLoop points → winding (map quarter_turn points) t ≡ winding points (before_turn t)
turn_winding t [] loop = absurd loop.closed
turn_winding t (a ∷ points) loop =
    let same = ap (corner_at t) loop.closed in
    winding_along t (quarter_turn a) (map quarter_turn points)
    ∙ (turn_from t a points loop.grid ∙ omega (arith, ints, winding_along (before_turn t) a points, same))

turn_on : (a b : Point) (l : Line) → Passes l a → Passes l b → IsOnGrid (quarter_turn a, quarter_turn b)
turn_on a b (Upright c) pa pb = inl (pa ∙ sym pb)
turn_on a b (Rising c) pa pb = inr (Falling c, omega (arith, ints, pa), omega (arith, ints, pb))
turn_on a b (Falling c) pa pb = inr (Rising (neg_ℤ c), omega (arith, ints, pa), omega (arith, ints, pb))

turn_grid : (a b : Point) → IsOnGrid (a, b) → IsOnGrid (quarter_turn a, quarter_turn b)
turn_grid a b (inl e) = inr (Upright (neg_ℤ a.y), refl, ap neg_ℤ (sym e))
turn_grid a b (inr share) = turn_on a b share.0 share.1 share.2

pub turn_loop : (points : List Point) → IsLoop points → IsLoop (map quarter_turn points)
turn_loop points loop = record { closed = closed_map quarter_turn points loop.closed; grid = grid_map quarter_turn points turn_grid loop.grid }

-- ---- an enlargement

pub mul_up : (m : ℕ) (a b : ℤ) → a ≤ℤ b → (pos m *ℤ a) ≤ℤ (pos m *ℤ b)
mul_up zero a b h = rw (zero-*ℤ a, zero-*ℤ b) (omega (arith, ints))
mul_up (suc m) a b h = rw (suc_ℤ-*ℤ (pos m) a, suc_ℤ-*ℤ (pos m) b) (omega (arith, ints, h, mul_up m a b h))

-- rounded down
abbrev part : ℕ → ℤ → ℤ
part m (pos n) = pos (n / m)
part m (negsuc n) = negsuc (n / m)

part_low : (m : ℕ) (z : ℤ) → 1 ≤ m → (pos m *ℤ part m z) ≤ℤ z
part_low m (pos n) some = let d = div-add-mod n m in omega (arith, ints, d)
part_low m (negsuc n) some = let d = div-add-mod n m in let r : n % m < m = mod-lt n some in omega (arith, ints, d, r)

part_high : (m : ℕ) (z : ℤ) → 1 ≤ m → z <ℤ ((pos m *ℤ part m z) +ℤ pos m)
part_high m (pos n) some = let d = div-add-mod n m in let r : n % m < m = mod-lt n some in omega (arith, ints, d, r)
part_high m (negsuc n) some = let d = div-add-mod n m in omega (arith, ints, d)

mul_more : (m : ℕ) (a b : ℤ) → a <ℤ b → ((pos m *ℤ a) +ℤ pos m) ≤ℤ (pos m *ℤ b)
mul_more zero a b h = rw (zero-*ℤ a, zero-*ℤ b) (omega (arith, ints))
mul_more (suc m) a b h = rw (suc_ℤ-*ℤ (pos m) a, suc_ℤ-*ℤ (pos m) b) (omega (arith, ints, h, mul_more m a b h))

pub mul_add : (m : ℕ) (a b : ℤ) → pos m *ℤ (a +ℤ b) ≡ (pos m *ℤ a) +ℤ (pos m *ℤ b)
mul_add zero a b = rw (zero-*ℤ (a +ℤ b), zero-*ℤ a, zero-*ℤ b) refl
mul_add (suc m) a b = rw (suc_ℤ-*ℤ (pos m) (a +ℤ b), suc_ℤ-*ℤ (pos m) a, suc_ℤ-*ℤ (pos m) b) (omega (arith, ints, mul_add m a b))

mul_one : (m : ℕ) → pos m *ℤ pos 1 ≡ pos m
mul_one zero = zero-*ℤ (pos 1)
mul_one (suc m) = suc_ℤ-*ℤ (pos m) (pos 1) ∙ omega (arith, ints, mul_one m)

abbrev enlarge_line : ℕ → Line → Line
enlarge_line m (Upright c) = Upright (pos m *ℤ c)
enlarge_line m (Rising c) = Rising (pos m *ℤ c)
enlarge_line m (Falling c) = Falling (pos m *ℤ c)

enlarge_through : (m : ℕ) (l : Line) (p : Point) → Passes l p → Passes (enlarge_line m l) (enlarged m p)
enlarge_through m (Upright c) p h = ap (λ z. pos m *ℤ z) h
enlarge_through m (Rising c) p h = let e = ap (λ z. pos m *ℤ z) h in omega (arith, ints, e, mul_add m (twice c) p.y, mul_add m c c)
enlarge_through m (Falling c) p h =
    let e : p.x +ℤ p.y ≡ twice c = omega (arith, ints, h) in
    let g = ap (λ z. pos m *ℤ z) e in
    omega (arith, ints, g, mul_add m p.x p.y, mul_add m c c)

-- the cell (a, b) that the cell (i, j) lies in, enlarged, and its diagonal: X - Y = 2d where a + b is even, X + Y = 2d else.
-- s says whether the tile of number n in the row j is right of the enlarged diagonal.
record IsInEven (m : ℕ) (n j a b d : ℤ) (s : ℕ) : Type 0 where
  pub diagonal : a ≡ twice d +ℤ b
  pub side : ((s ≡ 1) × (place (Rising (pos m *ℤ d)) j ≤ℤ n)) ⊎ ((s ≡ 0) × (n <ℤ place (Rising (pos m *ℤ d)) j))

record IsInOdd (m : ℕ) (n j a b d : ℤ) (s : ℕ) : Type 0 where
  pub diagonal : (a +ℤ b) +ℤ pos 1 ≡ twice d
  pub side : ((s ≡ 1) × (place (Falling (pos m *ℤ d)) j ≤ℤ n)) ⊎ ((s ≡ 0) × (n <ℤ place (Falling (pos m *ℤ d)) j))

record IsInCell (m : ℕ) (n j a b : ℤ) : Type 0 where
  pub some : 1 ≤ m
  pub left : twice (pos m *ℤ a) ≤ℤ n
  pub right : n <ℤ twice ((pos m *ℤ a) +ℤ pos m)
  pub bottom : (pos m *ℤ b) ≤ℤ j
  pub top : j <ℤ ((pos m *ℤ b) +ℤ pos m)

-- whether a tile is right of an enlarged line
Agrees : (m : ℕ) (n j a b : ℤ) (s : ℕ) (l : Line) → Type 0
Agrees m n j a b s l = (place l b ≤ℤ (twice a +ℤ pos s) → place (enlarge_line m l) j ≤ℤ n) × ((twice a +ℤ pos s) <ℤ place l b → n <ℤ place (enlarge_line m l) j)

module _ (m : ℕ) (n j a b d : ℤ) (cell : IsInCell m n j a b) where
  upright_agrees : (s : ℕ) (c : ℤ) → s ≤ 1 → Agrees m n j a b s (Upright c)
  unfolding Agrees
  upright_agrees s c small =
      let left = cell.left in let right = cell.right in (
        λ h. (let low : c ≤ℤ a = omega (arith, ints, h, small) in omega (arith, ints, left, mul_up m c a low)),
        λ h. (let high : a <ℤ c = omega (arith, ints, h, small) in omega (arith, ints, right, mul_more m a c high)),
      )

  even_width : a ≡ twice d +ℤ b → pos m *ℤ a ≡ twice (pos m *ℤ d) +ℤ (pos m *ℤ b)
  even_width e = ap (λ z. pos m *ℤ z) e ∙ omega (arith, ints, mul_add m (twice d) b, mul_add m d d)

  odd_width : (a +ℤ b) +ℤ pos 1 ≡ twice d → ((pos m *ℤ a) +ℤ (pos m *ℤ b)) +ℤ pos m ≡ twice (pos m *ℤ d)
  odd_width e = let g = ap (λ z. pos m *ℤ z) e in omega (arith, ints, g, mul_add m (a +ℤ b) (pos 1), mul_add m a b, mul_one m, mul_add m d d)

  even_rising : (s : ℕ) (c : ℤ) → IsInEven m n j a b d s → Agrees m n j a b s (Rising c)
  unfolding Agrees
  even_rising s c in_even =
      let w = even_width in_even.diagonal in let e = in_even.diagonal in
      let left = cell.left in let right = cell.right in let bottom = cell.bottom in let top = cell.top in let some = cell.some in
      elim in_even.side [
        | inl p ↦ (let one = p.0 in let at = p.1 in (
          λ h. (let low : c ≤ℤ d = omega (arith, ints, h, one, e) in omega (arith, ints, at, mul_up m c d low)),
          λ h. (let high : d <ℤ c = omega (arith, ints, h, one, e) in omega (arith, ints, right, bottom, w, some, mul_more m d c high)),
        ))
        | inr p ↦ (let none = p.0 in let at = p.1 in (
          λ h. (let low : c <ℤ d = omega (arith, ints, h, none, e) in omega (arith, ints, left, top, w, some, mul_more m c d low)),
          λ h. (let high : d ≤ℤ c = omega (arith, ints, h, none, e) in omega (arith, ints, at, mul_up m d c high)),
        ))
      ]

  even_falling : (s : ℕ) (c : ℤ) → s ≤ 1 → IsInEven m n j a b d s → Agrees m n j a b s (Falling c)
  unfolding Agrees
  even_falling s c small in_even =
      let w = even_width in_even.diagonal in let e = in_even.diagonal in
      let left = cell.left in let right = cell.right in let bottom = cell.bottom in let top = cell.top in let some = cell.some in
      let sum = mul_add m d b in (
        λ h. (let low : c ≤ℤ (d +ℤ b) = omega (arith, ints, h, small, e) in omega (arith, ints, left, bottom, w, sum, mul_up m c (d +ℤ b) low)),
        λ h. (let high : (d +ℤ b) <ℤ c = omega (arith, ints, h, small, e) in omega (arith, ints, right, top, w, sum, mul_more m (d +ℤ b) c high)),
      )

  odd_falling : (s : ℕ) (c : ℤ) → IsInOdd m n j a b d s → Agrees m n j a b s (Falling c)
  unfolding Agrees
  odd_falling s c in_odd =
      let w = odd_width in_odd.diagonal in let e = in_odd.diagonal in
      let left = cell.left in let right = cell.right in let bottom = cell.bottom in let top = cell.top in let some = cell.some in
      elim in_odd.side [
        | inl p ↦ (let one = p.0 in let at = p.1 in (
          λ h. (let low : c ≤ℤ d = omega (arith, ints, h, one, e) in omega (arith, ints, at, mul_up m c d low)),
          λ h. (let high : d <ℤ c = omega (arith, ints, h, one, e) in omega (arith, ints, right, top, w, some, mul_more m d c high)),
        ))
        | inr p ↦ (let none = p.0 in let at = p.1 in (
          λ h. (let low : c <ℤ d = omega (arith, ints, h, none, e) in omega (arith, ints, left, bottom, w, some, mul_more m c d low)),
          λ h. (let high : d ≤ℤ c = omega (arith, ints, h, none, e) in omega (arith, ints, at, mul_up m d c high)),
        ))
      ]

  odd_rising : (s : ℕ) (c : ℤ) → s ≤ 1 → IsInOdd m n j a b d s → Agrees m n j a b s (Rising c)
  unfolding Agrees
  odd_rising s c small in_odd =
      let w = odd_width in_odd.diagonal in let e = in_odd.diagonal in
      let left = cell.left in let right = cell.right in let bottom = cell.bottom in let top = cell.top in let some = cell.some in
      let sum = mul_add m c b in (
        λ h. (let low : (c +ℤ b) <ℤ d = omega (arith, ints, h, small, e) in omega (arith, ints, left, top, w, sum, mul_more m (c +ℤ b) d low)),
        λ h. (let high : d ≤ℤ (c +ℤ b) = omega (arith, ints, h, small, e) in omega (arith, ints, right, bottom, w, sum, mul_up m d (c +ℤ b) high)),
      )

  even_agrees : (s : ℕ) (l : Line) → s ≤ 1 → IsInEven m n j a b d s → Agrees m n j a b s l
  even_agrees s (Upright c) small in_even = upright_agrees s c small
  even_agrees s (Rising c) small in_even = even_rising s c in_even
  even_agrees s (Falling c) small in_even = even_falling s c small in_even

  odd_agrees : (s : ℕ) (l : Line) → s ≤ 1 → IsInOdd m n j a b d s → Agrees m n j a b s l
  odd_agrees s (Upright c) small in_odd = upright_agrees s c small
  odd_agrees s (Rising c) small in_odd = odd_rising s c small in_odd
  odd_agrees s (Falling c) small in_odd = odd_falling s c in_odd

-- the number of the tile that the tile of number n in the row j lies in
abbrev cell_column : ℕ → ℤ → ℤ
cell_column m n = part m (half n)

abbrev even_side : ℕ → ℤ → ℤ → ℤ → ℕ
even_side m n j d = count_one (int_le (place (Rising (pos m *ℤ d)) j) n)

abbrev odd_side : ℕ → ℤ → ℤ → ℤ → ℕ
odd_side m n j d = count_one (int_le (place (Falling (pos m *ℤ d)) j) n)

abbrev side_in : ℕ → ℤ → ℤ → ℤ → ℤ → ℕ
side_in m n j a b = cond (is_even (a +ℤ b)) (even_side m n j (half (a +ℤ b) -ℤ b)) (odd_side m n j (half (a +ℤ b) +ℤ pos 1))

abbrev pub before_enlarged : ℕ → Tile → Tile
before_enlarged m t = tile_with
    (twice (cell_column m (number_in_row t)) +ℤ pos
    (side_in m (number_in_row t) t.j (cell_column m (number_in_row t)) (part m t.j))) (part m t.j)

in_cell : (m : ℕ) (n j : ℤ) → 1 ≤ m → IsInCell m n j (cell_column m n) (part m j)
in_cell m n j some = record {
  some = some;
  left = omega (arith, ints, half_under _ n refl, part_low m (half n) some);
  right = omega (arith, ints, half_over _ n refl, part_high m (half n) some);
  bottom = part_low m j some;
  top = part_high m j some;
}

one_or_none : (b : Bool) → count_one b ≤ 1
one_or_none true = omega arith
one_or_none false = omega arith

side_of : (x y : ℤ) (b : Bool) → int_le x y ≡ b → ((count_one b ≡ 1) × (x ≤ℤ y)) ⊎ ((count_one b ≡ 0) × (y <ℤ x))
side_of x y true e = inl (refl, le_true x y e)
side_of x y false e = inr (refl, le_false x y e)

agrees_by : (e : Bool) (m : ℕ) (n j a b : ℤ) (l : Line) → is_even (a +ℤ b) ≡ e → IsInCell m n j a b
    → Agrees m n j a b (cond e (even_side m n j (half (a +ℤ b) -ℤ b)) (odd_side m n j (half (a +ℤ b) +ℤ pos 1))) l
agrees_by true m n j a b l e cell = even_agrees m n j a b (half (a +ℤ b) -ℤ b) cell _ l
    (one_or_none (int_le (place (Rising (pos m *ℤ (half (a +ℤ b) -ℤ b))) j) n))
    (record { diagonal = omega (arith, ints, even_is (a +ℤ b) e); side = side_of (place (Rising (pos m *ℤ (half (a +ℤ b) -ℤ b))) j) n _ refl })
agrees_by false m n j a b l e cell = odd_agrees m n j a b (half (a +ℤ b) +ℤ pos 1) cell _ l
    (one_or_none (int_le (place (Falling (pos m *ℤ (half (a +ℤ b) +ℤ pos 1))) j) n))
    (record { diagonal = omega (arith, ints, odd_is (a +ℤ b) e); side = side_of (place (Falling (pos m *ℤ (half (a +ℤ b) +ℤ pos 1))) j) n _ refl })

agrees : (m : ℕ) (n j : ℤ) (l : Line) → 1 ≤ m → Agrees m n j (cell_column m n) (part m j) (side_in m n j (cell_column m n) (part m j)) l
agrees m n j l some = agrees_by _ m n j (cell_column m n) (part m j) l refl (in_cell m n j some)

enlarged_row : (m : ℕ) (y j : ℤ) → 1 ≤ m → int_le (pos m *ℤ y) j ≡ int_le y (part m j)
enlarged_row m y j some = le_same (pos m *ℤ y) j y (part m j)
    (λ h. by_lt_z (part m j) y (λ lt. absurd (omega (arith, ints, h, mul_more m (part m j) y lt, part_high m j some))) (λ ge. ge))
    (λ h. by_lt_z (part m j) y (λ lt. lt) (λ ge. absurd (omega (arith, ints, h, mul_up m y (part m j) ge, part_low m j some))))

enlarge_upward : (m : ℕ) (t : Tile) → 1 ≤ m → IsUpward (enlarged m) t (before_enlarged m t)
unfolding Agrees
enlarge_upward m t some =
    let number = tile_with_number
    (twice (cell_column m (number_in_row t)) +ℤ pos
    (side_in m (number_in_row t) t.j (cell_column m (number_in_row t)) (part m t.j))) (part m t.j) in
    record {
      row = λ p. enlarged_row m p.y t.j some;
      flat = λ a b e. ap (λ z. pos m *ℤ z) e;
      line = enlarge_line m;
      through = λ l p h. enlarge_through m l p h;
      right = λ l h. (agrees m (number_in_row t) t.j l some).0 (rw number at h);
      left = λ l h. (agrees m (number_in_row t) t.j l some).1 (rw number at h);
    }

pub enlarge_winding : (m : ℕ) (t : Tile) (points : List Point) → 1 ≤ m → IsLoop points
    → winding (map (enlarged m) points) t ≡ winding points (before_enlarged m t)
enlarge_winding m t points some loop = upward (enlarged m) t (before_enlarged m t) points (enlarge_upward m t some) loop

enlarge_grid : (m : ℕ) (a b : Point) → IsOnGrid (a, b) → IsOnGrid (enlarged m a, enlarged m b)
enlarge_grid m a b (inl e) = inl (ap (λ z. pos m *ℤ z) e)
enlarge_grid m a b (inr share) = inr (enlarge_line m share.0, enlarge_through m share.0 a share.1, enlarge_through m share.0 b share.2)

pub enlarge_loop : (m : ℕ) (points : List Point) → IsLoop points → IsLoop (map (enlarged m) points)
enlarge_loop m points loop = record { closed = closed_map (enlarged m) points loop.closed; grid = grid_map (enlarged m) points (enlarge_grid m) loop.grid }

-- ---- an image

abbrev pub signed : Bool → ℤ → ℤ
signed true z = neg_ℤ z
signed false z = z

abbrev pub before_flipped : Bool → Tile → Tile
before_flipped true t = before_flip t
before_flipped false t = t

abbrev pub before_turned : ℕ → Tile → Tile
before_turned zero t = t
before_turned (suc turns) t = before_turn (before_turned turns t)

map_both : (f g : Point → Point) (points : List Point) → map f (map g points) ≡ map (λ p. f (g p)) points
map_both f g [] = refl
map_both f g (p ∷ points) = ap (λ ps. f (g p) ∷ ps) (map_both f g points)

flipped_loop : (flip : Bool) (points : List Point) → IsLoop points → IsLoop (map (flipped flip) points)
flipped_loop true points loop = flip_loop points loop
flipped_loop false points loop = subst IsLoop (sym (map-id points)) loop

flipped_winding : (flip : Bool) (t : Tile) (points : List Point) → IsLoop points
    → winding (map (flipped flip) points) t ≡ signed flip (winding points (before_flipped flip t))
flipped_winding true t points loop = flip_winding t points loop
flipped_winding false t points loop = ap (λ ps. winding ps t) (map-id points)

turned_loop : (turns : ℕ) (points : List Point) → IsLoop points → IsLoop (map (turned turns) points)
turned_loop zero points loop = subst IsLoop (sym (map-id points)) loop
turned_loop (suc turns) points loop = subst IsLoop (map_both (turned turns) quarter_turn points)
    (turned_loop turns (map quarter_turn points) (turn_loop points loop))

turned_winding : (turns : ℕ) (t : Tile) (points : List Point) → IsLoop points → winding (map (turned turns) points) t ≡ winding points (before_turned turns t)
turned_winding zero t points loop = ap (λ ps. winding ps t) (map-id points)
turned_winding (suc turns) t points loop =
    sym (ap (λ ps. winding ps t) (map_both (turned turns) quarter_turn points))
    ∙ (turned_winding turns t (map quarter_turn points) (turn_loop points loop) ∙ turn_winding (before_turned turns t) points loop)

abbrev pub before_image : Orient → Point → Tile → Tile
before_image orient at t = before_enlarged orient.mag (before_flipped orient.flip (before_turned orient.turns (before_move at t)))

-- what is left of an image, in pieces
image_is : (orient : Orient) (at : Point) (points : List Point)
    → map (moved at) (map (turned orient.turns) (map (flipped orient.flip) (map (enlarged orient.mag) points))) ≡ image_of_points orient at points
image_is orient at [] = refl
image_is orient at (p ∷ points) = ap (λ ps. image_of orient at p ∷ ps) (image_is orient at points)

pub image_loop : (orient : Orient) (at : Point) (points : List Point) → is_even at.x ≡ true → is_even at.y ≡ true
    → IsLoop points → IsLoop (image_of_points orient at points)
image_loop orient at points x y loop =
    subst IsLoop (image_is orient at points) (move_loop at (map (turned orient.turns) (map (flipped orient.flip) (map (enlarged orient.mag) points))) x y
    (turned_loop orient.turns (map (flipped orient.flip) (map (enlarged orient.mag) points))
    (flipped_loop orient.flip (map (enlarged orient.mag) points) (enlarge_loop orient.mag points loop))))

-- the winding of an outline's image is that of the outline at the tile before, turned round where the orientation flips
pub image_winding : (orient : Orient) (at : Point) (t : Tile) (points : List Point) → 1 ≤ orient.mag → is_even at.x ≡ true → is_even at.y ≡ true → IsLoop points
    → winding (image_of_points orient at points) t ≡ signed orient.flip (winding points (before_image orient at t))
image_winding orient at t points some x y loop =
    let grown = enlarge_loop orient.mag points loop in
    let flipped' = flipped_loop orient.flip (map (enlarged orient.mag) points) grown in
    let turned' = turned_loop orient.turns (map (flipped orient.flip) (map (enlarged orient.mag) points)) flipped' in
    ap (λ ps. winding ps t) (sym (image_is orient at points))
    ∙ (move_winding at t (map (turned orient.turns) (map (flipped orient.flip) (map (enlarged orient.mag) points))) x y turned'
    ∙ (turned_winding orient.turns (before_move at t) (map (flipped orient.flip) (map (enlarged orient.mag) points)) flipped'
    ∙ (flipped_winding orient.flip (before_turned orient.turns (before_move at t)) (map (enlarged orient.mag) points) grown
    ∙ ap (signed orient.flip) (enlarge_winding orient.mag (before_flipped orient.flip (before_turned orient.turns (before_move at t))) points some loop))))

-- a sum of even numbers
twice_even : (z h : ℤ) → z ≡ twice h → is_even z ≡ true
twice_even z h e = by_evenness (is_even z) refl
  where
    by_evenness : (b : Bool) → is_even z ≡ b → is_even z ≡ true
    by_evenness true p = p
    by_evenness false p = absurd (omega (arith, ints, odd_is z p, e))

pub even_sum : (x y : ℤ) → is_even x ≡ true → is_even y ≡ true → is_even (x +ℤ y) ≡ true
even_sum x y ex ey = twice_even (x +ℤ y) (half x +ℤ half y) (omega (arith, ints, even_is x ex, even_is y ey))
