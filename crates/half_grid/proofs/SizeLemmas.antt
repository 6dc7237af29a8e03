-- A list of a trapezoid's tiles, row by row, and its length.
use Rattle.std.proofs.Common.{◌≡◌, ℕ, suc, zero, ◌+◌, Bool, true, false, ◌&&◌, ℤ, pos, negsuc, ◌+ℤ◌, ◌-ℤ◌, ◌*ℤ◌, ◌≤ℤ◌}
use Rattle.std.proofs.Common.{◌<ℤ◌, arith, refl, ap, ◌∙◌, sym, List, [], ◌∷◌, ◌++◌, count_by, length, length-append}
use Rattle.std.proofs.Common.{if◌then◌else◌}
use Rattle.std.proofs.lemmas.Int.{ints}
use Rattle.std.proofs.lemmas.List.Sums.{sum_by-append}
use Rattle.std.proofs.Math.IntN.{zero-*ℤ, suc_ℤ-*ℤ}
use Rattle.std.specs.Prelude.{int_le, int_lt}
use Rattle.std.specs.Ordering.{int_eq}
use Rattle.half_grid.specs.Halves.{half, is_even}
use Rattle.half_grid.specs.Lines.{x_on}
use Rattle.half_grid.specs.Rows.{place, number_in_row}
use Rattle.half_grid.specs.Winding.{count_one}
use Rattle.half_grid.specs.Sizes.{is_tile, is_same_side, IsNumberIn}
use Rattle.half_grid.specs.Trapezoids.{Trapezoid, IsInTrapezoid, IsLegal, bottom_of, top_of}
use Rattle.half_grid.specs.declared.plane.Side.{Side}
use Rattle.half_grid.specs.declared.plane.Side.TheVariants.{Left, Right}
use Rattle.half_grid.specs.declared.plane.Tile.{Tile}
use Rattle.half_grid.specs.declared.plane.Line.{Line}
use Rattle.half_grid.specs.declared.plane.Line.TheVariants.{Upright, Rising, Falling}
use Rattle.half_grid.proofs.Halves.{half_even, half_odd}
use Rattle.half_grid.proofs.LineLemmas.{int_eq_true, int_eq_same, int_eq_false, and_both}
use Rattle.half_grid.proofs.Places.{same_number, place_at_most, number_below, right_by_place, left_by_place, legal_places}
use Rattle.half_grid.proofs.RingLemmas.{int_le_true, int_lt_true, int_le_yes, int_lt_yes, int_lt_no}
use Rattle.half_grid.proofs.WindingLemmas.{count_by-cons}

both_ways : (a b : Bool) → (a ≡ true → b ≡ true) → (b ≡ true → a ≡ true) → a ≡ b
both_ways true b f g = sym (f refl)
both_ways false true f g = g refl
both_ways false false f g = refl

pub not_true : (b : Bool) → (b ≡ true → ⊥) → b ≡ false
not_true true h = absurd (h refl)
not_true false h = refl

same_side_true : (s r : Side) → is_same_side s r ≡ true → s ≡ r
same_side_true Left Left h = refl
same_side_true Left Right h = absurd (let clash : ⊥ = cc in clash)
same_side_true Right Left h = absurd (let clash : ⊥ = cc in clash)
same_side_true Right Right h = refl

same_side_itself : (s : Side) → is_same_side s s ≡ true
same_side_itself Left = refl
same_side_itself Right = refl

is_tile_itself : (t : Tile) → is_tile t t ≡ true
is_tile_itself t = rw (int_eq_same t.i t.i refl, int_eq_same t.j t.j refl, same_side_itself t.side) refl

abbrev same_place : Tile → Tile → Bool
same_place t u = int_eq t.j u.j && int_eq (number_in_row t) (number_in_row u)

by_number-forward : (t u : Tile) → is_tile t u ≡ true → same_place t u ≡ true
by_number-forward t u h =
    let p = and_both (int_eq t.i u.i) (int_eq t.j u.j && is_same_side t.side u.side) h in
    let q = and_both (int_eq t.j u.j) (is_same_side t.side u.side) p.1 in
    let i : t.i ≡ u.i = int_eq_true _ _ p.0 in
    let s : t.side ≡ u.side = same_side_true _ _ q.1 in
    let n : number_in_row t ≡ number_in_row u = rw (i, s) refl in
    rw (q.0, int_eq_same _ _ n) refl

by_number-backward : (t u : Tile) → same_place t u ≡ true → is_tile t u ≡ true
by_number-backward t u h =
    let p = and_both (int_eq t.j u.j) (int_eq (number_in_row t) (number_in_row u)) h in
    let e : t ≡ u = same_number t u (int_eq_true _ _ p.0) (int_eq_true _ _ p.1) in
    rw (← e) (is_tile_itself t)

-- a tile is another where their rows and their numbers are the same
is_tile_by_number : (t u : Tile) → is_tile t u ≡ same_place t u
is_tile_by_number t u = both_ways _ _ (by_number-forward t u) (by_number-backward t u)

abbrev next_column : ℤ → Side → ℤ
next_column i Left = i
next_column i Right = i +ℤ pos 1

abbrev other_side : Side → Side
other_side Left = Right
other_side Right = Left

-- the next tile of the row
abbrev next_tile : Tile → Tile
next_tile t = record { i = next_column t.i t.side; j = t.j; side = other_side t.side }

next_by_side : (i j : ℤ) (side : Side)
    → number_in_row (next_tile (record { i = i; j = j; side = side })) ≡ number_in_row
    (record { i = i; j = j; side = side }) +ℤ pos 1
next_by_side i j Left = omega (arith, ints)
next_by_side i j Right = omega (arith, ints)

next_number : (t : Tile) → number_in_row (next_tile t) ≡ number_in_row t +ℤ pos 1
next_number t = next_by_side t.i t.j t.side

-- the tile of this number in the row
abbrev pub tile_with : ℤ → ℤ → Tile
tile_with n j = record { i = half n; j = j; side = if is_even n then Left else Right }

tile_with_by : (b : Bool) (n j : ℤ) → is_even n ≡ b → number_in_row (tile_with n j) ≡ n
tile_with_by true n j e = rw e (omega (arith, ints, half_even n e))
tile_with_by false n j e = rw e (omega (arith, ints, half_odd n e))

pub tile_with_number : (n j : ℤ) → number_in_row (tile_with n j) ≡ n
tile_with_number n j = tile_with_by _ n j refl

-- so many tiles of the row, from this one on
abbrev tiles_from : ℕ → Tile → List Tile
tiles_from zero t = []
tiles_from (suc c) t = t ∷ tiles_from c (next_tile t)

tiles_from_length : (c : ℕ) (t : Tile) → length (tiles_from c t) ≡ c
tiles_from_length zero t = refl
tiles_from_length (suc c) t = ap suc (tiles_from_length c (next_tile t))

-- whether the number is among c numbers from a on
abbrev is_within : ℤ → ℤ → ℕ → Bool
is_within n a c = int_le a n && int_lt n (a +ℤ pos c)

within_none : (n a : ℤ) → is_within n a 0 ≡ false
within_none n a = grind (arith, ints)

within_step : (n a : ℤ) (c : ℕ) → count_one (int_eq n a) + count_one (is_within n (a +ℤ pos 1) c) ≡ count_one (is_within n a (suc c))
within_step n a c = grind (arith, ints)

row_step : (e : Bool) (n a : ℤ) (c : ℕ) → count_one (e && int_eq n a) + count_one (e && is_within n (a +ℤ pos 1) c) ≡ count_one (e && is_within n a (suc c))
row_step true n a c = within_step n a c
row_step false n a c = refl

never_within : (e : Bool) (n a : ℤ) → 0 ≡ count_one (e && is_within n a 0)
never_within true n a = rw (within_none n a) refl
never_within false n a = refl

-- how often a tile stands among them
row_count : (t : Tile) (c : ℕ) (u : Tile) → count_by (is_tile t) (tiles_from c u) ≡ count_one
    (int_eq t.j u.j && is_within (number_in_row t) (number_in_row u) c)
row_count t zero u = never_within (int_eq t.j u.j) (number_in_row t) (number_in_row u)
row_count t (suc c) u =
    let later = row_count t c (next_tile u) in
    let moved = rw (next_number u) at later in
    count_by-cons (is_tile t) u (tiles_from c (next_tile u))
    ∙ (rw (is_tile_by_number t u, moved) (row_step (int_eq t.j u.j) (number_in_row t) (number_in_row u) c))

-- a number that isn't negative, as a natural
abbrev pub natural : ℤ → ℕ
natural (pos n) = n
natural (negsuc n) = 0

pub natural_is : (z : ℤ) → pos 0 ≤ℤ z → pos (natural z) ≡ z
natural_is (pos n) h = refl
natural_is (negsuc n) h = absurd (omega (arith, ints, h))

-- how many tiles the row has between the lines
abbrev between : Line → Line → ℤ → ℕ
between l r j = natural (place r j -ℤ place l j)

-- the tiles between two lines of the k rows from y0 up
abbrev tiles_of_rows : Line → Line → ℤ → ℕ → List Tile
tiles_of_rows l r y0 zero = []
tiles_of_rows l r y0 (suc k) = tiles_from (between l r (y0 +ℤ pos k)) (tile_with (place l (y0 +ℤ pos k)) (y0 +ℤ pos k)) ++ tiles_of_rows l r y0 k

-- whether the tile is between the lines in one of these rows
abbrev is_between : Tile → Line → Line → ℤ → ℕ → Bool
is_between t l r y0 k = is_within t.j y0 k && (int_le (place l t.j) (number_in_row t) && int_lt (number_in_row t) (place r t.j))

abbrev InOrder : Line → Line → ℤ → ℕ → Type 0
InOrder l r y0 k = (j : ℤ) → y0 ≤ℤ j → j <ℤ (y0 +ℤ pos k) → place l j ≤ℤ place r j

and_false : (b : Bool) → (b && false) ≡ false
and_false true = refl
and_false false = refl

row_apart : (j y0 : ℤ) (k : ℕ) → (j ≡ y0 +ℤ pos k → ⊥) → is_within j y0 k ≡ is_within j y0 (suc k)
row_apart j y0 k h = grind (arith, ints)

last_row : (n a b : ℤ) (c : ℕ) (p q : Bool) → a +ℤ pos c ≡ b → p ≡ false → q ≡ true
    → count_one (is_within n a c) + count_one (p && (int_le a n && int_lt n b)) ≡ count_one (q && (int_le a n && int_lt n b))
last_row n a b c p q e ep eq = rw (ep, eq, e) (omega arith)

rows_step_by : (e : Bool) (t : Tile) (l r : Line) (y0 : ℤ) (k : ℕ) → InOrder l r y0 (suc k) → int_eq t.j (y0 +ℤ pos k) ≡ e
    → count_one (e && is_within (number_in_row t) (place l (y0 +ℤ pos k)) (between l r (y0 +ℤ pos k))) + count_one
    (is_between t l r y0 k) ≡ count_one (is_between t l r y0 (suc k))
rows_step_by true t l r y0 k order e =
    let row : t.j ≡ y0 +ℤ pos k = int_eq_true _ _ e in
    let o : place l t.j ≤ℤ place r t.j = order t.j (omega (arith, ints, row)) (omega (arith, ints, row)) in
    let width : pos (between l r t.j) ≡ place r t.j -ℤ place l t.j = natural_is (place r t.j -ℤ place l t.j) (omega (arith, ints, o)) in
    let right : place l t.j +ℤ pos (between l r t.j) ≡ place r t.j = omega (arith, ints, width) in
    let below : (int_le y0 t.j && int_lt t.j t.j) ≡ false = rw (int_lt_no t.j t.j (omega (arith, ints))) (and_false (int_le y0 t.j)) in
    let inside : is_within t.j y0 (suc k) ≡ true = rw (
      int_le_yes y0 t.j (omega (arith, ints, row)),
      int_lt_yes t.j (y0 +ℤ pos (suc k))
          (omega (arith, ints, row)),
    ) refl in
    rw (← row) (last_row (number_in_row t) (place l t.j) (place r t.j) (between l r t.j) _ _ right below inside)
rows_step_by false t l r y0 k order e =
    let same : is_within t.j y0 k ≡ is_within t.j y0 (suc k) = row_apart t.j y0 k (int_eq_false _ _ e) in
    rw same (omega arith)

rows_step : (t : Tile) (l r : Line) (y0 : ℤ) (k : ℕ) → InOrder l r y0 (suc k)
    → count_one (int_eq t.j (y0 +ℤ pos k) && is_within (number_in_row t) (place l (y0 +ℤ pos k))
    (between l r (y0 +ℤ pos k))) + count_one (is_between t l r y0 k) ≡ count_one (is_between t l r y0 (suc k))
rows_step t l r y0 k order = rows_step_by _ t l r y0 k order refl

no_rows : (t : Tile) (l r : Line) (y0 : ℤ) → 0 ≡ count_one (is_between t l r y0 0)
no_rows t l r y0 = rw (within_none t.j y0) refl

-- how often a tile stands among them
rows_count : (t : Tile) (l r : Line) (y0 : ℤ) (k : ℕ) → InOrder l r y0 k → count_by (is_tile t) (tiles_of_rows l r y0 k) ≡ count_one (is_between t l r y0 k)
rows_count t l r y0 zero order = no_rows t l r y0
rows_count t l r y0 (suc k) order =
    let below = rows_count t l r y0 k (λ j a b. order j a (omega (arith, ints, b))) in
    let here = row_count t (between l r (y0 +ℤ pos k)) (tile_with (place l (y0 +ℤ pos k)) (y0 +ℤ pos k)) in
    let numbered = rw (tile_with_number (place l (y0 +ℤ pos k)) (y0 +ℤ pos k)) at here in
    sum_by-append _ (tiles_from (between l r (y0 +ℤ pos k)) (tile_with (place l (y0 +ℤ pos k)) (y0 +ℤ pos k))) (tiles_of_rows l r y0 k)
    ∙ (rw (numbered, below) (rows_step t l r y0 k order))

-- ---- the length

-- k times a number
abbrev times : ℕ → ℤ → ℤ
times zero x = pos 0
times (suc k) x = times k x +ℤ x

times_is : (k : ℕ) (x : ℤ) → pos k *ℤ x ≡ times k x
times_is zero x = zero-*ℤ x
times_is (suc k) x = suc_ℤ-*ℤ (pos k) x ∙ ap (λ y. y +ℤ x) (times_is k x)

times_sum : (k : ℕ) (x y : ℤ) → times k (x +ℤ y) ≡ times k x +ℤ times k y
times_sum zero x y = refl
times_sum (suc k) x y = omega (arith, ints, times_sum k x y)

-- how far apart the lines are at Y
abbrev gap : Line → Line → ℤ → ℤ
gap l r y = x_on r y -ℤ x_on l y

-- by how much this grows from one Y to the next
abbrev lean : Line → ℤ
lean (Upright c) = pos 0
lean (Rising c) = pos 1
lean (Falling c) = negsuc 0

lean_is : (l : Line) (y : ℤ) → x_on l (y +ℤ pos 1) ≡ x_on l y +ℤ lean l
lean_is (Upright c) y = omega (arith, ints)
lean_is (Rising c) y = omega (arith, ints)
lean_is (Falling c) y = omega (arith, ints)

gap_after : (l r : Line) (y0 : ℤ) (k : ℕ) → gap l r (y0 +ℤ pos k) ≡ gap l r y0 +ℤ times k (lean r -ℤ lean l)
gap_after l r y0 zero = let e : y0 +ℤ pos 0 ≡ y0 = omega (arith, ints) in rw e (omega (arith, ints))
gap_after l r y0 (suc k) =
    let e : y0 +ℤ pos (suc k) ≡ (y0 +ℤ pos k) +ℤ pos 1 = omega (arith, ints) in
    rw e (omega (arith, ints, lean_is l (y0 +ℤ pos k), lean_is r (y0 +ℤ pos k), gap_after l r y0 k))

row_length : (l r : Line) (y0 : ℤ) (k : ℕ) → InOrder l r y0 (suc k)
    → pos (between l r (y0 +ℤ pos k)) ≡ gap l r (y0 +ℤ pos k) +ℤ gap l r ((y0 +ℤ pos k) +ℤ pos 1)
row_length l r y0 k order =
    let o = order (y0 +ℤ pos k) (omega (arith, ints)) (omega (arith, ints)) in
    omega (arith, ints, natural_is (place r (y0 +ℤ pos k) -ℤ place l (y0 +ℤ pos k)) (omega (arith, ints, o)))

regroup : (k : ℕ) (w s : ℤ) → times k (w +ℤ (w +ℤ (times k s +ℤ s))) ≡ times k ((w +ℤ (w +ℤ times k s)) +ℤ s)
regroup k w s = ap (times k) (omega (arith, ints))

assemble : (k : ℕ) (w s a b : ℤ) (n m total : ℕ) → total ≡ n + m → pos n ≡ a +ℤ b → a ≡ w +ℤ times k s → b ≡ w +ℤ times (suc k) s
    → pos m ≡ times k (w +ℤ a) → pos total ≡ times (suc k) (w +ℤ b)
assemble k w s a b n m total e en ea eb em =
    let lower = rw ea at em in
    rw eb (omega (arith, ints, e, en, ea, eb, lower, regroup k w s, times_sum k (w +ℤ (w +ℤ times k s)) s))

row_and_rows : (l r : Line) (y0 : ℤ) (k : ℕ) → length (tiles_of_rows l r y0 (suc k)) ≡ between l r (y0 +ℤ pos k) + length (tiles_of_rows l r y0 k)
row_and_rows l r y0 k =
    length-append (tiles_from (between l r (y0 +ℤ pos k)) (tile_with (place l (y0 +ℤ pos k)) (y0 +ℤ pos k))) (tiles_of_rows l r y0 k)
    ∙ ap (λ n. n + length (tiles_of_rows l r y0 k)) (tiles_from_length (between l r (y0 +ℤ pos k)) (tile_with (place l (y0 +ℤ pos k)) (y0 +ℤ pos k)))

rows_length : (l r : Line) (y0 : ℤ) (k : ℕ) → InOrder l r y0 k → pos (length (tiles_of_rows l r y0 k)) ≡ times k (gap l r y0 +ℤ gap l r (y0 +ℤ pos k))
rows_length l r y0 zero order = refl
rows_length l r y0 (suc k) order =
    let below = rows_length l r y0 k (λ j a b. order j a (omega (arith, ints, b))) in
    let e : (y0 +ℤ pos k) +ℤ pos 1 ≡ y0 +ℤ pos (suc k) = omega (arith, ints) in
    let here = row_length l r y0 k order ∙ ap (λ y. gap l r (y0 +ℤ pos k) +ℤ gap l r y) e in
    assemble k (gap l r y0) (lean r -ℤ lean l) _ _ _ _ _ (row_and_rows l r y0 k) here (gap_after l r y0 k) (gap_after l r y0 (suc k)) below

-- ---- a legal trapezoid

inside_yes : (z : Trapezoid) (t : Tile) (k : ℕ) → z.y0 +ℤ pos k ≡ z.y1 → IsInTrapezoid z t → is_between t z.left z.right z.y0 k ≡ true
inside_yes z t k e h = rw (
  e,
  int_le_yes _ _ h.above_bottom,
  int_lt_yes _ _ h.below_top,
  int_le_yes _ _
      (place_at_most t z.left h.right_of_left),
  int_lt_yes _ _ (number_below t z.right h.left_of_right),
) refl

inside_back : (z : Trapezoid) (t : Tile) (k : ℕ) → z.y0 +ℤ pos k ≡ z.y1 → is_between t z.left z.right z.y0 k ≡ true → IsInTrapezoid z t
inside_back z t k e h =
    let p = and_both (is_within t.j z.y0 k) (int_le (place z.left t.j) (number_in_row t) && int_lt (number_in_row t) (place z.right t.j)) h in
    let q = and_both (int_le z.y0 t.j) (int_lt t.j (z.y0 +ℤ pos k)) p.0 in
    let s = and_both (int_le (place z.left t.j) (number_in_row t)) (int_lt (number_in_row t) (place z.right t.j)) p.1 in
    let top : t.j <ℤ (z.y0 +ℤ pos k) = int_lt_true _ _ q.1 in
    record {
      above_bottom = int_le_true _ _ q.0;
      below_top = omega (arith, ints, top, e);
      right_of_left = right_by_place t z.left (int_le_true _ _ s.0);
      left_of_right = left_by_place t z.right (int_lt_true _ _ s.1);
    }

legal_in_order : (z : Trapezoid) (k : ℕ) → IsLegal z → z.y0 +ℤ pos k ≡ z.y1 → InOrder z.left z.right z.y0 k
legal_in_order z k legal e = λ j a b. (let below = legal_places z j legal a (omega (arith, ints, b, e)) in omega (arith, ints, below))

size_by : (z : Trapezoid) (n k : ℕ) → IsLegal z → z.y1 -ℤ z.y0 ≡ pos k → z.y0 +ℤ pos k ≡ z.y1
    → pos n ≡ (z.y1 -ℤ z.y0) *ℤ (bottom_of z +ℤ top_of z) → IsNumberIn (IsInTrapezoid z) n
size_by z n k legal height top e =
    let order = legal_in_order z k legal top in
    let long = rw top at (rows_length z.left z.right z.y0 k order) in
    let short = rw (height, times_is k (bottom_of z +ℤ top_of z)) at e in
    record {
      tiles = tiles_of_rows z.left z.right z.y0 k;
      once = λ t h. rows_count t z.left z.right z.y0 k order ∙ (rw (inside_yes z t k top h) refl);
      never = λ t h. rows_count t z.left z.right z.y0 k order ∙ (rw (not_true _ (λ yes. h (inside_back z t k top yes))) refl);
      count = omega (arith, ints, long, short);
    }

-- A legal trapezoid has as many tiles as its height times the sum of its parallel sides.
pub size_is : (z : Trapezoid) (n : ℕ) → IsLegal z → pos n ≡ (z.y1 -ℤ z.y0) *ℤ (bottom_of z +ℤ top_of z) → IsNumberIn (IsInTrapezoid z) n
size_is z n legal e =
    let height : pos (natural (z.y1 -ℤ z.y0)) ≡ z.y1 -ℤ z.y0 = natural_is (z.y1 -ℤ z.y0) (omega (arith, ints, legal.has_rows)) in
    size_by z n (natural (z.y1 -ℤ z.y0)) legal (sym height) (omega (arith, ints, height)) e
