-- The winding along a point list, edge by edge.
use Rattle.std.proofs.Common.{◌≡◌, ℕ, ◌+◌, Bool, true, false, ℤ, pos, ◌+ℤ◌, ◌-ℤ◌, arith, refl, ap, ◌∙◌, List, [], ◌∷◌, count_by, neg_ℤ, cond}
use Rattle.std.proofs.Common.{◌≤◌, ◌≤ℤ◌, length}
use Rattle.std.proofs.lemmas.Int.{ints}
use Rattle.std.proofs.lemmas.List.Sums.{sum_by-cons}
use Rattle.half_grid.specs.Lines.{line_of}
use Rattle.half_grid.specs.Winding.{is_right_of, rises_past, counts_up, counts_down, edges_of, winding, crossing_of, count_one}
use Rattle.half_grid.specs.declared.plane.Tile.{Tile}
use Rattle.half_grid.specs.declared.plane.Point.{Point}

-- a row that one point list edge passes upward isn't passed downward by it
rises_one_way : (t : Tile) (a b : Point) → rises_past t a b ≡ true → rises_past t b a ≡ false
rises_one_way t a b h = grind (arith, ints)

pub crossing_up : (t : Tile) (a b : Point) → rises_past t a b ≡ true → crossing_of t a b ≡ pos (count_one (is_right_of t (line_of a b)))
crossing_up t a b h =
    let d = rises_one_way t a b h in
    rw (h, d) (omega (arith, ints))

pub crossing_down : (t : Tile) (a b : Point) → rises_past t b a ≡ true → crossing_of t a b ≡ neg_ℤ (pos (count_one (is_right_of t (line_of a b))))
crossing_down t a b h =
    let d = rises_one_way t b a h in
    rw (h, d) (omega (arith, ints))

pub crossing_none : (t : Tile) (a b : Point) → rises_past t a b ≡ false → rises_past t b a ≡ false → crossing_of t a b ≡ pos 0
crossing_none t a b h k = rw (h, k) refl

-- the winding along the points that follow a, from a on
abbrev pub winding_from : Tile → Point → List Point → ℤ
winding_from t a [] = pos 0
winding_from t a (b ∷ points) = crossing_of t a b +ℤ winding_from t b points

one_of : (b : Bool) → cond b 1 0 ≡ count_one b
one_of true = refl
one_of false = refl

-- how many of a list pass a test, one item further
pub count_by-cons : {A : Type 0} (p : A → Bool) (x : A) (xs : List A) → count_by p (x ∷ xs) ≡ count_one (p x) + count_by p xs
count_by-cons p x xs = sum_by-cons (λ y. cond (p y) 1 0) x xs ∙ ap (λ n. n + count_by p xs) (one_of (p x))

split_sum : (a b c d e f : ℕ) → a ≡ c + d → b ≡ e + f → pos a -ℤ pos b ≡ (pos c -ℤ pos e) +ℤ (pos d -ℤ pos f)
split_sum a b c d e f h k = omega (arith, ints)

-- The winding of a list is what its first edge adds and the winding of the rest.
pub winding-cons : (t : Tile) (a b : Point) (points : List Point) → winding (a ∷ b ∷ points) t ≡ crossing_of t a b +ℤ winding (b ∷ points) t
unfolding winding
winding-cons t a b points = split_sum _ _ _ _ _ _ (count_by-cons (counts_up t) (a, b) (edges_of (b ∷ points)))
    (count_by-cons (counts_down t) (a, b) (edges_of (b ∷ points)))

-- The winding of a list is that along its points, from the first on.
pub winding_along : (t : Tile) (a : Point) (points : List Point) → winding (a ∷ points) t ≡ winding_from t a points
unfolding winding
winding_along t a [] = refl
winding_along t a (b ∷ points) = winding-cons t a b points ∙ ap (λ w. crossing_of t a b +ℤ w) (winding_along t b points)

one_small : (b : Bool) → count_one b ≤ 1
one_small true = omega arith
one_small false = omega arith

-- one edge adds at most 1 and at least -1
pub crossing_small : (t : Tile) (a b : Point) → (neg_ℤ (pos 1) ≤ℤ crossing_of t a b) × (crossing_of t a b ≤ℤ pos 1)
crossing_small t a b = (omega (arith, ints, one_small (counts_down t (a, b))), omega (arith, ints, one_small (counts_up t (a, b))))

-- one step along the points: what one edge adds goes from what is to come to what is added up
pub winding_step : (t : Tile) (previous point : Point) (rest later : List Point) (sum whole : ℤ) → rest ≡ point ∷ later
    → sum +ℤ winding_from t previous rest ≡ whole → (sum +ℤ crossing_of t previous point) +ℤ winding_from t point later ≡ whole
winding_step t previous point rest later sum whole e h = let k = rw e at h in omega (arith, ints, k)

pub winding_empty : (t : Tile) (points : List Point) → length points ≡ 0 → winding points t ≡ pos 0
unfolding winding
winding_empty t [] h = refl
winding_empty t (p ∷ points) h = absurd (omega (arith, h))
