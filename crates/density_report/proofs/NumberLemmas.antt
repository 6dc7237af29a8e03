-- The number of an area's tiles: parts add up, an area has one number, and within reach it is small.
use Rattle.std.proofs.Common.{ℕ, zero, suc, ◌+◌, ◌^◌, ◌≤◌, ◌<◌, ◌≡◌, ◌⊎◌, inl, inr, pos, neg_ℤ, Bool, true, false, cond}
use Rattle.std.proofs.Common.{List, [], ◌∷◌, ◌++◌, length, count_by, arith, refl, sym, ap, ◌∙◌}
use Rattle.std.proofs.lemmas.Int.{ints}
use Rattle.std.proofs.lemmas.List.{length-append}
use Rattle.std.proofs.lemmas.List.Sums.{sum_by-append}
use Rattle.half_grid.specs.Reach.{IsTileWithinReach}
use Rattle.half_grid.specs.Sizes.{is_tile, is_same_side, IsNumberIn}
use Rattle.half_grid.specs.Trapezoids.{Trapezoid, trapezoid, IsInTrapezoid, IsLegal}
use Rattle.half_grid.specs.Winding.{count_one}
use Rattle.half_grid.specs.declared.plane.Line.TheVariants.{Upright}
use Rattle.half_grid.specs.declared.plane.Side.{Side}
use Rattle.half_grid.specs.declared.plane.Side.TheVariants.{Left, Right}
use Rattle.half_grid.specs.declared.plane.Tile.{Tile}
use Rattle.half_grid.proofs.ForCallers.{size_is, count_by-cons, int_eq_same}
use Rattle.density_map.proofs.ForCallers.{same_tile}

-- ---- areas of the same tiles, none, and two that share none

pub number_same : (area other : Tile → Type 0) (n : ℕ) → ((t : Tile) → area t → other t)
    → ((t : Tile) → other t → area t) → IsNumberIn area n → IsNumberIn other n
number_same area other n to from p = record {
  tiles = p.tiles;
  once = λ t h. p.once t (from t h);
  never = λ t out. p.never t (λ h. out (to t h));
  count = p.count;
}

pub number_none : (area : Tile → Type 0) → ((t : Tile) → area t → ⊥) → IsNumberIn area 0
number_none area none = record {
  tiles = [];
  once = λ t h. absurd (none t h);
  never = λ t out. refl;
  count = refl;
}

pub number_sum : (a b : Tile → Type 0) (m n : ℕ) → ((t : Tile) → a t → b t → ⊥) → IsNumberIn a m → IsNumberIn b n → IsNumberIn (λ t. a t ⊎ b t) (m + n)
number_sum a b m n apart p q = record {
  tiles = p.tiles ++ q.tiles;
  once = λ t h. once_by t h;
  never = λ t out. sum_by-append _ p.tiles q.tiles ∙ omega (arith, p.never t (λ h. out (inl h)), q.never t (λ h. out (inr h)));
  count = (let both = length-append p.tiles q.tiles in omega (arith, both, p.count, q.count));
}
  where
    once_by : (t : Tile) → a t ⊎ b t → count_by (is_tile t) (p.tiles ++ q.tiles) ≡ 1
    once_by t (inl h) =
        sum_by-append _ p.tiles q.tiles ∙ omega (arith, p.once t h, q.never t (λ g. apart t h g))
    once_by t (inr h) =
        sum_by-append _ p.tiles q.tiles ∙ omega (arith, p.never t (λ g. apart t g h), q.once t h)

-- ---- a list that has no tile more often than another is no longer

-- the tiles but for the first one that is the given one
abbrev without : Tile → List Tile → List Tile
without x [] = []
without x (y ∷ ys) = cond (is_tile x y) ys (y ∷ without x ys)

-- of a tile that is there one is taken off, of each other none
fewer_by : (t x y : Tile) (ys : List Tile) (b : Bool) → is_tile x y ≡ b → 1 ≤ count_by (is_tile x) (y ∷ ys)
    → ((c : Bool) → 1 ≤ count_by (is_tile x) ys → count_by (is_tile t) ys ≡ count_one (is_tile t x) + count_by (is_tile t) (without x ys))
    → count_by (is_tile t) (y ∷ ys) ≡ count_one (is_tile t x) + count_by (is_tile t) (cond b ys (y ∷ without x ys))
fewer_by t x y ys true e one rest = count_by-cons (is_tile t) y ys ∙ ap (λ u. count_one (is_tile t u) + count_by (is_tile t) ys) (sym (same_tile x y e))
fewer_by t x y ys false e one rest =
    let there : 1 ≤ count_by (is_tile x) ys = omega (arith, one, count_by-cons (is_tile x) y ys, ap count_one e) in
    omega (arith, rest true there, count_by-cons (is_tile t) y ys, count_by-cons (is_tile t) y (without x ys))

fewer : (t x : Tile) (ys : List Tile) → 1 ≤ count_by (is_tile x) ys → count_by (is_tile t) ys ≡ count_one (is_tile t x) + count_by (is_tile t) (without x ys)
fewer t x [] one = absurd (omega (arith, one))
fewer t x (y ∷ ys) one = fewer_by t x y ys (is_tile x y) refl one (λ c. fewer t x ys)

shorter_by : (x y : Tile) (ys : List Tile) (b : Bool) → is_tile x y ≡ b → 1 ≤ count_by (is_tile x) (y ∷ ys)
    → (1 ≤ count_by (is_tile x) ys → length ys ≡ suc (length (without x ys)))
    → suc (length ys) ≡ suc (length (cond b ys (y ∷ without x ys)))
shorter_by x y ys true e one rest = refl
shorter_by x y ys false e one rest = ap suc (rest (omega (arith, one, count_by-cons (is_tile x) y ys, ap count_one e)))

shorter : (x : Tile) (ys : List Tile) → 1 ≤ count_by (is_tile x) ys → length ys ≡ suc (length (without x ys))
shorter x [] one = absurd (omega (arith, one))
shorter x (y ∷ ys) one = shorter_by x y ys (is_tile x y) refl one (shorter x ys)

is_itself : (t : Tile) → is_tile t t ≡ true
is_itself t = rw (int_eq_same t.i t.i refl, int_eq_same t.j t.j refl) (same t.side)
  where
    same : (s : Side) → is_same_side s s ≡ true
    same Left = refl
    same Right = refl

no_longer : (xs ys : List Tile) → ((t : Tile) → count_by (is_tile t) xs ≤ count_by (is_tile t) ys) → length xs ≤ length ys
no_longer [] ys h = omega arith
no_longer (x ∷ xs) ys h =
    let here : 1 ≤ count_by (is_tile x) ys = omega (arith, h x, count_by-cons (is_tile x) x xs, ap count_one (is_itself x)) in
    let rest = no_longer xs (without x ys) (λ t. omega (arith, h t, count_by-cons (is_tile t) x xs, fewer t x ys here)) in
    omega (arith, rest, shorter x ys here)

-- ---- an area within another has no greater number

not_more : (c d : ℕ) → (d < c → ⊥) → c ≤ d
not_more zero d h = omega arith
not_more (suc c) zero h = absurd (h (omega arith))
not_more (suc c) (suc d) h = let rest = not_more c d (λ l. h (omega (arith, l))) in omega (arith, rest)

-- what is so where something holds, and where it doesn't, is so
pub either_way : (A : Type 0) (c d : ℕ) → (A → c ≤ d) → ((A → ⊥) → c ≤ d) → c ≤ d
either_way A c d within without_it =
    not_more c d (λ more. (
    let out : A → ⊥ = λ a. (let less = within a in omega (arith, less, more)) in
    let less = without_it out in
    omega (arith, less, more)
    ))

pub number_within : (area other : Tile → Type 0) (m n : ℕ) → ((t : Tile) → area t → other t) → IsNumberIn area m → IsNumberIn other n → m ≤ n
number_within area other m n inside p q =
    let less = no_longer p.tiles q.tiles (λ t. either_way (area t) (count_by (is_tile t) p.tiles) (count_by (is_tile t) q.tiles)
    (λ h. omega (arith, p.once t h, q.once t (inside t h)))
    (λ out. omega (arith, p.never t out))) in
    omega (arith, less, p.count, q.count)

pub one_number : (area : Tile → Type 0) (m n : ℕ) → IsNumberIn area m → IsNumberIn area n → m ≡ n
one_number area m n p q =
    let less = number_within area area m n (λ t h. h) p q in
    let more = number_within area area n m (λ t h. h) q p in
    omega (arith, less, more)

-- ---- within reach there are few tiles

-- a little more than all that is within reach
abbrev whole : Trapezoid
whole = trapezoid (neg_ℤ (pos 17592186044417)) (pos 17592186044417) (Upright (neg_ℤ (pos 17592186044417))) (Upright (pos 17592186044417))

whole_legal : IsLegal whole
whole_legal = record { has_rows = omega (arith, ints); bottom = omega (arith, ints); top = omega (arith, ints); not_flat = omega (arith, ints) }

-- twice the square of its side
abbrev whole_number : ℕ
whole_number = 2475880078571042024774959112

whole_is : IsNumberIn (IsInTrapezoid whole) whole_number
whole_is =
    let n = size_is whole whole_number whole_legal refl in
    record { tiles = n.tiles; once = n.once; never = n.never; count = n.count }

pub number_few : (area : Tile → Type 0) (n : ℕ) → ((t : Tile) → area t → IsTileWithinReach t) → IsNumberIn area n → n < 2 ^ 127
number_few area n near p =
    let less = number_within area (IsInTrapezoid whole) n whole_number (λ t h. inside t (near t h)) p whole_is in
    omega (arith, less)
  where
    inside : (t : Tile) → IsTileWithinReach t → IsInTrapezoid whole t
    inside t w = record {
      above_bottom = omega (arith, ints, w.row.low);
      below_top = omega (arith, ints, w.row.high);
      right_of_left = omega (arith, ints, w.column.low);
      left_of_right = omega (arith, ints, w.column.high);
    }
