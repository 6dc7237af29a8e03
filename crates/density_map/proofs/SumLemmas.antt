-- Sums over lists of trapezoids and over lists of tiles, one in place of the other.
use Rattle.std.proofs.Common.{ap, ℕ, zero, suc, ◌+◌, ◌*◌, ◌^◌, ◌≤◌, ◌≡◌, ℤ, pos, ◌+ℤ◌, ◌-ℤ◌, ◌*ℤ◌, List, [], ◌∷◌, ◌++◌}
use Rattle.std.proofs.Common.{sum_by, count_by, length, arith, refl, sym}
use Rattle.std.proofs.lemmas.Int.{ints}
use Rattle.std.proofs.lemmas.List.{length-append}
use Rattle.std.proofs.lemmas.List.Sums.{sum_by-cons, sum_by_push}
use Rattle.half_grid.specs.Trapezoids.{Trapezoid, trapezoid_has, count_in}
use Rattle.half_grid.specs.declared.plane.Tile.{Tile}
use Rattle.density_map.specs.Frames.{natural, row_tiles, rows_tiles, frame_tiles, count_in_frame}
use Rattle.density_map.specs.Windows.{IsWindowSize, window, window_sum}
use Rattle.density_map.specs.Rows.{RowMap, AreApart, IsApartFrom, HaveRoom}
use Rattle.density_map.proofs.Numbers.{natural_is}
use Rattle.density_map.proofs.RowLemmas.{bit}
use Rattle.density_map.proofs.WedgeLemmas.{product_small}
use Rattle.density_map.proofs.FloorLemmas.{next_side}

sum_none : {X : Type 0} (xs : List X) → sum_by (λ (x : X). 0) xs ≡ 0
sum_none [] = refl
sum_none {X} (x ∷ xs) = let one = sum_by-cons (λ (x : X). 0) x xs in let rest = sum_none xs in omega (arith, one, rest)

sum_two : {X : Type 0} (f g : X → ℕ) (xs : List X) → sum_by (λ (x : X). f x + g x) xs ≡ sum_by f xs + sum_by g xs
sum_two f g [] = omega arith
sum_two {X} f g (x ∷ xs) =
    let both = sum_by-cons (λ (x : X). f x + g x) x xs in
    let one = sum_by-cons f x xs in
    let two = sum_by-cons g x xs in
    let rest = sum_two f g xs in
    omega (arith, both, one, two, rest)

sum_same : {X : Type 0} (f g : X → ℕ) (xs : List X) → ((x : X) → f x ≡ g x) → sum_by f xs ≡ sum_by g xs
sum_same f g [] same = refl
sum_same f g (x ∷ xs) same =
    let one = sum_by-cons f x xs in
    let two = sum_by-cons g x xs in
    let rest = sum_same f g xs same in
    let here = same x in
    omega (arith, one, two, rest, here)

-- the tiles of each trapezoid in a list of tiles, together, are the trapezoids of each tile, together
pub swapped : (ts : List Tile) (zs : List Trapezoid)
    → sum_by (λ (z : Trapezoid). count_by (λ t. trapezoid_has t z) ts) zs ≡ sum_by (λ (t : Tile). count_in zs t) ts
swapped ts [] = sym (sum_none ts)
swapped ts (z ∷ zs) =
    let one = sum_by-cons (λ (z : Trapezoid). count_by (λ t. trapezoid_has t z) ts) z zs in
    let rest = swapped ts zs in
    let each = sum_same (λ (t : Tile). count_in (z ∷ zs) t) (λ (t : Tile). bit (trapezoid_has t z) + count_in zs t) ts
    (λ t. sum_by-cons (λ (y : Trapezoid). bit (trapezoid_has t y)) z zs) in
    let both = sum_two (λ (t : Tile). bit (trapezoid_has t z)) (λ (t : Tile). count_in zs t) ts in
    omega (arith, one, rest, each, both)

pub at_most_one : (zs : List Trapezoid) (ts : List Tile) → AreApart zs → sum_by (λ (t : Tile). count_in zs t) ts ≤ length ts
at_most_one zs [] apart = omega arith
at_most_one zs (t ∷ ts) apart =
    let one = sum_by-cons (λ (t : Tile). count_in zs t) t ts in
    let rest = at_most_one zs ts apart in
    let here = apart t in
    omega (arith, one, rest, here)

pub window_sum_is : (size i j : ℤ) (zs : List Trapezoid) → window_sum size i j zs ≡ sum_by (λ (t : Tile). count_in zs t) (frame_tiles (window size i j))
unfolding count_in_frame
window_sum_is size i j zs = swapped (frame_tiles (window size i j)) zs

-- ---- how many tiles a window has

row_length : (i j : ℤ) (k : ℕ) → length (row_tiles i j k) ≡ k + k
row_length i j zero = omega arith
row_length i j (suc k) = let rest = row_length (i +ℤ pos 1) j k in omega (arith, rest)

rows_length : (i j : ℤ) (k n : ℕ) → length (rows_tiles i k j n) ≡ n * (k + k)
rows_length i j k zero = omega arith
rows_length i j k (suc n) =
    let one = row_length i j k in
    let rest = rows_length i (j +ℤ pos 1) k n in
    let both = length-append (row_tiles i j k) (rows_tiles i k (j +ℤ pos 1) n) in
    let more : suc n * (k + k) ≡ (k + k) + n * (k + k) = omega arith in
    omega (arith, one, rest, both, more)

side : (k size : ℤ) → IsWindowSize size → natural (((k +ℤ pos 1) *ℤ size) -ℤ (k *ℤ size)) ≤ 2 ^ 24
side k size h =
    let e = next_side k size in
    let low = h.low in
    let high = h.high in
    let n = natural_is (((k +ℤ pos 1) *ℤ size) -ℤ (k *ℤ size)) (omega (arith, ints, e, low)) in
    omega (arith, ints, e, n, high)

pub window_small : (size i j : ℤ) → IsWindowSize size → length (frame_tiles (window size i j)) ≤ 2 ^ 49
unfolding frame_tiles
window_small size i j h =
    let k = natural (((i +ℤ pos 1) *ℤ size) -ℤ (i *ℤ size)) in
    let n = natural (((j +ℤ pos 1) *ℤ size) -ℤ (j *ℤ size)) in
    let wide = side i size h in
    let high = side j size h in
    let all = rows_length (i *ℤ size) (j *ℤ size) k n in
    let product = product_small n (k + k) (2 ^ 24) (2 ^ 25) high (omega (arith, wide)) in
    omega (arith, all, product)

-- the same by its size
pub window_few : (size i j : ℤ) → IsWindowSize size → length (frame_tiles (window size i j)) ≤ natural size * 2 ^ 25
unfolding frame_tiles
window_few size i j h =
    let k = natural (((i +ℤ pos 1) *ℤ size) -ℤ (i *ℤ size)) in
    let n = natural (((j +ℤ pos 1) *ℤ size) -ℤ (j *ℤ size)) in
    let wide = side i size h in
    let all = rows_length (i *ℤ size) (j *ℤ size) k n in
    let e = next_side j size in
    let high : n ≡ natural size = ap natural (let same : ((j +ℤ pos 1) *ℤ size) -ℤ (j *ℤ size) ≡ size = omega (arith, ints, e) in same) in
    let product = product_small n (k + k) (natural size) (2 ^ 25) (omega (arith, high)) (omega (arith, wide)) in
    omega (arith, all, product)

-- where a trapezoid shares no tile with those that are counted, there is room for it
pub room : (m : RowMap) (z : Trapezoid) → IsWindowSize m.size → IsApartFrom m z → HaveRoom m.size m.row m.counts z
room m z size a i =
    let counted = a.counted i in
    let more = sum_by_push (count_in_frame (window m.size i m.row)) a.traps z in
    let sum = window_sum_is m.size i m.row (a.traps ++ z ∷ []) in
    let few = at_most_one (a.traps ++ z ∷ []) (frame_tiles (window m.size i m.row)) a.apart in
    let small = window_small m.size i m.row size in
    omega (arith, counted, more, sum, few, small)
