-- The places of a lattice: near 0 where its corners are.
use Rattle.std.proofs.Common.{◌≡◌, ◌<◌, ◌≤◌, ◌+◌, ◌-◌, ◌*◌, ◌/◌, ◌%◌, ℕ, zero, suc, ℤ, pos, negsuc, List, [], ◌∷◌}
use Rattle.std.proofs.Common.{length, map, get_or, ◌⊎◌, inl, inr, refl, sym, ap, subst, ◌∙◌, arith}
use Rattle.std.specs.Prelude.{All, ◌≢◌, ◌+ℤ◌, ◌*ℤ◌}
use Rattle.std.specs.List.{range_with_len}
use Rattle.std.proofs.Math.IntN.{zero-*ℤ}
use Rattle.std.proofs.Math.Nat.{mul-le-mul, mul-le-mul_right, mod-lt, div-lt_iff_lt-mul}
use Rattle.std.proofs.lemmas.Int.{ints}
use Rattle.std.proofs.lemmas.Nat.{mod-mul-add, div-mul-add}
use Rattle.std.proofs.lemmas.List.Elements.{All-map}
use Rattle.std.proofs.lemmas.List.FromFn.{get_or-map-range_with_len, length-map-range_with_len, length-range_with_len, get_or-range_with_len}
use Rattle.std.proofs.lemmas.Simd.{map-map}
use Rattle.half_grid.specs.Halves.{twice}
use Rattle.half_grid.specs.Reach.{IsPointWithinReach}
use Rattle.half_grid.specs.declared.plane.Point.{Point}
use Rattle.layout_model.specs.Grids.{IsGrid, grid_place, grid_places, nth_place}
use Rattle.layout_model.specs.Images.{moved, enlarged}
use Rattle.oas_shapes.specs.Plane.{origin, doubled, IsLength, IsNearInSteps}
use Rattle.oas_shapes.proofs.NearLemmas.{map_same, same_point}
use Rattle.oas_shapes.proofs.TrailLemmas.{origin_near}

-- ---- places by their numbers

pub grid_all : (P : Point → Type 0) (nu nv : ℕ) (u v : Point) → 1 ≤ nu
    → ((a b : ℕ) → a < nu → b < nv → P (grid_place u v a b)) → All P (grid_places nu nv u v)
grid_all P nu nv u v some h =
    let numbers = range_with_len 0 (nu * nv) in
    All-map P (nth_place nu u v) numbers (λ k d lt.
    let below : k < nu * nv = subst (λ n. k < n) (length-range_with_len 0 (nu * nv)) lt in
    let number : get_or numbers k d ≡ k = get_or-range_with_len 0 (nu * nv) k d below ∙ omega arith in
    let row : k / nu < nv = (div-lt_iff_lt-mul {k = nu} {x = k} {y = nv} some).1 (omega arith) in
    subst (λ n. P (nth_place nu u v n)) (sym number) (h (k % nu) (k / nu) (mod-lt k {m = nu} some) row))

pub grid_at : (P : Point → Type 0) (nu nv : ℕ) (u v : Point) → All P (grid_places nu nv u v) → (a b : ℕ) → a < nu → b < nv
    → P (grid_place u v a b)
grid_at P nu nv u v all a b ha hb =
    let k : ℕ = b * nu + a in
    let few : k < nu * nv = let m : (b + 1) * nu ≤ nv * nu = mul-le-mul (omega arith) (omega arith) in omega (arith, m) in
    let is : nth_place nu u v k ≡ grid_place u v a b = rw (mod-mul-add b nu a ha, div-mul-add b nu a ha) refl in
    let within : k < length (grid_places nu nv u v) = subst (λ n. k < n) (sym (length-map-range_with_len (nth_place nu u v) 0 (nu * nv))) few in
    subst P (get_or-map-range_with_len (nth_place nu u v) 0 (nu * nv) k k u few (omega arith) ∙ is) (all k u within)

-- ---- corners

-- the sum of two products lies between those of the corners
sum_near : (a n b m : ℕ) (u v : ℤ) → a ≤ n → b ≤ m → IsLength (pos n *ℤ u) → IsLength (pos m *ℤ v)
    → IsLength ((pos m *ℤ v) +ℤ (pos n *ℤ u)) → IsLength ((pos a *ℤ u) +ℤ (pos b *ℤ v))
sum_near a n b m (pos x) (pos y) h k p q r =
    let f : a * x ≤ n * x = mul-le-mul_right x h in
    let g : b * y ≤ m * y = mul-le-mul_right y k in
    record { low = omega (arith, ints); high = omega (arith, ints, f, g, r.high) }
sum_near a n b m (pos x) (negsuc y) h k p q r =
    let f : a * x ≤ n * x = mul-le-mul_right x h in
    let g : b * (y + 1) ≤ m * (y + 1) = mul-le-mul_right (y + 1) k in
    record { low = omega (arith, ints, g, q.low); high = omega (arith, ints, f, p.high) }
sum_near a n b m (negsuc x) (pos y) h k p q r =
    let f : a * (x + 1) ≤ n * (x + 1) = mul-le-mul_right (x + 1) h in
    let g : b * y ≤ m * y = mul-le-mul_right y k in
    record { low = omega (arith, ints, f, p.low); high = omega (arith, ints, g, q.high) }
sum_near a n b m (negsuc x) (negsuc y) h k p q r =
    let f : a * (x + 1) ≤ n * (x + 1) = mul-le-mul_right (x + 1) h in
    let g : b * (y + 1) ≤ m * (y + 1) = mul-le-mul_right (y + 1) k in
    record { low = omega (arith, ints, f, g, r.low); high = omega (arith, ints) }

of_near : (p : Point) → IsNearInSteps p → IsLength p.x × IsLength p.y
of_near p n = (record { low = n.x_low; high = n.x_high }, record { low = n.y_low; high = n.y_high })

pub near_of : (p : Point) → IsLength p.x → IsLength p.y → IsNearInSteps p
near_of p x y = record { x_low = x.low; x_high = x.high; y_low = y.low; y_high = y.high }

pub all_near : (nu nv : ℕ) (u v : Point) → 1 ≤ nu → IsNearInSteps (enlarged (nu - 1) u) → IsNearInSteps (enlarged (nv - 1) v)
    → IsNearInSteps (moved (enlarged (nu - 1) u) (enlarged (nv - 1) v)) → All IsNearInSteps (grid_places nu nv u v)
all_near nu nv u v some across upward both = grid_all IsNearInSteps nu nv u v some (λ a b ha hb.
    let p = of_near (enlarged (nu - 1) u) across in
    let q = of_near (enlarged (nv - 1) v) upward in
    let r = of_near (moved (enlarged (nu - 1) u) (enlarged (nv - 1) v)) both in
    near_of (grid_place u v a b)
    (sum_near a (nu - 1) b (nv - 1) u.x v.x (omega arith) (omega arith) p.0 q.0 r.0)
    (sum_near a (nu - 1) b (nv - 1) u.y v.y (omega arith) (omega arith) p.1 q.1 r.1))

along_first : (u v : Point) (a : ℕ) → grid_place u v a 0 ≡ enlarged a u
along_first u v a =
    same_point ((pos a *ℤ u.x) +ℤ (pos 0 *ℤ v.x)) (pos a *ℤ u.x) ((pos a *ℤ u.y) +ℤ (pos 0 *ℤ v.y)) (pos a *ℤ u.y)
    (let z = zero-*ℤ v.x in omega (arith, ints, z)) (let z = zero-*ℤ v.y in omega (arith, ints, z))

along_second : (u v : Point) (b : ℕ) → grid_place u v 0 b ≡ enlarged b v
along_second u v b =
    same_point ((pos 0 *ℤ u.x) +ℤ (pos b *ℤ v.x)) (pos b *ℤ v.x) ((pos 0 *ℤ u.y) +ℤ (pos b *ℤ v.y)) (pos b *ℤ v.y)
    (let z = zero-*ℤ u.x in omega (arith, ints, z)) (let z = zero-*ℤ u.y in omega (arith, ints, z))

along_both : (u v : Point) (a b : ℕ) → grid_place u v a b ≡ moved (enlarged a u) (enlarged b v)
along_both u v a b =
    same_point ((pos a *ℤ u.x) +ℤ (pos b *ℤ v.x)) ((pos b *ℤ v.x) +ℤ (pos a *ℤ u.x)) ((pos a *ℤ u.y) +ℤ (pos b *ℤ v.y))
    ((pos b *ℤ v.y) +ℤ (pos a *ℤ u.y)) (omega (arith, ints)) (omega (arith, ints))

pub across_near : (nu nv : ℕ) (u v : Point) → 1 ≤ nu → 1 ≤ nv → All IsNearInSteps (grid_places nu nv u v) → IsNearInSteps (enlarged (nu - 1) u)
across_near nu nv u v h k all = subst IsNearInSteps (along_first u v (nu - 1)) (grid_at IsNearInSteps nu nv u v all (nu - 1) 0 (omega arith) (omega arith))

pub upward_near : (nu nv : ℕ) (u v : Point) → 1 ≤ nu → 1 ≤ nv → All IsNearInSteps (grid_places nu nv u v) → IsNearInSteps (enlarged (nv - 1) v)
upward_near nu nv u v h k all = subst IsNearInSteps (along_second u v (nv - 1)) (grid_at IsNearInSteps nu nv u v all 0 (nv - 1) (omega arith) (omega arith))

pub both_near : (nu nv : ℕ) (u v : Point) → 1 ≤ nu → 1 ≤ nv → All IsNearInSteps (grid_places nu nv u v)
    → IsNearInSteps (moved (enlarged (nu - 1) u) (enlarged (nv - 1) v))
both_near nu nv u v h k all =
    subst IsNearInSteps (along_both u v (nu - 1) (nv - 1)) (grid_at IsNearInSteps nu nv u v all (nu - 1) (nv - 1) (omega arith) (omega arith))

-- ---- in half units

times_twice : (a : ℕ) (h : ℤ) → pos a *ℤ twice h ≡ twice (pos a *ℤ h)
times_twice a (pos n) = omega (arith, ints)
times_twice a (negsuc n) = omega (arith, ints)

twice_place : (a b : ℕ) (s t : ℤ) → twice ((pos a *ℤ s) +ℤ (pos b *ℤ t)) ≡ (pos a *ℤ twice s) +ℤ (pos b *ℤ twice t)
twice_place a b s t =
    let f = times_twice a s in
    let g = times_twice b t in
    omega (arith, ints, f, g)

doubled_place : (u v : Point) (a b : ℕ) → doubled (grid_place u v a b) ≡ grid_place (doubled u) (doubled v) a b
doubled_place u v a b =
    same_point (twice ((pos a *ℤ u.x) +ℤ (pos b *ℤ v.x))) ((pos a *ℤ twice u.x) +ℤ (pos b *ℤ twice v.x))
    (twice ((pos a *ℤ u.y) +ℤ (pos b *ℤ v.y))) ((pos a *ℤ twice u.y) +ℤ (pos b *ℤ twice v.y))
    (twice_place a b u.x v.x) (twice_place a b u.y v.y)

pub doubled_grid : (nu nv : ℕ) (u v : Point) → map doubled (grid_places nu nv u v) ≡ grid_places nu nv (doubled u) (doubled v)
doubled_grid nu nv u v =
    map-map doubled (nth_place nu u v) (range_with_len 0 (nu * nv))
    ∙ map_same (λ k. doubled (nth_place nu u v k)) (nth_place nu (doubled u) (doubled v)) (λ k. doubled_place u v (k % nu) (k / nu))
    (range_with_len 0 (nu * nv))

reach_of : (p : Point) → IsNearInSteps p → IsPointWithinReach (doubled p)
reach_of p n = record {
  x = record { low = omega (arith, ints, n.x_low); high = omega (arith, ints, n.x_high) };
  y = record { low = omega (arith, ints, n.y_low); high = omega (arith, ints, n.y_high) };
}

pub is_grid : (nu nv : ℕ) (u v : Point) → 1 ≤ nu → nu ≤ 16777216 → 1 ≤ nv → nv ≤ 16777216 → All IsNearInSteps (grid_places nu nv u v)
    → IsGrid nu nv (doubled u) (doubled v)
is_grid nu nv u v h few k less all = record {
  some_columns = h;
  few_columns = few;
  some_rows = k;
  few_rows = less;
  reach = λ a b ha hb.
      subst IsPointWithinReach (doubled_place u v a b) (reach_of (grid_place u v a b) (grid_at IsNearInSteps nu nv u v all a b ha hb));
}

some_cells : (m n : ℕ) → 1 ≤ m → 1 ≤ n → 1 ≤ m * n
some_cells zero n p q = absurd (omega arith)
some_cells (suc m) zero p q = absurd (omega arith)
some_cells (suc m) (suc n) p q = omega arith

length_map : {X Y : Type 0} (f : X → Y) (xs : List X) → length (map f xs) ≡ length xs
length_map f [] = refl
length_map f (x ∷ xs) = ap suc (length_map f xs)

pub some_in_grid : (nu nv : ℕ) (u v : Point) → 1 ≤ nu → 1 ≤ nv → map doubled (grid_places nu nv u v) ≢ []
some_in_grid nu nv u v h k e =
    let some = some_cells nu nv h k in
    let count : length (map doubled (grid_places nu nv u v)) ≡ nu * nv =
    length_map doubled (grid_places nu nv u v) ∙ length-map-range_with_len (nth_place nu u v) 0 (nu * nv) in
    absurd (let none : length (map doubled (grid_places nu nv u v)) ≡ 0 = ap length e in omega (arith, none, count, some))

-- the steps of a lattice that is near are near
step_near : (n : ℕ) (u : Point) → IsNearInSteps (enlarged (n - 1) u) → 2 ≤ n → IsNearInSteps u
step_near n u near many =
    near_of u (part (n - 1) u.x (omega arith) (of_near (enlarged (n - 1) u) near).0) (part (n - 1) u.y (omega arith) (of_near (enlarged (n - 1) u) near).1)
  where
    part : (n : ℕ) (z : ℤ) → 1 ≤ n → IsLength (pos n *ℤ z) → IsLength z
    part n (pos x) h p = let f : 1 * x ≤ n * x = mul-le-mul_right x h in record { low = omega (arith, ints); high = omega (arith, ints, f, p.high) }
    part n (negsuc x) h p =
        let f : 1 * (x + 1) ≤ n * (x + 1) = mul-le-mul_right (x + 1) h in
        record { low = omega (arith, ints, f, p.low); high = omega (arith, ints) }

pub step_or_none : (n : ℕ) (u : Point) → IsNearInSteps (enlarged (n - 1) u) → (2 ≤ n) ⊎ (u ≡ origin) → IsNearInSteps u
step_or_none n u near (inl many) = step_near n u near many
step_or_none n u near (inr none) = subst IsNearInSteps (sym none) origin_near
