-- The least box of a grid's places and of a list of points.
use Rattle.std.proofs.Common.{◌≡◌, ◌<◌, ◌≤◌, ◌+◌, ◌*◌, ◌/◌, ◌%◌, ℕ, ℤ, pos, negsuc, ◌+ℤ◌, ◌*ℤ◌, ◌≤ℤ◌, ◌<ℤ◌, List, []}
use Rattle.std.proofs.Common.{◌∷◌, All, Any, ◌∙◌, sym, subst, refl, ◌++◌, ◌⊎◌, inl, inr, int_lt, cond, true, false}
use Rattle.std.proofs.Common.{arith}
use Rattle.std.proofs.Math.IntN.{pos-*ℤ-pos, pos-*ℤ-negsuc}
use Rattle.std.proofs.Math.Nat.{mul-le-mul, mod-lt, div-lt_iff_lt-mul}
use Rattle.std.proofs.lemmas.Int.{ints, clamps}
use Rattle.std.proofs.lemmas.Grind.{common_steps}
use Rattle.std.specs.Int.{int_min, int_max}
use Rattle.std.proofs.lemmas.Nat.{mod-mul-add, div-mul-add}
use Rattle.std.proofs.lemmas.Option.{get_or_from_slice_get}
use Rattle.std.proofs.lemmas.List.Elements.{All-push, All-weaker}
use Rattle.std.proofs.lemmas.List.Quantifiers.{Any-push}
use Rattle.half_grid.specs.declared.extent.Frame.{Frame}
use Rattle.layout_model.specs.Hulls.{IsInBox, IsLeastBoxOf}
use Rattle.half_grid.specs.declared.plane.Point.{Point}
use Rattle.layout_model.specs.Grids.{grid_places, nth_place, grid_place}
use Rattle.layout_model.proofs.GridLemmas.{grid_count, grid_nth}

-- more steps to the right go farther, and more steps to the left go less far
pub farther : (a b : ℕ) (u : ℤ) → a ≤ b → pos 0 ≤ℤ u → (pos a *ℤ u) ≤ℤ (pos b *ℤ u)
farther a b (pos n) h p = rw (pos-*ℤ-pos a n, pos-*ℤ-pos b n) (let m : a * n ≤ b * n = mul-le-mul h (omega arith) in omega (arith, ints, m))
farther a b (negsuc n) h p = absurd (omega (arith, ints, p))

pub nearer : (a b : ℕ) (u : ℤ) → a ≤ b → u <ℤ pos 0 → (pos b *ℤ u) ≤ℤ (pos a *ℤ u)
nearer a b (pos n) h p = absurd (omega (arith, ints, p))
nearer a b (negsuc n) h p = rw (pos-*ℤ-negsuc a n, pos-*ℤ-negsuc b n) (let m : a * (n + 1) ≤ b * (n + 1) = mul-le-mul h (omega arith) in omega (arith, ints, m))

-- what holds of each place by number holds of each place of the list
pub grid_all : (P : Point → Type 0) (nu nv : ℕ) (u v : Point) → ((k : ℕ) → k < nu * nv → P (nth_place nu u v k)) → All P (grid_places nu nv u v)
grid_all P nu nv u v h = λ k d inside.
    let few : k < nu * nv = subst (λ n. k < n) (grid_count nu nv u v) inside in
    subst P (sym (get_or_from_slice_get (grid_places nu nv u v) k (nth_place nu u v k) d (grid_nth nu nv u v k few))) (h k few)

-- the place with two numbers is one of the list
pub grid_any : (P : Point → Type 0) (nu nv : ℕ) (u v : Point) (a b : ℕ) → a < nu → b < nv → P (grid_place u v a b) → Any P (grid_places nu nv u v)
grid_any P nu nv u v a b ha hb p =
    let k : ℕ = b * nu + a in
    let few : k < nu * nv = let m : (b + 1) * nu ≤ nv * nu = mul-le-mul (omega arith) (omega arith) in omega (arith, m) in
    let is : nth_place nu u v k ≡ grid_place u v a b = rw (mod-mul-add b nu a ha, div-mul-add b nu a ha) refl in (
      k,
      nth_place nu u v k,
      subst (λ n. k < n) (sym (grid_count nu nv u v)) few,
      get_or_from_slice_get (grid_places nu nv u v) k (nth_place nu u v k) (nth_place nu u v k) (grid_nth nu nv u v k few),
      subst P (sym is) p,
    )

-- both numbers of a place are within their counts
pub column_inside : (nu k : ℕ) → 1 ≤ nu → k % nu < nu
column_inside nu k some = mod-lt k (omega arith)

pub row_inside : (nu nv k : ℕ) → 1 ≤ nu → k < nu * nv → k / nu < nv
row_inside nu nv k some h = (div-lt_iff_lt-mul (omega arith)).1 (omega (arith, h))

-- sums of two steps keep the order of the steps
pub sums_ordered : (p q r s : ℤ) → p ≤ℤ r → q ≤ℤ s → (p +ℤ q) ≤ℤ (r +ℤ s)
sums_ordered p q r s h k = omega (arith, ints)

-- the lesser and the greater of two numbers
pub at_least_min : (a b : ℤ) → (int_min a b ≤ℤ a) × (int_min a b ≤ℤ b)
at_least_min a b = (omega (arith, ints, clamps), omega (arith, ints, clamps))

pub at_most_max : (a b : ℤ) → (a ≤ℤ int_max a b) × (b ≤ℤ int_max a b)
at_most_max a b = (omega (arith, ints, clamps), omega (arith, ints, clamps))

pub min_is_one : (a b : ℤ) → (int_min a b ≡ a) ⊎ (int_min a b ≡ b)
min_is_one a b = elim (int_lt b a) as (λ t. (cond t b a ≡ a) ⊎ (cond t b a ≡ b)) [ true ↦ inr refl | false ↦ inl refl ]

pub max_is_one : (a b : ℤ) → (int_max a b ≡ a) ⊎ (int_max a b ≡ b)
max_is_one a b = grind (arith, ints)

-- what some item of a list meets, some item of a longer one meets
pub any_before : {X : Type 0} (P : X → Type 0) (xs : List X) (y : X) → Any P xs → Any P (xs ++ y ∷ [])
any_before P xs y (k, x, inside, at, p) = (k, x, grind (arith, common_steps), grind (arith, common_steps), p)

-- a side on which some point lies, or the new one
side_kept : (along : Point → ℤ) (xs : List Point) (p : Point) (old new : ℤ) → Any (λ q. along q ≡ old) xs → (new ≡ old)
    ⊎ (new ≡ along p) → Any (λ q. along q ≡ new) (xs ++ p ∷ [])
side_kept along xs p old new some (inl e) = any_before (λ q. along q ≡ new) xs p (rw e some)
side_kept along xs p old new some (inr e) = Any-push (λ q. along q ≡ new) xs p (sym e)

either : {a b c m : ℤ} → m ≡ c → (c ≡ a) ⊎ (c ≡ b) → (m ≡ a) ⊎ (m ≡ b)
either e (inl h) = inl (e ∙ h)
either e (inr h) = inr (e ∙ h)

-- the least box of a list and that of one more point
pub box_grows : (xs : List Point) (p : Point) (old new : Frame) → IsLeastBoxOf xs old
    → new.x0 ≡ int_min old.x0 p.x → new.y0 ≡ int_min old.y0 p.y → new.x1 ≡ int_max old.x1 p.x → new.y1 ≡ int_max old.y1 p.y
    → IsLeastBoxOf (xs ++ p ∷ []) new
box_grows xs p old new least x0 y0 x1 y1 =
    let (x0_old, x0_p) = at_least_min old.x0 p.x in
    let (y0_old, y0_p) = at_least_min old.y0 p.y in
    let (x1_old, x1_p) = at_most_max old.x1 p.x in
    let (y1_old, y1_p) = at_most_max old.y1 p.y in
    let wider : (q : Point) → IsInBox old q → IsInBox new q = λ q h. record {
      left = omega (arith, ints, h.left, x0, x0_old);
      bottom = omega (arith, ints, h.bottom, y0, y0_old);
      right = omega (arith, ints, h.right, x1, x1_old);
      top = omega (arith, ints, h.top, y1, y1_old);
    } in
    let here : IsInBox new p = record {
      left = omega (arith, ints, x0, x0_p);
      bottom = omega (arith, ints, y0, y0_p);
      right = omega (arith, ints, x1, x1_p);
      top = omega (arith, ints, y1, y1_p);
    } in
    record {
      around = All-push (IsInBox new) xs p (All-weaker (IsInBox old) (IsInBox new) wider xs least.around) here;
      left = side_kept (λ q. q.x) xs p old.x0 new.x0 least.left (either x0 (min_is_one old.x0 p.x));
      bottom = side_kept (λ q. q.y) xs p old.y0 new.y0 least.bottom (either y0 (min_is_one old.y0 p.y));
      right = side_kept (λ q. q.x) xs p old.x1 new.x1 least.right (either x1 (max_is_one old.x1 p.x));
      top = side_kept (λ q. q.y) xs p old.y1 new.y1 least.top (either y1 (max_is_one old.y1 p.y));
    }
