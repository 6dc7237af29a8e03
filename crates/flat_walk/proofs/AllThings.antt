-- What holds of each thing that a reachable cell shows.
use Rattle.std.proofs.Common.{◌≡◌, ℕ, zero, suc, List, [], ◌∷◌, ◌++◌, Option, Some, None, map, slice_get, refl}
use Rattle.std.specs.List.{AllByRecursion, flat_map}
use Rattle.std.specs.Option.{option_map_or}
use Rattle.half_grid.specs.declared.plane.Point.{Point}
use Rattle.layout_model.specs.Images.{moved}
use Rattle.layout_model.specs.declared.orient.Orient.{Orient}
use Rattle.layout_model.specs.declared.cells.Placement.{Placement}
use Rattle.layout_model.specs.declared.cells.Cell.{Cell}
use Rattle.cell_tree.specs.Cells.{placements_at, cell_number}
use Rattle.cell_tree.specs.Chains.{IsReachable}
use Rattle.cell_tree.specs.Flattening.{placed_things, things_within}
use Rattle.cell_tree.proofs.ForCallers.{reach_more}

pub each_both : {X : Type 0} (P : X → Type 0) (xs ys : List X) → AllByRecursion P xs → AllByRecursion P ys → AllByRecursion P (xs ++ ys)
each_both P [] ys p q = q
each_both P (x ∷ xs) ys p q = (p.0, each_both P xs ys p.1 q)

pub each_map : {X Y : Type 0} (P : X → Type 0) (Q : Y → Type 0) (f : X → Y) (xs : List X) → ((x : X) → P x → Q (f x))
    → AllByRecursion P xs → AllByRecursion Q (map f xs)
each_map P Q f [] step all = tt
each_map P Q f (x ∷ xs) step all = (step x all.0, each_map P Q f xs step all.1)

pub each_flat : {X Y : Type 0} (Q : Y → Type 0) (f : X → List Y) (xs : List X)
    → ((k : ℕ) (x : X) → slice_get xs k ≡ Some x → AllByRecursion Q (f x)) → AllByRecursion Q (flat_map f xs)
each_flat Q f [] each = tt
each_flat Q f (x ∷ xs) each = each_both Q (f x) (flat_map f xs) (each 0 x refl) (each_flat Q f xs (λ k y at. each (suc k) y at))

module _ {X : Type 0} (own : ℕ → List X) (carry : Orient → Point → X → X) (cells : List Cell) (top : ℕ) (P : ℕ → X → Type 0)
    (here : (n : ℕ) → IsReachable cells top n → AllByRecursion (P n) (own n))
    (step : (n k m j : ℕ) (placement : Placement) (by : Point) (x : X) → IsReachable cells top n
    → slice_get (placements_at cells n) k ≡ Some placement → cell_number cells placement.target ≡ Some m
    → slice_get placement.offsets j ≡ Some by → P m x → P n (carry placement.orient (moved by placement.at) x)) where
  placed_each : (n k : ℕ) (placement : Placement) (things : ℕ → List X) (o : Option ℕ)
      → cell_number cells placement.target ≡ o → ((m : ℕ) → IsReachable cells top m → AllByRecursion (P m) (things m))
      → IsReachable cells top n
      → slice_get (placements_at cells n) k ≡ Some placement → AllByRecursion (P n) (placed_things carry placement (option_map_or things o []))
  placed_each n k placement things None e each reach placed = each_flat (P n)
      (λ by. map (carry placement.orient (moved by placement.at)) []) placement.offsets (λ j by at. tt)
  placed_each n k placement things (Some m) e each reach placed =
      each_flat (P n) (λ by. map (carry placement.orient (moved by placement.at)) (things m)) placement.offsets
      (λ j by at. each_map (P m) (P n) (carry placement.orient (moved by placement.at)) (things m) (λ x p. step n k m j placement by x reach placed e at p)
      (each m (reach_more cells top n m reach (placement, record { number = k; placed = placed; target = e }))))

  pub all_things : (depth n : ℕ) → IsReachable cells top n → AllByRecursion (P n) (things_within own carry cells depth n)
  all_things zero n reach = tt
  all_things (suc depth) n reach = each_both (P n) (own n) _ (here n reach)
      (each_flat (P n) (λ placement. placed_things carry placement
      (option_map_or (things_within own carry cells depth) (cell_number cells placement.target) []))
      (placements_at cells n)
      (λ k placement placed. placed_each n k placement (things_within own carry cells depth)
      (cell_number cells placement.target) refl (λ m r. all_things depth m r) reach placed))
