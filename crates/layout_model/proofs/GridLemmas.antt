-- The list of a grid's places by their numbers.
use Rattle.std.proofs.Common.{◌≡◌, ◌<◌, ℕ, ◌*◌, Some, length, slice_get, ◌∙◌, ap, arith, pos, [], ◌∷◌, refl}
use Rattle.std.proofs.Math.IntN.{zero-*ℤ}
use Rattle.std.proofs.Math.Nat.{zero-mod, zero-div}
use Rattle.std.proofs.lemmas.Option.{slice_get-get_or}
use Rattle.std.proofs.lemmas.List.FromFn.{get_or-map-range_with_len, length-map-range_with_len}
use Rattle.half_grid.specs.declared.plane.Point.{Point}
use Rattle.layout_model.specs.Grids.{grid_places, nth_place}

pub grid_count : (nu nv : ℕ) (u v : Point) → length (grid_places nu nv u v) ≡ nu * nv
grid_count nu nv u v = length-map-range_with_len (nth_place nu u v) 0 (nu * nv)

pub grid_nth : (nu nv : ℕ) (u v : Point) (k : ℕ) → k < nu * nv → slice_get (grid_places nu nv u v) k ≡ Some (nth_place nu u v k)
grid_nth nu nv u v k h =
    let inside : k < length (grid_places nu nv u v) = rw (grid_count nu nv u v) h in
    slice_get-get_or (grid_places nu nv u v) k u inside
    ∙ ap Some (get_or-map-range_with_len (nth_place nu u v) 0 (nu * nv) k k u h (omega arith))

-- a grid of one place has the origin
pub one_place : (nu nv : ℕ) (u v : Point) → nu * nv ≡ 1 → grid_places nu nv u v ≡ record { x = pos 0; y = pos 0 } ∷ []
one_place nu nv u v e = rw (e, zero-mod nu, zero-div nu, zero-*ℤ u.x, zero-*ℤ u.y, zero-*ℤ v.x, zero-*ℤ v.y) refl
