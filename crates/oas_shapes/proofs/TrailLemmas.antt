-- Places that are listed one by one.
use Rattle.std.proofs.Common.{◌≡◌, ◌↔◌, ◌+◌, ◌<◌, ◌≤◌, length, ℤ, pos, List, [], ◌∷◌, ◌++◌, map, refl, sym, ap, subst, ◌∙◌, arith, Result, Ok, Err}
use Rattle.std.specs.Prelude.{IsOk, IfOk, IfErr, ◌≢◌, ◌*ℤ◌, ◌+ℤ◌, ◌-ℤ◌}
use Rattle.std.proofs.lemmas.List.{length-map}
use Rattle.std.proofs.lemmas.List.Elements.{All-nil, All-cons, All-head, All-tail}
use Rattle.std.proofs.lemmas.Int.{ints}
use Rattle.half_grid.specs.declared.plane.Point.{Point}
use Rattle.layout_model.specs.Images.{moved, enlarged}
use Rattle.oas_shapes.specs.Plane.{point, origin, doubled, places_along, IsNearInSteps, IsNearInHalves}
use Rattle.oas_shapes.specs.PointLists.{added_up}
use Rattle.oas_shapes.specs.Rules.{AreNear}
use Rattle.oas_shapes.specs.Trails.{IsTrail}
use Rattle.oas_shapes.specs.declared.trails.Trail.{Trail}
use Rattle.smallvec.specs.SmallVec.{SmallVec}
use Rattle.oas_shapes.proofs.NearLemmas.{near_halves, halves_near, all_after, same_point}

pub first_place : (p : Point) (moves : List Point) → AreNear (map doubled (places_along p moves)) → IsNearInSteps p
first_place p [] h = near_halves p (All-head IsNearInHalves (doubled p) [] h)
first_place p (m ∷ moves) h = near_halves p (All-head IsNearInHalves (doubled p) (map doubled (places_along (moved p m) moves)) h)

pub trail_far : (whole : List Point) (trail : Trail) (move : Point) (moves : List Point) → IsTrail whole trail (move ∷ moves)
    → ¬ IsNearInSteps (moved trail.at move) → ¬ AreNear (map doubled whole)
trail_far whole trail move moves t far near =
    let rest = map doubled (places_along (moved trail.at move) moves) in
    let all : AreNear (trail.listed.items ++ doubled trail.at ∷ rest) = subst AreNear (sym t.joined) near in
    let after = all_after IsNearInHalves trail.listed.items (doubled trail.at ∷ rest) all in
    far (first_place (moved trail.at move) moves (All-tail IsNearInHalves (doubled trail.at) rest after))

pub some_places : (p : Point) (moves : List Point) → map doubled (places_along p moves) ≢ []
some_places p [] e = absurd (cc)
some_places p (m ∷ moves) e = absurd (cc)

pub origin_near : IsNearInSteps origin
origin_near = record { x_low = omega (arith, ints); x_high = omega (arith, ints); y_low = omega (arith, ints); y_high = omega (arith, ints) }

one_time : (z : ℤ) → pos 1 *ℤ z ≡ z
one_time z = omega (arith, ints)

pub once : (p : Point) → enlarged 1 p ≡ p
once p = same_point (pos 1 *ℤ p.x) p.x (pos 1 *ℤ p.y) p.y (one_time p.x) (one_time p.y)

pub all_once : (ps : List Point) → map (enlarged 1) ps ≡ ps
all_once [] = refl
all_once (p ∷ ps) = ap (λ q. q ∷ map (enlarged 1) ps) (once p) ∙ ap (λ qs. p ∷ qs) (all_once ps)

-- the move from one place to another
pub way_is : (from to way : Point) → to ≡ moved from way → point (to.x -ℤ from.x) (to.y -ℤ from.y) ≡ way
way_is from to way e =
    let across : to.x ≡ way.x +ℤ from.x = ap (λ p. p.x) e in
    let upward : to.y ≡ way.y +ℤ from.y = ap (λ p. p.y) e in
    same_point (to.x -ℤ from.x) way.x (to.y -ℤ from.y) way.y (omega (arith, ints, across)) (omega (arith, ints, upward))

pub from_origin : (p : Point) → moved origin p ≡ p
from_origin p = same_point (p.x +ℤ pos 0) p.x (p.y +ℤ pos 0) p.y (omega (arith, ints)) (omega (arith, ints))

pub way_by : (way from to move : Point) → way.x ≡ to.x -ℤ from.x → way.y ≡ to.y -ℤ from.y → to ≡ moved from move → way ≡ move
way_by way from to move x y e = same_point way.x (to.x -ℤ from.x) way.y (to.y -ℤ from.y) x y ∙ way_is from to move e

pub changes_on : (whole : List Point) (old new : Trail) (next move : Point) (rest : List Point) → next.x ≡ new.at.x -ℤ old.at.x
    → next.y ≡ new.at.y -ℤ old.at.y → new.at ≡ moved old.at move → IsTrail whole new (added_up move rest) → IsTrail whole new (added_up next rest)
changes_on whole old new next move rest x y e t =
    subst (λ w. IsTrail whole new (added_up w rest)) (sym (way_by next old.at new.at move x y e)) t

-- ---- places that are gone over without a list

pub stays_on : (at move : Point) (moves : List Point) → IsNearInSteps at
    → AreNear (map doubled (places_along (moved at move) moves)) ↔ AreNear (map doubled (places_along at (move ∷ moves)))
stays_on at move moves near =
    let rest = map doubled (places_along (moved at move) moves) in
    (λ after. All-cons IsNearInHalves (doubled at) rest (halves_near at near) after, λ all. All-tail IsNearInHalves (doubled at) rest all)

pub strays : (whole : List Point) (at move : Point) (moves : List Point) → IsNearInSteps at
    → (AreNear (map doubled (places_along at (move ∷ moves))) ↔ AreNear whole) → ¬ IsNearInSteps (moved at move) → ¬ AreNear whole
strays whole at move moves near same far all = far (first_place (moved at move) moves ((stays_on at move moves near).1 (same.1 all)))

pub stayed : (whole : List Point) (at : Point) → IsNearInSteps at → (AreNear (map doubled (places_along at [])) ↔ AreNear whole) → AreNear whole
stayed whole at near same = same.0 (All-cons IsNearInHalves (doubled at) [] (halves_near at near) (All-nil IsNearInHalves))

-- ---- how many places there are

pub places_count : (start : Point) (moves : List Point) → length (places_along start moves) ≡ length moves + 1
places_count start [] = omega arith
places_count start (m ∷ moves) = let more = places_count (moved start m) moves in omega (arith, more)

pub few_places : (start : Point) (moves : List Point) → length moves < 12 → length (places_along start moves) ≤ 12
few_places start moves few = omega (arith, places_count start moves, few)

pub few_mapped : {A : Type 0} (start : Point) (way : A → Point) (items : List A) → length items < 12
    → length (places_along start (map way items)) ≤ 12
few_mapped start way items few = let same = length-map items way in omega (arith, places_count start (map way items), same, few)

pub added_count : (move : Point) (deltas : List Point) → length (added_up move deltas) ≡ length deltas
added_count move [] = omega arith
added_count move (d ∷ deltas) = let more = added_count (moved move d) deltas in omega (arith, more)

pub few_changes : (start move : Point) (deltas : List Point) → length deltas < 12 → length (places_along start (added_up move deltas)) ≤ 12
few_changes start move deltas few = few_places start (added_up move deltas) (let same = added_count move deltas in omega (arith, same, few))

-- ---- what a finished list says

pub finished_near : {E : Type 0} (whole : List Point) (r : Result (SmallVec Point) E) → AreNear (map doubled whole)
    → IfOk r (λ places. places.items ≡ map doubled whole) → IfOk r (λ places. AreNear places.items)
finished_near whole (Ok places) near is = subst AreNear (sym is) near
finished_near whole (Err e) near is = tt

pub no_refusal : {V E : Type 0} (P : E → Type 0) (r : Result V E) → IsOk r → IfErr r P
no_refusal P (Ok v) ok = tt
no_refusal P (Err e) ok = absurd (cc)
