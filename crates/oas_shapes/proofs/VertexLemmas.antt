-- The outline of a polygon by its vertices in half units.
use Rattle.std.proofs.Common.{◌≡◌, ℕ, ◌+◌, ◌-◌, ◌<◌, ◌≤◌, ◌==◌, Bool, true, false, cond, List, [], ◌∷◌, ◌++◌, map}
use Rattle.std.proofs.Common.{length, get_or, refl, sym, ap, subst, ◌∙◌, arith}
use Rattle.std.specs.Prelude.{All, ◌≢◌}
use Rattle.std.proofs.lemmas.List.{map-append, length-map}
use Rattle.std.proofs.lemmas.List.Elements.{All-nil, All-cons, All-head, All-tail, All-append, All-push}
use Rattle.half_grid.specs.Outlines.{last_of, IsClosed}
use Rattle.half_grid.specs.declared.plane.Point.{Point}
use Rattle.layout_model.specs.Images.{moved}
use Rattle.oas_record.specs.declared.fields.Deltas.{Deltas}
use Rattle.oas_shapes.specs.Plane.{point, origin, doubled, places_along, IsNearInSteps, IsNearInHalves}
use Rattle.oas_shapes.specs.PointLists.{implied, added_up, moves_by}
use Rattle.oas_shapes.specs.Outlines.{closed, outline_of, path_points, polygon_outline}
use Rattle.oas_shapes.specs.Rules.{AreNear}
use Rattle.oas_shapes.specs.Vertices.{ring_by}
use Rattle.oas_shapes.proofs.NearLemmas.{all_halves, halves_all}
use Rattle.oas_shapes.proofs.TrailLemmas.{places_count, added_count}

-- ---- the outline by the first and the last vertex

last_at : (a : Point) (points : List Point) (d : Point) → get_or (a ∷ points) (length points) d ≡ last_of a points
last_at a [] d = refl
last_at a (b ∷ points) d = last_at b points d

pub ring_is : (kind : ℕ) (vs : List Point) → vs ≢ []
    → (vs ++ implied kind (get_or vs 0 origin) (get_or vs (length vs - 1) origin)) ++ get_or vs 0 origin ∷ [] ≡ ring_by kind vs
ring_is kind [] some = absurd (some refl)
ring_is kind (p ∷ ps) some =
    let e : length (p ∷ ps) - 1 ≡ length ps = omega arith in
    let end : get_or (p ∷ ps) (length (p ∷ ps) - 1) origin ≡ last_of p ps = ap (λ k. get_or (p ∷ ps) k origin) e ∙ last_at p ps origin in
    ap (λ q. ((p ∷ ps) ++ implied kind p q) ++ p ∷ []) end

pub ring_put : (kind : ℕ) (vs ys all out : List Point) → vs ≢ [] → ys ≡ vs
    → all ≡ vs ++ implied kind (get_or ys 0 origin) (get_or ys (length ys - 1) origin) → out ≡ all ++ get_or ys 0 origin ∷ [] → out ≡ ring_by kind vs
ring_put kind vs ys all out some same e f =
    f ∙ ap (λ xs. xs ++ get_or ys 0 origin ∷ []) e
    ∙ ap (λ zs. (vs ++ implied kind (get_or zs 0 origin) (get_or zs (length zs - 1) origin)) ++ get_or zs 0 origin ∷ []) same ∙ ring_is kind vs some

-- ---- in half units

last_doubled : (p : Point) (ps : List Point) → last_of (doubled p) (map doubled ps) ≡ doubled (last_of p ps)
last_doubled p [] = refl
last_doubled p (q ∷ ps) = last_doubled q ps

implied_cases : (s t : Bool) (a b : Point) → cond s (doubled a ∷ []) (cond t (doubled b ∷ []) []) ≡ map doubled (cond s (a ∷ []) (cond t (b ∷ []) []))
implied_cases true t a b = refl
implied_cases false true a b = refl
implied_cases false false a b = refl

implied_doubled : (kind : ℕ) (f l : Point) → implied kind (doubled f) (doubled l) ≡ map doubled (implied kind f l)
implied_doubled kind f l = implied_cases (kind == 0) (kind == 1) (point f.x l.y) (point l.x f.y)

ring_doubled : (kind : ℕ) (p : Point) (ps : List Point) → ring_by kind (map doubled (p ∷ ps)) ≡ outline_of ((p ∷ ps) ++ implied kind p (last_of p ps))
ring_doubled kind p ps =
    ap closed (
    ap (λ q. map doubled (p ∷ ps) ++ implied kind (doubled p) q) (last_doubled p ps)
    ∙ ap (λ xs. map doubled (p ∷ ps) ++ xs) (implied_doubled kind p (last_of p ps))
    ∙ sym (map-append doubled (p ∷ ps) (implied kind p (last_of p ps))))

ring_along : (kind : ℕ) (p : Point) (moves : List Point)
    → ring_by kind (map doubled (places_along p moves)) ≡ outline_of (places_along p moves ++ implied kind p (last_of p (places_along p moves)))
ring_along kind p [] = ring_doubled kind p []
ring_along kind p (m ∷ moves) = ring_doubled kind p (places_along (moved p m) moves)

pub polygon_is : (at : Point) (d : Deltas) → ring_by d.kind (path_points at d) ≡ polygon_outline at d
polygon_is at d = ring_along d.kind at (moves_by d.kind d.items)

-- ---- near 0

last_near : (p : Point) (ps : List Point) → All IsNearInSteps (p ∷ ps) → IsNearInSteps (last_of p ps)
last_near p [] h = All-head IsNearInSteps p [] h
last_near p (q ∷ ps) h = last_near q ps (All-tail IsNearInSteps p (q ∷ ps) h)

cases_near : (s t : Bool) (a b : Point) → IsNearInSteps a → IsNearInSteps b → All IsNearInSteps (cond s (a ∷ []) (cond t (b ∷ []) []))
cases_near true t a b m n = All-cons IsNearInSteps a [] m (All-nil IsNearInSteps)
cases_near false true a b m n = All-cons IsNearInSteps b [] n (All-nil IsNearInSteps)
cases_near false false a b m n = All-nil IsNearInSteps

implied_near : (kind : ℕ) (f l : Point) → IsNearInSteps f → IsNearInSteps l → All IsNearInSteps (implied kind f l)
implied_near kind f l m n =
    cases_near (kind == 0) (kind == 1) (point f.x l.y) (point l.x f.y)
    (record { x_low = m.x_low; x_high = m.x_high; y_low = n.y_low; y_high = n.y_high })
    (record { x_low = n.x_low; x_high = n.x_high; y_low = m.y_low; y_high = m.y_high })

closed_near : (xs : List Point) → AreNear xs → AreNear (closed xs)
closed_near [] h = h
closed_near (x ∷ xs) h = All-push IsNearInHalves (x ∷ xs) x h (All-head IsNearInHalves x xs h)

all_before : {X : Type 0} (P : X → Type 0) (xs ys : List X) → All P (xs ++ ys) → All P xs
all_before P [] ys h = All-nil P
all_before P (x ∷ xs) ys h = All-cons P x xs (All-head P x (xs ++ ys) h) (all_before P xs ys (All-tail P x (xs ++ ys) h))

near_closed : (xs : List Point) → AreNear (closed xs) → AreNear xs
near_closed [] h = h
near_closed (x ∷ xs) h = all_before IsNearInHalves (x ∷ xs) (x ∷ []) h

ring_near : (kind : ℕ) (p : Point) (ps : List Point) → AreNear (map doubled (p ∷ ps)) → AreNear (outline_of ((p ∷ ps) ++ implied kind p (last_of p ps)))
ring_near kind p ps h =
    let all = halves_all (p ∷ ps) h in
    closed_near (map doubled ((p ∷ ps) ++ implied kind p (last_of p ps)))
    (all_halves ((p ∷ ps) ++ implied kind p (last_of p ps))
    (All-append IsNearInSteps (p ∷ ps) (implied kind p (last_of p ps)) all
    (implied_near kind p (last_of p ps) (All-head IsNearInSteps p ps all) (last_near p ps all))))

near_ring : (kind : ℕ) (p : Point) (ps : List Point) → AreNear (outline_of ((p ∷ ps) ++ implied kind p (last_of p ps))) → AreNear (map doubled (p ∷ ps))
near_ring kind p ps h =
    let all : AreNear (map doubled ((p ∷ ps) ++ implied kind p (last_of p ps))) =
    near_closed (map doubled ((p ∷ ps) ++ implied kind p (last_of p ps))) h in
    all_before IsNearInHalves (map doubled (p ∷ ps)) (map doubled (implied kind p (last_of p ps)))
    (subst AreNear (map-append doubled (p ∷ ps) (implied kind p (last_of p ps))) all)

along_near : (kind : ℕ) (p : Point) (moves : List Point) → AreNear (map doubled (places_along p moves))
    → AreNear (outline_of (places_along p moves ++ implied kind p (last_of p (places_along p moves))))
along_near kind p [] h = ring_near kind p [] h
along_near kind p (m ∷ moves) h = ring_near kind p (places_along (moved p m) moves) h

near_along : (kind : ℕ) (p : Point) (moves : List Point)
    → AreNear (outline_of (places_along p moves ++ implied kind p (last_of p (places_along p moves)))) → AreNear (map doubled (places_along p moves))
near_along kind p [] h = near_ring kind p [] h
near_along kind p (m ∷ moves) h = near_ring kind p (places_along (moved p m) moves) h

pub polygon_near : (at : Point) (d : Deltas) → AreNear (path_points at d) → AreNear (polygon_outline at d)
polygon_near at d h = along_near d.kind at (moves_by d.kind d.items) h

pub near_polygon : (at : Point) (d : Deltas) → AreNear (polygon_outline at d) → AreNear (path_points at d)
near_polygon at d h = near_along d.kind at (moves_by d.kind d.items) h

some_along : (p : Point) (moves : List Point) → map doubled (places_along p moves) ≢ []
some_along p [] e = absurd (cc)
some_along p (m ∷ moves) e = absurd (cc)

pub some_points : (at : Point) (d : Deltas) → path_points at d ≢ []
some_points at d = some_along at (moves_by d.kind d.items)

-- ---- few

by_kind : (five : Bool) (at : Point) (items : List Point) → length (places_along at (cond five (added_up origin items) items)) ≡ length items + 1
by_kind true at items = let more = places_count at (added_up origin items) in let same = added_count origin items in omega (arith, more, same)
by_kind false at items = places_count at items

pub few_vertices : (at : Point) (d : Deltas) (vertices : List Point) → vertices ≡ path_points at d → length d.items < 10 → length vertices ≤ 10
few_vertices at d vertices is few =
    let same : length vertices ≡ length (path_points at d) = ap length is in
    let count = by_kind (d.kind == 5) at d.items in
    let mapped = length-map (places_along at (moves_by d.kind d.items)) doubled in
    omega (arith, same, count, mapped, few)

-- ---- closed

last_of_append : (a : Point) (xs : List Point) (b : Point) → last_of a (xs ++ b ∷ []) ≡ b
last_of_append a [] b = refl
last_of_append a (x ∷ xs) b = last_of_append x xs b

pub closed_is : (x : Point) (xs : List Point) → IsClosed (closed (x ∷ xs))
closed_is x xs = last_of_append x xs x

polygon_closes : (kind : ℕ) (p : Point) (moves : List Point)
    → IsClosed (outline_of (places_along p moves ++ implied kind p (last_of p (places_along p moves))))
polygon_closes kind p [] = closed_is (doubled p) (map doubled (implied kind p p))
polygon_closes kind p (m ∷ moves) =
    closed_is (doubled p) (map doubled (places_along (moved p m) moves ++ implied kind p (last_of p (places_along p (m ∷ moves)))))

pub polygon_closed : (at : Point) (d : Deltas) → IsClosed (polygon_outline at d)
polygon_closed at d = polygon_closes d.kind at (moves_by d.kind d.items)
