-- Cells of which nothing is a first fault are a tree: what a tree is asked, one thing after another, holds, since else a
-- first fault would be there.
use Rattle.std.proofs.Common.{◌≡◌, ℕ, zero, suc, ◌+◌, ◌-◌, ◌^◌, ◌≤◌, ℤ, pos, neg_ℤ, ◌≤ℤ◌, Bool, true, false, ◌||◌, List, [], ◌∷◌, ◌++◌}
use Rattle.std.proofs.Common.{Option, Some, None, Contains, min, map, length, take, refl, sym, ap, subst, ◌∙◌, inl, inr, arith}
use Rattle.std.proofs.lemmas.Bool.{cases_lt}
use Rattle.std.proofs.lemmas.Int.{ints, by_lt_z}
use Rattle.std.proofs.lemmas.List.{length-map, length-take-le, take-take, length-append}
use Rattle.std.proofs.Math.Seq.{take-length}
use Rattle.std.specs.List.{flat_map}
use Rattle.std.specs.Prelude.{int_lt}
use Rattle.half_grid.specs.declared.extent.Frame.{Frame}
use Rattle.half_grid.specs.declared.plane.Point.{Point}
use Rattle.layout_model.specs.Hulls.{IsInBox}
use Rattle.layout_model.specs.Layouts.{IsWithin}
use Rattle.layout_model.specs.declared.pair.Pair.{Pair}
use Rattle.layout_model.specs.declared.cells.Cell.{Cell}
use Rattle.cell_tree.specs.Boxes.{IsLeastBox, IsUpTo}
use Rattle.cell_tree.specs.Cells.{name_at}
use Rattle.cell_tree.specs.Chains.{Link, IsChain, chain_cells, chain_end, chain_factor}
use Rattle.cell_tree.specs.Faults.{is_beyond, first_beyond}
use Rattle.cell_tree.specs.Flattening.{Flat, flattened, shape_count, IsVertex}
use Rattle.cell_tree.specs.Trees.{IsKnown, IsAcyclic, IsShallow, IsMild, KeepsFixed, AreVerticesNear, IsCounted}
use Rattle.cell_tree.specs.declared.faults.TreeBad.TheVariants.{Unknown, Cycle, Deep, Scale, Fixed, Extent, Count}
use Rattle.cell_tree.proofs.ForCallers.{chain_take, chain_joined, end_joined, Has, has_any, any_has, has_flat, flat_has, contains_slot, slot_contains}
use Rattle.cell_tree.proofs.ForCallers.{has_slot, slot_has}
use Rattle.layout_laws.specs.TreeLaws.{HasNoFault, FaultlessIsTree}

-- ---- the least point by a measure

module _ (measure : Point → ℤ) where
  -- a point of the list with the least measure
  record IsLeastOf (points : List Point) (p : Point) : Type 0 where
    here : Has (λ q. q ≡ p) points
    least : (q : Point) → Has (λ r. r ≡ q) points → measure p ≤ℤ measure q

  least_of_two : (p q : Point) (points : List Point) → IsLeastOf points q → (r : Point) × IsLeastOf (p ∷ points) r
  least_of_two p q points is = by_lt_z (measure q) (measure p)
      (λ below. (
        q,
        record {
          here = inr is.here;
          least = λ r at. elim at [ inl same ↦ subst (λ s. measure q ≤ℤ measure s) same (omega (arith, ints, below)) | inr later ↦ is.least r later ];
        },
      ))
      (λ above. (
        p,
        record {
          here = inl refl;
          least = λ r at. elim at [
            | inl same ↦ subst (λ s. measure p ≤ℤ measure s) same (omega (arith, ints))
            | inr later ↦ (let low = is.least r later in omega (arith, ints, low, above))
          ];
        },
      ))

  least_point : (first : Point) (points : List Point) → (p : Point) × IsLeastOf (first ∷ points) p
  least_point first [] = (
    first,
    record {
      here = inl refl;
      least = λ q at. elim at [ inl same ↦ subst (λ s. measure first ≤ℤ measure s) same (omega (arith, ints)) | inr later ↦ absurd later ];
    },
  )
  least_point first (second ∷ points) = let rest = least_point second points in least_of_two first rest.0 (second ∷ points) rest.1

-- ---- the least box of all vertices

abbrev points_of : List Flat → List Point
points_of flats = flat_map (λ flat. flat.points) flats

-- a vertex on some pair
abbrev IsSomeVertex : List Cell → ℕ → Point → Type 0
IsSomeVertex cells top p = (pair : Pair) × IsVertex cells top pair p

has_of : (points : List Point) (p : Point) → Contains points p → Has (λ q. q ≡ p) points
has_of points p c = let slot = contains_slot points p c in slot_has (λ q. q ≡ p) points slot.0 p slot.1 refl

contains_of : (points : List Point) (p : Point) → Has (λ q. q ≡ p) points → Contains points p
contains_of points p h = let slot = has_slot (λ q. q ≡ p) points h in subst (Contains points) slot.3 (slot_contains points slot.0 slot.1 slot.2)

-- in other words of each element
has_by : {X : Type 0} (P Q : X → Type 0) (xs : List X) → ((x : X) → P x → Q x) → Has P xs → Has Q xs
has_by P Q [] each h = absurd h
has_by P Q (x ∷ xs) each h = elim h [ inl p ↦ inl (each x p) | inr more ↦ inr (has_by P Q xs each more) ]

vertex_point : (cells : List Cell) (top : ℕ) (p : Point) → IsSomeVertex cells top p → Has (λ q. q ≡ p) (points_of (flattened cells top))
vertex_point cells top p vertex =
    flat_has (λ q. q ≡ p) (λ (flat : Flat). flat.points) (flattened cells top)
    (has_by (λ flat. (flat.pair ≡ vertex.0) × Contains flat.points p) (λ flat. Has (λ q. q ≡ p) flat.points) (flattened cells top)
    (λ flat on. has_of flat.points p on.1)
    (any_has (λ flat. (flat.pair ≡ vertex.0) × Contains flat.points p) (flattened cells top) vertex.1))

vertex_of : (cells : List Cell) (top : ℕ) (p : Point) (flats : List Flat) → Has (λ flat. Has (λ q. q ≡ p) flat.points) flats
    → (pair : Pair) × Has (λ flat. (flat.pair ≡ pair) × Contains flat.points p) flats
vertex_of cells top p [] h = absurd h
vertex_of cells top p (flat ∷ flats) h = elim h [
  | inl on ↦ (flat.pair, inl (refl, contains_of flat.points p on))
  | inr more ↦ (let rest = vertex_of cells top p flats more in (rest.0, inr rest.1))
]

point_vertex : (cells : List Cell) (top : ℕ) (p : Point) → Has (λ q. q ≡ p) (points_of (flattened cells top)) → IsSomeVertex cells top p
point_vertex cells top p h =
    let on = vertex_of cells top p (flattened cells top) (has_flat (λ q. q ≡ p) (λ (flat : Flat). flat.points) (flattened cells top) h) in
    (on.0, has_any (λ flat. (flat.pair ≡ on.0) × Contains flat.points p) (flattened cells top) on.1)

-- the points of a list that isn't empty have a least box
box_of : (P : Point → Type 0) (first : Point) (points : List Point) → ((p : Point) → P p → Has (λ q. q ≡ p) (first ∷ points))
    → ((p : Point) → Has (λ q. q ≡ p) (first ∷ points) → P p) → (box : Frame) × IsLeastBox P box
box_of P first points to back =
    let left = least_point (λ p. p.x) first points in
    let bottom = least_point (λ p. p.y) first points in
    let right = least_point (λ p. neg_ℤ p.x) first points in
    let upper = least_point (λ p. neg_ℤ p.y) first points in (
      record { x0 = left.0.x; y0 = bottom.0.y; x1 = right.0.x; y1 = upper.0.y },
      record {
        around = λ p is.
            (let at = to p is in
            let l = left.1.least p at in
            let b = bottom.1.least p at in
            let r = right.1.least p at in
            let t = upper.1.least p at in
            record { left = l; bottom = b; right = omega (arith, ints, r); top = omega (arith, ints, t) });
        left = (left.0, back left.0 left.1.here, refl);
        bottom = (bottom.0, back bottom.0 bottom.1.here, refl);
        right = (right.0, back right.0 right.1.here, refl);
        top = (upper.0, back upper.0 upper.1.here, refl);
      },
    )

-- ---- sides beyond 2^30

-- a number that isn't beyond is within
not_beyond : (z : ℤ) → is_beyond z ≡ false → IsUpTo (2 ^ 30) z
not_beyond z e = by (int_lt z (neg_ℤ (pos (2 ^ 30)))) (int_lt (pos (2 ^ 30)) z) refl refl e
  where
    by : (a b : Bool) → int_lt z (neg_ℤ (pos (2 ^ 30))) ≡ a → int_lt (pos (2 ^ 30)) z ≡ b → (a || b) ≡ false → IsUpTo (2 ^ 30) z
    by true b ea eb e = absurd (cc)
    by false true ea eb e = absurd (cc)
    by false false ea eb e = record { low = grind (arith, ints); high = grind (arith, ints) }

-- the first side of a box that is beyond, or a point of the box is within
within_or_not : (box : Frame) (p : Point) → IsInBox box p → ((value : ℤ) → first_beyond box ≡ Some value → ⊥) → IsWithin (2 ^ 30) p
within_or_not box p inside none = by (is_beyond box.x0) refl (is_beyond box.y0) refl (is_beyond box.x1) refl (is_beyond box.y1) refl
  where
    by : (a : Bool) → is_beyond box.x0 ≡ a → (b : Bool) → is_beyond box.y0 ≡ b → (c : Bool) → is_beyond box.x1 ≡ c
        → (d : Bool) → is_beyond box.y1 ≡ d → IsWithin (2 ^ 30) p
    by true ea b eb c ec d ed = absurd (none box.x0 (rw ea refl))
    by false ea true eb c ec d ed = absurd (none box.y0 (rw (ea, eb) refl))
    by false ea false eb true ec d ed = absurd (none box.x1 (rw (ea, eb, ec) refl))
    by false ea false eb false ec true ed = absurd (none box.y1 (rw (ea, eb, ec, ed) refl))
    by false ea false eb false ec false ed =
        let l = (not_beyond box.x0 ea).low in
        let b = (not_beyond box.y0 eb).low in
        let r = (not_beyond box.x1 ec).high in
        let t = (not_beyond box.y1 ed).high in
        let left = inside.left in
        let bottom = inside.bottom in
        let right = inside.right in
        let upper = inside.top in
        record {
          x_low = omega (arith, ints, l, left);
          x_high = omega (arith, ints, r, right);
          y_low = omega (arith, ints, b, bottom);
          y_high = omega (arith, ints, t, upper);
        }

-- ---- what a tree is asked

module _ (cells : List Cell) (top : ℕ) (none : HasNoFault cells top) where
  known : IsKnown cells top
  known n placement reachable unknown = none (Unknown (name_at cells n) placement.target)
      (record { number = n; placement = placement; reachable = reachable; unknown = unknown; named = refl; named_target = refl })

  acyclic : IsAcyclic cells top
  acyclic numbers cycle = none (Cycle (map (name_at cells) numbers)) (known, record { numbers = numbers; cycle = cycle; named = refl })

  cells_many : (links : List Link) → length (chain_cells top links) ≡ suc (length links)
  cells_many links = ap suc (length-map links (λ link. link.cell))

  shallow : IsShallow cells top
  shallow links chain = elim (cases_lt 64 (length (chain_cells top links))) [
    | inr few ↦ few
    | inl many ↦
        let first : List Link = take 64 links in
        let all = cells_many links in
        let long : 64 ≤ length links = omega (arith, all, many) in
        absurd (none (Deep (map (name_at cells) (chain_cells top (take 64 links)))) (
          known,
          acyclic,
          record {
            links = take 64 links;
            chain = chain_take cells top 64 links chain;
            many = cells_many (take 64 links) ∙ ap suc (length-take-le 64 links long);
            named = refl;
          },
        ))
  ]

  mild_up_to : (links : List Link) → IsChain cells top links → (k : ℕ) → k ≤ length links → chain_factor (take k links) ≤ 16
  mild_up_to links chain zero within = omega arith
  mild_up_to links chain (suc k) within = elim (cases_lt 16 (chain_factor (take (suc k) links))) [
    | inr small ↦ small
    | inl above ↦
        let size : length (take (suc k) links) ≡ suc k = length-take-le (suc k) links within in
        let less : length (take (suc k) links) - 1 ≡ k = omega (arith, size) in
        let before : chain_factor (take k links) ≤ 16 = mild_up_to links chain k (omega (arith, within)) in
        let shorter : take (length (take (suc k) links) - 1) (take (suc k) links) ≡ take k links =
        ap (λ n. take n (take (suc k) links)) less ∙ take-take k (suc k) links (omega arith) in
        absurd (none (Scale (pos (chain_factor (take (suc k) links))) (map (name_at cells) (chain_cells top (take (suc k) links)))) (
          known,
          acyclic,
          shallow,
          record {
            links = take (suc k) links;
            chain = chain_take cells top (suc k) links chain;
            factor = refl;
            above = above;
            before = subst (λ (ls : List Link). chain_factor ls ≤ 16) (sym shorter) before;
            named = refl;
          },
        ))
  ]

  mild : IsMild cells top
  mild links chain = subst (λ (ls : List Link). chain_factor ls ≤ 16) (take-length links) (mild_up_to links chain (length links) (omega arith))

  fixed : KeepsFixed cells top
  fixed links chain has = elim (cases_lt 1 (chain_factor links)) [
    | inr small ↦ small
    | inl above ↦ absurd (none (Fixed (pos (chain_factor links)) (name_at cells (chain_end top links))) (
      known,
      acyclic,
      shallow,
      mild,
      record {
        links = links;
        chain = chain;
        fixed = has;
        factor = refl;
        above = above;
        named = refl;
      },
    ))
  ]

  near_by : (points : List Point) → points_of (flattened cells top) ≡ points → AreVerticesNear cells top
  near_by [] e pair p vertex = absurd (subst (Has (λ q. q ≡ p)) e (vertex_point cells top p (pair, vertex)))
  near_by (first ∷ points) e pair p vertex =
      let box = box_of (IsSomeVertex cells top) first points (λ q is. subst (Has (λ r. r ≡ q)) e (vertex_point cells top q is))
      (λ q at. point_vertex cells top q (subst (Has (λ r. r ≡ q)) (sym e) at)) in
      within_or_not box.0 p (box.1.around p (pair, vertex))
      (λ value beyond. none (Extent value) (known, acyclic, shallow, mild, fixed, record { box = box.0; least = box.1; first = beyond }))

  near : AreVerticesNear cells top
  near = near_by (points_of (flattened cells top)) refl

  -- a chain from the top ends in a cell with few shapes, where at most so many links can be put to it
  few_at : (links_left : ℕ) (links : List Link) → IsChain cells top links → 64 ≤ links_left + length links
      → shape_count cells (chain_end top links) ≤ 2 ^ 40
  few_at zero links chain long = absurd (let short = shallow links chain in let all = cells_many links in omega (arith, short, all, long))
  few_at (suc links_left) links chain long = elim (cases_lt (2 ^ 40) (shape_count cells (chain_end top links))) [
    | inr few ↦ few
    | inl many ↦ absurd (none (Count (name_at cells (chain_end top links)) (min (shape_count cells (chain_end top links)) (2 ^ 128 - 1))) (
      known,
      acyclic,
      shallow,
      mild,
      fixed,
      near,
      record {
        number = chain_end top links;
        reachable = record { links = links; chain = chain; end = refl };
        many = many;
        lowest = λ m places.
            (let more : List Link = record { placement = places.0; cell = m } ∷ [] in
            let longer = length-append links (record { placement = places.0; cell = m } ∷ []) in
            subst (λ n. shape_count cells n ≤ 2 ^ 40) (end_joined top links (record { placement = places.0; cell = m } ∷ []))
            (few_at links_left (links ++ record { placement = places.0; cell = m } ∷ [])
            (chain_joined cells top links (record { placement = places.0; cell = m } ∷ []) chain (places.1, tt))
            (omega (arith, longer, long))));
        named = refl;
        count = refl;
      },
    ))
  ]

  counted : IsCounted cells top
  counted = few_at 64 [] tt (omega arith)

pub faultless_is_tree : FaultlessIsTree
faultless_is_tree cells top none = record {
  known = known cells top none;
  acyclic = acyclic cells top none;
  shallow = shallow cells top none;
  mild = mild cells top none;
  fixed = fixed cells top none;
  near = near cells top none;
  counted = counted cells top none;
}
