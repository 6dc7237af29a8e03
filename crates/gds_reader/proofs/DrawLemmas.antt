-- The shapes of boundaries and paths, and why they are refused.
use Rattle.std.proofs.Common.{◌≡◌, ℕ, zero, suc, ◌<◌, ◌≤◌, Bool, true, false, cond, List, [], ◌∷◌, length, get_or, refl, sym, ap, subst, ◌∙◌, inl, inr, arith}
use Rattle.std.specs.Prelude.{All, ◌≢◌, pos, ℤ}
use Rattle.std.specs.List.{AllWithin}
use Rattle.std.specs.Ordering.{int_eq}
use Rattle.std.proofs.lemmas.Bool.{cases_lt}
use Rattle.std.proofs.lemmas.List.{get_or_default}
use Rattle.std.proofs.lemmas.List.Elements.{All-map}
use Rattle.half_grid.specs.declared.plane.Point.{Point}
use Rattle.half_grid.specs.Outlines.{IsOnGrid, IsClosed}
use Rattle.half_grid.specs.Winding.{edges_of}
use Rattle.half_grid.proofs.ForCallers.{int_eq_true, int_eq_false}
use Rattle.layout_model.specs.Layouts.{AreOffsets, IsShapeOnGrid}
use Rattle.layout_model.specs.PathLaws.{IsOutline}
use Rattle.layout_model.specs.Paths.{IsDrawable, drawn_path, rectangles, rectangle_shape}
use Rattle.layout_model.specs.Slants.{IsFirstSlant}
use Rattle.layout_model.specs.declared.paths.PathBad.{PathBad}
use Rattle.layout_model.specs.declared.paths.PathBad.TheVariants as paths
use Rattle.layout_model.specs.declared.pair.Pair.{Pair}
use Rattle.layout_model.specs.declared.shapes.Shape.{Shape}
use Rattle.geo_stream.specs.Refusals.{IsForFault}
use Rattle.geo_stream.specs.declared.refusal.Refusal.TheVariants.{NoMemory}
use Rattle.gds_reader.specs.Brushes.{refusal_by}
use Rattle.gds_reader.specs.Meaning.{origin, path_shapes_of}
use Rattle.gds_reader.specs.Refused.{IsRefusedBy}
use Rattle.gds_reader.specs.Values.{KeepsBoundary, KeepsGdsiiPath, IsLowest}
use Rattle.gds_reader.proofs.GridLemmas.{origin_offsets}

pub slant_lowest : (points : List Point) (k : ℕ) → 4 ≤ length points → length points ≤ 8191 → IsClosed points → IsFirstSlant points k
    → IsLowest (KeepsBoundary points) 12
slant_lowest points k least most closed slant = record {
  broken = λ kept. slant.slanted (origin, origin) (kept.edges refl k (origin, origin) slant.inside);
  lower = λ other less. record {
    count = λ e. (least, most);
    closed = λ e. closed;
    edges = λ e. absurd (omega arith);
  };
}

-- where no edge is the first that isn't on the grid, the first n edges aren't off the grid
front_on_grid : (points : List Point) → ((k : ℕ) → IsFirstSlant points k → ⊥) → (n : ℕ) → n ≤ length (edges_of points)
    → (AllWithin IsOnGrid (edges_of points) 0 n → ⊥) → ⊥
front_on_grid points none zero le refute = refute (λ j d low high. absurd (omega arith))
front_on_grid points none (suc n) le refute =
    front_on_grid points none n (omega arith) (λ before.
    none n (record {
      inside = omega arith;
      on_grid = before;
      slanted = λ d on. refute (λ j e low high. elim (cases_lt j n) [
        | inl less ↦ before j e low less
        | inr more ↦
            let same : n ≡ j = omega arith in
            subst (λ i. IsOnGrid (get_or (edges_of points) i e)) same (subst IsOnGrid (get_or_default (edges_of points) n d e (omega arith)) on)
      ]);
    }))

-- want of memory hides no broken rule of a boundary
pub no_rule_hidden : (points : List Point) (rule : ℕ) → 4 ≤ length points → length points ≤ 8191 → IsClosed points
    → ((k : ℕ) → IsFirstSlant points k → ⊥) → IsLowest (KeepsBoundary points) rule → ⊥
no_rule_hidden points rule least most closed none low =
    front_on_grid points none (length (edges_of points)) (omega arith) (λ all.
    low.broken (record { count = λ e. (least, most); closed = λ e. closed; edges = λ e j d lt. all j d (omega arith) lt }))

pub wanting_path : (bad : PathBad) (at : ℕ) → refusal_by bad at ≡ NoMemory → bad ≡ paths.NoMemory
wanting_path paths.NoMemory at e = refl
wanting_path paths.NoLength at e = absurd (cc)
wanting_path (paths.Diagonal k) at e = absurd (cc)
wanting_path (paths.TurnBack k) at e = absurd (cc)
wanting_path paths.EmptyEnd at e = absurd (cc)

-- the shapes of a path, whether it has a width or not
pub path_items : (pair : Pair) (fixed : Bool) (half begin end : ℤ) (points : List Point) (items : List Shape) (offsets : List Point)
    → offsets ≡ origin ∷ [] → (half ≡ pos 0 → items ≡ [])
    → (half ≢ pos 0 → items ≡ drawn_path pair offsets fixed points half begin end)
    → items ≡ path_shapes_of pair fixed half begin end points
path_items pair fixed half begin end points items offsets one none some =
    elim (int_eq half (pos 0)) as (λ v. int_eq half (pos 0) ≡ v → items ≡ cond v [] (drawn_path pair (origin ∷ []) fixed points half begin end)) [
      | true ↦ λ e. none (int_eq_true half (pos 0) e)
      | false ↦ λ e. some (int_eq_false half (pos 0) e) ∙ ap (λ (os : List Point). drawn_path pair os fixed points half begin end) one
    ] refl

drawn_offsets : (pair : Pair) (fixed : Bool) (half begin end : ℤ) (points : List Point)
    → All (λ (s : Shape). s.offsets ≡ origin ∷ []) (drawn_path pair (origin ∷ []) fixed points half begin end)
drawn_offsets pair fixed half begin end points =
    All-map (λ (s : Shape). s.offsets ≡ origin ∷ []) (rectangle_shape pair (origin ∷ []) fixed) (rectangles points half begin end)
    (λ k d lt. refl)

grid_of : (shape : Shape) → IsOutline shape.points → shape.offsets ≡ origin ∷ [] → IsShapeOnGrid shape
grid_of shape outline e = record {
  closed = outline.closed;
  edges = outline.edges;
  near = outline.near;
  offsets = subst AreOffsets (sym e) origin_offsets;
}

pub path_grid : (pair : Pair) (fixed : Bool) (half begin end : ℤ) (points : List Point) (items : List Shape)
    → items ≡ path_shapes_of pair fixed half begin end points → All (λ shape. IsOutline shape.points) items → All IsShapeOnGrid items
path_grid pair fixed half begin end points items is outlines =
    elim (int_eq half (pos 0)) as (λ v. items ≡ cond v [] (drawn_path pair (origin ∷ []) fixed points half begin end) → All IsShapeOnGrid items) [
      | true ↦ λ e k d lt. absurd (let none : length items ≡ 0 = ap length e in omega arith)
      | false ↦ λ e k d lt.
          let shapes = drawn_path pair (origin ∷ []) fixed points half begin end in
          let within : k < length shapes = subst (λ (xs : List Shape). k < length xs) e lt in
          let offsets : (get_or items k d).offsets ≡ origin ∷ [] =
          subst (λ (xs : List Shape). (get_or xs k d).offsets ≡ origin ∷ []) (sym e) (drawn_offsets pair fixed half begin end points k d within) in
          grid_of (get_or items k d) (outlines k d lt) offsets
    ] is

path_lowest : (half begin end : ℤ) (points : List Point) → half ≢ pos 0 → ¬ IsDrawable points half begin end → IsLowest (KeepsGdsiiPath half begin end points) 14
path_lowest half begin end points wide none = record {
  broken = λ kept. none (kept refl wide);
  lower = λ other less eq. absurd (omega arith);
}

-- a path with a width is refused for its rule where it can't be drawn
pub path_broken : (half begin end : ℤ) (points : List Point) (bad : PathBad) (at : ℕ) → half ≢ pos 0
    → (bad ≢ paths.NoMemory → ¬ IsDrawable points half begin end) → IsForFault (IsRefusedBy (KeepsGdsiiPath half begin end points) at) (refusal_by bad at)
path_broken half begin end points paths.NoMemory at wide none = tt
path_broken half begin end points paths.NoLength at wide none = (14, refl, path_lowest half begin end points wide (none (λ x. absurd (cc))))
path_broken half begin end points (paths.Diagonal k) at wide none = (14, refl, path_lowest half begin end points wide (none (λ x. absurd (cc))))
path_broken half begin end points (paths.TurnBack k) at wide none = (14, refl, path_lowest half begin end points wide (none (λ x. absurd (cc))))
path_broken half begin end points paths.EmptyEnd at wide none = (14, refl, path_lowest half begin end points wide (none (λ x. absurd (cc))))
