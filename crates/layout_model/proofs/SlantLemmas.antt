-- The edges that a walk along a point list has passed, all of them on the grid.
use Rattle.std.proofs.Common.{◌≡◌, ◌<◌, ℕ, ◌+◌, List, [], ◌∷◌, get_or, drop, sym, subst, arith, below_more, pos, suc, inl, inr}
use Rattle.std.proofs.lemmas.Bool.{cases_lt}
use Rattle.std.specs.List.{AllWithin}
use Rattle.half_grid.specs.declared.plane.Point.{Point}
use Rattle.half_grid.specs.Outlines.{IsOnGrid, HasGridEdges}
use Rattle.half_grid.specs.Winding.{edges_of}
use Rattle.layout_model.specs.Slants.{IsFirstSlant}
use Rattle.layout_model.proofs.Cuts.{cut_at, past_end}

-- the walk has passed so many edges and stands at the point before the rest
pub record Passed (points : List Point) (at : Point) (rest : List Point) (number : ℕ) : Type 0 where
  pub edges : drop number (edges_of points) ≡ edges_of (at ∷ rest)
  pub on_grid : AllWithin IsOnGrid (edges_of points) 0 number

one_more : (P : ℕ → Type 0) (n : ℕ) → ((k : ℕ) → k < n → P k) → P n → (k : ℕ) → k < n + 1 → P k
one_more P n = below_more P n

pub passed_more : (points : List Point) (a b : Point) (rest : List Point) (k : ℕ) → Passed points a (b ∷ rest) k
    → IsOnGrid (a, b) → Passed points b rest (k + 1)
passed_more points a b rest k p on =
    let c = cut_at (edges_of points) k (a, b) (edges_of (b ∷ rest)) p.edges in
    record {
      edges = let e : k + 1 ≡ suc k = omega arith in rw e c.rest;
      on_grid = λ j d low high. one_more (λ i. IsOnGrid (get_or (edges_of points) i d)) k
          (λ i h. p.on_grid i d (omega arith) h) (subst IsOnGrid (sym (c.item d)) on) j high;
    }

pub passed_slant : (points : List Point) (a b : Point) (rest : List Point) (k : ℕ) → Passed points a (b ∷ rest) k
    → (IsOnGrid (a, b) → ⊥) → IsFirstSlant points k
passed_slant points a b rest k p off =
    let c = cut_at (edges_of points) k (a, b) (edges_of (b ∷ rest)) p.edges in
    record {
      inside = c.inside;
      on_grid = p.on_grid;
      slanted = λ d on. off (subst IsOnGrid (c.item d) on);
    }

pub passed_end : (points : List Point) (a : Point) (k : ℕ) → Passed points a [] k → HasGridEdges points
passed_end points a k p j d lt = p.on_grid j d (omega arith) (omega (arith, lt, past_end (edges_of points) k p.edges))

some_edge : Point × Point
some_edge = (record { x = pos 0; y = pos 0 }, record { x = pos 0; y = pos 0 })

pub one_slant : (points : List Point) (j k : ℕ) → IsFirstSlant points j → IsFirstSlant points k → j ≡ k
one_slant points j k a b =
    elim (cases_lt j k) [
      | inl h ↦ absurd (a.slanted some_edge (b.on_grid j some_edge (omega arith) h))
      | inr h ↦ elim (cases_lt k j) [
        | inl g ↦ absurd (b.slanted some_edge (a.on_grid k some_edge (omega arith) g))
        | inr g ↦ omega (arith, h, g)
      ]
    ]

pub no_slant : (points : List Point) (k : ℕ) → HasGridEdges points → IsFirstSlant points k → ⊥
no_slant points k all a = a.slanted some_edge (all k some_edge a.inside)
