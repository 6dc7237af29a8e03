-- A stream of the parts of a stream's edges in a window, and its laws.
use Rattle.std.proofs.Common.{◌≡◌, ℕ, ◌+◌, ◌≤◌, List, [], ◌∷◌, Option, Some, None, length, ap, sym, ◌∙◌, arith}
use Rattle.std.specs.List.{filter_map, cons_option}
use Rattle.half_grid.specs.Edges.{EdgeParts}
use Rattle.half_grid.specs.Windows.{RowRange}
use Rattle.scan_line.specs.ClippedEdges.{part_in, parts_in}

module _ {S : Type 0} (source_for : S → List EdgeParts → Type 0) where
  -- the parts of the edges of the stream s are this list
  pub record StandsForClipped (window : RowRange) (s : S) (parts : List EdgeParts) : Type 0 where
    pub edges : List EdgeParts
    pub source : source_for s edges
    pub each : parts ≡ parts_in window edges

one_kept : {B : Type 0} (o : Option B) (ys : List B) → length (cons_option o ys) ≤ length ys + 1
one_kept None ys = omega arith
one_kept (Some y) ys = omega arith

kept : {A B : Type 0} (f : A → Option B) (xs : List A) → length (filter_map f xs) ≤ length xs
kept f [] = omega arith
kept f (x ∷ xs) = omega (arith, one_kept (f x) (filter_map f xs), kept f xs)

module _ {S : Type 0} {source_for : S → List EdgeParts → Type 0} where
  pub Clipped-one_list : ((s : S) (xs ys : List EdgeParts) → source_for s xs → source_for s ys → xs ≡ ys)
      → (window : RowRange) (s : S) (xs ys : List EdgeParts) → StandsForClipped source_for window s xs → StandsForClipped source_for window s ys → xs ≡ ys
  Clipped-one_list one window s xs ys p q = p.each ∙ (ap (λ (l : List EdgeParts). parts_in window l) (one s p.edges q.edges p.source q.source) ∙ sym q.each)

  pub Clipped-no_longer : {m : S → ℕ} → ((s : S) (xs : List EdgeParts) → source_for s xs → length xs ≤ m s)
      → (window : RowRange) (s : S) (xs : List EdgeParts) → StandsForClipped source_for window s xs → length xs ≤ m s
  Clipped-no_longer in_source window s xs p = omega (arith, ap length p.each, kept (part_in window) p.edges, in_source s p.edges p.source)

  pub Clipped-bounded : {m : S → ℕ} {n : ℕ} → ((s : S) (xs : List EdgeParts) → source_for s xs → m s ≤ n)
      → (window : RowRange) (s : S) (xs : List EdgeParts) → StandsForClipped source_for window s xs → m s ≤ n
  Clipped-bounded in_source window s xs p = in_source s p.edges p.source
