-- The laws of the stream of mirror images.
use Rattle.std.proofs.Common.{◌≡◌, ℕ, ◌≤◌, ℤ, List, length, map, ap, sym, ◌∙◌, arith}
use Rattle.std.proofs.lemmas.List.{length-map}
use Rattle.half_grid.specs.Trapezoids.{Trapezoid}
use Rattle.tone_mirror.specs.Mirrors.{mirrored_trapezoid}
use Rattle.tone_mirror.specs.Images.{StandsForImages}

module _ {S : Type 0} {source_for : S → List Trapezoid → Type 0} {m : ℤ} where
  pub Images-one_list : ((s : S) (xs ys : List Trapezoid) → source_for s xs → source_for s ys → xs ≡ ys)
      → (s : S) (xs ys : List Trapezoid) → StandsForImages source_for m s xs → StandsForImages source_for m s ys → xs ≡ ys
  Images-one_list one s xs ys p q = p.is ∙ ap (map (mirrored_trapezoid m)) (one s p.traps q.traps p.given q.given) ∙ sym q.is

  pub Images-no_longer : {size : S → ℕ} → ((s : S) (xs : List Trapezoid) → source_for s xs → length xs ≤ size s)
      → (s : S) (xs : List Trapezoid) → StandsForImages source_for m s xs → length xs ≤ size s
  Images-no_longer short s xs p = omega (arith, ap length p.is, length-map p.traps (mirrored_trapezoid m), short s p.traps p.given)

  pub Images-bounded : {size : S → ℕ} {most : ℕ} → ((s : S) (xs : List Trapezoid) → source_for s xs → size s ≤ most)
      → (s : S) (xs : List Trapezoid) → StandsForImages source_for m s xs → size s ≤ most
  Images-bounded below s xs p = below s p.traps p.given
