-- The laws of the stream of the edges of grown trapezoids.
use Rattle.std.proofs.Common.{◌≡◌, ℕ, ◌+◌, ◌*◌, ◌≤◌, ℤ, List, [], ◌∷◌, ◌++◌, length, flat_map, refl, ap, sym, ◌∙◌}
use Rattle.std.proofs.Common.{arith, length-append, append-nil, Option, Some, None}
use Rattle.std.specs.Option.{option_to_list}
use Rattle.half_grid.specs.Edges.{EdgeParts}
use Rattle.half_grid.specs.Lines.{line_of}
use Rattle.half_grid.specs.Trapezoids.{Trapezoid}
use Rattle.half_grid.specs.declared.border.Operand.TheVariants.{A}
use Rattle.half_grid.specs.declared.plane.Point.{Point}
use Rattle.half_grid.proofs.ForCallers.{int_eq_same}
use Rattle.square_size.specs.Edges.{edge_of_pair, edge_between, edges_of_grown, listed}
use Rattle.square_size.specs.Growing.{StandsForGrown}
use Rattle.square_size.specs.Rings.{lower_left, upper_left, lower_right, upper_right, left_bend, right_bend}

level_line : (a b : Point) → a.y ≡ b.y → line_of a b ≡ None
unfolding line_of
level_line a b e = rw (int_eq_same a.y b.y e) refl

level_pair : (a b : Point) → a.y ≡ b.y → edge_of_pair A (a, b) ≡ []
level_pair a b e = rw (level_line a b e) refl

-- the edges of a ring, without its horizontal sides
pub ring_listed : (dx dy : ℤ) (z : Trapezoid) → edges_of_grown dx dy z
    ≡ listed (edge_between A (lower_left dx dy z) (left_bend dx dy z.y0 z.y1 z.left)) (edge_between A (left_bend dx dy z.y0 z.y1 z.left) (upper_left dx dy z))
    (edge_between A (upper_right dx dy z) (right_bend dx dy z.y0 z.y1 z.right)) (edge_between A (right_bend dx dy z.y0 z.y1 z.right) (lower_right dx dy z))
ring_listed dx dy z =
    let top = level_pair (upper_left dx dy z) (upper_right dx dy z) refl in
    let bottom = level_pair (lower_right dx dy z) (lower_left dx dy z) refl in
    rw (top, bottom, append-nil) refl

at_most_one : (o : Option EdgeParts) → length (option_to_list o) ≤ 1
at_most_one None = omega arith
at_most_one (Some e) = omega arith

four_listed : (a b c d : Option EdgeParts) → length (listed a b c d) ≤ 4
four_listed a b c d =
    omega (
      arith,
      at_most_one a,
      at_most_one b,
      at_most_one c,
      at_most_one d,
      length-append (option_to_list a) (option_to_list b ++ (option_to_list c ++ option_to_list d)),
      length-append (option_to_list b) (option_to_list c ++ option_to_list d),
      length-append (option_to_list c) (option_to_list d),
    )

-- a ring has at most four edges
pub four_at_most : (dx dy : ℤ) (z : Trapezoid) → length (edges_of_grown dx dy z) ≤ 4
four_at_most dx dy z =
    omega (
      arith,
      ap length (ring_listed dx dy z),
      four_listed (edge_between A (lower_left dx dy z) (left_bend dx dy z.y0 z.y1 z.left))
          (edge_between A (left_bend dx dy z.y0 z.y1 z.left) (upper_left dx dy z))
          (edge_between A (upper_right dx dy z) (right_bend dx dy z.y0 z.y1 z.right))
          (edge_between A (right_bend dx dy z.y0 z.y1 z.right) (lower_right dx dy z)),
    )

rings_length : (dx dy : ℤ) (traps : List Trapezoid) → length (flat_map (edges_of_grown dx dy) traps) ≤ 4 * length traps
rings_length dx dy [] = omega arith
rings_length dx dy (z ∷ traps) =
    omega (arith, length-append (edges_of_grown dx dy z) (flat_map (edges_of_grown dx dy) traps), four_at_most dx dy z, rings_length dx dy traps)

module _ {S : Type 0} {source_for : S → List Trapezoid → Type 0} {dx dy : ℤ} where
  pub Grown-one_list : ((s : S) (xs ys : List Trapezoid) → source_for s xs → source_for s ys → xs ≡ ys)
      → (s : S) (in_hand xs ys : List EdgeParts) → StandsForGrown source_for dx dy s in_hand xs → StandsForGrown source_for dx dy s in_hand ys → xs ≡ ys
  Grown-one_list one s in_hand xs ys p q =
      p.is ∙ ap (λ (traps : List Trapezoid). in_hand ++ flat_map (edges_of_grown dx dy) traps) (one s p.traps q.traps p.given q.given) ∙ sym q.is

  pub Grown-no_longer : {size : S → ℕ} → ((s : S) (xs : List Trapezoid) → source_for s xs → length xs ≤ size s)
      → (s : S) (in_hand xs : List EdgeParts) → StandsForGrown source_for dx dy s in_hand xs → length xs ≤ length in_hand + 4 * size s
  Grown-no_longer short s in_hand xs p =
      omega (
        arith,
        ap length p.is,
        length-append in_hand (flat_map (edges_of_grown dx dy) p.traps),
        rings_length dx dy p.traps,
        short s p.traps p.given,
      )

  pub Grown-bounded : {size : S → ℕ} {most : ℕ} → ((s : S) (xs : List Trapezoid) → source_for s xs → size s ≤ most)
      → (s : S) (in_hand xs : List EdgeParts) → StandsForGrown source_for dx dy s in_hand xs → length in_hand + 4 * size s ≤ 4 + 4 * most
  Grown-bounded below s in_hand xs p = omega (arith, p.few, below s p.traps p.given)
