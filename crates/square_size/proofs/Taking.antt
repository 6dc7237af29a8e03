-- The next ring of a stream comes into hand.
use Rattle.std.proofs.Common.{◌≡◌, ℤ, List, [], ◌∷◌, ◌++◌, Option, flat_map, refl, ap, sym, ◌∙◌, append_assoc}
use Rattle.std.specs.Option.{option_to_list}
use Rattle.half_grid.specs.Edges.{EdgeParts}
use Rattle.half_grid.specs.Trapezoids.{Trapezoid}
use Rattle.half_grid.specs.declared.border.Operand.TheVariants.{A}
use Rattle.square_size.specs.Edges.{edge_between, edges_of_grown, listed}
use Rattle.square_size.specs.Laws.Growing.{ring_listed}
use Rattle.square_size.specs.Rings.{lower_left, upper_left, lower_right, upper_right, left_bend, right_bend}

-- where nothing is left in hand, what comes is the ring of the first trapezoid, and then those of the others
pub turned : (dx dy : ℤ) (in_hand next : List EdgeParts) (traps others : List Trapezoid) (z : Trapezoid) → in_hand ≡ []
    → traps ≡ z ∷ others → next ≡ edges_of_grown dx dy z
    → in_hand ++ flat_map (edges_of_grown dx dy) traps ≡ next ++ flat_map (edges_of_grown dx dy) others
turned dx dy in_hand next traps others z none first is =
    ap (λ (es : List EdgeParts). es ++ flat_map (edges_of_grown dx dy) traps) none
    ∙ ap (flat_map (edges_of_grown dx dy)) first
    ∙ ap (λ (es : List EdgeParts). es ++ flat_map (edges_of_grown dx dy) others) (sym is)

-- where nothing is left, nothing comes
pub ended : (dx dy : ℤ) (in_hand : List EdgeParts) (traps : List Trapezoid) → in_hand ≡ [] → traps ≡ [] → in_hand ++ flat_map (edges_of_grown dx dy) traps ≡ []
ended dx dy in_hand traps none first =
    ap (λ (es : List EdgeParts). es ++ flat_map (edges_of_grown dx dy) traps) none ∙ ap (flat_map (edges_of_grown dx dy)) first

pub same_listed : (a b c d e f g h : Option EdgeParts) → a ≡ e → b ≡ f → c ≡ g → d ≡ h → listed a b c d ≡ listed e f g h
same_listed a b c d e f g h p q r s = rw (p, q, r, s) refl

-- four pieces, two and two
two_and_two : (before between after a b c d : List EdgeParts) → between ≡ before ++ (a ++ b) → after ≡ between ++ (c ++ d)
    → after ≡ before ++ (a ++ (b ++ (c ++ d)))
two_and_two before between after a b c d first second =
    second ∙ ap (λ (es : List EdgeParts). es ++ (c ++ d)) first ∙ append_assoc before (a ++ b) (c ++ d)
    ∙ ap (λ (es : List EdgeParts). before ++ es) (append_assoc a b (c ++ d))

-- what the left side puts at the end and then the right side are the edges of the ring
pub sides_put : (dx dy : ℤ) (z : Trapezoid) (before between after : List EdgeParts)
    → between ≡ before ++ (option_to_list (edge_between A (lower_left dx dy z) (left_bend dx dy z.y0 z.y1 z.left))
    ++ option_to_list (edge_between A (left_bend dx dy z.y0 z.y1 z.left) (upper_left dx dy z)))
    → after ≡ between ++ (option_to_list (edge_between A (upper_right dx dy z) (right_bend dx dy z.y0 z.y1 z.right))
    ++ option_to_list (edge_between A (right_bend dx dy z.y0 z.y1 z.right) (lower_right dx dy z)))
    → after ≡ before ++ edges_of_grown dx dy z
sides_put dx dy z before between after first second =
    two_and_two before between after (option_to_list (edge_between A (lower_left dx dy z) (left_bend dx dy z.y0 z.y1 z.left)))
    (option_to_list (edge_between A (left_bend dx dy z.y0 z.y1 z.left) (upper_left dx dy z)))
    (option_to_list (edge_between A (upper_right dx dy z) (right_bend dx dy z.y0 z.y1 z.right)))
    (option_to_list (edge_between A (right_bend dx dy z.y0 z.y1 z.right) (lower_right dx dy z))) first second
    ∙ ap (λ (es : List EdgeParts). before ++ es) (sym (ring_listed dx dy z))
