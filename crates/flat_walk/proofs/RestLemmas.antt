-- Lists with marks, and what is skipped of them.
use Rattle.std.proofs.Common.{◌≡◌, ℕ, zero, suc, ◌+◌, ◌≤◌, Bool, true, false, not, List, [], ◌∷◌, ◌++◌, Option, Some}
use Rattle.std.proofs.Common.{None, All, map, drop, length, slice_get, refl, sym, ap, subst, ◌∙◌, arith, append_assoc}
use Rattle.std.proofs.Common.{append-nil}
use Rattle.std.specs.List.{filter, flat_map, AllByRecursion}
use Rattle.std.proofs.lemmas.List.{map-append}
use Rattle.std.proofs.lemmas.List.Elements.{filter-append, All-head, All-tail, All-from_recursion}
use Rattle.std.proofs.lemmas.Option.{none-some, same_Some}
use Rattle.half_grid.specs.Quads.{Corners, IsQuad, corners_of}
use Rattle.half_grid.specs.Trapezoids.{Trapezoid}
use Rattle.half_grid.specs.Windows.{RowRange}
use Rattle.half_grid.specs.declared.plane.Point.{Point}
use Rattle.layout_model.specs.Images.{image_of}
use Rattle.layout_model.specs.declared.pair.Pair.{Pair}
use Rattle.layout_model.specs.declared.orient.Orient.{Orient}
use Rattle.layout_model.specs.declared.shapes.Shape.{Shape}
use Rattle.flat_walk.specs.Quads.{quad_image, moved_quad, has_row_in}
use Rattle.flat_walk.specs.Walks.{is_on, pieces_of_shapes}
use Rattle.flat_walk.specs.Rests.{shows_in, IsMarkedQuad, Skips, Gives, placed_list, places_rest, shapes_rest, placed_rest}
use Rattle.flat_walk.specs.Hands.{steps_of, steps_from}
use Rattle.flat_walk.proofs.PoseLemmas.{quad_moved}

-- ---- skipping

pub skip_same : (w : RowRange) (a b : List (Option Corners)) → a ≡ b → Skips w a b
skip_same w a b e = record { front = []; is = e; none = refl }

pub skip_on : (w : RowRange) (a b c : List (Option Corners)) → Skips w a b → Skips w b c → Skips w a c
skip_on w a b c s t = record {
  front = s.front ++ t.front;
  is = s.is ∙ (ap (λ l. s.front ++ l) t.is ∙ sym (append_assoc s.front t.front c));
  none = filter-append (shows_in w) s.front t.front ∙ (rw (s.none, t.none) refl);
}

hidden : (w : RowRange) (x : Option Corners) → shows_in w x ≡ false → filter (shows_in w) (x ∷ []) ≡ []
hidden w x h = rw h refl

pub skip_one : (w : RowRange) (x : Option Corners) (a : List (Option Corners)) → shows_in w x ≡ false → Skips w (x ∷ a) a
skip_one w x a h = record { front = x ∷ []; is = refl; none = hidden w x h }

pub skip_all : (w : RowRange) (a : List (Option Corners)) → filter (shows_in w) a ≡ [] → Skips w a []
skip_all w a h = record { front = a; is = sym (append-nil a); none = h }

pub skip_front : (w : RowRange) (a b : List (Option Corners)) → filter (shows_in w) a ≡ [] → Skips w (a ++ b) b
skip_front w a b h = record { front = a; is = refl; none = h }

pub skip_left : (w : RowRange) (a b c : List (Option Corners)) → Skips w a b → Skips w (a ++ c) (b ++ c)
skip_left w a b c s = record { front = s.front; is = ap (λ l. l ++ c) s.is ∙ append_assoc s.front b c; none = s.none }

-- what is left of a list that shows nothing more, beside another
pub skip_over : (w : RowRange) (a c : List (Option Corners)) → Skips w a [] → Skips w (a ++ c) c
skip_over w a c s = skip_left w a [] c s

-- what shows is the same
pub skip_shows : (w : RowRange) (a b : List (Option Corners)) → Skips w a b → filter (shows_in w) a ≡ filter (shows_in w) b
skip_shows w a b s = ap (filter (shows_in w)) s.is ∙ (filter-append (shows_in w) s.front b ∙ ap (λ l. l ++ filter (shows_in w) b) s.none)

all_right : {X : Type 0} (P : X → Type 0) (xs ys : List X) → All P (xs ++ ys) → All P ys
all_right P [] ys all = all
all_right P (x ∷ xs) ys all = all_right P xs ys (All-tail P x (xs ++ ys) all)

pub skip_quads : (P : Option Corners → Type 0) (w : RowRange) (a b : List (Option Corners)) → Skips w a b → All P a → All P b
skip_quads P w a b s all = all_right P s.front b (subst (All P) s.is all)

-- an answer after what was skipped, and beside what comes later
pub gives_after : (w : RowRange) (a b : List (Option Corners)) (answer : Option Corners)
    (after : List (Option Corners)) → Skips w a b → Gives w b answer after → Gives w a answer after
gives_after w a b None after s g = (skip_on w a b [] s g.0, g.1)
gives_after w a b (Some q) after s g = (skip_on w a b (Some q ∷ after) s g.0, g.1)

pub gives_more : (w : RowRange) (a : List (Option Corners)) (q : Corners) (after c : List (Option Corners))
    → Gives w a (Some q) after → Gives w (a ++ c) (Some q) (after ++ c)
gives_more w a q after c g = (skip_left w a (Some q ∷ after) c g.0, g.1)

-- ---- own pieces

pub marks_apart : (a b : List Corners) → map Some (a ++ b) ≡ map Some a ++ map Some b
marks_apart a b = map-append Some a b

pub drop_here : {X : Type 0} (xs : List X) (k : ℕ) (x : X) → slice_get xs k ≡ Some x → drop k xs ≡ x ∷ drop (k + 1) xs
drop_here [] k x at = absurd (none-some x at)
drop_here (y ∷ xs) zero x at = ap (λ z. z ∷ xs) (same_Some y x at)
drop_here (y ∷ xs) (suc k) x at = let e : suc k + 1 ≡ suc (k + 1) = omega arith in rw e (drop_here xs k x at)

pub drop_past : {X : Type 0} (xs : List X) (k : ℕ) → length xs ≤ k → drop k xs ≡ []
drop_past [] zero h = refl
drop_past [] (suc k) h = refl
drop_past (x ∷ xs) zero h = absurd (omega arith)
drop_past (x ∷ xs) (suc k) h = drop_past xs k (omega arith)

pub placed_moved : (orient : Orient) (at by : Point) (pieces : List Trapezoid)
    → map (quad_image orient at) (map (λ piece. moved_quad by (corners_of piece)) pieces) ≡ placed_list orient
    (image_of orient at by) pieces
placed_moved orient at by [] = refl
placed_moved orient at by (piece ∷ pieces) = ap
    (λ q. q ∷ map (quad_image orient at) (map (λ piece. moved_quad by (corners_of piece)) pieces))
    (quad_moved orient at by (corners_of piece))
    ∙ ap (λ l. quad_image orient (image_of orient at by) (corners_of piece) ∷ l) (placed_moved orient at by pieces)

pub places_on : (orient : Orient) (at by : Point) (pair : Pair) (shape : Shape) (pieces : List Trapezoid) (place : ℕ)
    → is_on pair shape ≡ true → slice_get shape.offsets place ≡ Some by
    → map (quad_image orient at) (places_rest pair shape pieces place) ≡ placed_list orient
    (image_of orient at by) pieces ++ map (quad_image orient at) (places_rest pair shape pieces (place + 1))
places_on orient at by pair shape pieces place on at_place =
    rw (on, drop_here shape.offsets place by at_place)
    (map-append (quad_image orient at) (map (λ piece. moved_quad by (corners_of piece)) pieces)
    (flat_map (λ by. map (λ piece. moved_quad by (corners_of piece)) pieces) (drop (place + 1) shape.offsets))
    ∙ ap (λ l. l ++ map (quad_image orient at)
    (flat_map (λ by. map (λ piece. moved_quad by (corners_of piece)) pieces) (drop (place + 1) shape.offsets)))
    (placed_moved orient at by pieces))

pub places_off : (pair : Pair) (shape : Shape) (pieces : List Trapezoid) (place : ℕ) → is_on pair shape ≡ false → places_rest pair shape pieces place ≡ []
places_off pair shape pieces place off = rw off refl

pub shapes_from_first : (pair : Pair) (shapes : List Shape) (lists : List (List Trapezoid))
    → shapes_rest pair shapes lists 0 ≡ pieces_of_shapes pair shapes lists
shapes_from_first pair [] lists = refl
shapes_from_first pair (shape ∷ shapes) [] = refl
shapes_from_first pair (shape ∷ shapes) (pieces ∷ lists) = refl

-- ---- steps of the code

pub hand_head : (orient : Orient) (at : Point) (pieces rest : List Trapezoid) (piece : Trapezoid)
    → pieces ≡ piece ∷ rest → All IsQuad (placed_list orient at pieces)
    → IsQuad (quad_image orient at (corners_of piece))
hand_head orient at pieces rest piece is all = All-head IsQuad (quad_image orient at (corners_of piece))
    (placed_list orient at rest) (subst (λ l. All IsQuad (placed_list orient at l)) is all)

pub hand_tail : (orient : Orient) (at : Point) (pieces rest : List Trapezoid) (piece : Trapezoid)
    → pieces ≡ piece ∷ rest → All IsQuad (placed_list orient at pieces) → All IsQuad (placed_list orient at rest)
hand_tail orient at pieces rest piece is all = All-tail IsQuad (quad_image orient at (corners_of piece))
    (placed_list orient at rest) (subst (λ l. All IsQuad (placed_list orient at l)) is all)

pub hand_skip : (w : RowRange) (before : List (Option Corners)) (orient : Orient) (at : Point)
    (pieces rest : List Trapezoid) (piece : Trapezoid) → pieces ≡ piece ∷ rest
    → has_row_in w (quad_image orient at (corners_of piece)) ≡ false
    → Skips w before (map Some (placed_list orient at pieces))
    → Skips w before (map Some (placed_list orient at rest))
hand_skip w before orient at pieces rest piece is off s =
    skip_on w before (map Some (placed_list orient at pieces)) (map Some (placed_list orient at rest)) s
    (subst (λ l. Skips w (map Some (placed_list orient at l)) (map Some (placed_list orient at rest))) (sym is)
    (skip_one w (Some (quad_image orient at (corners_of piece))) (map Some (placed_list orient at rest)) off))

pub placed_rest_is : (orient : Orient) (at : Point) (pair : Pair) (shape : Shape) (shapes : List Shape)
    (pieces : List Trapezoid) (lists : List (List Trapezoid)) (place : ℕ)
    → placed_rest orient at pair (shape ∷ shapes) (pieces ∷ lists) place ≡ map (quad_image orient at)
    (places_rest pair shape pieces place) ++ map (quad_image orient at) (pieces_of_shapes pair shapes lists)
placed_rest_is orient at pair shape shapes pieces lists place = map-append (quad_image orient at)
    (places_rest pair shape pieces place) (pieces_of_shapes pair shapes lists)

-- a shape that has no more places
pub cursor_skip : (orient : Orient) (at : Point) (pair : Pair) (shapes rest : List Shape) (shape : Shape)
    (lists later : List (List Trapezoid)) (pieces : List Trapezoid) (place : ℕ)
    → shapes ≡ shape ∷ rest → lists ≡ pieces ∷ later → places_rest pair shape pieces place ≡ []
    → placed_rest orient at pair shapes lists place ≡ placed_rest orient at pair rest later 0
cursor_skip orient at pair shapes rest shape lists later pieces place is are none =
    rw (is, are) (placed_rest_is orient at pair shape rest pieces later place
    ∙ (rw none (ap (map (quad_image orient at)) (sym (shapes_from_first pair rest later)))))

pub steps_first : (shapes : List Shape) → steps_from shapes 0 ≡ steps_of shapes
steps_first [] = refl
steps_first (shape ∷ shapes) = refl

pub steps_skip : (shapes rest : List Shape) (shape : Shape) (place : ℕ) → shapes ≡ shape ∷ rest → steps_from rest 0 ≤ steps_from shapes place
steps_skip shapes rest shape place is = rw is (let e = steps_first rest in omega (arith, e))

pub slot_all : {X : Type 0} (P : X → Type 0) (xs : List X) (k : ℕ) (x : X) → All P xs → slice_get xs k ≡ Some x → P x
slot_all P [] k x all at = absurd (none-some x at)
slot_all P (y ∷ xs) zero x all at = subst P (same_Some y x at) (All-head P y xs all)
slot_all P (y ∷ xs) (suc k) x all at = slot_all P xs k x (All-tail P y xs all) at

pub not_false : (b : Bool) → not b ≡ false → b ≡ true
not_false true h = refl
not_false false h = sym h

marked_first : (qs : List Corners) (rest : List (Option Corners)) → All IsMarkedQuad (map Some qs ++ rest) → AllByRecursion IsQuad qs
marked_first [] rest all = tt
marked_first (q ∷ qs) rest all = (
  All-head IsMarkedQuad (Some q) (map Some qs ++ rest) all,
  marked_first qs rest
      (All-tail IsMarkedQuad (Some q) (map Some qs ++ rest) all),
)

-- of marked lists, what comes first are quadrilaterals
pub marked_hand : (qs : List Corners) (rest : List (Option Corners)) → All IsMarkedQuad (map Some qs ++ rest) → All IsQuad qs
marked_hand qs rest all = All-from_recursion IsQuad qs (marked_first qs rest all)

-- the hand shows nothing more, and the cursor passes by some
pub hand_passes : (w : RowRange) (before : List (Option Corners)) (hand cursor passed : List Corners)
    → Skips w before (map Some hand ++ map Some cursor) → Skips w (map Some hand) []
    → Skips w (map Some cursor) (map Some passed)
    → Skips w before (map Some passed)
hand_passes w before hand cursor passed s over past =
    skip_on w before (map Some hand ++ map Some cursor) (map Some passed) s
    (skip_on w (map Some hand ++ map Some cursor) (map Some cursor) (map Some passed) (skip_over w (map Some hand) (map Some cursor) over) past)

pub passed_changes : (w : RowRange) (before : List (Option Corners)) (passed hand' cursor' : List Corners)
    → Skips w before (map Some passed) → passed ≡ hand' ++ cursor' → Skips w before (map Some hand' ++ map Some cursor')
passed_changes w before passed hand' cursor' s is =
    skip_on w before (map Some passed) (map Some hand' ++ map Some cursor') s
    (skip_same w (map Some passed) (map Some hand' ++ map Some cursor')
    (ap (map Some) is ∙ marks_apart hand' cursor'))

pub passed_ends : (w : RowRange) (before : List (Option Corners)) (passed : List Corners) → Skips w before (map Some passed) → passed ≡ [] → Skips w before []
passed_ends w before passed s is = skip_on w before (map Some passed) [] s (skip_same w (map Some passed) [] (ap (map Some) is))

pub marked_left : (xs ys : List (Option Corners)) → All IsMarkedQuad (xs ++ ys) → All IsMarkedQuad xs
marked_left xs ys all = All-from_recursion IsMarkedQuad xs (by_recursion xs ys all)
  where
    by_recursion : (xs ys : List (Option Corners)) → All IsMarkedQuad (xs ++ ys) → AllByRecursion IsMarkedQuad xs
    by_recursion [] ys all = tt
    by_recursion (x ∷ xs) ys all = (All-head IsMarkedQuad x (xs ++ ys) all, by_recursion xs ys (All-tail IsMarkedQuad x (xs ++ ys) all))
