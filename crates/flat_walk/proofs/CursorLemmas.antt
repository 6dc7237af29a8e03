-- A cursor goes on to the next place or shape.
use Rattle.std.proofs.Common.{◌≡◌, ℕ, zero, suc, ◌+◌, ◌<◌, ◌≤◌, min, Bool, true, false, if◌then◌else◌, List, [], ◌∷◌, ◌++◌, All}
use Rattle.std.proofs.Common.{map, drop, length, replicate, refl, sym, ap, subst, ◌∙◌, arith}
use Rattle.std.specs.List.{flat_map}
use Rattle.half_grid.specs.Quads.{corners_of}
use Rattle.flat_walk.specs.Quads.{moved_quad}
use Rattle.flat_walk.specs.Walks.{is_on}
use Rattle.flat_walk.specs.EntryLists.{entries_in}
use Rattle.flat_walk.specs.Kept.{Entry, all_lists}
use Rattle.std.proofs.lemmas.List.{length-drop}
use Rattle.std.proofs.lemmas.List.Elements.{All-head}
use Rattle.half_grid.specs.Trapezoids.{Trapezoid}
use Rattle.half_grid.specs.declared.plane.Point.{Point}
use Rattle.half_grid.specs.declared.extent.Frame.{Frame}
use Rattle.layout_model.specs.Layouts.{IsShapeOnGrid}
use Rattle.layout_model.specs.declared.pair.Pair.{Pair}
use Rattle.layout_model.specs.declared.orient.Orient.{Orient}
use Rattle.layout_model.specs.declared.shapes.Shape.{Shape}
use Rattle.flat_walk.specs.Boxes.{AreBoxed}
use Rattle.flat_walk.specs.Rests.{places_rest, placed_rest}
use Rattle.flat_walk.specs.Hands.{shapes_left, cursor_list, first_count, IsFirst, IsNext, steps_of, steps_from, steps_left}
use Rattle.flat_walk.specs.declared.owned.Cursor.{Cursor}
use Rattle.flat_walk.proofs.RestLemmas.{cursor_skip, steps_first, drop_past}
use Rattle.flat_walk.proofs.BlockLemmas.{drop_on, grid_rest}
use Rattle.flat_walk.proofs.BoxLemmas.{boxed_none, places_past}

-- shapes without lists show nothing
pub no_lists : (orient : Orient) (at : Point) (pair : Pair) (shapes : List Shape) (place : ℕ) → placed_rest orient at pair shapes [] place ≡ []
no_lists orient at pair [] place = refl
no_lists orient at pair (shape ∷ shapes) place = refl

no_pieces : (pair : Pair) (shape : Shape) (place : ℕ) → places_rest pair shape [] place ≡ []
no_pieces pair shape place = by_test (is_on pair shape)
  where
    none : (offsets : List Point) → flat_map (λ by. map (λ piece. moved_quad by (corners_of piece)) []) offsets ≡ []
    none [] = refl
    none (by ∷ offsets) = none offsets

    by_test : (on : Bool) → (if on then flat_map (λ by. map (λ piece. moved_quad by (corners_of piece)) []) (drop place shape.offsets) else []) ≡ []
    by_test true = none (drop place shape.offsets)
    by_test false = refl

-- shapes without pieces show nothing
none_over : (orient : Orient) (at : Point) (pair : Pair) (more : ℕ) (shapes : List Shape) (lists : List (List Trapezoid))
    → placed_rest orient at pair shapes (replicate more [] ++ lists) 0 ≡ placed_rest orient at pair (drop more shapes) lists 0
none_over orient at pair zero shapes lists = refl
none_over orient at pair (suc more) [] lists = refl
none_over orient at pair (suc more) (shape ∷ shapes) lists =
    cursor_skip orient at pair (shape ∷ shapes) shapes shape ([] ∷ (replicate more [] ++ lists)) (replicate more [] ++ lists) [] 0 refl refl
    (no_pieces pair shape 0) ∙ none_over orient at pair more shapes lists

-- the first entry shows nothing more
pub entry_over : (orient : Orient) (at : Point) (pair : Pair) (shapes rest : List Shape) (shape : Shape)
    (entries later : List Entry) (entry : Entry) (place : ℕ)
    → shapes ≡ shape ∷ rest → entries ≡ entry ∷ later → places_rest pair shape entry.pieces place ≡ []
    → placed_rest orient at pair shapes (all_lists entries) place
    ≡ placed_rest orient at pair (drop (first_count entries) shapes) (all_lists (drop 1 entries)) 0
entry_over orient at pair shapes rest shape entries later entry place is are none =
    let more = entry.more in
    let e : more + 1 ≡ suc more = omega arith in
    rw (is, are, e) (cursor_skip orient at pair (shape ∷ rest) rest shape (entry.pieces ∷ (replicate more [] ++ all_lists later))
    (replicate more [] ++ all_lists later) entry.pieces place refl refl none
    ∙ none_over orient at pair more rest (all_lists later))

-- the first shape shows nothing more, whatever its pieces are
pub list_over : (orient : Orient) (at : Point) (pair : Pair) (shapes rest : List Shape) (shape : Shape) (entries : List Entry) (place : ℕ)
    → shapes ≡ shape ∷ rest → ((pieces : List Trapezoid) → places_rest pair shape pieces place ≡ [])
    → placed_rest orient at pair shapes (all_lists entries) place
    ≡ placed_rest orient at pair (drop (first_count entries) shapes) (all_lists (drop 1 entries)) 0
list_over orient at pair shapes rest shape [] place is none = no_lists orient at pair shapes place ∙ sym (no_lists orient at pair (drop 1 shapes) 0)
list_over orient at pair shapes rest shape (entry ∷ entries) place is none =
    entry_over orient at pair shapes rest shape (entry ∷ entries) entries entry place is refl (none entry.pieces)

-- it has no more places
pub list_past : (orient : Orient) (at : Point) (pair : Pair) (shapes rest : List Shape) (shape : Shape) (entries : List Entry) (place : ℕ)
    → shapes ≡ shape ∷ rest → length shape.offsets ≤ place
    → placed_rest orient at pair shapes (all_lists entries) place
    ≡ placed_rest orient at pair (drop (first_count entries) shapes) (all_lists (drop 1 entries)) 0
list_past orient at pair shapes rest shape entries place is past =
    list_over orient at pair shapes rest shape entries place is (λ pieces. places_past pair shape pieces place past)

boxed_less : (shapes : List Shape) (lists : List (List Trapezoid)) (boxes : List Frame)
    → AreBoxed shapes lists boxes → AreBoxed (drop 1 shapes) (drop 1 lists) (drop 1 boxes)
boxed_less shapes lists [] boxed = boxed_none (drop 1 shapes) (drop 1 lists)
boxed_less [] lists (box ∷ boxes) boxed = absurd boxed
boxed_less (shape ∷ shapes) [] (box ∷ boxes) boxed = absurd boxed
boxed_less (shape ∷ shapes) (pieces ∷ lists) (box ∷ boxes) boxed = boxed.1

boxed_over : (more : ℕ) (shapes : List Shape) (lists : List (List Trapezoid)) (boxes : List Frame)
    → AreBoxed shapes (replicate more [] ++ lists) boxes → AreBoxed (drop more shapes) lists (drop more boxes)
boxed_over zero shapes lists boxes boxed = boxed
boxed_over (suc more) shapes lists boxes boxed =
    subst (λ b. AreBoxed (drop (suc more) shapes) lists b) (drop_on 1 more (suc more) boxes (omega arith))
    (subst (λ s. AreBoxed s lists (drop more (drop 1 boxes))) (drop_on 1 more (suc more) shapes (omega arith))
    (boxed_over more (drop 1 shapes) lists (drop 1 boxes)
    (boxed_less shapes ([] ∷ (replicate more [] ++ lists)) boxes boxed)))

boxed_first : (shapes : List Shape) (entries : List Entry) (boxes : List Frame) → AreBoxed shapes (all_lists entries) boxes
    → AreBoxed (drop (first_count entries) shapes) (all_lists (drop 1 entries)) (drop (first_count entries) boxes)
boxed_first shapes [] boxes boxed = boxed_less shapes [] boxes boxed
boxed_first shapes (entry ∷ entries) boxes boxed =
    let e : entry.more + 1 ≡ suc entry.more = omega arith in
    rw e (subst (λ b. AreBoxed (drop (suc entry.more) shapes) (all_lists entries) b) (drop_on 1 entry.more (suc entry.more) boxes (omega arith))
    (subst (λ s. AreBoxed s (all_lists entries) (drop entry.more (drop 1 boxes))) (drop_on 1 entry.more (suc entry.more) shapes (omega arith))
    (boxed_over entry.more (drop 1 shapes) (all_lists entries) (drop 1 boxes)
    (boxed_less shapes (all_lists (entry ∷ entries)) boxes boxed))))

boxed_length : (shapes : List Shape) (lists : List (List Trapezoid)) (boxes : List Frame) → AreBoxed shapes lists boxes → length boxes ≤ length shapes
boxed_length shapes lists [] boxed = omega arith
boxed_length [] lists (box ∷ boxes) boxed = absurd boxed
boxed_length (shape ∷ shapes) [] (box ∷ boxes) boxed = absurd boxed
boxed_length (shape ∷ shapes) (pieces ∷ lists) (box ∷ boxes) boxed = let h = boxed_length shapes lists boxes boxed.1 in omega (arith, h)

-- all but some, or none where there are fewer
drop_least : {X : Type 0} (xs : List X) (n all : ℕ) → length xs ≤ all → drop (min n all) xs ≡ drop n xs
drop_least [] n all few = drop_past [] (min n all) (omega arith) ∙ sym (drop_past [] n (omega arith))
drop_least (x ∷ xs) zero all few = let e : min 0 all ≡ 0 = omega arith in ap (λ k. drop k (x ∷ xs)) e
drop_least (x ∷ xs) (suc n) zero few = absurd (omega (arith, few))
drop_least (x ∷ xs) (suc n) (suc all) few =
    let e : min (suc n) (suc all) ≡ suc (min n all) = omega arith in
    ap (λ k. drop k (x ∷ xs)) e ∙ drop_least xs n all (omega (arith, few))

-- the shapes that are left after those of the first entry
pub shapes_next : (n next : ℕ) (entries : List Entry) (shapes : List Shape) → next ≡ min (n + first_count entries) (length shapes)
    → drop next shapes ≡ drop (first_count entries) (drop n shapes)
shapes_next n next entries shapes is =
    ap (λ k. drop k shapes) is ∙ (drop_least shapes (n + first_count entries) (length shapes) (omega arith)
    ∙ sym (drop_on n (first_count entries) (n + first_count entries) shapes refl))

-- the first entry is passed by
pub boxed_on : (n next : ℕ) (shapes : List Shape) (entries : List Entry) (boxes : List Frame) → n < length shapes
    → next ≡ min (n + first_count entries) (length shapes)
    → AreBoxed (drop n shapes) (all_lists entries) (drop n boxes) → AreBoxed (drop next shapes) (all_lists (drop 1 entries)) (drop next boxes)
boxed_on n next shapes entries boxes inside is boxed =
    let few = boxed_length (drop n shapes) (all_lists entries) (drop n boxes) boxed in
    let long = length-drop n shapes in
    let wide = length-drop n boxes in
    let count = first_count entries in
    let e : drop next boxes ≡ drop count (drop n boxes) = ap (λ k. drop k boxes) is
    ∙ (drop_least boxes (n + count) (length shapes) (omega (arith, few, long, wide, inside)) ∙ sym (drop_on n count (n + count) boxes refl)) in
    rw (e, shapes_next n next entries shapes is) (boxed_first (drop n shapes) entries (drop n boxes) boxed)

steps_dropped : (count : ℕ) (shapes : List Shape) → steps_of (drop count shapes) ≤ steps_of shapes
steps_dropped zero shapes = omega arith
steps_dropped (suc count) [] = omega arith
steps_dropped (suc count) (shape ∷ shapes) = let h = steps_dropped count shapes in omega (arith, h)

first_some : (entries : List Entry) → 1 ≤ first_count entries
first_some [] = omega arith
first_some (entry ∷ entries) = omega arith

steps_over : (shapes rest : List Shape) (shape : Shape) (place count : ℕ) → shapes ≡ shape ∷ rest → 1 ≤ count
    → steps_from (drop count shapes) 0 < steps_from shapes place
steps_over shapes rest shape place zero is some = absurd (omega (arith, some))
steps_over shapes rest shape place (suc count) is some =
    rw is (let e = steps_first (drop count rest) in let h = steps_dropped count rest in omega (arith, e, h))

pub steps_next : (shapes rest : List Shape) (shape : Shape) (place : ℕ) → shapes ≡ shape ∷ rest
    → place < length shape.offsets → steps_from shapes (place + 1) < steps_from shapes place
steps_next shapes rest shape place is inside =
    rw is (let a = length-drop place shape.offsets in let b = length-drop (place + 1) shape.offsets in omega (arith, a, b))

-- the first shape that is left is one of all
pub first_on_grid : (n : ℕ) (shapes rest : List Shape) (shape : Shape) → drop n shapes ≡ shape ∷ rest → All IsShapeOnGrid shapes → IsShapeOnGrid shape
first_on_grid n shapes rest shape is all = All-head IsShapeOnGrid shape rest (subst (All IsShapeOnGrid) is (grid_rest n shapes all))

-- the first shape is one of all
pub first_inside : (n : ℕ) (shapes rest : List Shape) (shape : Shape) → drop n shapes ≡ shape ∷ rest → n < length shapes
first_inside n shapes rest shape is = let e = ap length is in let long = length-drop n shapes in omega (arith, e, long)

-- ---- on to the next entry

pub next_list : (pair : Pair) (before after : Cursor) → IsNext before after
    → cursor_list pair after
    ≡ placed_rest before.orient before.at pair (drop (first_count (entries_in before.lists)) (shapes_left before))
    (all_lists (drop 1 (entries_in before.lists))) 0
next_list pair before after next = rw (next.orient, next.at, next.shapes, next.lists, next.place) refl

pub next_steps : (before after : Cursor) (shape : Shape) → IsFirst before shape → IsNext before after → steps_left after < steps_left before
next_steps before after shape first next =
    rw (next.shapes, next.place) (steps_over (shapes_left before) (drop (before.number + 1) before.shapes.now) shape before.place
    (first_count (entries_in before.lists)) first.is (first_some (entries_in before.lists)))

pub next_shorter : (before after : Cursor) (shape : Shape) → IsFirst before shape → IsNext before after
    → length (shapes_left after) < length (shapes_left before)
next_shorter before after shape first next =
    let e = ap length next.shapes in
    let long = length-drop (first_count (entries_in before.lists)) (shapes_left before) in
    let some = first_some (entries_in before.lists) in
    let f = ap length first.is in
    omega (arith, e, long, some, f)
