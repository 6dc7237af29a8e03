-- Cells by name: the first place of a name among distinct names.
use Rattle.std.proofs.Common.{◌≡◌, ℕ, zero, suc, ◌+◌, ◌<◌, ◌≤◌, nat_eq, Bool, true, false, cond, not, ◌||◌, List, []}
use Rattle.std.proofs.Common.{◌∷◌, ◌++◌, Option, Some, None, map, length, take, get_or, position, below_more, refl, sym}
use Rattle.std.proofs.Common.{ap, ◌∙◌, arith, if◌then◌else◌}
use Rattle.std.specs.List.{position_or_len, list_any}
use Rattle.std.specs.Borrow.{Bor}
use Rattle.std.specs.Cmp.Lexicographic.{pointwise, bytes_decides}
use Rattle.std.proofs.lemmas.List.{take_more, get_or-map, get_or-take, length-take-le, map_more, map_push, length-map}
use Rattle.std.proofs.lemmas.Option.{none-some, same_Some}
use Rattle.std.proofs.lemmas.List.Sums.{position_or_len_is}
use Rattle.std.proofs.lemmas.List.Quantifiers.{position-Some}
use Rattle.std.proofs.lemmas.Bool.Decides.{nat_tests}
use Rattle.layout_model.specs.Layouts.{AreDistinct}
use Rattle.indexmap.specs.IndexSet.{insert_key}
use Rattle.layout_model.specs.declared.cells.Placement.{Placement}
use Rattle.layout_model.specs.declared.cells.Cell.{Cell}
use Rattle.cell_tree.specs.Cells.{cell_names, cell_number, targets_of, targets_at, all_targets, placements_at}
use Rattle.cell_tree.specs.Linking.{pointed, places_among, AreTargetsBelow}

module _ {X : Type 0} (p : X → Bool) (xs : List X) (i : ℕ) (d : X) where
  -- the first place that passes
  pub first_place : i < length xs → ((k : ℕ) → k < i → p (get_or xs k d) ≡ false) → p (get_or xs i d) ≡ true → position p xs ≡ Some i
  first_place inside before here =
      let e = position_or_len_is p xs i d (omega arith) before (λ _. here) in
      rw e (grind (arith, nat_tests))

  pub no_place : length xs ≤ i → ((k : ℕ) → k < i → p (get_or xs k d) ≡ false) → position p xs ≡ None
  no_place past before =
      let e = position_or_len_is p xs (length xs) d (omega arith) (λ k h. before k (omega arith)) (λ h. absurd (omega arith)) in
      rw e (grind (arith, nat_tests))

-- the place of the value that each element shows
pub position-map : {X Y : Type 0} (f : X → Y) (p : Y → Bool) (xs : List X) → position (λ x. p (f x)) xs ≡ position p (map f xs)
position-map f p xs = rw (first-map f p xs, length_map f xs)
  where
    length_map : {X Y : Type 0} (f : X → Y) (xs : List X) → length xs ≡ length (map f xs)
    length_map f [] = refl
    length_map f (x ∷ xs) = ap suc (length_map f xs)

    first-map : {X Y : Type 0} (f : X → Y) (p : Y → Bool) (xs : List X) → position_or_len (λ x. p (f x)) xs ≡ position_or_len p (map f xs)
    first-map f p [] = refl
    first-map f p (x ∷ xs) = ap (λ n. cond (not (p (f x))) (1 + n) 0) (first-map f p xs)

-- the name of the cell that an index gives
pub name_of_cell : (cells : List Cell) (n : ℕ) (cell : Cell) → n < length cells → cell ≡ get_or cells n cell → get_or (cell_names cells) n [] ≡ cell.name
name_of_cell cells n cell inside is = get_or-map (λ c. c.name) cells n cell [] inside ∙ ap (λ c. c.name) (sym is)

length-names : (cells : List Cell) → length (cell_names cells) ≡ length cells
length-names [] = refl
length-names (cell ∷ cells) = ap suc (length-names cells)

-- no cell before place n has the name
abbrev pub IsNotBefore : List Cell → List ℕ → ℕ → Type 0
IsNotBefore cells name n = (k : ℕ) → k < n → pointwise nat_eq name (get_or (cell_names cells) k []) ≡ false

pub not_before_more : (cells : List Cell) (name : List ℕ) (n : ℕ) (cell : Cell) → n < length cells → cell ≡ get_or cells n cell → IsNotBefore cells name n
    → false ≡ pointwise nat_eq name cell.name → IsNotBefore cells name (n + 1)
not_before_more cells name n cell inside is before other = below_more _ _ before (ap (pointwise nat_eq name) (name_of_cell cells n cell inside is) ∙ sym other)

pub number_here : (cells : List Cell) (name : List ℕ) (n : ℕ) (cell : Cell) → n < length cells → cell ≡ get_or cells n cell → IsNotBefore cells name n
    → true ≡ pointwise nat_eq name cell.name → Some n ≡ cell_number cells name
unfolding cell_number
number_here cells name n cell inside is before here =
    let inside' : n < length (cell_names cells) = omega (arith, length-names cells) in
    sym (first_place (pointwise nat_eq name) (cell_names cells) n [] inside' before
    (ap (pointwise nat_eq name) (name_of_cell cells n cell inside is) ∙ sym here))

pub number_nowhere : (cells : List Cell) (name : List ℕ) (n : ℕ) → length cells ≤ n → IsNotBefore cells name n → None ≡ cell_number cells name
unfolding cell_number
number_nowhere cells name n past before = sym (no_place (pointwise nat_eq name) (cell_names cells) n [] (omega (arith, length-names cells)) before)

-- the number of a name is that of a cell
pub number_within : (cells : List Cell) (name : List ℕ) (m : ℕ) → cell_number cells name ≡ Some m → m < length cells
unfolding cell_number
number_within cells name m here = omega (arith, length-names cells, (position-Some (pointwise nat_eq name) (cell_names cells) m [] here).0)

-- ---- a set of names

abbrev pub same_name : Bor (List ℕ) → Bor (List ℕ) → Bool
same_name a b = pointwise nat_eq a.now b.now

or_false : (b c : Bool) → (b ≡ true → ⊥) → c ≡ false → (b || c) ≡ false
or_false true c differs e = absurd (differs refl)
or_false false c differs e = e

none_equal : (k : Bor (List ℕ)) (keys : List (Bor (List ℕ)))
    → ((j : ℕ) → j < length keys → get_or (pointed keys) j [] ≡ k.now → ⊥) → list_any (same_name k) keys ≡ false
none_equal k [] other = refl
none_equal k (key ∷ keys) other =
    or_false (pointwise nat_eq k.now key.now) (list_any (same_name k) keys) (λ e. other 0 (omega arith) (sym ((bytes_decides k.now key.now).0 e)))
    (none_equal k keys (λ j inside. other (suc j) (omega arith)))

distinct_before : (names : List (List ℕ)) (i j : ℕ) → AreDistinct names → j < i → i < length names → get_or names j [] ≡ get_or names i [] → ⊥
distinct_before [] i j distinct before inside same = omega arith
distinct_before (name ∷ names) zero j distinct before inside same = omega arith
distinct_before (name ∷ names) (suc i) zero distinct before inside same = distinct.0 i [] (omega arith) same
distinct_before (name ∷ names) (suc i) (suc j) distinct before inside same = distinct_before names i j distinct.1 (omega arith) (omega arith) same

pointed-push : (keys : List (Bor (List ℕ))) (k : Bor (List ℕ)) → pointed (keys ++ k ∷ []) ≡ pointed keys ++ k.now ∷ []
pointed-push [] k = refl
pointed-push (key ∷ keys) k = ap (λ ks. key.now ∷ ks) (pointed-push keys k)

length-pointed : (keys : List (Bor (List ℕ))) → length (pointed keys) ≡ length keys
length-pointed [] = refl
length-pointed (key ∷ keys) = ap suc (length-pointed keys)

-- a set of the first names, once the next name is put in
pub pointed_more : (cells : List Cell) (keys : List (Bor (List ℕ))) (k : Bor (List ℕ)) (i : ℕ) (cell : Cell) → AreDistinct (cell_names cells) → i < length cells
    → cell ≡ get_or cells i cell → k.now ≡ cell.name → pointed keys ≡ take i (cell_names cells)
    → pointed (insert_key same_name keys k) ≡ take (i + 1) (cell_names cells)
pointed_more cells keys k i cell distinct inside is named so_far =
    let here : get_or (cell_names cells) i [] ≡ k.now = name_of_cell cells i cell inside is ∙ sym named in
    let inside' : i < length (cell_names cells) = omega (arith, length-names cells) in
    let long : length keys ≡ i = omega (arith, length-pointed keys, ap length so_far, length-take-le i (cell_names cells) (omega arith)) in
    let none = none_equal k keys (λ j before same. distinct_before (cell_names cells) i j distinct (omega arith) inside'
    (sym (get_or-take i (cell_names cells) j [] (omega arith)) ∙ ap (λ l. get_or l j []) (sym so_far) ∙ same ∙ sym here)) in
    ap (λ b. pointed (if b then keys else keys ++ k ∷ [])) none ∙ pointed-push keys k ∙ ap (λ l. l ++ k.now ∷ []) so_far
    ∙ ap (λ n. take i (cell_names cells) ++ n ∷ []) (sym here) ∙ sym (take_more (cell_names cells) i [] inside')

-- ---- targets

pub target_more : (keys : List (Bor (List ℕ))) (placements : List Placement) (targets : List (Option ℕ)) (i : ℕ)
    (placement : Placement) (k : Bor (List ℕ)) → i < length placements
    → placement ≡ get_or placements i placement → k.now ≡ placement.target → targets ≡ places_among (pointed keys) (take i placements)
    → targets ++ position (same_name k) keys ∷ [] ≡ places_among (pointed keys) (take (i + 1) placements)
target_more keys placements targets i placement k inside is named so_far =
    let f : Placement → Option ℕ = λ p. position (pointwise nat_eq p.target) (pointed keys) in
    let here : position (same_name k) keys ≡ f (get_or placements i placement) =
    position-map (λ x. x.now) (pointwise nat_eq k.now) keys ∙ ap (λ n. position (pointwise nat_eq n) (pointed keys)) named ∙ ap f is in
    ap (λ l. l ++ position (same_name k) keys ∷ []) so_far ∙ ap (λ x. map f (take i placements) ++ x ∷ []) here ∙ sym (map_more f placements i placement inside)

pub row_more : {A : Type 0} (view : A → List (Option ℕ)) (cells : List Cell) (rows : List A) (row : A)
    (keys : List (Bor (List ℕ))) (i : ℕ) (cell : Cell) → i < length cells
    → cell ≡ get_or cells i cell → pointed keys ≡ cell_names cells → view row ≡ places_among (pointed keys) cell.placements
    → map view rows ≡ map (λ c. targets_of cells c.placements) (take i cells)
    → map view (rows ++ row ∷ []) ≡ map (λ c. targets_of cells c.placements) (take (i + 1) cells)
unfolding cell_number
row_more view cells rows row keys i cell inside is names here so_far =
    let f : Cell → List (Option ℕ) = λ c. targets_of cells c.placements in
    let this : view row ≡ f (get_or cells i cell) = here ∙ ap (λ ns. places_among ns cell.placements) names ∙ ap f is in
    map_push view rows row ∙ ap (λ l. l ++ view row ∷ []) so_far ∙ ap (λ x. map f (take i cells) ++ x ∷ []) this ∙ sym (map_more f cells i cell inside)

targets_get : (all cells : List Cell) (n : ℕ) → get_or (map (λ c. targets_of all c.placements) cells) n [] ≡ targets_of all (placements_at cells n)
targets_get all [] n = refl
targets_get all (cell ∷ cells) zero = refl
targets_get all (cell ∷ cells) (suc n) = targets_get all cells n

pub row_at : {A : Type 0} (view : A → List (Option ℕ)) (cells : List Cell) (rows : List A) (n : ℕ) (row : A)
    → n < length cells → map view rows ≡ all_targets cells → row ≡ get_or rows n row → view row ≡ targets_at cells n
row_at view cells rows n row inside is here =
    let long : n < length rows = omega (arith, length-map rows view, ap length is, length-map cells (λ c. targets_of cells c.placements)) in
    ap view here ∙ sym (get_or-map view rows n row [] long) ∙ ap (λ l. get_or l n []) is ∙ targets_get cells cells n

targets_below_of : (all : List Cell) (placements : List Placement) → AreTargetsBelow (length all) (targets_of all placements)
targets_below_of all [] k m here = absurd (none-some (Some m) here)
targets_below_of all (placement ∷ placements) zero m here = number_within all placement.target m (same_Some (cell_number all placement.target) (Some m) here)
targets_below_of all (placement ∷ placements) (suc k) m here = targets_below_of all placements k m here

pub targets_below : (cells : List Cell) (n : ℕ) → AreTargetsBelow (length cells) (targets_at cells n)
targets_below cells n = targets_below_of cells (placements_at cells n)
