-- Entries whose pieces stand one after another in one list: what stays where more is put at the end, and what is read.
use Rattle.std.proofs.Common.{◌≡◌, ℕ, zero, suc, ◌+◌, ◌-◌, ◌/◌, ◌%◌, ◌^◌, ◌<◌, ◌≤◌, List, [], ◌∷◌, ◌++◌, Some, map, take, drop, length, get_or, slice_get}
use Rattle.std.proofs.Common.{Result, Ok, Err, OnErr, refl, ap, sym, subst, ◌∙◌, arith, append-nil, length-append}
use Rattle.std.proofs.Math.Seq.{drop-append_seam, get_or-append_seam}
use Rattle.std.proofs.lemmas.List.{drop-append-le, take-append-le, take_all, length-drop, length-map, map-append, get_or_append_left}
use Rattle.std.proofs.lemmas.Option.{same_Some, slice_get-map, slice_get_within, slice_get_read, get_or_from_slice_get}
use Rattle.std.specs.Option.{option_map}
use Rattle.half_grid.specs.Trapezoids.{Trapezoid}
use Rattle.flat_walk.specs.Kept.{Entry, alone, bare}
use Rattle.flat_walk.specs.Stores.{place_entry, IsPlace, ArePlaces, number_from, seldom_place}
use Rattle.flat_walk.specs.declared.stores.Place.{Place}
use Rattle.flat_walk.specs.declared.stores.Place.TheVariants.{Short, Seldom}

take_drop_more : (first count : ℕ) (xs ys : List Trapezoid) → first + count ≤ length xs → take count (drop first (xs ++ ys)) ≡ take count (drop first xs)
take_drop_more first count xs ys inside =
    let e = length-drop first xs in
    ap (take count) (drop-append-le first xs ys (omega (arith, inside))) ∙ take-append-le count (drop first xs) ys (omega (arith, e, inside))

-- ---- more pieces, and more that is seldom

module _ (pieces added : List Trapezoid) (seldom more : List Entry) where
  place_stays : (place : Place) → IsPlace pieces seldom place → IsPlace (pieces ++ added) (seldom ++ more) place
  place_stays (Short first count) inside = let e = length-append pieces added in omega (arith, e, inside)
  place_stays (Seldom low high) inside = let e = length-append seldom more in omega (arith, e, inside)

  entry_stays : (place : Place) → IsPlace pieces seldom place → place_entry (pieces ++ added) (seldom ++ more) place ≡ place_entry pieces seldom place
  entry_stays (Short first count) inside = ap alone (take_drop_more first count pieces added inside)
  entry_stays (Seldom low high) inside = get_or_append_left seldom more bare (number_from low high) inside

  places_stay : (places : List Place) → ArePlaces pieces seldom places → ArePlaces (pieces ++ added) (seldom ++ more) places
  places_stay [] are = tt
  places_stay (place ∷ places) are = (place_stays place are.0, places_stay places are.1)

  view_stays : (places : List Place) → ArePlaces pieces seldom places
      → map (place_entry (pieces ++ added) (seldom ++ more)) places ≡ map (place_entry pieces seldom) places
  view_stays [] are = refl
  view_stays (place ∷ places) are =
      ap (λ entry. entry ∷ map (place_entry (pieces ++ added) (seldom ++ more)) places) (entry_stays place are.0)
      ∙ ap (λ l. place_entry pieces seldom place ∷ l) (view_stays places are.1)

-- the entries are as before, and still there
pub record AreAsBefore (pieces : List Trapezoid) (seldom : List Entry) (places : List Place) (before : List Entry) : Type 0 where
  pub there : ArePlaces pieces seldom places
  pub view : map (place_entry pieces seldom) places ≡ before

pub seldom_before : (pieces : List Trapezoid) (seldom more seldom' : List Entry) (places places' : List Place) (before : List Entry)
    → seldom' ≡ seldom ++ more → places' ≡ places → ArePlaces pieces seldom places → map (place_entry pieces seldom) places ≡ before
    → AreAsBefore pieces seldom' places' before
seldom_before pieces seldom more seldom' places places' before is same are view =
    subst (λ l. AreAsBefore pieces seldom' l before) (sym same)
    (subst (λ l. AreAsBefore l seldom' places before) (append-nil pieces)
    (subst (λ l. AreAsBefore (pieces ++ []) l places before) (sym is)
    (record { there = places_stay pieces [] seldom more places are; view = view_stays pieces [] seldom more places are ∙ view })))

pub pieces_before : (pieces added pieces' : List Trapezoid) (seldom : List Entry) (places places' : List Place) (before : List Entry)
    → pieces' ≡ pieces ++ added → places' ≡ places → ArePlaces pieces seldom places → map (place_entry pieces seldom) places ≡ before
    → AreAsBefore pieces' seldom places' before
pieces_before pieces added pieces' seldom places places' before is same are view =
    subst (λ l. AreAsBefore pieces' seldom l before) (sym same)
    (subst (λ l. AreAsBefore pieces' l places before) (append-nil seldom)
    (subst (λ l. AreAsBefore l (seldom ++ []) places before) (sym is)
    (record { there = places_stay pieces added seldom [] places are; view = view_stays pieces added seldom [] places are ∙ view })))

-- ---- one place more

places_more : (pieces : List Trapezoid) (seldom : List Entry) (places : List Place) (place : Place) → ArePlaces pieces seldom places
    → IsPlace pieces seldom place → ArePlaces pieces seldom (places ++ place ∷ [])
places_more pieces seldom [] place are is = (is, tt)
places_more pieces seldom (p ∷ places) place are is = (are.0, places_more pieces seldom places place are.1 is)

-- the entries are as before, and then this one
pub record AreThen (pieces : List Trapezoid) (seldom : List Entry) (places : List Place) (before : List Entry) (entry : Entry) : Type 0 where
  pub there : ArePlaces pieces seldom places
  pub view : map (place_entry pieces seldom) places ≡ before ++ entry ∷ []

placed_then : (pieces : List Trapezoid) (seldom : List Entry) (places places' : List Place) (place : Place) (before : List Entry) (entry : Entry)
    → places' ≡ places ++ place ∷ [] → ArePlaces pieces seldom places → map (place_entry pieces seldom) places ≡ before
    → IsPlace pieces seldom place → place_entry pieces seldom place ≡ entry → AreThen pieces seldom places' before entry
placed_then pieces seldom places places' place before entry is are view inside here =
    subst (λ l. AreThen pieces seldom l before entry) (sym is) (record {
      there = places_more pieces seldom places place are inside;
      view = map-append (place_entry pieces seldom) places (place ∷ [])
          ∙ (ap (λ l. l ++ place_entry pieces seldom place ∷ []) view ∙ ap (λ e. before ++ e ∷ []) here);
    })

number_back : (n : ℕ) → number_from (n % 2 ^ 32) (n / 2 ^ 32) ≡ n
number_back n = omega arith

-- what is seldom is put at the end
pub seldom_then : (pieces : List Trapezoid) (seldom seldom' : List Entry) (places places' : List Place) (before : List Entry) (number : ℕ) (entry : Entry)
    → number ≡ length seldom → seldom' ≡ seldom ++ entry ∷ [] → places' ≡ places ++ seldom_place number ∷ [] → ArePlaces pieces seldom places
    → map (place_entry pieces seldom) places ≡ before → AreThen pieces seldom' places' before entry
seldom_then pieces seldom seldom' places places' before number entry at is placed are view =
    let stays = seldom_before pieces seldom (entry ∷ []) seldom' places places before is refl are view in
    let e = length-append seldom (entry ∷ []) in
    let f = ap length is in
    let g = number_back number in
    placed_then pieces seldom' places places' (seldom_place number) before entry placed stays.there stays.view (omega (arith, e, f, g, at))
    (ap (λ l. get_or l (number_from (number % 2 ^ 32) (number / 2 ^ 32)) bare) is
    ∙ (ap (λ n. get_or (seldom ++ entry ∷ []) n bare) (g ∙ at) ∙ get_or-append_seam seldom entry [] bare))

-- the pieces of a shape are put at the end
pub short_then : (pieces added pieces' : List Trapezoid) (seldom : List Entry) (places places' : List Place) (before : List Entry) (first count : ℕ)
    → first ≡ length pieces → count ≡ length added → pieces' ≡ pieces ++ added → places' ≡ places ++ Short first count ∷ []
    → ArePlaces pieces seldom places → map (place_entry pieces seldom) places ≡ before → AreThen pieces' seldom places' before (alone added)
short_then pieces added pieces' seldom places places' before first count at long is placed are view =
    let stays = pieces_before pieces added pieces' seldom places places before is refl are view in
    let e = length-append pieces added in
    let f = ap length is in
    let dropped : drop first pieces' ≡ added = ap (drop first) is ∙ (ap (λ n. drop n (pieces ++ added)) at ∙ drop-append_seam pieces added) in
    placed_then pieces' seldom places places' (Short first count) before (alone added) placed stays.there stays.view (omega (arith, e, f, at, long))
    (ap alone (ap (take count) dropped ∙ take_all count added (omega (arith, long))))

-- ---- an entry is read

place_inside : (pieces : List Trapezoid) (seldom : List Entry) (places : List Place) (n : ℕ) (place : Place) → ArePlaces pieces seldom places
    → slice_get places n ≡ Some place → IsPlace pieces seldom place
place_inside pieces seldom [] n place are there = let h = slice_get_within [] n place there in absurd (omega (arith, h))
place_inside pieces seldom (p ∷ places) zero place are there = subst (IsPlace pieces seldom) (same_Some p place there) are.0
place_inside pieces seldom (p ∷ places) (suc n) place are there = place_inside pieces seldom places n place are.1 there

module _ (pieces : List Trapezoid) (seldom : List Entry) (places : List Place) (before : List Entry) (n : ℕ) (found place : Place)
    (view : map (place_entry pieces seldom) places ≡ before) (inside : n < length before) (is : found ≡ get_or places n found) (here : found ≡ place) where
  place_read : slice_get places n ≡ Some place
  place_read =
      let e = ap length view in
      let f = length-map places (place_entry pieces seldom) in
      slice_get_read places (length places) n found refl (omega (arith, inside, e, f)) is ∙ ap Some here

  pub place_there : ArePlaces pieces seldom places → IsPlace pieces seldom place
  place_there are = place_inside pieces seldom places n place are place_read

  pub entry_there : (entry : Entry) → place_entry pieces seldom place ≡ entry → slice_get before n ≡ Some entry
  entry_there entry stands =
      ap (λ l. slice_get l n) (sym view)
      ∙ (slice_get-map (place_entry pieces seldom) places n
      ∙ (ap (option_map (place_entry pieces seldom)) place_read ∙ ap Some stands))

pub seldom_read : (seldom : List Entry) (number : ℕ) (found entry : Entry) → number < length seldom → found ≡ get_or seldom number found → found ≡ entry
    → get_or seldom number bare ≡ entry
seldom_read seldom number found entry inside is here =
    get_or_from_slice_get seldom number found bare (slice_get_read seldom (length seldom) number found refl inside is) ∙ here

pub part_is : (pieces part : List Trapezoid) (first count : ℕ) → part ≡ pieces
    → take count (drop first pieces) ≡ take ((first + count) - first) (drop first part)
part_is pieces part first count is =
    let e : count ≡ (first + count) - first = omega arith in
    ap (λ n. take n (drop first pieces)) e ∙ ap (λ l. take ((first + count) - first) (drop first l)) (sym is)

pub err_from : {T E P : Type 0} (r : Result T E) → P → OnErr r P
err_from (Ok x) p = tt
err_from (Err e) p = p
