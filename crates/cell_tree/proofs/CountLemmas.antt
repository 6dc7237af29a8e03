-- Counts of flattened shapes, cell by cell.
use Rattle.std.proofs.Common.{◌≡◌, ℕ, ◌+◌, ◌*◌, ◌^◌, ◌<◌, ◌≤◌, List, [], ◌∷◌, ◌++◌, Option, Some, None, length, take}
use Rattle.std.proofs.Common.{get_or, slice_get, refl, sym, ap, ◌∙◌, arith}
use Rattle.std.specs.List.{sum_by}
use Rattle.std.specs.Option.{option_map_or}
use Rattle.std.proofs.lemmas.List.{take_more, take_all, length-map}
use Rattle.std.proofs.lemmas.Option.{slice_get-get_or, get_or_from_slice_get, slice_get_within}
use Rattle.std.proofs.lemmas.List.Sums.{sum_by_push}
use Rattle.layout_model.specs.declared.shapes.Shape.{Shape}
use Rattle.layout_model.specs.declared.cells.Placement.{Placement}
use Rattle.layout_model.specs.declared.cells.Cell.{Cell}
use Rattle.cell_tree.specs.Cells.{PlacesAt, shapes_at, placements_at, targets_at, cell_number}
use Rattle.cell_tree.specs.Chains.{IsShort}
use Rattle.cell_tree.specs.Flattening.{shape_count}
use Rattle.cell_tree.specs.Counting.{saturated, own_count, placed_count, copies_of}
use Rattle.cell_tree.proofs.SlotLemmas.{slot_map}
use Rattle.cell_tree.proofs.FlatLemmas.{count_is}

abbrev pub IsCount : List Cell → ℕ → ℕ → Type 0
IsCount cells n count = (count ≡ shape_count cells n) × (count ≤ 2 ^ 40)

pub copies_is : (cells : List Cell) (counts : List ℕ) (placement : Placement) (target : Option ℕ) → target ≡ cell_number cells placement.target
    → ((m : ℕ) → target ≡ Some m → get_or counts m 0 ≡ shape_count cells m) → copies_of counts placement target ≡ placed_count cells placement
copies_is cells counts placement target is known = by target is known
  where
    by : (o : Option ℕ) → o ≡ cell_number cells placement.target → ((m : ℕ) → o ≡ Some m → get_or counts m 0 ≡ shape_count cells m)
        → length placement.offsets * option_map_or (λ m. get_or counts m 0) o 0
        ≡ length placement.offsets * option_map_or (shape_count cells) (cell_number cells placement.target) 0
    by None e known = ap (λ o. length placement.offsets * option_map_or (shape_count cells) o 0) e
    by (Some m) e known = ap (λ n. length placement.offsets * n) (known m refl) ∙ ap (λ o. length placement.offsets * option_map_or (shape_count cells) o 0) e

-- one more shape
pub shape_counted : (shapes : List Shape) (k count : ℕ) (shape : Shape) → slice_get shapes k ≡ Some shape
    → count ≡ saturated (own_count (take k shapes))
    → saturated (count + length shape.offsets) ≡ saturated (own_count (take (k + 1) shapes))
shape_counted shapes k count shape here so =
    let e = take_more shapes k shape (slice_get_within shapes k shape here) in
    let is = get_or_from_slice_get shapes k shape shape here in
    let s = ap (λ l. sum_by (λ (s : Shape). length s.offsets) l) (e ∙ ap (λ p. take k shapes ++ p ∷ []) is)
    ∙ sum_by_push (λ (s : Shape). length s.offsets) (take k shapes) shape in
    omega arith

-- one more placement
pub count_more : (cells : List Cell) (n k own : ℕ) (count copies : ℕ) (placement : Placement)
    → k < length (placements_at cells n) → get_or (placements_at cells n) k placement ≡ placement
    → count ≡ saturated (own + sum_by (placed_count cells) (take k (placements_at cells n))) → copies ≡ saturated (placed_count cells placement)
    → saturated (count + copies) ≡ saturated (own + sum_by (placed_count cells) (take (k + 1) (placements_at cells n)))
count_more cells n k own count copies placement inside is so this =
    let e = take_more (placements_at cells n) k placement inside in
    let s = ap (λ l. sum_by (placed_count cells) l) (e ∙ ap (λ p. take k (placements_at cells n) ++ p ∷ []) is)
    ∙ sum_by_push (placed_count cells) (take k (placements_at cells n)) placement in
    omega arith

-- a placement that is looked at, as the code shows it
pub step_count : (cells : List Cell) (n k own count copies : ℕ) (counts : List ℕ) (placements : List Placement)
    (targets : List (Option ℕ)) (placement : Placement)
    → placements ≡ placements_at cells n → targets ≡ targets_at cells n → k < length targets → placement ≡ get_or placements k placement
    → ((k m : ℕ) → PlacesAt cells n k m → get_or counts m 0 ≡ shape_count cells m)
    → count ≡ saturated (own + sum_by (placed_count cells) (take k (placements_at cells n)))
    → copies ≡ saturated (copies_of counts placement (get_or targets k None))
    → saturated (count + copies) ≡ saturated (own + sum_by (placed_count cells) (take (k + 1) (placements_at cells n)))
step_count cells n k own count copies counts placements targets placement p t inside is known so this =
    let long : k < length (placements_at cells n) = omega (arith, ap length t, length-map (placements_at cells n) (λ p. cell_number cells p.target)) in
    let is' : get_or (placements_at cells n) k placement ≡ placement = ap (λ l. get_or l k placement) (sym p) ∙ sym is in
    let slot : slice_get (placements_at cells n) k ≡ Some placement = slice_get-get_or (placements_at cells n) k placement long ∙ ap Some is' in
    let e : get_or targets k None ≡ cell_number cells placement.target =
    ap (λ l. get_or l k None) t ∙ get_or_from_slice_get (targets_at cells n) k
    (cell_number cells placement.target) None
    (slot_map (λ p. cell_number cells p.target) (placements_at cells n) k placement slot) in
    let same = copies_is cells counts placement (get_or targets k None) e
    (λ m at. known k m (slot_map (λ p. cell_number cells p.target) (placements_at cells n) k placement slot ∙ ap Some (sym e ∙ at))) in
    count_more cells n k own count copies placement long is' so (this ∙ ap saturated same)

pub all_counted : (cells : List Cell) (n k own count : ℕ) (targets : List (Option ℕ)) → targets ≡ targets_at cells n
    → length targets ≤ k → IsShort cells 64 n → own ≡ own_count (shapes_at cells n)
    → count ≡ saturated (own + sum_by (placed_count cells) (take k (placements_at cells n))) → count ≡ saturated (shape_count cells n)
all_counted cells n k own count targets t past short mine so =
    let long : length (placements_at cells n) ≤ k = omega (arith, ap length t, length-map (placements_at cells n) (λ p. cell_number cells p.target)) in
    let whole = ap (λ l. sum_by (placed_count cells) l) (take_all k (placements_at cells n) long) in
    let is = count_is cells n short in omega arith

pub exact : (n count : ℕ) → count ≡ saturated n → count ≤ 2 ^ 40 → (count ≡ n) × (count ≤ 2 ^ 40)
exact n count is small = (omega arith, small)

pub crowded : (n count : ℕ) → count ≡ saturated n → 2 ^ 40 < count → 2 ^ 40 < n
crowded n count is many = omega arith
