-- Rows of windows, as numbers.
use Rattle.std.proofs.Common.{ℕ, ◌+◌, ◌*◌, ◌-◌, ◌<◌, ◌≡◌, ℤ, pos, neg_ℤ, ◌+ℤ◌, ◌-ℤ◌, ◌*ℤ◌, ◌≤ℤ◌, ◌<ℤ◌, arith, refl, sym, ap, subst, ◌∙◌}
use Rattle.std.proofs.lemmas.Int.{ints, clamps, by_lt_z}
use Rattle.std.specs.Int.{int_gap, int_min}
use Rattle.half_grid.specs.JoinedLists.{IsInWindow}
use Rattle.half_grid.specs.Trapezoids.{Trapezoid}
use Rattle.half_grid.specs.Windows.{RowRange, row_range}
use Rattle.density_map.specs.Frames.{IsNearSide}
use Rattle.density_map.specs.Windows.{IsWindowSize, IsRowWithinReach}
use Rattle.density_map.proofs.ForCallers.{next_side, multiples, less_by_multiples, gap_is, no_gap}
use Rattle.deck_plan.specs.Bands.{AreRowsNear}
use Rattle.density_report.specs.declared.strips.Batch.{Batch}
use Rattle.density_report.specs.declared.strips.Mesh.{Mesh}
use Rattle.density_report.specs.declared.strips.Portion.{Portion}
use Rattle.density_report.specs.Rows.{rows_of, AreNearRows, HoldRows, IsBatch, IsPart, IsPortion, ArePlacesOf}

some : (size : ℤ) → IsWindowSize size → pos 0 <ℤ size
some size h = let low = h.low in omega (arith, ints, low)

-- a multiple that is no greater is of a number that is no greater
no_more : (k m size : ℤ) → IsWindowSize size → (k *ℤ size) ≤ℤ (m *ℤ size) → k ≤ℤ m
no_more k m size h up =
    let next = next_side m size in
    let least = h.low in
    let less = less_by_multiples k (m +ℤ pos 1) size (some size h) (omega (arith, ints, up, next, least)) in
    omega (arith, ints, less)

-- a number is less than that after the one below it
last_side : (end size : ℤ) → (end *ℤ size) ≡ ((end -ℤ pos 1) *ℤ size) +ℤ size
last_side end size =
    let same : end ≡ (end -ℤ pos 1) +ℤ pos 1 = omega (arith, ints) in
    ap (λ (k : ℤ). k *ℤ size) same ∙ next_side (end -ℤ pos 1) size

-- the rows of windows from that of the first row up to that of the last row
pub hold_rows : (size : ℤ) (rows : RowRange) (y0 y1 row last : ℤ) → y0 ≡ rows.y0 → y1 ≡ rows.y1 → (row *ℤ size) ≤ℤ y0
    → y0 <ℤ ((row +ℤ pos 1) *ℤ size) → IsNearSide row
    → (last *ℤ size) ≤ℤ (y1 -ℤ pos 1) → (y1 -ℤ pos 1) <ℤ ((last +ℤ pos 1) *ℤ size) → IsNearSide last → HoldRows size rows row (last +ℤ pos 1)
hold_rows size rows y0 y1 row last e f from below near from_last below_last near_last =
    let low = near.low in
    let low_last = near_last.low in
    let high = near_last.high in
    let same : (last +ℤ pos 1) -ℤ pos 1 ≡ last = omega (arith, ints) in
    let side = ap (λ (k : ℤ). k *ℤ size) same in
    record {
      from = omega (arith, ints, from, e);
      not_before = omega (arith, ints, below, e);
      up_to = omega (arith, ints, below_last, f);
      not_after = omega (arith, ints, side, from_last, f);
      low = omega (arith, ints, low);
      end_low = omega (arith, ints, low_last);
      high = omega (arith, ints, high);
    }

pub is_batch : (size row end : ℤ) → IsWindowSize size → neg_ℤ (pos 4294967296) ≤ℤ (row *ℤ size) → (end *ℤ size) ≤ℤ pos 4294967296 → row ≤ℤ end
    → IsBatch (record { mesh = record { size = size }; row = row; end = end })
is_batch size row end h low high up =
    let least = h.low in
    let below : end <ℤ pos 4294967297 = less_by_multiples end (pos 4294967297) size (some size h) (omega (arith, ints, high, least)) in
    let above : neg_ℤ (pos 4294967297) <ℤ row = less_by_multiples (neg_ℤ (pos 4294967297)) row size (some size h) (omega (arith, ints, low, least)) in
    record {
      size = h;
      low = low;
      order = multiples row end size (some size h) up;
      high = high;
      least = omega (arith, ints, above);
      ascending = up;
      most = omega (arith, ints, below);
    }

-- those of an output's rows
pub batch_of_rows : (mesh : Mesh) (rows : RowRange) (batch : Batch) → IsWindowSize mesh.size → AreRowsNear rows
    → batch.mesh ≡ mesh → HoldRows mesh.size rows batch.row batch.end → IsBatch batch
batch_of_rows mesh rows batch h near same hold =
    let low = near.low in
    let high = near.high in
    let window = near.window in
    let next = next_side batch.row mesh.size in
    let last = last_side batch.end mesh.size in
    let most = h.high in
    let from = hold.from in
    let not_before = hold.not_before in
    let up_to = hold.up_to in
    let not_after = hold.not_after in
    let up = no_more batch.row batch.end mesh.size h (omega (arith, ints, from, window, up_to)) in
    let made = is_batch mesh.size batch.row batch.end h (omega (arith, ints, low, not_before, next, most))
    (omega (arith, ints, high, not_after, last, most)) up in
    subst (λ (m : Mesh). IsBatch (record { mesh = m; row = batch.row; end = batch.end })) (sym same) made

pub near_of_rows : (rows : RowRange) → AreRowsNear rows → AreNearRows rows
near_of_rows rows near =
    let low = near.low in
    let high = near.high in
    record { low = omega (arith, ints, low); high = omega (arith, ints, high); window = near.window }

-- those from a later row of windows on
pub from_row : (old : Batch) (row : ℤ) → IsBatch old → old.row ≤ℤ row → row ≤ℤ old.end → IsBatch (record { mesh = old.mesh; row = row; end = old.end })
from_row old row b up inside =
    let low = b.low in
    let more = multiples old.row row old.mesh.size (some old.mesh.size b.size) up in
    is_batch old.mesh.size row old.end b.size (omega (arith, ints, low, more)) b.high inside

-- the same where the record is made of parts
pub from_parts : (old new : Batch) (row : ℤ) → IsBatch old → new.mesh ≡ old.mesh → new.row ≡ row → new.end ≡ old.end
    → old.row ≤ℤ row → row ≤ℤ old.end → IsBatch new
from_parts old new row b mesh at end up inside =
    subst (λ (m : Mesh). IsBatch (record { mesh = m; row = new.row; end = new.end })) (sym mesh)
    (subst (λ (r : ℤ). IsBatch (record { mesh = old.mesh; row = r; end = new.end })) (sym at)
    (subst (λ (e : ℤ). IsBatch (record { mesh = old.mesh; row = row; end = e })) (sym end) (from_row old row b up inside)))

-- all but the last
pub but_last : (old new : Batch) → IsBatch old → old.row <ℤ old.end → new.mesh ≡ old.mesh → new.row ≡ old.row → new.end ≡ old.end -ℤ pos 1 → IsBatch new
but_last old new b some_left mesh row end =
    let size = old.mesh.size in
    let high = b.high in
    let less = multiples (old.end -ℤ pos 1) old.end old.mesh.size (some old.mesh.size b.size) (omega (arith, ints)) in
    let made = is_batch old.mesh.size old.row (old.end -ℤ pos 1) b.size b.low (omega (arith, ints, less, high)) (omega (arith, ints, some_left)) in
    subst (λ (m : Mesh). IsBatch (record { mesh = m; row = new.row; end = new.end })) (sym mesh)
    (subst (λ (r : ℤ). IsBatch (record { mesh = old.mesh; row = r; end = new.end })) (sym row)
    (subst (λ (e : ℤ). IsBatch (record { mesh = old.mesh; row = old.row; end = e })) (sym end) made))

pub near_top : (left : Batch) (portion : Portion) → IsBatch left → IsPortion left.mesh.size portion → IsNearSide ((left.row *ℤ left.mesh.size) +ℤ portion.rows)
near_top left portion b p =
    let low = b.low in
    let order = b.order in
    let high = b.high in
    let some_rows = p.some in
    let least = p.low in
    let most = p.high in
    record { low = omega (arith, ints, low, least, some_rows); high = omega (arith, ints, order, high, most) }

-- the first of them, with no more rows than the portion has
pub part_of : (left : Batch) (portion : Portion) (end : ℤ) → IsBatch left → left.row <ℤ left.end → IsPortion left.mesh.size portion
    → (end *ℤ left.mesh.size) ≤ℤ ((left.row *ℤ left.mesh.size) +ℤ portion.rows)
    → ((left.row *ℤ left.mesh.size) +ℤ portion.rows) <ℤ ((end +ℤ pos 1) *ℤ left.mesh.size)
    → IsPart left (record { mesh = left.mesh; row = left.row; end = int_min end left.end })
part_of left portion end b more p from below =
    let size = left.mesh.size in
    let positive = some size b.size in
    let low = p.low in
    let high = p.high in
    let next = next_side left.row size in
    let less = less_by_multiples (left.row +ℤ pos 1) (end +ℤ pos 1) size positive (omega (arith, ints, next, low, below)) in
    let up : (left.row +ℤ pos 1) ≤ℤ int_min end left.end = omega (arith, ints, clamps, less, more) in
    let under : int_min end left.end ≤ℤ left.end = omega (arith, ints, clamps) in
    let within : int_min end left.end ≤ℤ end = omega (arith, ints, clamps) in
    let bottom = multiples (left.row +ℤ pos 1) (int_min end left.end) size positive up in
    let top = multiples (int_min end left.end) left.end size positive under in
    let short = multiples (int_min end left.end) end size positive within in
    let most = b.high in
    record {
      mesh = refl;
      row = refl;
      some = omega (arith, ints, up);
      up_to = under;
      batch = is_batch size left.row (int_min end left.end) b.size b.low (omega (arith, ints, top, most)) (omega (arith, ints, up));
      few = record { some = omega (arith, ints, bottom, next, positive); few = omega (arith, ints, short, from, high) };
    }

-- the row of windows is within reach where it is one of them
pub reached : (batch : Batch) (row : ℤ) → IsBatch batch → batch.row ≤ℤ row → row <ℤ batch.end → IsRowWithinReach batch.mesh.size row
reached batch row b from below =
    let size = batch.mesh.size in
    let positive = some size b.size in
    let low = b.low in
    let high = b.high in
    let bottom = multiples batch.row row size positive from in
    let top = multiples (row +ℤ pos 1) batch.end size positive (omega (arith, ints, below)) in
    record { low = omega (arith, ints, low, bottom); high = omega (arith, ints, high, top) }

-- the places of the rows of windows that have rows of a trapezoid
pub places_are : (batch : Batch) (z : Trapezoid) (row end : ℤ) (from to : ℕ) → IsBatch batch → IsInWindow (rows_of batch) z → z.y0 <ℤ z.y1
    → HoldRows batch.mesh.size (row_range z.y0 z.y1) row end → from ≡ int_gap end batch.end → to ≡ int_gap row batch.end → ArePlacesOf batch z from to
places_are batch z row end from to b inside legal hold e f =
    let size = batch.mesh.size in
    let positive = some size b.size in
    let low = inside.low in
    let high = inside.high in
    let bottom = hold.from in
    let not_before = hold.not_before in
    let top = hold.up_to in
    let not_after = hold.not_after in
    let under : batch.row <ℤ (row +ℤ pos 1) = less_by_multiples batch.row (row +ℤ pos 1) size positive (omega (arith, ints, low, not_before)) in
    let over : (end -ℤ pos 1) <ℤ batch.end = less_by_multiples (end -ℤ pos 1) batch.end size positive (omega (arith, ints, high, not_after)) in
    let within = no_more row batch.end size b.size (omega (arith, ints, bottom, legal, high)) in
    let all = gap_is batch.row batch.end b.ascending in
    let above = gap_is end batch.end (omega (arith, ints, over)) in
    let both = gap_is row batch.end within in
    let end_is : end ≡ batch.end -ℤ pos from = omega (arith, ints, above, e) in
    let row_is : row ≡ batch.end -ℤ pos to = omega (arith, ints, both, f) in
    record {
      inside = omega (arith, ints, all, both, f, under);
      above = subst (λ (k : ℤ). z.y1 ≤ℤ (k *ℤ size)) end_is top;
      below = subst (λ (k : ℤ). (k *ℤ size) ≤ℤ z.y0) row_is bottom;
    }

-- ---- what is left falls

-- the gap from the first falls
pub gap_shrinks : (a b c : ℤ) → a ≤ℤ c → c <ℤ b → int_gap a c < int_gap a b
gap_shrinks a b c up less =
    let whole = gap_is a b (omega (arith, ints, up, less)) in
    let part = gap_is a c up in
    omega (arith, ints, whole, part, less)

pub row_falls : (old new : Batch) → new.row ≡ old.row → new.end ≡ old.end -ℤ pos 1 → old.row <ℤ old.end → int_gap new.row new.end < int_gap old.row old.end
row_falls old new row end less =
    let falls = gap_shrinks old.row old.end (old.end -ℤ pos 1) (omega (arith, ints, less)) (omega (arith, ints)) in
    subst (λ (r : ℤ). int_gap r new.end < int_gap old.row old.end) (sym row) (subst (λ (e : ℤ). int_gap old.row e < int_gap old.row old.end) (sym end) falls)

-- the gap to the end falls
pub gap_falls : (a b c : ℤ) → a <ℤ c → a <ℤ b → int_gap c b < int_gap a b
gap_falls a b c more less = by_end (gap_is a b (omega (arith, ints, less)))
  where
    by_end : a +ℤ pos (int_gap a b) ≡ b → int_gap c b < int_gap a b
    by_end g = by_lt_z c b (λ l. (let h = gap_is c b (omega (arith, ints, l)) in omega (arith, ints, g, h, more)))
        (λ m. (let none = no_gap c b m in omega (arith, ints, none, g, less)))

-- twice the rows of windows that are left, and one more where no counts are held
abbrev pub steps_left : Batch → ℕ → ℕ
steps_left left held = 2 * int_gap left.row left.end + (1 - held)

pub steps_fall : (old new : Batch) (n m : ℕ) → old.row <ℤ new.row → old.row <ℤ old.end → new.end ≡ old.end → steps_left new m < steps_left old n
steps_fall old new n m up less same =
    let falls = gap_falls old.row old.end new.row up less in
    let end = ap (λ (e : ℤ). int_gap new.row e) same in
    omega (arith, falls, end)

-- also where it has just been put
pub filled_falls : (old new : Batch) (m : ℕ) → old.row ≤ℤ new.row → (old.row ≡ new.row → 0 < m) → old.row <ℤ old.end
    → new.end ≡ old.end → steps_left new m < steps_left old 0
filled_falls old new m up put less same =
    by_lt_z old.row new.row
    (λ more. steps_fall old new 0 m more less same)
    (λ back. (
    let here : old.row ≡ new.row = omega (arith, ints, up, back) in
    let end = ap (λ (e : ℤ). int_gap new.row e) same in
    let row = ap (λ (r : ℤ). int_gap r old.end) here in
    let held = put here in
    omega (arith, end, row, held)
    ))
