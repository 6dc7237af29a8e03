-- Rows of windows that were passed by, one after another.
use Rattle.std.proofs.Common.{ℕ, ◌+◌, ◌<◌, ◌≡◌, ℤ, pos, ◌+ℤ◌, ◌*ℤ◌, ◌≤ℤ◌, ◌<ℤ◌, List, [], length, get_or, take, arith, refl, ap, subst, ◌∙◌, sym}
use Rattle.std.proofs.lemmas.Int.{ints, by_lt_z}
use Rattle.std.proofs.lemmas.List.Elements.{All-nil, All-more, All-weaker}
use Rattle.std.specs.Int.{int_gap}
use Rattle.std.specs.List.{All}
use Rattle.half_grid.specs.Trapezoids.{Trapezoid}
use Rattle.half_grid.specs.declared.plane.Tile.{Tile}
use Rattle.density_map.specs.Rows.{RowMap}
use Rattle.density_map.specs.Windows.{IsWindowSize}
use Rattle.density_map.proofs.ForCallers.{gap_is, multiples, less_by_multiples}
use Rattle.deck_plan.specs.Needs.{IsAskedBand}
use Rattle.deck_plan.specs.Plans.{Planned, planned_area}
use Rattle.density_report.specs.declared.strips.Batch.{Batch}
use Rattle.density_report.specs.declared.strips.Mesh.{Mesh}
use Rattle.density_report.specs.declared.strips.Portion.{Portion}
use Rattle.density_report.specs.declared.strips.Strip.{Strip}
use Rattle.density_report.specs.Rows.{rows_of, AreCountsFrom, AreFewRows, AreTrapsOf, HasNone, IsBatch, IsFilled, IsPart, IsPassed, IsPortion}
use Rattle.density_report.proofs.MapLemmas.{none_passed}
use Rattle.density_report.proofs.StripLemmas.{from_row}
use Rattle.density_report.proofs.TableLemmas.{some_size}

-- the rows that an area is asked for
pub asked : (batch : Batch) → IsBatch batch → AreFewRows batch → IsAskedBand (rows_of batch)
asked batch b f =
    let low = b.low in
    let high = b.high in
    let order = b.order in
    let few = f.few in
    record {
      is_band = record {
        low = record { low = omega (arith, ints, low); high = omega (arith, ints, order, high) };
        high = record { low = omega (arith, ints, order, low); high = omega (arith, ints, high) };
        has_rows = f.some;
      };
      few = few;
    }

-- none yet
pub none_yet : (area : Tile → Type 0) (left : Batch) → IsBatch left → IsPassed area left left
none_yet area left b = record {
  mesh = refl;
  end = refl;
  forward = omega (arith, ints);
  batch = b;
  none = λ t a low high. omega (arith, ints, low, high);
}

-- some, and some more
pub one_passed : (area : Tile → Type 0) (old : Batch) (row : ℤ) → IsBatch old → old.row ≤ℤ row → row ≤ℤ old.end → HasNone area old.mesh.size old.row row
    → IsPassed area old (record { mesh = old.mesh; row = row; end = old.end })
one_passed area old row b up inside none = record {
  mesh = refl;
  end = refl;
  forward = up;
  batch = from_row old row b up inside;
  none = none;
}

pub passed_both : (area : Tile → Type 0) (a b c : Batch) → IsPassed area a b → IsPassed area b c → IsPassed area a c
passed_both area a b c p q =
    let first = p.forward in
    let second = q.forward in
    record {
      mesh = q.mesh ∙ p.mesh;
      end = q.end ∙ p.end;
      forward = omega (arith, ints, first, second);
      batch = q.batch;
      none = λ t taken low high. by_lt_z t.j (b.row *ℤ a.mesh.size)
          (λ less. p.none t taken low less)
          (λ from. q.none t taken
          (subst (λ (m : Mesh). (b.row *ℤ m.size) ≤ℤ t.j) (sym p.mesh) from)
          (subst (λ (m : Mesh). t.j <ℤ (c.row *ℤ m.size)) (sym p.mesh) high));
    }

-- the same, as it is read
pub passed_as : (area : Tile → Type 0) (old new : Batch) (row : ℤ) → new.mesh ≡ old.mesh → new.row ≡ row → new.end ≡ old.end
    → IsPassed area old (record { mesh = old.mesh; row = row; end = old.end }) → IsPassed area old new
passed_as area old new row mesh at end p =
    subst (λ (m : Mesh). IsPassed area old (record { mesh = m; row = new.row; end = new.end })) (sym mesh)
    (subst (λ (r : ℤ). IsPassed area old (record { mesh = old.mesh; row = r; end = new.end })) (sym at)
    (subst (λ (e : ℤ). IsPassed area old (record { mesh = old.mesh; row = row; end = e })) (sym end) p))

-- those up to the first row of windows that trapezoids have, where these are the area in the first ones
pub first_passed : (p : Planned) (k : ℕ) (left part : Batch) (traps read : List Trapezoid) (first : Strip)
    → IsBatch left → IsPart left part → AreTrapsOf p k part traps → read ≡ traps
    → first.size ≡ part.mesh.size → part.row ≤ℤ first.row → first.row ≤ℤ part.end → All (λ (z : Trapezoid). (first.row *ℤ first.size) ≤ℤ z.y0) read
    → IsPassed (planned_area p k) left (record { mesh = left.mesh; row = first.row; end = left.end })
first_passed p k left part traps read first b is of same size from up_to below =
    let row = is.row in
    let top = is.up_to in
    let low = subst (λ (s : ℤ). All (λ (z : Trapezoid). (first.row *ℤ s) ≤ℤ z.y0) traps) size
    (subst (λ (ts : List Trapezoid). All (λ (z : Trapezoid). (first.row *ℤ first.size) ≤ℤ z.y0) ts) same below)
    in
    let none = none_passed p k part traps first.row is.batch of low up_to in
    one_passed (planned_area p k) left first.row b (omega (arith, ints, row, from)) (omega (arith, ints, up_to, top))
    (subst (λ (r : ℤ). HasNone (planned_area p k) left.mesh.size r first.row) is.row
    (subst (λ (m : Mesh). HasNone (planned_area p k) m.size part.row first.row) is.mesh none))

-- all of the first ones, where there is no trapezoid
pub all_passed : (p : Planned) (k : ℕ) (left part : Batch) (traps : List Trapezoid) → IsBatch left → IsPart left part → AreTrapsOf p k part traps → traps ≡ []
    → IsPassed (planned_area p k) left (record { mesh = left.mesh; row = part.end; end = left.end })
all_passed p k left part traps b is of none =
    let some = is.some in
    first_passed p k left part traps [] (record { size = part.mesh.size; row = part.end }) b is of (sym none) refl
    (omega (arith, ints, some)) (omega (arith, ints))
    (All-nil (λ (z : Trapezoid). (part.end *ℤ part.mesh.size) ≤ℤ z.y0))

-- as many rows, or more
pub portion_more : (size other : ℤ) (old new : Portion) → other ≡ size → IsPortion size old → old.rows ≤ℤ new.rows
    → new.rows ≤ℤ pos 16777216 → IsPortion other new
portion_more size other old new e p more most =
    let low = p.low in
    let some = p.some in
    record { low = omega (arith, ints, low, more, e); high = most; some = omega (arith, ints, some, e) }

-- where none is put
pub passed_only : (area : Tile → Type 0) (old new : Batch) (maps : List RowMap) → maps ≡ [] → old.row <ℤ new.row
    → IsPassed area old new → IsFilled area old new maps
passed_only area old new maps none up p =
    let count = ap (λ (l : List RowMap). length l) none in
    let ascending = p.batch.ascending in
    record {
      passed = p;
      counts = record { each = λ at d inside. absurd (omega (arith, count, inside)) };
      inside = omega (arith, ints, count, ascending);
      some = λ same. absurd (omega (arith, ints, same, up));
    }

-- where the first ones were put
pub filled : (area : Tile → Type 0) (left part : Batch) (maps : List RowMap) → IsBatch left → IsPart left part → length maps ≡ int_gap part.row part.end
    → AreCountsFrom area part.mesh.size part.row maps → IsFilled area left left maps
filled area left part maps b p count are =
    let gap = gap_is part.row part.end p.batch.ascending in
    let up_to = p.up_to in
    let row = p.row in
    let more = p.some in
    record {
      passed = none_yet area left b;
      counts = subst (λ (r : ℤ). AreCountsFrom area left.mesh.size r maps) p.row (subst (λ (m : Mesh). AreCountsFrom area m.size part.row maps) p.mesh are);
      inside = omega (arith, ints, count, gap, up_to, row);
      some = λ same. omega (arith, ints, count, gap, more);
    }

-- ---- the first row of windows that trapezoids have

pub lower_below : (first : Strip) (z : Trapezoid) (row y : ℤ) → IsWindowSize first.size → y ≡ z.y0
    → (row *ℤ first.size) ≤ℤ y → first.row ≤ℤ row → (first.row *ℤ first.size) ≤ℤ z.y0
lower_below first z row y h e from up =
    let rise = multiples first.row row first.size (some_size first.size h) up in
    omega (arith, ints, rise, from, e)

pub lower_greatest : (first : Strip) (z : Trapezoid) (row y : ℤ) → IsWindowSize first.size → y ≡ z.y0 → y <ℤ ((row +ℤ pos 1) *ℤ first.size)
    → (other : ℤ) → other ≤ℤ first.row → (other *ℤ first.size) ≤ℤ z.y0 → other ≤ℤ row
lower_greatest first z row y h e below other up low =
    let less = less_by_multiples other (row +ℤ pos 1) first.size (some_size first.size h) (omega (arith, ints, low, e, below)) in
    omega (arith, ints, less)

-- one more trapezoid
pub first_below : (traps : List Trapezoid) (i : ℕ) (z : Trapezoid) (old new size : ℤ) → IsWindowSize size
    → i < length traps → z ≡ get_or traps i z → new ≤ℤ old → (new *ℤ size) ≤ℤ z.y0
    → All (λ (x : Trapezoid). (old *ℤ size) ≤ℤ x.y0) (take i traps) → All (λ (x : Trapezoid). (new *ℤ size) ≤ℤ x.y0) (take (i + 1) traps)
first_below traps i z old new size h inside is down here up =
    let rise = multiples new old size (some_size size h) down in
    All-more (λ (x : Trapezoid). (new *ℤ size) ≤ℤ x.y0) traps i z inside
    (All-weaker (λ (x : Trapezoid). (old *ℤ size) ≤ℤ x.y0) (λ (x : Trapezoid). (new *ℤ size) ≤ℤ x.y0)
    (λ x low. omega (arith, ints, low, rise)) (take i traps) up)
    (subst (λ (x : Trapezoid). (new *ℤ size) ≤ℤ x.y0) is here)
