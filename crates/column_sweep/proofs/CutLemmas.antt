-- Edges cut to the rows of a window add up there to what they did.
use Rattle.std.proofs.Common.{ℕ, zero, suc, ℤ, pos, ◌≡◌, ◌<◌, ◌≤◌, ◌≤ℤ◌, ◌<ℤ◌, Bool, true, false, ◌&&◌, not, cond, List, [], ◌∷◌, Some, None}
use Rattle.std.proofs.Common.{length, map, set, slice_index_or, count_by, arith, refl, ap, sym, subst, ◌∙◌}
use Rattle.std.specs.Prelude.{int_le, int_lt}
use Rattle.std.specs.Int.{int_min, int_max}
use Rattle.std.proofs.lemmas.Int.{ints, clamps}
use Rattle.half_grid.specs.Edges.{EdgeParts, edge_parts, edges_winding, spans, is_of}
use Rattle.half_grid.specs.Trapezoids.{Trapezoid}
use Rattle.half_grid.specs.Windows.{RowRange}
use Rattle.half_grid.specs.declared.border.Operand.{Operand}
use Rattle.half_grid.specs.declared.border.Operand.TheVariants.{A, B}
use Rattle.half_grid.specs.declared.plane.Line.{Line}
use Rattle.half_grid.specs.declared.plane.Tile.{Tile}
use Rattle.half_grid.proofs.ForCallers.{count_by-cons}
use Rattle.scan_line.specs.Rules.{Takes}
use Rattle.scan_line.specs.Runs.{IsBalanced}
use Rattle.trap_join.specs.Joins.{IsTakenIn}
use Rattle.column_sweep.specs.Cutting.{or_whole, in_rows_of}
use Rattle.column_sweep.specs.RowSums.{up_among, down_among, sum_among, any_line}
use Rattle.column_sweep.specs.Sweeps.{IsSwept}
use Rattle.column_sweep.proofs.Adding.{winding_is_sum, balanced_by_sum, sum_by_balance}

-- ---- an edge inside stays as it is

whole_either : (e : EdgeParts) (b : Bool) → or_whole e (cond b (Some e) None) ≡ e
whole_either e true = refl
whole_either e false = refl

max_left : (y w : ℤ) → w ≤ℤ y → int_max y w ≡ y
max_left y w h = omega (arith, ints, clamps, h)

min_left : (y w : ℤ) → y ≤ℤ w → int_min y w ≡ y
min_left y w h = omega (arith, ints, clamps, h)

pub inside_stays : (window : RowRange) (e : EdgeParts) → window.y0 ≤ℤ e.y0 → e.y1 ≤ℤ window.y1 → in_rows_of window e ≡ e
inside_stays window e low high =
    let bottom = max_left e.y0 window.y0 low in
    let top = min_left e.y1 window.y1 high in
    rw (bottom, top) (whole_either e (int_lt e.y0 e.y1))

-- ---- in a row of the window a cut edge is as it was

low_same : (y w j : ℤ) → w ≤ℤ j → int_le (int_max y w) j ≡ int_le y j
low_same y w j h = grind (arith, ints, clamps)

high_same : (y w j : ℤ) → j <ℤ w → int_lt j (int_min y w) ≡ int_lt j y
high_same y w j h = grind (arith, ints, clamps)

abbrev clip : RowRange → EdgeParts → EdgeParts
clip window e = edge_parts (int_max e.y0 window.y0) (int_min e.y1 window.y1) e.line e.up e.operand

module _ (window : RowRange) (o : Operand) (j : ℤ) (some : Line → Bool) (low : window.y0 ≤ℤ j) (high : j <ℤ window.y1) where
  spans_same : (e : EdgeParts) → spans (clip window e) j ≡ spans e j
  spans_same e = let bottom = low_same e.y0 window.y0 j low in let top = high_same e.y1 window.y1 j high in rw (bottom, top) refl

  up_either : (e : EdgeParts) (b : Bool) → up_among o j some (or_whole e (cond b (Some (clip window e)) None)) ≡ up_among o j some e
  up_either e true = ap (λ (s : Bool). is_of o e.operand && (e.up && (s && some e.line))) (spans_same e)
  up_either e false = refl

  down_either : (e : EdgeParts) (b : Bool) → down_among o j some (or_whole e (cond b (Some (clip window e)) None)) ≡ down_among o j some e
  down_either e true = ap (λ (s : Bool). is_of o e.operand && (not e.up && (s && some e.line))) (spans_same e)
  down_either e false = refl

  count_mapped : (p : EdgeParts → Bool) → ((e : EdgeParts) → p (in_rows_of window e) ≡ p e) → (edges : List EdgeParts)
      → count_by p (map (in_rows_of window) edges) ≡ count_by p edges
  count_mapped p same [] = refl
  count_mapped p same (e ∷ edges) =
      let first = same e in
      let later = count_mapped p same edges in
      count_by-cons p (in_rows_of window e) (map (in_rows_of window) edges) ∙ (rw (first, later) (sym (count_by-cons p e edges)))

  pub sum_cut : (edges : List EdgeParts) → sum_among o j some (map (in_rows_of window) edges) ≡ sum_among o j some edges
  unfolding sum_among
  sum_cut edges =
      let up = count_mapped (up_among o j some) (λ e. up_either e _) edges in
      let down = count_mapped (down_among o j some) (λ e. down_either e _) edges in
      rw (up, down) refl

module _ (window : RowRange) (edges : List EdgeParts) where
  winds_cut : (o : Operand) (t : Tile) → window.y0 ≤ℤ t.j → t.j <ℤ window.y1
      → edges_winding o (map (in_rows_of window) edges) t ≡ edges_winding o edges t
  winds_cut o t low high =
      winding_is_sum o (map (in_rows_of window) edges) t ∙ (sum_cut window o t.j _ low high edges ∙ sym (winding_is_sum o edges t))

  pub balanced_cut : IsBalanced edges window → IsBalanced (map (in_rows_of window) edges) window
  balanced_cut h = λ o j low high.
      balanced_by_sum o j (map (in_rows_of window) edges)
      (sum_cut window o j any_line low high edges ∙ sum_by_balance o j edges (h o j low high))

  module _ (post : ℤ → ℤ → Bool → Type 0) where
    to_whole : (t : Tile) → IsTakenIn post (map (in_rows_of window) edges) window t → IsTakenIn post edges window t
    to_whole t h = record {
      from = h.from;
      below = h.below;
      taken =
          subst (λ (a : ℤ). Takes post a (edges_winding B edges t)) (winds_cut A t h.from h.below)
          (subst (λ (b : ℤ). Takes post (edges_winding A (map (in_rows_of window) edges) t) b) (winds_cut B t h.from h.below) h.taken);
    }

    to_cut : (t : Tile) → IsTakenIn post edges window t → IsTakenIn post (map (in_rows_of window) edges) window t
    to_cut t h = record {
      from = h.from;
      below = h.below;
      taken =
          subst (λ (a : ℤ). Takes post a (edges_winding B (map (in_rows_of window) edges) t)) (sym (winds_cut A t h.from h.below))
          (subst (λ (b : ℤ). Takes post (edges_winding A edges t) b) (sym (winds_cut B t h.from h.below)) h.taken);
    }

    pub swept_cut : (traps : List Trapezoid) → IsSwept post (map (in_rows_of window) edges) window traps → IsSwept post edges window traps
    swept_cut traps h = record {
      joined = h.joined;
      covers = record { once = λ t taken. h.covers.once t (to_cut t taken); never = λ t not. h.covers.never t (λ taken. not (to_whole t taken)) };
    }

-- ---- a list that is changed from its first on

module _ (f : EdgeParts → EdgeParts) where
  abbrev pub changed_up_to : ℕ → List EdgeParts → List EdgeParts
  changed_up_to n [] = []
  changed_up_to zero (e ∷ edges) = e ∷ edges
  changed_up_to (suc n) (e ∷ edges) = f e ∷ changed_up_to n edges

  pub changed_none : (edges : List EdgeParts) → changed_up_to 0 edges ≡ edges
  changed_none [] = refl
  changed_none (e ∷ edges) = refl

  pub changed_all : (n : ℕ) (edges : List EdgeParts) → length edges ≤ n → changed_up_to n edges ≡ map f edges
  changed_all n [] le = refl
  changed_all zero (e ∷ edges) le = absurd (omega (arith, le))
  changed_all (suc n) (e ∷ edges) le = ap (λ l. f e ∷ l) (changed_all n edges (omega (arith, le)))

  pub changed_at : (n : ℕ) (edges : List EdgeParts) (d : EdgeParts) → slice_index_or (changed_up_to n edges) n d ≡ slice_index_or edges n d
  changed_at n [] d = refl
  changed_at zero (e ∷ edges) d = refl
  changed_at (suc n) (e ∷ edges) d = changed_at n edges d

  pub changed_next : (n : ℕ) (edges : List EdgeParts) (d : EdgeParts) → n < length edges
      → set (changed_up_to n edges) n (f (slice_index_or edges n d)) ≡ changed_up_to (suc n) edges
  changed_next n [] d inside = absurd (omega (arith, inside))
  changed_next zero (e ∷ edges) d inside = ap (λ l. f e ∷ l) (sym (changed_none edges))
  changed_next (suc n) (e ∷ edges) d inside = ap (λ l. f e ∷ l) (changed_next n edges d (omega (arith, inside)))

  pub changed_same : (n : ℕ) (edges : List EdgeParts) (d : EdgeParts) → n < length edges → f (slice_index_or edges n d) ≡ slice_index_or edges n d
      → changed_up_to n edges ≡ changed_up_to (suc n) edges
  changed_same n [] d inside same = absurd (omega (arith, inside))
  changed_same zero (e ∷ edges) d inside same =
      ap (λ l. e ∷ l) (sym (changed_none edges)) ∙ ap (λ (x : EdgeParts). x ∷ changed_up_to 0 edges) (sym same)
  changed_same (suc n) (e ∷ edges) d inside same = ap (λ l. f e ∷ l) (changed_same n edges d (omega (arith, inside)) same)
