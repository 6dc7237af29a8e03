-- One band after another is put to the writer.
use Rattle.std.proofs.Common.{ℕ, zero, suc, ◌+◌, ◌≤◌, ℤ, pos, neg_ℤ, ◌+ℤ◌, ◌*ℤ◌, ◌≤ℤ◌, ◌<ℤ◌, ◌≡◌, Bool, true, false, List, []}
use Rattle.std.proofs.Common.{◌∷◌, ◌++◌, length, take, arith, refl, sym, ap, subst, append_assoc, ◌∙◌}
use Rattle.std.specs.Prelude.{eqb, IsTrue}
use Rattle.std.specs.Int.{int_gap}
use Rattle.std.proofs.lemmas.Bool.Decides.{nat_tests}
use Rattle.std.proofs.lemmas.Int.{ints, by_lt_z}
use Rattle.std.proofs.lemmas.List.{append-nil, length-append, take-append-le}
use Rattle.std.proofs.Math.Seq.{take-append-add}
use Rattle.std.proofs.lemmas.List.Sums.{sum_by-append}
use Rattle.std.proofs.lemmas.Grind.{flat_map-append}
use Rattle.depot.specs.Content.{Content, with_written, IsPartWritten}
use Rattle.depot.proofs.ForCallers.{appended-appended}
use Rattle.geo_stream.specs.Flattened.{end_to_end}
use Rattle.half_grid.specs.Trapezoids.{Trapezoid, CoversExactly, count_in}
use Rattle.half_grid.specs.Windows.{RowRange, row_range}
use Rattle.half_grid.specs.declared.plane.Tile.{Tile}
use Rattle.layout_model.specs.declared.pair.Pair.{Pair}
use Rattle.oas_lex.specs.ShotText.{spelling_of}
use Rattle.deck_text.specs.declared.deck.Deck.{Deck}
use Rattle.deck_plan.specs.Needs.{IsBand, IsAskedBand}
use Rattle.deck_plan.specs.Plans.{Planned, IsBandOf, planned_area}
use Rattle.fracture.specs.Cutting.{cut_list, shots_of}
use Rattle.shot_writer.specs.Writing.{AreSumsAfter, no_sums, records_of, triangles_in}
use Rattle.shot_writer.specs.declared.parts.Sums.{Sums}
use Rattle.deck_plan.specs.Bands.{band, AreRowsNear}
use Rattle.shot_output.specs.ShotLists.{IsBandList, AreBandLists, IsShotListBelow}
use Rattle.shot_output.specs.Files.{rules_of, IsListOf}
use Rattle.shot_output.specs.Laws.{HasRules}
use Rattle.shot_output.specs.Bands.{HasRows, band_shots, HasRoomFor, IsBandPut, IsBandPart, IsPutBelow, IsPut, IsPutPart}
use Rattle.deck_plan.proofs.ForCallers.{next_bottom, bottom_is, rem_low}
use Rattle.shot_output.proofs.CoverLemmas.{below_shots, below_covers}
use Rattle.shot_output.proofs.FrontLemmas.{ends_append}
use Rattle.shot_output.proofs.Gaps.{gap_is, rem_high}
use Rattle.shot_output.proofs.TileLemmas.{few_triangles}

-- ---- lists that cover an area

at_most_by : (area : Tile → Type 0) (zs : List Trapezoid) → CoversExactly zs area → (t : Tile) (p : Bool) → eqb (count_in zs t) 1 ≡ p → count_in zs t ≤ 1
at_most_by area zs cover t true e = grind (arith, nat_tests)
at_most_by area zs cover t false e =
    let out : area t → ⊥ = λ h. (let n = cover.once t h in grind (arith, nat_tests)) in
    let n = cover.never t out in
    omega (arith, n)

at_most_once : (area : Tile → Type 0) (zs : List Trapezoid) → CoversExactly zs area → (t : Tile) → count_in zs t ≤ 1
at_most_once area zs cover t = at_most_by area zs cover t _ refl

-- ---- no band

-- no shots, where the rows of the area begin at the band or above it
none_below : (p : Planned) (k : ℕ) (m : ℤ) (rows : RowRange) → (m *ℤ p.deck.band) ≤ℤ rows.y0 → HasRows p k rows
    → IsShotListBelow (rules_of p.deck) (planned_area p k) m []
none_below p k m rows low outside = record {
  first = m;
  lists = [];
  joined = tt;
  up_to = omega (arith, ints);
  none_below = λ t h. (let from = (outside t h).from in omega (arith, ints, from, low));
  cut = refl;
}

-- ---- one more band

module _ (p : Planned) (k : ℕ) where
  band_list : (m : ℤ) (traps : List Trapezoid) → IsBandOf p k (band p.deck.band m) traps → IsBandList p.deck.band (planned_area p k) m traps
  band_list m traps b = record {
    shots = b.shots;
    joined = record {
      joined = b.joined.joined;
      covers = record {
        once = λ t h. b.joined.covers.once t (record { rows = h.rows; area = h.inside });
        never = λ t out. b.joined.covers.never t (λ h. out (record { rows = h.rows; inside = h.area }));
      };
    };
  }

  lists_push : (m : ℤ) (lists : List (List Trapezoid)) (traps : List Trapezoid)
      → AreBandLists p.deck.band (planned_area p k) m lists
      → IsBandList p.deck.band (planned_area p k) (m +ℤ pos (length lists)) traps
      → AreBandLists p.deck.band (planned_area p k) m (lists ++ traps ∷ [])
  lists_push m [] traps b c = (subst (λ (n : ℤ). IsBandList p.deck.band (planned_area p k) n traps) (omega (arith, ints)) c, tt)
  lists_push m (x ∷ lists) traps b c = (
    b.0,
    lists_push (m +ℤ pos 1) lists traps b.1
        (subst (λ (n : ℤ). IsBandList p.deck.band (planned_area p k) n traps) (omega (arith, ints)) c),
  )

  list_push : (m : ℤ) (shots traps : List Trapezoid) → IsShotListBelow (rules_of p.deck) (planned_area p k) m shots → IsBandOf p k (band p.deck.band m) traps
      → IsShotListBelow (rules_of p.deck) (planned_area p k) (m +ℤ pos 1) (shots ++ band_shots p traps)
  list_push m shots traps s b =
      let up_to = s.up_to in
      record {
        first = s.first;
        lists = s.lists ++ traps ∷ [];
        joined = lists_push s.first s.lists traps s.joined (subst (λ (n : ℤ). IsBandList p.deck.band (planned_area p k) n traps) (sym up_to) (band_list m traps b));
        up_to = (let long = length-append s.lists (traps ∷ []) in omega (arith, ints, up_to, long));
        none_below = s.none_below;
        cut = ap (λ (l : List Trapezoid). l ++ band_shots p traps) s.cut
            ∙ sym (ap (shots_of p.deck.limits.height p.deck.limits.width)
            (ends_append s.lists (traps ∷ []) ∙ ap (λ (l : List Trapezoid). end_to_end s.lists ++ l)
            (append-nil traps))
            ∙ flat_map-append (cut_list p.deck.limits.height p.deck.limits.width) (end_to_end s.lists) traps);
      }

  sums_push : (sums new : Sums) (xs ys : List Trapezoid) → AreSumsAfter no_sums xs sums → AreSumsAfter sums ys new → AreSumsAfter no_sums (xs ++ ys) new
  sums_push sums new xs ys a b =
      let first = a.shots in
      let second = a.triangles in
      record {
        shots = omega (arith, b.shots, first, length-append xs ys);
        triangles = omega (arith, b.triangles, second, sum_by-append triangles_in xs ys);
      }

  pub records_push : (pair : Pair) (xs ys : List Trapezoid) → records_of pair (xs ++ ys) ≡ records_of pair xs ++ records_of pair ys
  records_push pair xs ys = flat_map-append (spelling_of pair.layer pair.datatype) xs ys

  pub written_push : (c₀ c now : Content) (a b : List ℕ) → c ≡ with_written c₀ a → now ≡ with_written c b → now ≡ with_written c₀ (a ++ b)
  written_push c₀ c now a b e f =
      f ∙ ap (λ (x : Content). with_written x b) e ∙ ap (λ files. record c₀ { made = files }) (appended-appended c₀.made c₀.current a b)

  -- the band above
  next_is : (m : ℤ) (window : RowRange) → window ≡ band p.deck.band m → row_range window.y1 (window.y1 +ℤ p.deck.band) ≡ band p.deck.band (m +ℤ pos 1)
  next_is m window at =
      let top : window.y1 ≡ (m +ℤ pos 1) *ℤ p.deck.band = ap (λ (w : RowRange). w.y1) at in
      ap (λ (y : ℤ). row_range y (y +ℤ p.deck.band)) top ∙ ap (row_range ((m +ℤ pos 1) *ℤ p.deck.band)) (sym (next_bottom (m +ℤ pos 1) p.deck.band))

  of_window : (m : ℤ) (window : RowRange) (traps : List Trapezoid) → window ≡ band p.deck.band m
      → IsBandOf p k window traps → IsBandOf p k (band p.deck.band m) traps
  of_window m window traps at b = subst (λ (w : RowRange). IsBandOf p k w traps) at b

  module _ (window : RowRange) (pair : Pair) (tells : Bool) (c₀ c : Content) (sums : Sums) (put : IsPutBelow p k window pair tells c₀ c sums) where
    pub put_next : (now : Content) (new : Sums) → IsBandPut p k window pair tells c now sums new
        → IsPutBelow p k (row_range window.y1 (window.y1 +ℤ p.deck.band)) pair tells c₀ now new
    put_next now new b = record {
      m = put.m +ℤ pos 1;
      at = next_is put.m window put.at;
      shots = put.shots ++ band_shots p b.traps;
      list = list_push put.m put.shots b.traps put.list (of_window put.m window b.traps put.at b.joined);
      content = λ told. written_push c₀ c now (records_of pair put.shots) (records_of pair (band_shots p b.traps)) (put.content told) (b.content told)
          ∙ ap (with_written c₀) (sym (records_push pair put.shots (band_shots p b.traps)));
      summed = sums_push sums new put.shots (band_shots p b.traps) put.summed b.summed;
    }

    pub room : HasRules p.deck → HasRoomFor p k window sums
    room rules traps b =
        let m = put.m +ℤ pos 1 in
        let all = put.shots ++ band_shots p traps in
        let list = list_push put.m put.shots traps put.list (of_window put.m window traps put.at b) in
        let few = few_triangles all (below_shots (rules_of p.deck) rules.some_rows rules.limits (planned_area p k) m all list)
        (at_most_once _ all (below_covers (rules_of p.deck) rules.some_rows rules.limits (planned_area p k) m all list)) in
        let so_far = put.summed.triangles in
        omega (arith, few, so_far, sum_by-append triangles_in put.shots (band_shots p traps))

    pub put_all : (rows : RowRange) → HasRows p k rows → rows.y1 ≤ℤ window.y0 → IsPut p k pair tells c₀ c sums
    put_all rows outside done =
        let bottom : window.y0 ≡ put.m *ℤ p.deck.band = ap (λ (w : RowRange). w.y0) put.at in
        record {
          shots = put.shots;
          list = record {
            k = put.m;
            below = put.list;
            none_above = λ t h. (let below = (outside t h).below in omega (arith, ints, below, done, bottom));
          };
          content = put.content;
          summed = put.summed;
        }

  -- before the first band
  pub put_none : (window rows : RowRange) (m : ℤ) (pair : Pair) (tells : Bool) (c : Content) (sums : Sums)
      → window ≡ band p.deck.band m → window.y0 ≤ℤ rows.y0 → HasRows p k rows → sums ≡ no_sums
      → IsPutBelow p k window pair tells c c sums
  put_none window rows m pair tells c sums at low outside none =
      let bottom : window.y0 ≡ m *ℤ p.deck.band = ap (λ (w : RowRange). w.y0) at in
      record {
        m = m;
        at = at;
        shots = [];
        list = none_below p k m rows (omega (arith, ints, low, bottom)) outside;
        content = λ told. refl;
        summed = record { shots = ap (λ (s : Sums). s.shots) none; triangles = ap (λ (s : Sums). s.triangles) none };
      }

-- ---- the rows of a band of the deck

pub band_height : (deck : Deck) (m : ℤ) (window : RowRange) → window ≡ band deck.band m → window.y1 ≡ window.y0 +ℤ deck.band
band_height deck m window at =
    ap (λ (w : RowRange). w.y1) at ∙ next_bottom m deck.band ∙ sym (ap (λ (w : RowRange). w.y0 +ℤ deck.band) at)

pub band_within : (deck : Deck) (m : ℤ) (window : RowRange) → pos 0 <ℤ deck.band → deck.band ≤ℤ pos 16777216
    → neg_ℤ (pos 4294967296) ≤ℤ window.y0 → window.y0 ≤ℤ pos 4294967296 → window ≡ band deck.band m → IsAskedBand window
band_within deck m window some few low high at =
    let top = band_height deck m window at in
    record {
      is_band = record {
        low = record { low = omega (arith, ints, low); high = omega (arith, ints, high) };
        high = record { low = omega (arith, ints, low, top, some); high = omega (arith, ints, high, top, few) };
        has_rows = omega (arith, ints, top, some);
      };
      few = omega (arith, ints, top, few);
    }

-- a call that leaves the content leaves what was put
pub put_told : {p : Planned} {k : ℕ} {window : RowRange} {pair : Pair} {tells : Bool} {before now later : Content} {sums : Sums} → later ≡ now
    → IsPutBelow p k window pair tells before now sums → IsPutBelow p k window pair tells before later sums
put_told {p} {k} {window} {pair} {tells} {before} {now} {later} {sums} same put =
    subst (λ (c : Content). IsPutBelow p k window pair tells before c sums) (sym same) put

-- ---- the whole list

-- a prefix of what comes first is a prefix of all
part_more : (before now : Content) (xs ys zs : List ℕ) → zs ≡ xs ++ ys → IsPartWritten before xs now → IsPartWritten before zs now
part_more before now xs ys zs e part = (
  part.0,
  omega (arith, part.1, ap length e, length-append xs ys),
  part.2 ∙ ap (with_written before) (sym (ap (take part.0) e ∙ take-append-le part.0 xs ys part.1)),
)

-- these shots and some more are those of all bands
record GoesOn (p : Planned) (k : ℕ) (shots : List Trapezoid) : Type 0 where
  more : List Trapezoid
  list : IsListOf p k (shots ++ more)

more_on : (p : Planned) (k : ℕ) (shots next : List Trapezoid) → GoesOn p k (shots ++ next) → GoesOn p k shots
more_on p k shots next on = record { more = next ++ on.more; list = subst (IsListOf p k) (append_assoc shots next on.more) on.list }

module _ (p : Planned) (k : ℕ) (rules : HasRules p.deck) (few : p.deck.band ≤ℤ pos 16777216) (rows : RowRange) (near : AreRowsNear rows)
    (outside : HasRows p k rows) (lists : (window : RowRange) → IsBand window → (traps : List Trapezoid) × IsBandOf p k window traps) where
  all_below : (m : ℤ) (shots : List Trapezoid) → rows.y1 ≤ℤ (m *ℤ p.deck.band) → IsShotListBelow (rules_of p.deck) (planned_area p k) m shots → GoesOn p k shots
  all_below m shots done list = record {
    more = [];
    list = subst (IsListOf p k) (sym (append-nil shots)) (record {
      k = m;
      below = list;
      none_above = λ t h. (let below = (outside t h).below in omega (arith, ints, below, done));
    });
  }

  band_is : (m : ℤ) → neg_ℤ (pos 4294967296) ≤ℤ (m *ℤ p.deck.band) → (m *ℤ p.deck.band) <ℤ rows.y1 → IsBand (band p.deck.band m)
  band_is m low less =
      let high = near.high in
      (band_within p.deck m (band p.deck.band m) rules.some_rows few low (omega (arith, ints, less, high)) refl).is_band

  -- band after band, until at most n rows are left
  go_on : (n : ℕ) (m : ℤ) (shots : List Trapezoid) → neg_ℤ (pos 4294967296) ≤ℤ (m *ℤ p.deck.band)
      → rows.y1 ≤ℤ ((m *ℤ p.deck.band) +ℤ pos n) → IsShotListBelow (rules_of p.deck) (planned_area p k) m shots → GoesOn p k shots
  go_on zero m shots low left list = all_below m shots (omega (arith, ints, left)) list
  go_on (suc n) m shots low left list =
      by_lt_z (m *ℤ p.deck.band) rows.y1
      (λ less. (let next = lists (band p.deck.band m) (band_is m low less) in
      let up = next_bottom m p.deck.band in
      let some = rules.some_rows in
      more_on p k shots (band_shots p next.0) (go_on n (m +ℤ pos 1) (shots ++ band_shots p next.0)
      (omega (arith, ints, low, up, some)) (omega (arith, ints, left, up, some)) (list_push p k m shots next.0 list next.1))))
      (λ done. all_below m shots done list)

  goes_on : (m : ℤ) (shots : List Trapezoid) → neg_ℤ (pos 4294967296) ≤ℤ (m *ℤ p.deck.band)
      → IsShotListBelow (rules_of p.deck) (planned_area p k) m shots → GoesOn p k shots
  goes_on m shots low list =
      by_lt_z (m *ℤ p.deck.band) rows.y1
      (λ less. (let gap = gap_is (m *ℤ p.deck.band) rows.y1 (omega (arith, ints, less)) in
      go_on (int_gap (m *ℤ p.deck.band) rows.y1) m shots low (omega (arith, ints, gap)) list))
      (λ done. all_below m shots done list)

  -- the output has its shot list
  pub list_exists : (shots : List Trapezoid) × IsListOf p k shots
  list_exists =
      let some = rules.some_rows in
      let bottom = bottom_is rows.y0 p.deck.band some in
      let least = rem_low rows.y0 p.deck.band some in
      let most = rem_high rows.y0 p.deck.band some in
      let low = near.low in
      let none = none_below p k bottom.0 rows (omega (arith, ints, bottom.1, least)) outside in
      let all = goes_on bottom.0 [] (omega (arith, ints, bottom.1, most, low, few)) none in
      (all.more, all.list)

  -- what was put of the shots of the first bands is a prefix of what is put of all
  part_of_all : (pair : Pair) (tells : Bool) (before now : Content) (m : ℤ) (shots : List Trapezoid) → neg_ℤ (pos 4294967296) ≤ℤ (m *ℤ p.deck.band)
      → IsShotListBelow (rules_of p.deck) (planned_area p k) m shots → (IsTrue tells → IsPartWritten before (records_of pair shots) now)
      → IsPutPart p k pair tells before now
  part_of_all pair tells before now m shots low list part =
      let all = goes_on m shots low list in
      record {
        shots = shots ++ all.more;
        list = all.list;
        content = λ told. part_more before now (records_of pair shots) (records_of pair all.more) (records_of pair (shots ++ all.more))
            (records_push p k pair shots all.more) (part told);
      }

  -- the area of a band was refused, or its records were cut short
  pub put_part : (window : RowRange) (pair : Pair) (tells : Bool) (c₀ c : Content) (sums : Sums) → IsPutBelow p k window pair tells c₀ c sums
      → neg_ℤ (pos 4294967296) ≤ℤ window.y0 → (now : Content) → IsBandPart p k window pair tells c now → IsPutPart p k pair tells c₀ now
  put_part window pair tells c₀ c sums put low now b =
      let bottom : window.y0 ≡ put.m *ℤ p.deck.band = ap (λ (w : RowRange). w.y0) put.at in
      let up = next_bottom put.m p.deck.band in
      let some = rules.some_rows in
      let xs = records_of pair put.shots in
      let ys = records_of pair (band_shots p b.traps) in
      let both = records_push p k pair put.shots (band_shots p b.traps) in
      part_of_all pair tells c₀ now (put.m +ℤ pos 1) (put.shots ++ band_shots p b.traps) (omega (arith, ints, bottom, low, up, some))
      (list_push p k put.m put.shots b.traps put.list (of_window p k put.m window b.traps put.at b.joined)) (λ told.
      let part = b.content told in (
        length xs + part.0,
        omega (arith, part.1, ap length both, length-append xs ys),
        written_push p k c₀ c now xs (take part.0 ys) (put.content told) part.2
            ∙ ap (with_written c₀) (sym (take-append-add xs ys part.0) ∙ ap (take (length xs + part.0)) (sym both)),
      ))
