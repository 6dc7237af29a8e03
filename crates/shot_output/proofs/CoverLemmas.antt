-- The joined lists of bands, one band after another: together they have the tiles of the area in the rows of the bands.
use Rattle.std.proofs.Common.{ℕ, suc, ◌+◌, ◌≤◌, ℤ, pos, ◌+ℤ◌, ◌*ℤ◌, ◌≤ℤ◌, ◌<ℤ◌, ◌≡◌, List, [], ◌∷◌, ◌++◌, length, arith, refl, sym, ap, subst, ◌∙◌}
use Rattle.std.proofs.lemmas.Int.{ints, by_lt_z}
use Rattle.std.proofs.lemmas.List.Elements.{All-nil, All-append, All-weaker, All-contains}
use Rattle.std.proofs.lemmas.List.Sums.{sum_by-append}
use Rattle.std.proofs.lemmas.Grind.{flat_map-append}
use Rattle.std.specs.List.{All, Contains}
use Rattle.geo_stream.specs.Flattened.{end_to_end}
use Rattle.half_grid.specs.Trapezoids.{Trapezoid, IsShot, FitsLimits, CoversExactly, count_in}
use Rattle.half_grid.specs.Windows.{RowRange, row_range}
use Rattle.half_grid.specs.declared.plane.Tile.{Tile}
use Rattle.fracture.specs.Limits.{AreLimits}
use Rattle.fracture.specs.Cutting.{cut_list, shots_of}
use Rattle.fracture.specs.Economy.{HasNoNeedlessCut}
use Rattle.fracture.proofs.ForCallers.{same_tiles_of_list, list_of_shots, list_fits, joined_needless, shots_in_window, EndsBy, BeginsAt, needless_append}
use Rattle.deck_plan.specs.Bands.{band}
use Rattle.shot_output.specs.ShotLists.{Rules, IsAreaInRows, IsBandList, AreBandLists, IsShotListBelow, IsShotList}
use Rattle.deck_plan.proofs.ForCallers.{multiples}

pub count_in-append : (xs ys : List Trapezoid) (t : Tile) → count_in (xs ++ ys) t ≡ count_in xs t + count_in ys t
count_in-append xs ys t = sum_by-append _ xs ys

-- what `shots_in_window` says of a shot
abbrev StandsIn : RowRange → Trapezoid → Type 0
StandsIn window y = (window.y0 ≤ℤ y.y0) × (y.y0 <ℤ y.y1) × (y.y1 ≤ℤ window.y1)

-- where there is nothing needless over more tiles, there is nothing over fewer
needless_weaker : (rows height width : ℤ) (less more : Tile → Type 0) (shots : List Trapezoid) → ((t : Tile) → (less t → ⊥) → more t → ⊥)
    → HasNoNeedlessCut rows height width more shots → HasNoNeedlessCut rows height width less shots
needless_weaker rows height width less more shots out n = record {
  upright = n.upright;
  level = λ y z at by left right e one alone. n.level y z at by left right e one (λ t beside. out t (alone t beside));
}

module _ (rows : ℤ) (some : pos 0 <ℤ rows) (area : Tile → Type 0) where
  -- the rows of n bands from band k on
  abbrev pub rows_of : ℤ → ℕ → RowRange
  rows_of k n = row_range (k *ℤ rows) ((k +ℤ pos n) *ℤ rows)

  no_bands : (k : ℤ) → (k +ℤ pos 0) *ℤ rows ≡ k *ℤ rows
  no_bands k = ap (λ (m : ℤ). m *ℤ rows) (omega (arith, ints))

  more_bands : (k : ℤ) (n : ℕ) → (k +ℤ pos (suc n)) *ℤ rows ≡ ((k +ℤ pos 1) +ℤ pos n) *ℤ rows
  more_bands k n = ap (λ (m : ℤ). m *ℤ rows) (omega (arith, ints))

  -- the tiles of the area in the rows of the bands, each once
  pub bands_cover : (k : ℤ) (lists : List (List Trapezoid)) → AreBandLists rows area k lists
      → CoversExactly (end_to_end lists) (IsAreaInRows area (rows_of k (length lists)))
  bands_cover k [] b = record {
    once = λ t h. absurd (omega (arith, ints, no_bands k, h.rows.from, h.rows.below));
    never = λ t out. refl;
  }
  bands_cover k (traps ∷ lists) b =
      let here = b.0.joined.covers in
      let later = bands_cover (k +ℤ pos 1) lists b.1 in
      let up : (k *ℤ rows) ≤ℤ ((k +ℤ pos 1) *ℤ rows) = multiples k (k +ℤ pos 1) rows some (omega (arith, ints)) in
      let top : ((k +ℤ pos 1) *ℤ rows) ≤ℤ (((k +ℤ pos 1) +ℤ pos (length lists)) *ℤ rows) = multiples (k +ℤ pos 1)
      ((k +ℤ pos 1) +ℤ pos (length lists)) rows some (omega (arith, ints)) in
      let split = more_bands k (length lists) in
      record {
        once = λ t h.
            by_lt_z t.j ((k +ℤ pos 1) *ℤ rows)
            (λ low. (let first = here.once t (record { rows = record { from = h.rows.from; below = low }; inside = h.inside }) in
            let second = later.never t (λ q. (let from = q.rows.from in omega (arith, ints, from, low))) in
            omega (arith, first, second, count_in-append traps (end_to_end lists) t)))
            (λ high. (let first = here.never t (λ q. (let below = q.rows.below in omega (arith, ints, below, high))) in
            let second = later.once t (record { rows = record { from = high; below = omega (arith, ints, split, h.rows.below) }; inside = h.inside }) in
            omega (arith, first, second, count_in-append traps (end_to_end lists) t)));
        never = λ t out.
            let first = here.never t
            (λ q. out (record {
              rows =
                  record { from = q.rows.from; below = omega (arith, ints, q.rows.below, top, split) };
              inside =
                  q.inside;
            })) in
            let second = later.never t
            (λ q. out (record {
              rows =
                  record {
                    from = omega (arith, ints, q.rows.from, up);
                    below = omega
                        (arith, ints, q.rows.below, split);
                  };
              inside = q.inside;
            })) in
            omega (arith, first, second, count_in-append traps (end_to_end lists) t);
      }

  pub bands_shots : (k : ℤ) (lists : List (List Trapezoid)) → AreBandLists rows area k lists → All IsShot (end_to_end lists)
  bands_shots k [] b = All-nil IsShot
  bands_shots k (traps ∷ lists) b = All-append IsShot traps (end_to_end lists) b.0.shots (bands_shots (k +ℤ pos 1) lists b.1)

  module _ (height width : ℤ) (limits : AreLimits height width) where
    -- the shots of bands lie from the lowest row of the first one on
    bands_above : (k : ℤ) (lists : List (List Trapezoid)) → AreBandLists rows area k lists
        → All (BeginsAt (k *ℤ rows)) (shots_of height width (end_to_end lists))
    bands_above k [] b = All-nil (BeginsAt (k *ℤ rows))
    bands_above k (traps ∷ lists) b =
        let up : (k *ℤ rows) ≤ℤ ((k +ℤ pos 1) *ℤ rows) = multiples k (k +ℤ pos 1) rows some (omega (arith, ints)) in
        let first : All (BeginsAt (k *ℤ rows)) (shots_of height width traps) =
        All-weaker (StandsIn (band rows k)) (BeginsAt (k *ℤ rows)) (λ z h. record { rows = h.1; low = h.0 })
        (shots_of height width traps)
        (shots_in_window height width limits (band rows k) traps b.0.joined.joined b.0.shots) in
        let later : All (BeginsAt (k *ℤ rows)) (shots_of height width (end_to_end lists)) =
        All-weaker (BeginsAt ((k +ℤ pos 1) *ℤ rows)) (BeginsAt (k *ℤ rows))
        (λ z h. (let low = h.low in record { rows = h.rows; low = omega (arith, ints, low, up) }))
        (shots_of height width (end_to_end lists)) (bands_above (k +ℤ pos 1) lists b.1) in
        subst (All (BeginsAt (k *ℤ rows))) (sym (flat_map-append (cut_list height width) traps (end_to_end lists)))
        (All-append (BeginsAt (k *ℤ rows)) (shots_of height width traps) (shots_of height width (end_to_end lists)) first later)

    -- a tile of a trapezoid of band k isn't outside the area
    band_inside : (k : ℤ) (traps : List Trapezoid) → IsBandList rows area k traps → (t : Tile) → 1 ≤ count_in traps t → (area t → ⊥) → ⊥
    band_inside k traps b t one out = let none = b.joined.covers.never t (λ q. out q.inside) in omega (arith, none, one)

    band_needless : (k : ℤ) (traps : List Trapezoid) → IsBandList rows area k traps → HasNoNeedlessCut rows height width area (shots_of height width traps)
    band_needless k traps b =
        needless_weaker rows height width area (λ t. (area t → ⊥) → ⊥) (shots_of height width traps) (λ t out inside. inside out)
        (joined_needless height width limits (band rows k) traps b.joined.joined b.shots (λ t. (area t → ⊥) → ⊥) (band_inside k traps b) rows)

    pub bands_needless : (k : ℤ) (lists : List (List Trapezoid)) → AreBandLists rows area k lists
        → HasNoNeedlessCut rows height width area (shots_of height width (end_to_end lists))
    bands_needless k [] b = record {
      upright = λ y z at. absurd (none_in at);
      level = λ y z at. absurd (none_in at);
    }
      where
        none_in : {y : Trapezoid} → Contains [] y → ⊥
        none_in {y} at = All-contains (λ _. ⊥) [] y (All-nil (λ _. ⊥)) at
    bands_needless k (traps ∷ lists) b =
        let first : All (EndsBy ((k +ℤ pos 1) *ℤ rows)) (shots_of height width traps) =
        All-weaker (StandsIn (band rows k)) (EndsBy ((k +ℤ pos 1) *ℤ rows)) (λ z h. record { rows = h.1; high = h.2 })
        (shots_of height width traps)
        (shots_in_window height width limits (band rows k) traps b.0.joined.joined b.0.shots) in
        subst (HasNoNeedlessCut rows height width area) (sym (flat_map-append (cut_list height width) traps (end_to_end lists)))
        (needless_append rows height width area (k +ℤ pos 1) (shots_of height width traps)
        (shots_of height width (end_to_end lists)) some first (bands_above (k +ℤ pos 1) lists b.1)
        (band_needless k traps b.0) (bands_needless (k +ℤ pos 1) lists b.1))

-- ---- shot lists

module _ (rules : Rules) (some : pos 0 <ℤ rules.rows) (limits : AreLimits rules.height rules.width) (area : Tile → Type 0) where
  pub below_shots : (k : ℤ) (shots : List Trapezoid) → IsShotListBelow rules area k shots → All IsShot shots
  below_shots k shots s = subst (All IsShot) (sym s.cut)
      (list_of_shots rules.height rules.width limits (end_to_end s.lists)
      (bands_shots rules.rows some area s.first s.lists s.joined))

  pub below_fit : (k : ℤ) (shots : List Trapezoid) → IsShotListBelow rules area k shots → All (FitsLimits rules.height rules.width) shots
  below_fit k shots s = subst (All (FitsLimits rules.height rules.width)) (sym s.cut)
      (list_fits rules.height rules.width limits (end_to_end s.lists)
      (bands_shots rules.rows some area s.first s.lists s.joined))

  pub below_needless : (k : ℤ) (shots : List Trapezoid) → IsShotListBelow rules area k shots → HasNoNeedlessCut rules.rows rules.height rules.width area shots
  below_needless k shots s = subst (HasNoNeedlessCut rules.rows rules.height rules.width area) (sym s.cut)
      (bands_needless rules.rows some area rules.height rules.width limits s.first s.lists s.joined)

  -- the tiles of the area below band k
  abbrev pub IsBelow : ℤ → Tile → Type 0
  IsBelow k t = (t.j <ℤ (k *ℤ rules.rows)) × area t

  pub below_covers : (k : ℤ) (shots : List Trapezoid) → IsShotListBelow rules area k shots → CoversExactly shots (IsBelow k)
  below_covers k shots s =
      let cover = bands_cover rules.rows some area s.first s.lists s.joined in
      let same : (t : Tile) → count_in shots t ≡ count_in (end_to_end s.lists) t = λ t. ap (λ zs. count_in zs t) s.cut
      ∙ same_tiles_of_list rules.height rules.width limits t (end_to_end s.lists)
      (bands_shots rules.rows some area s.first s.lists s.joined) in
      let top : (s.first +ℤ pos (length s.lists)) *ℤ rules.rows ≡ k *ℤ rules.rows = ap (λ (m : ℤ). m *ℤ rules.rows) s.up_to in
      record {
        once = λ t h. same t ∙ cover.once t
            (record {
              rows = record { from = s.none_below t h.1; below = subst (λ (y : ℤ). t.j <ℤ y) (sym top) h.0 };
              inside = h.1;
            });
        never = λ t out. same t ∙ cover.never t (λ q. out (subst (λ (y : ℤ). t.j <ℤ y) top q.rows.below, q.inside));
      }

  pub list_covers : (shots : List Trapezoid) → IsShotList rules area shots → CoversExactly shots area
  list_covers shots s =
      let cover = below_covers s.k shots s.below in
      record {
        once = λ t h. cover.once t (s.none_above t h, h);
        never = λ t out. cover.never t (λ q. out q.1);
      }
