-- An area has one shot list.
use Rattle.std.proofs.Common.{ℕ, zero, suc, ◌+◌, ◌≤◌, ℤ, pos, ◌+ℤ◌, ◌-ℤ◌, ◌*ℤ◌, ◌≤ℤ◌, ◌<ℤ◌, ◌≡◌, List, [], ◌∷◌, ◌++◌}
use Rattle.std.proofs.Common.{length, arith, refl, sym, ap, subst, append_assoc, ◌∙◌}
use Rattle.std.proofs.lemmas.Int.{ints, by_lt_z}
use Rattle.std.proofs.lemmas.List.{append-nil}
use Rattle.std.proofs.lemmas.List.Elements.{All-nil, All-contains}
use Rattle.std.proofs.lemmas.Grind.{flat_map-append}
use Rattle.std.specs.List.{Contains}
use Rattle.std.specs.Int.{int_gap}
use Rattle.geo_stream.specs.Flattened.{end_to_end}
use Rattle.half_grid.specs.JoinedLists.{IsJoined, IsInWindow}
use Rattle.half_grid.specs.Trapezoids.{Trapezoid, IsShot, IsLegal}
use Rattle.half_grid.specs.Windows.{RowRange}
use Rattle.half_grid.specs.declared.plane.Tile.{Tile}
use Rattle.half_grid.proofs.ForCallers.{one_joined_list, same_tiles}
use Rattle.bool_ops.specs.Operations.{IsInRows}
use Rattle.fracture.specs.Cutting.{cut_list, shots_of}
use Rattle.deck_plan.specs.Bands.{band}
use Rattle.shot_output.specs.ShotLists.{Rules, IsAreaInRows, IsBandList, AreBandLists, IsShotListBelow, IsShotList}
use Rattle.deck_plan.proofs.ForCallers.{multiples}
use Rattle.shot_output.proofs.Gaps.{gap_is}

nil_joined : (window : RowRange) → IsJoined window []
nil_joined window = record {
  legal = All-nil IsLegal;
  in_window = All-nil (IsInWindow window);
  apart = λ t. omega arith;
  ends_free = λ z t at. absurd (none_in at);
  not_stacked = λ y z at. absurd (none_in at);
  in_order = tt;
}
  where
    none_in : {y : Trapezoid} → Contains [] y → ⊥
    none_in {y} at = All-contains (λ _. ⊥) [] y (All-nil (λ _. ⊥)) at

pub ends_append : (xs ys : List (List Trapezoid)) → end_to_end (xs ++ ys) ≡ end_to_end xs ++ end_to_end ys
ends_append [] ys = refl
ends_append (x ∷ xs) ys = ap (λ l. x ++ l) (ends_append xs ys) ∙ sym (append_assoc x (end_to_end xs) (end_to_end ys))

-- so many empty lists, and then these
abbrev padded : ℕ → List (List Trapezoid) → List (List Trapezoid)
padded zero lists = lists
padded (suc n) lists = [] ∷ padded n lists

padded_same : (n : ℕ) (lists : List (List Trapezoid)) → end_to_end (padded n lists) ≡ end_to_end lists
padded_same zero lists = refl
padded_same (suc n) lists = padded_same n lists

padded_length : (n : ℕ) (lists : List (List Trapezoid)) → length (padded n lists) ≡ n + length lists
padded_length zero lists = omega arith
padded_length (suc n) lists = let h = padded_length n lists in omega (arith, h)

module _ (rows : ℤ) (some : pos 0 <ℤ rows) (area : Tile → Type 0) where
  -- band k has no tile of the area
  abbrev IsEmpty : ℤ → Type 0
  IsEmpty k = (t : Tile) → area t → IsInRows (band rows k) t → ⊥

  empty_band : (k : ℤ) → IsEmpty k → IsBandList rows area k []
  empty_band k none = record {
    shots = All-nil IsShot;
    joined = record { joined = nil_joined (band rows k); covers = record { once = λ t h. absurd (none t h.inside h.rows); never = λ t out. refl } };
  }

  one_band : (k : ℤ) (xs ys : List Trapezoid) → IsBandList rows area k xs → IsBandList rows area k ys → xs ≡ ys
  one_band k xs ys p q =
      one_joined_list (band rows k) xs ys p.joined.joined q.joined.joined (same_tiles (IsAreaInRows area (band rows k)) xs ys p.joined.covers q.joined.covers)

  -- empty bands below
  pad : (n : ℕ) (k : ℤ) (lists : List (List Trapezoid)) → ((t : Tile) → area t → (k *ℤ rows) ≤ℤ t.j)
      → AreBandLists rows area k lists → AreBandLists rows area (k -ℤ pos n) (padded n lists)
  pad zero k lists none b = subst (λ (m : ℤ). AreBandLists rows area m lists) (omega (arith, ints)) b
  pad (suc n) k lists none b =
      let up : (((k -ℤ pos (suc n)) +ℤ pos 1) *ℤ rows) ≤ℤ (k *ℤ rows) = multiples ((k -ℤ pos (suc n)) +ℤ pos 1) k rows some (omega (arith, ints)) in (
        empty_band (k -ℤ pos (suc n)) (λ t h r. (let low = none t h in let below = r.below in omega (arith, ints, low, below, up))),
        subst (λ (m : ℤ). AreBandLists rows area m (padded n lists)) (omega (arith, ints)) (pad n k lists none b),
      )

  -- of two lists of lists from one band on the shorter begins the longer
  same_front : (k : ℤ) (xs ys : List (List Trapezoid)) → AreBandLists rows area k xs → AreBandLists rows area k ys → length xs ≤ length ys
      → (rest : List (List Trapezoid)) × (ys ≡ xs ++ rest) × AreBandLists rows area (k +ℤ pos (length xs)) rest
  same_front k [] ys p q few = (ys, refl, subst (λ (m : ℤ). AreBandLists rows area m ys) (omega (arith, ints)) q)
  same_front k (x ∷ xs) [] p q few = absurd (omega (arith, few))
  same_front k (x ∷ xs) (y ∷ ys) p q few =
      let same = one_band k x y p.0 q.0 in
      let rest = same_front (k +ℤ pos 1) xs ys p.1 q.1 (omega (arith, few)) in (
        rest.0,
        ap (λ (z : List Trapezoid). z ∷ ys) (sym same) ∙ ap (λ (l : List (List Trapezoid)). x ∷ l) rest.1,
        subst (λ (m : ℤ). AreBandLists rows area m rest.0) (omega (arith, ints)) rest.2,
      )

  -- where no tile of the area lies from band k on, the lists of bands from there on are empty
  all_empty : (k : ℤ) (lists : List (List Trapezoid)) → ((t : Tile) → area t → t.j <ℤ (k *ℤ rows)) → AreBandLists rows area k lists → end_to_end lists ≡ []
  all_empty k [] none b = refl
  all_empty k (x ∷ lists) none b =
      let up : (k *ℤ rows) ≤ℤ ((k +ℤ pos 1) *ℤ rows) = multiples k (k +ℤ pos 1) rows some (omega (arith, ints)) in
      let first : x ≡ [] = one_band k x [] b.0 (empty_band k (λ t h r. (let below = none t h in let from = r.from in omega (arith, ints, below, from)))) in
      ap (λ (z : List Trapezoid). z ++ end_to_end lists) first ∙ all_empty (k +ℤ pos 1) lists
      (λ t h. (let below = none t h in omega (arith, ints, below, up))) b.1

-- ---- shot lists

module _ (rules : Rules) (some : pos 0 <ℤ rules.rows) (area : Tile → Type 0) where
  -- the lists of the bands from s on, up to below band k, make the shots
  record IsFrom (s k : ℤ) (shots : List Trapezoid) : Type 0 where
    lists : List (List Trapezoid)
    joined : AreBandLists rules.rows area s lists
    up_to : s +ℤ pos (length lists) ≡ k
    cut : shots ≡ shots_of rules.height rules.width (end_to_end lists)

  from_band : (k : ℤ) (shots : List Trapezoid) (b : IsShotListBelow rules area k shots) (s : ℤ) → s ≤ℤ b.first → IsFrom s k shots
  from_band k shots b s low =
      let n = int_gap s b.first in
      let start : b.first -ℤ pos n ≡ s = (let gap = gap_is s b.first low in omega (arith, ints, gap)) in
      record {
        lists = padded n b.lists;
        joined = subst (λ (m : ℤ). AreBandLists rules.rows area m (padded n b.lists)) start (pad rules.rows some area n b.first b.lists b.none_below b.joined);
        up_to = (let long = padded_length n b.lists in let end = b.up_to in omega (arith, ints, start, long, end));
        cut = b.cut ∙ ap (shots_of rules.height rules.width) (sym (padded_same n b.lists));
      }

  -- the shots of more bands are those of fewer, and then those of the bands between
  record IsMore (k : ℤ) (xs ys : List Trapezoid) : Type 0 where
    rest : List (List Trapezoid)
    joined : AreBandLists rules.rows area k rest
    more : ys ≡ xs ++ shots_of rules.height rules.width (end_to_end rest)

  more_from : (s k m : ℤ) (xs ys : List Trapezoid) → IsFrom s k xs → IsFrom s m ys → k ≤ℤ m → IsMore k xs ys
  more_from s k m xs ys p q le =
      let p_end = p.up_to in
      let q_end = q.up_to in
      let f = same_front rules.rows some area s p.lists q.lists p.joined q.joined (omega (arith, ints, p_end, q_end, le)) in
      record {
        rest = f.0;
        joined = subst (λ (n : ℤ). AreBandLists rules.rows area n f.0) p_end f.2;
        more = q.cut ∙ ap (λ (l : List (List Trapezoid)). shots_of rules.height rules.width (end_to_end l)) f.1
            ∙ ap (shots_of rules.height rules.width) (ends_append p.lists f.0)
            ∙ flat_map-append (cut_list rules.height rules.width) (end_to_end p.lists) (end_to_end f.0)
            ∙ ap (λ (zs : List Trapezoid). zs ++ shots_of rules.height rules.width (end_to_end f.0)) (sym p.cut);
      }

  more_bands : (k m : ℤ) (xs ys : List Trapezoid) → IsShotListBelow rules area k xs → IsShotListBelow rules area m ys → k ≤ℤ m → IsMore k xs ys
  more_bands k m xs ys p q le =
      by_lt_z p.first q.first
      (λ less. more_from p.first k m xs ys (from_band k xs p p.first (omega (arith, ints))) (from_band m ys q p.first (omega (arith, ints, less))) le)
      (λ more. more_from q.first k m xs ys (from_band k xs p q.first more) (from_band m ys q q.first (omega (arith, ints))) le)

  -- no tile from band k on: more bands have no more shots
  no_more : (k : ℤ) (xs ys : List Trapezoid) → ((t : Tile) → area t → t.j <ℤ (k *ℤ rules.rows)) → IsMore k xs ys → ys ≡ xs
  no_more k xs ys none m =
      m.more ∙ ap (λ (l : List Trapezoid). xs ++ shots_of rules.height rules.width l) (all_empty rules.rows some area k m.rest none m.joined) ∙ append-nil xs

  pub one_list : (xs ys : List Trapezoid) → IsShotList rules area xs → IsShotList rules area ys → xs ≡ ys
  one_list xs ys p q =
      by_lt_z p.k q.k
      (λ less. sym (no_more p.k xs ys p.none_above (more_bands p.k q.k xs ys p.below q.below (omega (arith, ints, less)))))
      (λ more. no_more q.k ys xs q.none_above (more_bands q.k p.k ys xs q.below p.below more))

-- ---- areas that agree

module _ (rows : ℤ) (a b : Tile → Type 0) (there : (t : Tile) → a t → b t) (back : (t : Tile) → b t → a t) where
  same_band : (k : ℤ) (traps : List Trapezoid) → IsBandList rows a k traps → IsBandList rows b k traps
  same_band k traps p = record {
    shots = p.shots;
    joined = record {
      joined = p.joined.joined;
      covers = record {
        once = λ t h. p.joined.covers.once t (record { rows = h.rows; inside = back t h.inside });
        never = λ t out. p.joined.covers.never t (λ h. out (record { rows = h.rows; inside = there t h.inside }));
      };
    };
  }

  same_bands : (k : ℤ) (lists : List (List Trapezoid)) → AreBandLists rows a k lists → AreBandLists rows b k lists
  same_bands k [] p = tt
  same_bands k (x ∷ lists) p = (same_band k x p.0, same_bands (k +ℤ pos 1) lists p.1)

pub same_list : (rules : Rules) (a b : Tile → Type 0) (there : (t : Tile) → a t → b t) (back : (t : Tile) → b t → a t)
    (shots : List Trapezoid) → IsShotList rules a shots → IsShotList rules b shots
same_list rules a b there back shots s = record {
  k = s.k;
  below = record {
    first = s.below.first;
    lists = s.below.lists;
    joined = same_bands rules.rows a b there back s.below.first s.below.lists s.below.joined;
    up_to = s.below.up_to;
    none_below = λ t h. s.below.none_below t (back t h);
    cut = s.below.cut;
  };
  none_above = λ t h. s.none_above t (back t h);
}
