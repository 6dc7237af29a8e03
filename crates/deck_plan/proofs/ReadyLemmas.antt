-- The areas of the definitions of an output, from the first one up.
use Rattle.std.proofs.Common.{Contains, ◌≡◌, ◌∙◌, ◌⊎◌, inl, inr, ℕ, zero, suc, ◌+◌, ◌^◌, ◌<◌, ◌≤◌, ℤ, pos, ◌+ℤ◌, ◌-ℤ◌}
use Rattle.std.proofs.Common.{◌≤ℤ◌, List, [], ◌∷◌, ◌++◌, Option, Some, None, IfSome, IsSomeAnd, All, Bool, true, false}
use Rattle.std.proofs.Common.{if◌then◌else◌, map, length, set, get_or, slice_get, refl, sym, ap, subst, arith}
use Rattle.std.proofs.Common.{length-append}
use Rattle.std.proofs.lemmas.Int.{ints}
use Rattle.std.proofs.lemmas.Bool.{eqb-true, false≢true}
use Rattle.std.proofs.lemmas.List.Elements.{All-contains}
use Rattle.half_grid.specs.Trapezoids.{Trapezoid, IsLegal, IsShot}
use Rattle.half_grid.specs.Windows.{RowRange, row_range}
use Rattle.half_grid.specs.declared.plane.Tile.{Tile}
use Rattle.layout_model.specs.declared.pair.Pair.{Pair}
use Rattle.layout_model.specs.declared.cells.Cell.{Cell}
use Rattle.trap_join.proofs.ForCallers.{all_members}
use Rattle.cell_tree.specs.Flattening.{IsInLayer}
use Rattle.bool_ops.specs.Operations.{IsJoinedOf}
use Rattle.deck_text.specs.declared.deck.Deck.{Deck}
use Rattle.deck_text.specs.declared.deck.Step.{Step}
use Rattle.deck_text.specs.declared.deck.Output.{Output}
use Rattle.deck_text.specs.Sound.{IsSoundStep, IsFrame}
use Rattle.deck_plan.specs.declared.needs.Taken.{Taken}
use Rattle.deck_plan.specs.declared.needs.Need.{Need}
use Rattle.deck_plan.specs.Areas.{IsInArea, IsInStep, IsInBand}
use Rattle.deck_plan.specs.Needs.{Takes, IsBand, widened}
use Rattle.cell_tree.specs.Boxes.{IsUpTo}
use Rattle.std.proofs.lemmas.Option.{none-some, same_Some, get_or_from_slice_get}
use Rattle.deck_plan.specs.Halos.{NeedIs, AreHalos, window_for}
use Rattle.deck_plan.specs.Lists.{HasArea, IsJoinedSomewhere, IsListed, list_at}
use Rattle.deck_plan.specs.Bounds.{IsTileUpTo, HasCornersUpTo}
use Rattle.deck_plan.specs.OwnLayers.{own_layers, IsLeftOut}
use Rattle.deck_plan.specs.Ready.{IsReady, IsPast, IsHeld, AreHeld, ends_at, let_go}
use Rattle.deck_plan.proofs.AreaLists.{covers_exactly}
use Rattle.deck_plan.proofs.Corners.{corners_of_all}
use Rattle.deck_plan.proofs.StepLemmas.{step_area, area_near, sound_operand}
use Rattle.deck_plan.proofs.Slots.{filled, one_slot, get_cases, set_length}

pub map_same : {V X : Type 0} (f : V → X) (vs : List V) → length (map f vs) ≡ length vs
map_same f [] = refl
map_same f (v ∷ vs) = ap suc (map_same f vs)

map_put : {V : Type 0} (f : V → List Trapezoid) (vs : List V) (v : V) → map f (vs ++ v ∷ []) ≡ map f vs ++ f v ∷ []
map_put f [] v = refl
map_put f (w ∷ vs) v = ap (λ rest. f w ∷ rest) (map_put f vs v)

pub map_set : {V : Type 0} (f : V → List Trapezoid) (vs : List V) (n : ℕ) (v : V) → map f (set vs n v) ≡ set (map f vs) n (f v)
map_set f [] n v = refl
map_set f (w ∷ vs) zero v = refl
map_set f (w ∷ vs) (suc n) v = ap (λ rest. f w ∷ rest) (map_set f vs n v)

pub taken_list : {V : Type 0} (f : V → List Trapezoid) (vs : List V) (n : ℕ) (v : V) → n < length vs → v ≡ get_or vs n v → f v ≡ list_at (map f vs) n
taken_list f [] n v inside e = absurd (omega (arith, inside))
taken_list f (w ∷ vs) zero v inside e = ap f e
taken_list f (w ∷ vs) (suc n) v inside e = taken_list f vs n v (omega (arith, inside)) e

chosen : (lists : List (List Trapezoid)) (n : ℕ) (test : Bool) → test ≡ true → set lists n [] ≡ (if test then set lists n [] else lists)
chosen lists n true e = refl
chosen lists n false e = absurd (false≢true e)

pub let_go_list : {V : Type 0} (f : V → List Trapezoid) (vs : List V) (v : V) (needs : List (Option Need)) (user : ℕ)
    (found : Option Taken) (operand : Taken) → found ≡ Some operand
    → ends_at (get_or needs operand.name None) user ≡ true → f v ≡ [] → map f (set vs operand.name v) ≡ let_go needs user found (map f vs)
let_go_list f vs v needs user found operand is ends empty =
    subst (λ x. map f (set vs operand.name v) ≡ let_go needs user x (map f vs)) (sym is)
    (map_set f vs operand.name v
    ∙ (ap (set (map f vs) operand.name) empty ∙ chosen (map f vs) operand.name
    (ends_at (get_or needs operand.name None) user) ends))

by_test_length : (lists : List (List Trapezoid)) (n : ℕ) (test : Bool) → length (if test then set lists n [] else lists) ≡ length lists
by_test_length lists n true = set_length lists n []
by_test_length lists n false = refl

pub let_go_length : (needs : List (Option Need)) (user : ℕ) (operand : Option Taken) (lists : List (List Trapezoid))
    → length (let_go needs user operand lists) ≡ length lists
let_go_length needs user None lists = refl
let_go_length needs user (Some operand) lists = by_test_length lists operand.name (ends_at (get_or needs operand.name None) user)

below_or : (a n : ℕ) → (a < n) ⊎ (n ≤ a)
below_or zero zero = inr (omega arith)
below_or zero (suc n) = inl (omega arith)
below_or (suc a) zero = inr (omega arith)
below_or (suc a) (suc n) = elim (below_or a n) [ inl h ↦ inl (omega (arith, h)) | inr h ↦ inr (omega (arith, h)) ]

past : (lists : List (List Trapezoid)) (a : ℕ) → length lists ≤ a → list_at lists a ≡ []
past [] a h = refl
past (list ∷ lists) zero h = absurd (omega (arith, h))
past (list ∷ lists) (suc a) h = past lists a (omega (arith, h))

none_among : {X : Type 0} (x : X) → Contains [] x → ⊥
none_among x (k, inside, is) = omega (arith, inside)

joined_empty : (traps : List Trapezoid) → traps ≡ [] → IsJoinedSomewhere traps
joined_empty traps e = subst IsJoinedSomewhere (sym e) (
  row_range (pos 0) (pos 0),
  record {
    legal = λ k d inside. absurd (omega (arith, inside));
    in_window = λ k d inside. absurd (omega (arith, inside));
    apart = λ t. omega arith;
    ends_free = λ z t among. absurd (none_among z among);
    not_stacked = λ y z among. absurd (none_among y among);
    in_order = tt;
  },
)

module _ (cells : List Cell) (top : ℕ) (deck : Deck) (band : RowRange) (needs : List (Option Need)) where
  abbrev Ready : ℕ → List Trapezoid → Type 0
  Ready n traps = IsReady cells top deck band needs n traps

  abbrev Held : ℕ → ℕ → List Trapezoid → Type 0
  Held from n traps = IsHeld cells top deck band needs from n traps

  abbrev All_held : ℕ → List (List Trapezoid) → Type 0
  All_held from lists = AreHeld cells top deck band needs from lists

  joined_by_need : (n : ℕ) (traps : List Trapezoid) → Ready n traps → (found : Option Need) → get_or needs n None ≡ found → IsJoinedSomewhere traps
  joined_by_need n traps r None e = joined_empty traps (r.others e)
  joined_by_need n traps r (Some need) e = (widened need.halo band, (r.needed need (filled needs n need e)).joined)

  held_joined : (from n : ℕ) (traps : List Trapezoid) → Held from n traps → IsJoinedSomewhere traps
  held_joined from n traps h = elim h [ inl r ↦ joined_by_need n traps r (get_or needs n None) refl | inr gone ↦ joined_empty traps gone.0 ]

  -- each list so far is joined
  pub lists_joined : (from : ℕ) (lists : List (List Trapezoid)) → All_held from lists → (a : ℕ) → IsJoinedSomewhere (list_at lists a)
  lists_joined from lists held a = elim (below_or a (length lists)) [
    | inl early ↦ held_joined from a (list_at lists a) (held a early)
    | inr late ↦ joined_empty (list_at lists a) (past lists a late)
  ]

  module _ (sound : (k : ℕ) (step : Step) → slice_get deck.steps k ≡ Some step → IsSoundStep deck.frame k step) where
    module _ (name : ℕ) (halos : AreHalos deck name 0 needs) (lists : List (List Trapezoid)) (n : ℕ) (held : (m : ℕ) → m < n → Held n m (list_at lists m)) where
      -- what a definition from n on takes is there yet
      still : (m : ℕ) (need : Need) → m < n → NeedIs needs m need → n ≤ need.last → (IsLeftOut deck needs m → ⊥)
          → HasArea (widened need.halo band) (IsInArea cells top deck m) (list_at lists m)
      still m need early is later taken = elim (held m early) [
        | inl r ↦ r.needed need is
        | inr gone ↦ elim gone.1 [ inl past ↦ (let p = past need is in absurd (omega (arith, p, later))) | inr out ↦ absurd (taken out) ]
      ]

      -- the area of the next definition, by its step
      pub next_area : (step : Step) (need : Need) (traps : List Trapezoid) → slice_get deck.steps n ≡ Some step → NeedIs needs n need
          → own_layers deck.steps needs n ≡ None
          → HasArea (widened need.halo band) (λ t. IsInStep cells top deck.frame (IsListed lists) step t) traps
          → HasArea (widened need.halo band) (IsInArea cells top deck n) traps
      next_area step need traps here is by_lists h =
          step_area cells top deck sound lists n step (widened need.halo band) traps here
          (λ operand among u rows.
          let takes : Takes deck n operand = record { step = step; here = here; among = among } in
          let o = halos.operands n need operand (omega arith) is takes in
          let early = (sound_operand deck.frame n step operand (sound n step here) among).earlier in
          let has = still operand.name o.0 early o.1 o.3 (λ out. out n need operand is takes refl by_lists) in
          let more = o.2 in (
            λ listed. (has.inside u listed).1,
            λ area. has.all u
                (record { from = omega (arith, ints, rows.from, more); below = omega (arith, ints, rows.below, more) })
                area,
          ))
          h

    -- what is ready isn't far from 0
    module _ (layers : (pair : Pair) (t : Tile) → IsInLayer cells top pair t → IsTileUpTo (2 ^ 30) t) (frames : IfSome deck.frame IsFrame) where
      tile_near : (n : ℕ) → n < 256 → (t : Tile) → IsInArea cells top deck n t → IsTileUpTo 2199023255552 t
      tile_near n few t h =
          let b = area_near cells top deck sound layers frames n t h in
          record {
            column = record { low = omega (arith, ints, few, b.column.low); high = omega (arith, ints, few, b.column.high) };
            row = record { low = omega (arith, ints, few, b.row.low); high = omega (arith, ints, few, b.row.high) };
          }

      empty_all : (P : Trapezoid → Type 0) (traps : List Trapezoid) → traps ≡ [] → All P traps
      empty_all P traps e = subst (All P) (sym e) (λ k d inside. absurd (omega (arith, inside)))

      by_need : (n : ℕ) (traps : List Trapezoid) → n < 256 → Ready n traps → (found : Option Need)
          → get_or needs n None ≡ found → All IsLegal traps × All (HasCornersUpTo (2 ^ 42)) traps
      by_need n traps few r None e = (empty_all IsLegal traps (r.others e), empty_all (HasCornersUpTo (2 ^ 42)) traps (r.others e))
      by_need n traps few r (Some need) e =
          let h = r.needed need (filled needs n need e) in
          (h.joined.legal, corners_of_all 2199023255552 (2 ^ 42) traps h.joined.legal (λ t some. tile_near n few t (h.inside t some).1) (omega arith))

      pub ready_near : (n : ℕ) (traps : List Trapezoid) → n < 256 → Ready n traps → All IsLegal traps × All (HasCornersUpTo (2 ^ 42)) traps
      ready_near n traps few r = by_need n traps few r (get_or needs n None) refl

      held_near : (from n : ℕ) (traps : List Trapezoid) → n < 256 → Held from n traps → All IsLegal traps × All (HasCornersUpTo (2 ^ 42)) traps
      held_near from n traps few h =
          elim h [
            | inl r ↦ ready_near n traps few r
            | inr gone ↦
                (empty_all IsLegal traps gone.0, empty_all (HasCornersUpTo (2 ^ 42)) traps gone.0)
          ]

      -- all lists so far
      pub lists_near : (from : ℕ) (lists : List (List Trapezoid)) → length lists ≤ 256 → All_held from lists → (a : ℕ)
          → All IsLegal (list_at lists a) × All (HasCornersUpTo (2 ^ 42)) (list_at lists a)
      lists_near from lists few held a = elim (below_or a (length lists)) [
        | inl early ↦ held_near from a (list_at lists a) (omega (arith, early, few)) (held a early)
        | inr late ↦ (empty_all IsLegal (list_at lists a) (past lists a late), empty_all (HasCornersUpTo (2 ^ 42)) (list_at lists a) (past lists a late))
      ]

      corner_shot : (z : Trapezoid) → IsLegal z → HasCornersUpTo (2 ^ 42) z → IsShot z
      corner_shot z legal h = record {
        legal = legal;
        reach = record {
          y0 = record { low = omega (arith, ints, h.y0.low); high = omega (arith, ints, h.y0.high) };
          y1 = record { low = omega (arith, ints, h.y1.low); high = omega (arith, ints, h.y1.high) };
          bottom_left = record { low = omega (arith, ints, h.bottom_left.low); high = omega (arith, ints, h.bottom_left.high) };
          bottom_right = record { low = omega (arith, ints, h.bottom_right.low); high = omega (arith, ints, h.bottom_right.high) };
          top_left = record { low = omega (arith, ints, h.top_left.low); high = omega (arith, ints, h.top_left.high) };
          top_right = record { low = omega (arith, ints, h.top_right.low); high = omega (arith, ints, h.top_right.high) };
        };
      }

      pub ready_shots : (n : ℕ) (traps : List Trapezoid) → n < 256 → Ready n traps → All IsShot traps
      ready_shots n traps few r =
          let b = ready_near n traps few r in
          all_members IsShot traps (λ z c. corner_shot z (All-contains IsLegal traps z b.0 c) (All-contains (HasCornersUpTo (2 ^ 42)) traps z b.1 c))

  -- ---- the lists as they are put one by one

  put_before : (lists : List (List Trapezoid)) (traps : List Trapezoid) (n : ℕ) → n < length lists → list_at (lists ++ traps ∷ []) n ≡ list_at lists n
  put_before [] traps n inside = absurd (omega (arith, inside))
  put_before (list ∷ lists) traps zero inside = refl
  put_before (list ∷ lists) traps (suc n) inside = put_before lists traps n (omega (arith, inside))

  put_last : (lists : List (List Trapezoid)) (traps : List Trapezoid) → list_at (lists ++ traps ∷ []) (length lists) ≡ traps
  put_last [] traps = refl
  put_last (list ∷ lists) traps = put_last lists traps

  at_last : (n count : ℕ) → n < count + 1 → (n < count) ⊎ (n ≡ count)
  at_last zero zero h = inr refl
  at_last zero (suc count) h = inl (omega arith)
  at_last (suc n) zero h = absurd (omega (arith, h))
  at_last (suc n) (suc count) h = elim (at_last n count (omega (arith, h))) [ inl l ↦ inl (omega (arith, l)) | inr e ↦ inr (ap suc e) ]

  -- ---- the lists that are let go of

  -- a list that is held stays so when the next definition is done
  held_on : (from n : ℕ) (traps : List Trapezoid) → Held from n traps → Held (from + 1) n traps
  held_on from n traps h = elim h [
    | inl r ↦ inl r
    | inr gone ↦ inr (gone.0, elim gone.1 [ inl past ↦ inl (λ need is. (let p = past need is in omega (arith, p))) | inr out ↦ inr out ])
  ]

  pub all_held_on : (from : ℕ) (lists : List (List Trapezoid)) → All_held from lists → All_held (from + 1) lists
  all_held_on from lists held m inside = held_on from m (list_at lists m) (held m inside)

  held_put : (lists : List (List Trapezoid)) (traps : List Trapezoid) → All_held (length lists + 1) lists
      → Held (length lists + 1) (length lists) traps → All_held (length lists + 1) (lists ++ traps ∷ [])
  held_put lists traps before new m inside = elim (at_last m (length lists) (omega (arith, inside, length-append lists (traps ∷ [])))) [
    | inl early ↦ subst (λ list. Held (length lists + 1) m list) (sym (put_before lists traps m early)) (before m early)
    | inr last ↦ subst (λ k. Held (length lists + 1) k (list_at (lists ++ traps ∷ []) k)) (sym last)
        (subst (λ list. Held (length lists + 1) (length lists) list) (sym (put_last lists traps)) new)
  ]

  -- the definition `user` is done, and it was the last that takes this one
  past_last : (user n : ℕ) (found : Option Need) → ends_at found user ≡ true → get_or needs n None ≡ found → IsPast needs (user + 1) n
  past_last user n None ends e = absurd (false≢true ends)
  past_last user n (Some need) ends e = λ other is.
      let same = same_Some need other (sym e ∙ get_or_from_slice_get needs n (Some other) None is) in
      let last : need.last ≡ user = eqb-true need.last user ends in
      omega (arith, last, ap (λ (x : Need). x.last) same)

  held_one : (user n : ℕ) (lists : List (List Trapezoid)) → n < length lists → IsPast needs (user + 1) n
      → All_held (user + 1) lists → All_held (user + 1) (set lists n [])
  held_one user n lists inside past held m early_set =
      let early : m < length lists = subst (λ k. m < k) (set_length lists n []) early_set in
      elim (get_cases lists n [] [] m inside) [
        | inl here ↦ inr (here.1, inl (subst (IsPast needs (user + 1)) (sym here.0) past))
        | inr other ↦ subst (λ traps. Held (user + 1) m traps) (sym other.1) (held m early)
      ]

  -- the list of an operand is moved, which no later definition takes
  pub held_moved : (user n : ℕ) (lists : List (List Trapezoid)) → n < length lists
      → ends_at (get_or needs n None) user ≡ true → All_held user lists → All_held (user + 1) (set lists n [])
  held_moved user n lists inside ends held = held_one user n lists inside (past_last user n (get_or needs n None) ends refl) (all_held_on user lists held)

  by_test : (user n : ℕ) (lists : List (List Trapezoid)) (test : Bool) → ends_at (get_or needs n None) user ≡ test
      → n < length lists → All_held (user + 1) lists → All_held (user + 1) (if test then set lists n [] else lists)
  by_test user n lists true e inside held = held_one user n lists inside (past_last user n (get_or needs n None) e refl) held
  by_test user n lists false e inside held = held

  held_let_go : (user : ℕ) (operand : Option Taken) (lists : List (List Trapezoid))
      → IfSome operand (λ operand. operand.name < length lists) → All_held (user + 1) lists
      → All_held (user + 1) (let_go needs user operand lists)
  held_let_go user None lists inside held = held
  held_let_go user (Some operand) lists inside held = by_test user operand.name lists (ends_at (get_or needs operand.name None) user) refl inside held

  inside_still : (operand : Option Taken) (n k : ℕ) → n ≡ k → IfSome operand (λ operand. operand.name < n) → IfSome operand (λ operand. operand.name < k)
  inside_still operand n k e h = subst (λ k. IfSome operand (λ operand. operand.name < k)) e h

  -- what is held once the next definition is done, which has these operands
  pub held_next : (lists : List (List Trapezoid)) (traps : List Trapezoid) (first second : Option Taken)
      → All_held (length lists + 1) lists → Held (length lists + 1) (length lists) traps
      → IfSome first (λ operand. operand.name < length lists + 1) → IfSome second (λ operand. operand.name < length lists + 1)
      → All_held (length lists + 1) (let_go needs (length lists) second (let_go needs (length lists) first (lists ++ traps ∷ [])))
  held_next lists traps first second held ready one two =
      let put = lists ++ traps ∷ [] in
      let long = length-append lists (traps ∷ []) in
      let after = let_go needs (length lists) first put in
      held_let_go (length lists) second after
      (inside_still second (length lists + 1) (length after)
      (sym (let_go_length needs (length lists) first put ∙ long)) two)
      (held_let_go (length lists) first put (inside_still first (length lists + 1) (length put) (sym long) one) (held_put lists traps held ready))

  -- the same of what is kept of each list
  pub held_step : {V : Type 0} (f : V → List Trapezoid) (vs : List V) (v : V) (first second : Option Taken)
      (after : List V) → All_held (length vs + 1) (map f vs) → Held (length vs + 1) (length vs) (f v)
      → IfSome first (λ operand. operand.name < length vs + 1) → IfSome second (λ operand. operand.name < length vs + 1)
      → map f after ≡ let_go needs (length vs) second (let_go needs (length vs) first (map f (vs ++ v ∷ [])))
      → (length after ≡ length vs + 1) × All_held (length after) (map f after)
  held_step f vs v first second after held ready one two is =
      let lists = map f vs in
      let e : length lists ≡ length vs = map_same f vs in
      let put = lists ++ f v ∷ [] in
      let more = ap (λ n. n + 1) (sym e) in
      let base = held_next lists (f v) first second (subst (λ n. All_held (n + 1) lists) (sym e) held) (subst (λ n. Held (n + 1) n (f v)) (sym e) ready)
      (inside_still first (length vs + 1) (length lists + 1) more one) (inside_still second (length vs + 1) (length lists + 1) more two) in
      let moved = subst (λ n. All_held (n + 1) (let_go needs n second (let_go needs n first put))) e base in
      let all = is ∙ ap (λ xs. let_go needs (length vs) second (let_go needs (length vs) first xs)) (map_put f vs v) in
      let kept = let_go_length needs (length vs) second (let_go needs (length vs) first put) ∙ let_go_length needs (length vs) first put in
      let long : length after ≡ length vs + 1 = sym (map_same f after) ∙ (ap length all ∙ (kept ∙ (length-append lists (f v ∷ []) ∙ sym more))) in
      (long, subst (λ n. All_held n (map f after)) (sym long) (subst (λ xs. All_held (length vs + 1) xs) (sym all) moved))

  -- ---- the output's own

  own_window : (halo : ℤ) → halo ≡ pos 0 → widened halo band ≡ band
  own_window halo e =
      let low : band.y0 -ℤ halo ≡ band.y0 = omega (arith, ints, e) in
      let high : band.y1 +ℤ halo ≡ band.y1 = omega (arith, ints, e) in
      ap (λ y. row_range y (band.y1 +ℤ halo)) low ∙ ap (λ y. row_range band.y0 y) high

  pub own_area : (name : ℕ) (traps : List Trapezoid) → AreHalos deck name 0 needs → Ready name traps → HasArea band (IsInArea cells top deck name) traps
  own_area name traps halos r = subst (λ w. HasArea w (IsInArea cells top deck name) traps)
      (own_window halos.own.0.halo halos.own.2) (r.needed halos.own.0 halos.own.1)

  by_output : (name : ℕ) (found : Option Output) (t : Tile) → IsSomeAnd found (λ output. output.name ≡ name)
      → IsInArea cells top deck name t → IsSomeAnd found (λ output. IsInArea cells top deck output.name t)
  by_output name None t e h = absurd e
  by_output name (Some output) t e h = subst (λ n. IsInArea cells top deck n t) (sym e) h

  of_output : (name : ℕ) (found : Option Output) (t : Tile) → IsSomeAnd found (λ output. output.name ≡ name)
      → IsSomeAnd found (λ output. IsInArea cells top deck output.name t) → IsInArea cells top deck name t
  of_output name None t e h = absurd e
  of_output name (Some output) t e h = subst (λ n. IsInArea cells top deck n t) e h

  pub output_area : (name k : ℕ) (traps : List Trapezoid)
      → IsSomeAnd (slice_get deck.outputs k) (λ output. output.name ≡ name)
      → HasArea band (IsInArea cells top deck name) traps → IsJoinedOf band (IsInBand cells top deck k band) traps
  output_area name k traps named has =
      let all = covers_exactly band (IsInArea cells top deck name) traps has in
      record {
        joined = all.joined;
        covers = record {
          once = λ t b. all.covers.once t (b.rows, of_output name (slice_get deck.outputs k) t named b.area);
          never = λ t out. all.covers.never t (λ both. out (record { rows = both.0; area = by_output name (slice_get deck.outputs k) t named both.1 }));
        };
      }

  -- ---- the next list

  pub ready_some : (n : ℕ) (need : Need) (traps : List Trapezoid) → NeedIs needs n need
      → HasArea (widened need.halo band) (IsInArea cells top deck n) traps → Ready n traps
  ready_some n need traps is h = record {
    needed = λ other there.
        (let same = one_slot needs n (Some need) (Some other) is there in subst
        (λ (x : Need). HasArea (widened x.halo band) (IsInArea cells top deck n) traps) (same_Some need other same) h);
    others = λ none. absurd (none-some need (sym none ∙ get_or_from_slice_get needs n (Some need) None is));
  }

  pub ready_none : (n : ℕ) (traps : List Trapezoid) → get_or needs n None ≡ None → traps ≡ [] → Ready n traps
  ready_none n traps none e = record {
    needed = λ need is. absurd (none-some need (sym none ∙ get_or_from_slice_get needs n (Some need) None is));
    others = λ same. e;
  }

pub window_near : (band : RowRange) (halo : ℤ) → IsBand band → pos 0 ≤ℤ halo → halo ≤ℤ pos (2 ^ 40)
    → IsUpTo (2 ^ 50) (widened halo band).y0 × IsUpTo (2 ^ 50) (widened halo band).y1
window_near band halo b low high = (
  record { low = omega (arith, ints, b.low.low, high); high = omega (arith, ints, b.low.high, low) },
  record { low = omega (arith, ints, b.high.low, low); high = omega (arith, ints, b.high.high, high) },
)

pub window_of : (band : RowRange) (need : Need) (found : Option Need) (window : RowRange) → found ≡ Some need
    → window ≡ window_for band found → window ≡ widened need.halo band
window_of band need found window e is = is ∙ ap (window_for band) e
