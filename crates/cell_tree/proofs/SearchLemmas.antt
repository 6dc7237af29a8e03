-- The steps of a search.
use Rattle.std.proofs.Common.{◌≡◌, ◌≢◌, ◌⊎◌, ℕ, zero, suc, ◌+◌, ◌-◌, ◌<◌, ◌≤◌, List, [], ◌∷◌, ◌++◌, Option, Some, None}
use Rattle.std.proofs.Common.{map, length, drop, set, get_or, slice_get, replicate, refl, sym, ap, subst, ◌∙◌, inl, inr}
use Rattle.std.proofs.Common.{arith}
use Rattle.std.proofs.lemmas.List.{length-set, length_push, length-map, length-drop, length-replicate}
use Rattle.std.proofs.lemmas.List.Sums.{sum_by_push}
use Rattle.std.proofs.lemmas.Option.{none-some, same_Some, slice_get_within, slice_get-get_or}
use Rattle.layout_model.specs.declared.cells.Cell.{Cell}
use Rattle.cell_tree.specs.Cells.{PlacesCell, PlacesAt, targets_at, placements_at, cell_number}
use Rattle.cell_tree.specs.Chains.{IsReachable, IsCycle}
use Rattle.cell_tree.specs.Orders.{IsAmong, IsBefore}
use Rattle.cell_tree.specs.Searches.{IsMet, IsStop, IsOnPath, IsSearch, new_work, stop_work, work_left, IsFound}
use Rattle.cell_tree.specs.declared.orders.Mark.{Mark}
use Rattle.cell_tree.specs.declared.orders.Mark.TheVariants.{New, Open, Done}
use Rattle.cell_tree.specs.declared.orders.Stop.{Stop}
use Rattle.cell_tree.proofs.SlotLemmas.{slot_set_same, slot_set_other, slot_push, slot_before, slot_last, slot_past}
use Rattle.cell_tree.proofs.SlotLemmas.{slot_drop, map_slot, one_slot, All-from_slots, slot_read}
use Rattle.cell_tree.proofs.NameLemmas.{targets_below}
use Rattle.cell_tree.proofs.ChainLemmas.{reach_more, reachable_within, top_reachable, places_cell, places_at, along}

-- m is n, or it isn't
abbrev pub Apart : ℕ → ℕ → Type 0
Apart m n = (m ≡ n) ⊎ (m ≡ n → ⊥)

pub apart : (m n : ℕ) → Apart m n
apart zero zero = inl refl
apart zero (suc n) = inr (λ e. omega arith)
apart (suc m) zero = inr (λ e. omega arith)
apart (suc m) (suc n) = elim (apart m n) [ inl e ↦ inl (ap suc e) | inr differs ↦ inr (λ e. differs (omega arith)) ]

new_met : (marks : List Mark) (n : ℕ) → slice_get marks n ≡ Some New → IsMet marks n → ⊥
new_met marks n new met =
    elim met [
      | inl opened ↦ (let e = one_slot marks n New Open new opened in cc)
      | inr done ↦
          (let e = one_slot marks n New Done new done in cc)
    ]

-- a mark that is set: at its place, and elsewhere
abbrev SetAt : List Mark → ℕ → Mark → ℕ → Type 0
SetAt marks c mark n = ((n ≡ c) × (slice_get (set marks c mark) n ≡ Some mark)) ⊎ ((n ≡ c → ⊥) × (slice_get (set marks c mark) n ≡ slice_get marks n))

set_at : (marks : List Mark) (c : ℕ) (mark : Mark) (n : ℕ) → c < length marks → SetAt marks c mark n
set_at marks c mark n inside = elim (apart n c) [
  | inl e ↦ inl (e, subst (λ k. slice_get (set marks c mark) k ≡ Some mark) (sym e) (slot_set_same marks c mark inside))
  | inr differs ↦ inr (differs, slot_set_other marks c mark n differs)
]

-- what was met stays met, whatever is marked as opened or as done
met_set : (marks : List Mark) (c : ℕ) (mark : Mark) (n : ℕ) → c < length marks → (mark ≡ Open) ⊎ (mark ≡ Done) → IsMet marks n → IsMet (set marks c mark) n
met_set marks c mark n inside kind met = elim (set_at marks c mark n inside) [
  | inl at ↦ elim kind [ inl opened ↦ inl (at.1 ∙ ap Some opened) | inr done ↦ inr (at.1 ∙ ap Some done) ]
  | inr at ↦ elim met [ inl opened ↦ inl (at.1 ∙ opened) | inr done ↦ inr (at.1 ∙ done) ]
]

among_push : (order : List ℕ) (c n : ℕ) → IsAmong order n → IsAmong (order ++ c ∷ []) n
among_push order c n among = (among.0, slot_before order (c ∷ []) among.0 n among.1)

before_push : (order : List ℕ) (c j n : ℕ) → IsBefore order j n → IsBefore (order ++ c ∷ []) j n
before_push order c j n before = (before.0, before.1, slot_before order (c ∷ []) before.0 n before.2)

stop_push : (path : List Stop) (stop : Stop) (i n : ℕ) → IsStop path i n → IsStop (path ++ stop ∷ []) i n
stop_push path stop i n at = (at.0, slot_before path (stop ∷ []) i at.0 at.1, at.2)

-- a stop is one of the path, or the last
stop_of_push : (path : List Stop) (stop : Stop) (i n : ℕ) → IsStop (path ++ stop ∷ []) i n → IsStop path i n ⊎ ((i ≡ length path) × (stop.cell ≡ n))
stop_of_push path stop i n at = elim (slot_push path stop i at.0 at.1) [
  | inl before ↦ inl (at.0, before, at.2)
  | inr last ↦ inr (last.0, ap (λ s. s.cell) last.1 ∙ at.2)
]

-- ---- a cell is left

module _ (cells : List Cell) (top : ℕ) (marks : List Mark) (path : List Stop) (order cycle : List ℕ) (stop : Stop)
    (s : IsSearch cells top marks (path ++ stop ∷ []) order cycle) (inside : stop.cell < length cells)
    (all : length (targets_at cells stop.cell) ≤ stop.next) where
  here : slice_get (path ++ stop ∷ []) (length path) ≡ Some stop
  here = slot_last path stop

  marked : stop.cell < length marks
  marked = omega (arith, s.sized)

  done_kept : (n : ℕ) → slice_get marks n ≡ Some Done → slice_get (set marks stop.cell Done) n ≡ Some Done
  done_kept n done = elim (set_at marks stop.cell Done n marked) [ inl at ↦ at.1 | inr at ↦ at.1 ∙ done ]

  left_on_path : (n : ℕ) → slice_get (set marks stop.cell Done) n ≡ Some Open → IsOnPath path n
  left_on_path n opened = elim (set_at marks stop.cell Done n marked) [
    | inl at ↦ absurd (let e = same_Some Done Open (sym at.1 ∙ opened) in cc)
    | inr at ↦ (let on = s.on_path n (sym at.1 ∙ opened) in elim (stop_of_push path stop on.0 n on.1) [
      | inl before ↦ (on.0, before)
      | inr last ↦ absurd (at.0 (sym last.1))
    ])
  ]

  left_done : (n : ℕ) → slice_get (set marks stop.cell Done) n ≡ Some Done → IsAmong (order ++ stop.cell ∷ []) n
  left_done n done = elim (set_at marks stop.cell Done n marked) [
    | inl at ↦ (length order, subst (λ k. slice_get (order ++ stop.cell ∷ []) (length order) ≡ Some k) (sym at.0) (slot_last order stop.cell))
    | inr at ↦ among_push order stop.cell n (s.is_done n (sym at.1 ∙ done))
  ]

  left_left : cycle ≡ [] → (i : ℕ) (at : Stop) (k m : ℕ) → slice_get path i ≡ Some at → k < at.next → PlacesAt cells at.cell k m
      → (slice_get (set marks stop.cell Done) m ≡ Some Done) ⊎ IsStop path (suc i) m
  left_left none i at k m on looked places = elim (s.left none i at k m (slot_before path (stop ∷ []) i at on) looked places) [
    | inl done ↦ inl (done_kept m done)
    | inr next ↦ elim (stop_of_push path stop (suc i) m next) [
      | inl before ↦ inr before
      | inr last ↦ inl (subst (λ k. slice_get (set marks stop.cell Done) k ≡ Some Done) last.1 (slot_set_same marks stop.cell Done marked))
    ]
  ]

  looked_at : (k m : ℕ) → PlacesAt cells stop.cell k m → k < stop.next
  looked_at k m places = let within = slice_get_within (targets_at cells stop.cell) k (Some m) places in omega arith

  left_upward : cycle ≡ [] → (j n k m : ℕ) → slice_get (order ++ stop.cell ∷ []) j ≡ Some n → PlacesAt cells n k m → IsBefore (order ++ stop.cell ∷ []) j m
  left_upward none j n k m at places = elim (slot_push order stop.cell j n at) [
    | inl before ↦ before_push order stop.cell j m (s.upward none j n k m before places)
    | inr last ↦ (let places' : PlacesAt cells stop.cell k m = subst (λ c. PlacesAt cells c k m) (sym last.1) places in
        elim (s.left none (length path) stop k m here (looked_at k m places') places') [
          | inl done ↦ (let among = s.is_done m done in let within = slice_get_within order among.0 m among.1 in
              (among.0, omega arith, slot_before order (stop.cell ∷ []) among.0 m among.1))
          | inr next ↦ absurd (slot_past (path ++ stop ∷ []) (suc (length path)) next.0 (omega (arith, length_push path stop)) next.1)
        ])
  ]

  left_met : (j n k m : ℕ) → slice_get (order ++ stop.cell ∷ []) j ≡ Some n → PlacesAt cells n k m → IsMet (set marks stop.cell Done) m
  left_met j n k m at places = met_set marks stop.cell Done m marked (inr refl) (elim (slot_push order stop.cell j n at) [
    | inl before ↦ s.done_met j n k m before places
    | inr last ↦ (let places' : PlacesAt cells stop.cell k m = subst (λ c. PlacesAt cells c k m) (sym last.1) places in
        s.met (length path) stop k m here (looked_at k m places') places')
  ])

  pub leaves : IsSearch cells top (set marks stop.cell Done) path (order ++ stop.cell ∷ []) cycle
  leaves = record {
    sized = length-set marks stop.cell Done ∙ s.sized;
    top_met = met_set marks stop.cell Done top marked (inr refl) s.top_met;
    path_reachable = λ i at on. s.path_reachable i at (slot_before path (stop ∷ []) i at on);
    path_onward = λ i at next on after. s.path_onward i at next (slot_before path (stop ∷ []) i at on) (slot_before path (stop ∷ []) (suc i) next after);
    on_path = left_on_path;
    is_done = left_done;
    order_reachable = λ k n at. elim (slot_push order stop.cell k n at) [
      | inl before ↦ s.order_reachable k n before
      | inr last ↦ subst (IsReachable cells top) last.1 (s.path_reachable (length path) stop here)
    ];
    met = λ i at k m on looked places. met_set marks stop.cell Done m marked (inr refl) (s.met i at k m (slot_before path (stop ∷ []) i at on) looked places);
    left = left_left;
    done_met = left_met;
    upward = left_upward;
    cyclic = s.cyclic;
  }

-- ---- a placement is looked at

abbrev pub onward : Stop → Stop
onward stop = record { cell = stop.cell; next = stop.next + 1 }

-- a stop of the path before
old_stop : (path : List Stop) (stop : Stop) (i : ℕ) (at : Stop) → slice_get (path ++ onward stop ∷ []) i ≡ Some at
    → (slice_get (path ++ stop ∷ []) i ≡ Some at) ⊎ ((i ≡ length path) × (onward stop ≡ at))
old_stop path stop i at on = elim (slot_push path (onward stop) i at on) [ inl before ↦ inl (slot_before path (stop ∷ []) i at before) | inr last ↦ inr last ]

old_cell : (path : List Stop) (stop : Stop) (i : ℕ) (at : Stop) → slice_get (path ++ onward stop ∷ []) i ≡ Some at → IsStop (path ++ stop ∷ []) i at.cell
old_cell path stop i at on = elim (old_stop path stop i at on) [
  | inl before ↦ (at, before, refl)
  | inr last ↦ (stop, subst (λ k. slice_get (path ++ stop ∷ []) k ≡ Some stop) (sym last.0) (slot_last path stop), ap (λ s. s.cell) last.1)
]

new_stop : (path : List Stop) (stop : Stop) (i n : ℕ) → IsStop (path ++ stop ∷ []) i n → IsStop (path ++ onward stop ∷ []) i n
new_stop path stop i n at = elim (slot_push path stop i at.0 at.1) [
  | inl before ↦ (at.0, slot_before path (onward stop ∷ []) i at.0 before, at.2)
  | inr last ↦ (
    onward stop,
    subst (λ k. slice_get (path ++ onward stop ∷ []) k ≡ Some (onward stop)) (sym last.0)
        (slot_last path (onward stop)),
    ap (λ s. s.cell) last.1 ∙ at.2,
  )
]

below_next : (k next : ℕ) → k < next + 1 → (k < next) ⊎ (k ≡ next)
below_next k next below = elim (apart k next) [ inl e ↦ inr e | inr differs ↦ inl (omega arith) ]

module _ (cells : List Cell) (top : ℕ) (marks : List Mark) (path : List Stop) (order cycle : List ℕ) (stop : Stop)
    (s : IsSearch cells top marks (path ++ stop ∷ []) order cycle) where
  stop_here : slice_get (path ++ stop ∷ []) (length path) ≡ Some stop
  stop_here = slot_last path stop

  on_reachable : (i : ℕ) (at : Stop) → slice_get (path ++ onward stop ∷ []) i ≡ Some at → IsReachable cells top at.cell
  on_reachable i at on = let old = old_cell path stop i at on in subst (IsReachable cells top) old.2 (s.path_reachable i old.0 old.1)

  on_onward : (i : ℕ) (at next : Stop) → slice_get (path ++ onward stop ∷ []) i ≡ Some at
      → slice_get (path ++ onward stop ∷ []) (suc i) ≡ Some next → PlacesCell cells at.cell next.cell
  on_onward i at next on after =
      let old = old_cell path stop i at on in let old' = old_cell path stop (suc i) next after in
      subst (λ c. PlacesCell cells c next.cell) old.2 (subst (PlacesCell cells old.0.cell) old'.2 (s.path_onward i old.0 old'.0 old.1 old'.1))

  -- the last placement that is looked at is known, or leads to the new end of the path
  module _ (cycle' : List ℕ) (kept : cycle' ≡ [] → cycle ≡ []) (cyclic' : (cycle' ≡ []) ⊎ IsCycle cells top cycle')
      (seen : (m : ℕ) → PlacesAt cells stop.cell stop.next m → IsMet marks m × (cycle' ≡ [] → slice_get marks m ≡ Some Done)) where
    seen_met : (i : ℕ) (at : Stop) (k m : ℕ) → slice_get (path ++ onward stop ∷ []) i ≡ Some at → k < at.next → PlacesAt cells at.cell k m → IsMet marks m
    seen_met i at k m on looked places = elim (old_stop path stop i at on) [
      | inl before ↦ s.met i at k m before looked places
      | inr last ↦ (let places' : PlacesAt cells stop.cell k m = subst (λ a. PlacesAt cells a.cell k m) (sym last.1) places in
          elim (below_next k stop.next (subst (λ a. k < a.next) (sym last.1) looked)) [
            | inl less ↦ s.met (length path) stop k m stop_here less places'
            | inr e ↦ (seen m (subst (λ j. PlacesAt cells stop.cell j m) e places')).0
          ])
    ]

    seen_left : cycle' ≡ [] → (i : ℕ) (at : Stop) (k m : ℕ) → slice_get (path ++ onward stop ∷ []) i ≡ Some at → k < at.next → PlacesAt cells at.cell k m
        → (slice_get marks m ≡ Some Done) ⊎ IsStop (path ++ onward stop ∷ []) (suc i) m
    seen_left none i at k m on looked places = elim (old_stop path stop i at on) [
      | inl before ↦ elim (s.left (kept none) i at k m before looked places) [ inl done ↦ inl done | inr next ↦ inr (new_stop path stop (suc i) m next) ]
      | inr last ↦ (let places' : PlacesAt cells stop.cell k m = subst (λ a. PlacesAt cells a.cell k m) (sym last.1) places in
          elim (below_next k stop.next (subst (λ a. k < a.next) (sym last.1) looked)) [
            | inl less ↦ elim (s.left (kept none) (length path) stop k m stop_here less places') [
              | inl done ↦ inl done
              | inr next ↦ inr (subst (λ j. IsStop (path ++ onward stop ∷ []) (suc j) m) (sym last.0) (new_stop path stop (suc (length path)) m next))
            ]
            | inr e ↦ inl ((seen m (subst (λ j. PlacesAt cells stop.cell j m) e places')).1 none)
          ])
    ]

    pub looks : IsSearch cells top marks (path ++ onward stop ∷ []) order cycle'
    looks = record {
      sized = s.sized;
      top_met = s.top_met;
      path_reachable = on_reachable;
      path_onward = on_onward;
      on_path = λ n opened. (let on = s.on_path n opened in (on.0, new_stop path stop on.0 n on.1));
      is_done = s.is_done;
      order_reachable = s.order_reachable;
      met = seen_met;
      left = seen_left;
      done_met = s.done_met;
      upward = λ none. s.upward (kept none);
      cyclic = cyclic';
    }

  -- the last placement that is looked at leads to a new cell
  module _ (m : ℕ) (inside : m < length cells) (places : PlacesAt cells stop.cell stop.next m) (new : slice_get marks m ≡ Some New) where
    marked_new : m < length marks
    marked_new = omega (arith, s.sized)

    abbrev pub on : List Stop
    on = path ++ onward stop ∷ []

    abbrev pub fresh : Stop
    fresh = record { cell = m; next = 0 }

    still_met : (n : ℕ) → IsMet marks n → IsMet (set marks m Open) n
    still_met n met = met_set marks m Open n marked_new (inl refl) met

    still_done : (n : ℕ) → slice_get marks n ≡ Some Done → slice_get (set marks m Open) n ≡ Some Done
    still_done n done = elim (set_at marks m Open n marked_new) [
      | inl at ↦ absurd (new_met marks m new (inr (subst (λ k. slice_get marks k ≡ Some Done) at.0 done)))
      | inr at ↦ at.1 ∙ done
    ]

    same_target : (k n : ℕ) → k ≡ stop.next → PlacesAt cells stop.cell k n → n ≡ m
    same_target k n e at = same_Some n m (same_Some (Some n) (Some m) (sym (subst (λ j. PlacesAt cells stop.cell j n) e at) ∙ places))

    new_reachable : (i : ℕ) (at : Stop) → slice_get (on ++ fresh ∷ []) i ≡ Some at → IsReachable cells top at.cell
    new_reachable i at there = elim (slot_push on fresh i at there) [
      | inl before ↦ on_reachable i at before
      | inr last ↦ subst (λ a. IsReachable cells top a.cell) last.1
          (reach_more cells top stop.cell m (s.path_reachable (length path) stop stop_here) (places_cell cells stop.cell stop.next m places))
    ]

    new_onward : (i : ℕ) (at next : Stop) → slice_get (on ++ fresh ∷ []) i ≡ Some at
        → slice_get (on ++ fresh ∷ []) (suc i) ≡ Some next → PlacesCell cells at.cell next.cell
    new_onward i at next there after =
        let long = length_push path (onward stop) in
        elim (slot_push on fresh (suc i) next after) [
          | inl before ↦ (let within = slice_get_within on (suc i) next before in elim (slot_push on fresh i at there) [
            | inl there' ↦ on_onward i at next there' before
            | inr last ↦ absurd (omega (arith, last.0))
          ])
          | inr last ↦ (let e : i ≡ length path = omega (arith, last.0) in elim (slot_push on fresh i at there) [
            | inl there' ↦ (let here' = one_slot on (length path) at (onward stop)
                (subst (λ j. slice_get on j ≡ Some at) e there') (slot_last path (onward stop)) in
                subst (λ a. PlacesCell cells a.cell next.cell) (sym here')
                (subst (λ a. PlacesCell cells stop.cell a.cell) last.1
                (places_cell cells stop.cell stop.next m places)))
            | inr last' ↦ absurd (omega (arith, last.0, last'.0))
          ])
        ]

    new_on_path : (n : ℕ) → slice_get (set marks m Open) n ≡ Some Open → IsOnPath (on ++ fresh ∷ []) n
    new_on_path n opened = elim (set_at marks m Open n marked_new) [
      | inl at ↦ (length on, (fresh, slot_last on fresh, sym at.0))
      | inr at ↦ (let old = s.on_path n (sym at.1 ∙ opened) in (old.0, stop_push on fresh old.0 n (new_stop path stop old.0 n old.1)))
    ]

    new_done : (n : ℕ) → slice_get (set marks m Open) n ≡ Some Done → IsAmong order n
    new_done n done = elim (set_at marks m Open n marked_new) [
      | inl at ↦ absurd (let e = same_Some Open Done (sym at.1 ∙ done) in cc)
      | inr at ↦ s.is_done n (sym at.1 ∙ done)
    ]

    new_seen : (i : ℕ) (at : Stop) (k n : ℕ) → slice_get (on ++ fresh ∷ []) i ≡ Some at → k < at.next → PlacesAt cells at.cell k n → IsMet (set marks m Open) n
    new_seen i at k n there looked places' = elim (slot_push on fresh i at there) [
      | inl before ↦ elim (old_stop path stop i at before) [
        | inl old ↦ still_met n (s.met i at k n old looked places')
        | inr last ↦ (let at' : PlacesAt cells stop.cell k n = subst (λ a. PlacesAt cells a.cell k n) (sym last.1) places' in
            elim (below_next k stop.next (subst (λ a. k < a.next) (sym last.1) looked)) [
              | inl less ↦ still_met n (s.met (length path) stop k n stop_here less at')
              | inr e ↦ inl (subst (λ c. slice_get (set marks m Open) c ≡ Some Open) (sym (same_target k n e at')) (slot_set_same marks m Open marked_new))
            ])
      ]
      | inr last ↦ absurd (let none : k < 0 = subst (λ a. k < a.next) (sym last.1) looked in omega arith)
    ]

    new_left : cycle ≡ [] → (i : ℕ) (at : Stop) (k n : ℕ) → slice_get (on ++ fresh ∷ []) i ≡ Some at → k < at.next → PlacesAt cells at.cell k n
        → (slice_get (set marks m Open) n ≡ Some Done) ⊎ IsStop (on ++ fresh ∷ []) (suc i) n
    new_left none i at k n there looked places' = elim (slot_push on fresh i at there) [
      | inl before ↦ elim (old_stop path stop i at before) [
        | inl old ↦ elim (s.left none i at k n old looked places') [
          | inl done ↦ inl (still_done n done)
          | inr next ↦ inr (stop_push on fresh (suc i) n (new_stop path stop (suc i) n next))
        ]
        | inr last ↦ (let at' : PlacesAt cells stop.cell k n = subst (λ a. PlacesAt cells a.cell k n) (sym last.1) places' in
            elim (below_next k stop.next (subst (λ a. k < a.next) (sym last.1) looked)) [
              | inl less ↦ elim (s.left none (length path) stop k n stop_here less at') [
                | inl done ↦ inl (still_done n done)
                | inr next ↦ absurd (slot_past (path ++ stop ∷ []) (suc (length path)) next.0 (omega (arith, length_push path stop)) next.1)
              ]
              | inr e ↦ (let long : length on ≡ suc i = omega (arith, length_push path (onward stop), last.0) in
                  inr (fresh, subst (λ j. slice_get (on ++ fresh ∷ []) j ≡ Some fresh) long (slot_last on fresh), sym (same_target k n e at')))
            ])
      ]
      | inr last ↦ absurd (let none : k < 0 = subst (λ a. k < a.next) (sym last.1) looked in omega arith)
    ]

    pub enters : IsSearch cells top (set marks m Open) (on ++ fresh ∷ []) order cycle
    enters = record {
      sized = length-set marks m Open ∙ s.sized;
      top_met = still_met top s.top_met;
      path_reachable = new_reachable;
      path_onward = new_onward;
      on_path = new_on_path;
      is_done = new_done;
      order_reachable = s.order_reachable;
      met = new_seen;
      left = new_left;
      done_met = λ j n k c at places'. still_met c (s.done_met j n k c at places');
      upward = s.upward;
      cyclic = s.cyclic;
    }

-- ---- a cycle

-- the cells of the path from the place of a cell on, which the last of them places
pub closes : (cells : List Cell) (top : ℕ) (path : List Stop) (last : Stop) (m i : ℕ) (numbers : List ℕ)
    → ((j : ℕ) (at : Stop) → slice_get (path ++ last ∷ []) j ≡ Some at → IsReachable cells top at.cell)
    → ((j : ℕ) (at next : Stop) → slice_get (path ++ last ∷ []) j ≡ Some at
    → slice_get (path ++ last ∷ []) (suc j) ≡ Some next → PlacesCell cells at.cell next.cell)
    → PlacesCell cells last.cell m → IsStop (path ++ last ∷ []) i m → numbers ≡ map (λ stop. stop.cell) (drop i (path ++ last ∷ []))
    → IsCycle cells top numbers
closes cells top path last m i numbers reach onto places at is =
    let p : List Stop = path ++ last ∷ [] in
    let within = slice_get_within (path ++ last ∷ []) i at.0 at.1 in
    let long : length numbers ≡ length (path ++ last ∷ []) - i = ap length is ∙ length-map (drop i (path ++ last ∷ []))
    (λ stop. stop.cell) ∙ length-drop i (path ++ last ∷ []) in
    let whole = length_push path last in
    let slot : (k n : ℕ) → slice_get numbers k ≡ Some n → IsStop (path ++ last ∷ []) (i + k) n = λ k n here.
    (let there = map_slot (λ stop. stop.cell) (drop i (path ++ last ∷ [])) k n (sym (ap (λ l. slice_get l k) is) ∙ here) in
    (there.0, sym (slot_drop i (path ++ last ∷ []) k) ∙ there.1, there.2)) in
    record {
      nonempty = omega arith;
      reachable = λ k n here. (let s = slot k n here in subst (IsReachable cells top) s.2 (reach (i + k) s.0 s.1));
      onward = λ k n o here after. (let s = slot k n here in let t = slot (k + 1) o after in let e : i + (k + 1) ≡ suc (i + k) = omega arith in
          subst (λ c. PlacesCell cells c o) s.2 (subst (PlacesCell cells s.0.cell) t.2
          (onto (i + k) s.0 t.0 s.1 (subst (λ j. slice_get (path ++ last ∷ []) j ≡ Some t.0) e t.1))));
      back = λ n o here first. (let s = slot (length numbers - 1) n here in let t = slot 0 o first in
          let e : i + (length numbers - 1) ≡ length path = omega arith in
          let e' : i + 0 ≡ i = omega arith in
          let s' : s.0 ≡ last = one_slot (path ++ last ∷ []) (length path) s.0 last
          (subst (λ j. slice_get (path ++ last ∷ []) j ≡ Some s.0) e s.1) (slot_last path last) in
          let t' : t.0 ≡ at.0 = one_slot (path ++ last ∷ []) i t.0 at.0 (subst (λ j. slice_get (path ++ last ∷ []) j ≡ Some t.0) e' t.1) at.1 in
          subst (λ c. PlacesCell cells c o) (sym (ap (λ a. a.cell) s') ∙ s.2)
          (subst (PlacesCell cells last.cell) (sym at.2 ∙ sym (ap (λ a. a.cell) t') ∙ t.2) places));
    }

-- ---- the work that is left

mark_work : (marks : List Mark) (cells : List Cell) (c : ℕ) → new_work (set marks c Done) cells ≤ new_work marks cells
mark_work [] cells c = omega arith
mark_work (mark ∷ marks) [] zero = omega arith
mark_work (mark ∷ marks) [] (suc c) = omega arith
mark_work (New ∷ marks) (cell ∷ cells) zero = omega arith
mark_work (Open ∷ marks) (cell ∷ cells) zero = omega arith
mark_work (Done ∷ marks) (cell ∷ cells) zero = omega arith
mark_work (New ∷ marks) (cell ∷ cells) (suc c) = let h = mark_work marks cells c in omega arith
mark_work (Open ∷ marks) (cell ∷ cells) (suc c) = let h = mark_work marks cells c in omega arith
mark_work (Done ∷ marks) (cell ∷ cells) (suc c) = let h = mark_work marks cells c in omega arith

enter_work : (marks : List Mark) (cells : List Cell) (m : ℕ) → m < length cells → slice_get marks m ≡ Some New
    → new_work (set marks m Open) cells + (length (placements_at cells m) + 2) ≡ new_work marks cells
enter_work [] cells m inside new = absurd (none-some New new)
enter_work (mark ∷ marks) [] m inside new = absurd (omega arith)
enter_work (New ∷ marks) (cell ∷ cells) zero inside new = omega arith
enter_work (Open ∷ marks) (cell ∷ cells) zero inside new = absurd (let e = same_Some Open New new in cc)
enter_work (Done ∷ marks) (cell ∷ cells) zero inside new = absurd (let e = same_Some Done New new in cc)
enter_work (New ∷ marks) (cell ∷ cells) (suc m) inside new = let h = enter_work marks cells m (omega arith) new in omega arith
enter_work (Open ∷ marks) (cell ∷ cells) (suc m) inside new = enter_work marks cells m (omega arith) new
enter_work (Done ∷ marks) (cell ∷ cells) (suc m) inside new = enter_work marks cells m (omega arith) new

module _ (cells : List Cell) (marks : List Mark) (path : List Stop) (stop : Stop) where
  pub leaves_smaller : work_left cells (set marks stop.cell Done) path < work_left cells marks (path ++ stop ∷ [])
  leaves_smaller = let more = sum_by_push (stop_work cells) path stop in let less = mark_work marks cells stop.cell in omega arith

  pub enters_smaller : (m : ℕ) → stop.next < length (targets_at cells stop.cell) → m < length cells → slice_get marks m ≡ Some New
      → work_left cells (set marks m Open) ((path ++ onward stop ∷ []) ++ record { cell = m; next = 0 } ∷ []) < work_left cells marks (path ++ stop ∷ [])
  enters_smaller m inside there new =
      let more = sum_by_push (stop_work cells) path stop in
      let less = sum_by_push (stop_work cells) path (onward stop) in
      let last = sum_by_push (stop_work cells) (path ++ onward stop ∷ []) (record { cell = m; next = 0 }) in
      let work = enter_work marks cells m there new in
      let long = length-map (placements_at cells m) (λ p. cell_number cells p.target) in
      omega arith

-- ---- the beginning and the end

pub begins : (cells : List Cell) (top : ℕ) → top < length cells
    → IsSearch cells top (set (replicate (length cells) New) top Open) (record { cell = top; next = 0 } ∷ []) [] []
begins cells top inside =
    let marks : List Mark = replicate (length cells) New in
    let long = length-replicate (length cells) New in
    let marked : top < length (replicate (length cells) New) = omega arith in
    let opened = slot_set_same (replicate (length cells) New) top Open marked in
    let fresh : Stop = record { cell = top; next = 0 } in
    let one : (i : ℕ) (at : Stop) → slice_get (record { cell = top; next = 0 } ∷ []) i ≡ Some at → record { cell = top; next = 0 } ≡ at = λ i at here.
    elim (slot_push [] (record { cell = top; next = 0 }) i at here) [ inl before ↦ absurd (none-some at before) | inr last ↦ last.1 ] in
    let none : (n : ℕ) (mark : Mark) → (mark ≡ New → ⊥)
    → slice_get (set (replicate (length cells) New) top Open) n ≡ Some mark → (n ≡ top)
    × (Open ≡ mark) = λ n mark other here.
    elim (set_at (replicate (length cells) New) top Open n marked) [
      | inl at ↦ (at.0, same_Some Open mark (sym at.1 ∙ here))
      | inr at ↦ absurd (other (replicated (length cells) n mark (sym at.1 ∙ here)))
    ] in
    record {
      sized = length-set (replicate (length cells) New) top Open ∙ long;
      top_met = inl opened;
      path_reachable = λ i at here. subst (λ a. IsReachable cells top a.cell) (one i at here) (top_reachable cells top);
      path_onward = λ i at next here after. absurd (slot_past (record { cell = top; next = 0 } ∷ []) (suc i) next (omega arith) after);
      on_path = λ n here. (0, (record { cell = top; next = 0 }, refl, sym (none n Open (λ e. cc) here).0));
      is_done = λ n here. absurd (let e = (none n Done (λ e. cc) here).1 in cc);
      order_reachable = λ k n here. absurd (none-some n here);
      met = λ i at k m here looked places. absurd (let less : k < 0 = subst (λ a. k < a.next) (sym (one i at here)) looked in omega arith);
      left = λ none' i at k m here looked places. absurd (let less : k < 0 = subst (λ a. k < a.next) (sym (one i at here)) looked in omega arith);
      done_met = λ j n k m here places. absurd (none-some n here);
      upward = λ none' j n k m here places. absurd (none-some n here);
      cyclic = inl refl;
    }
  where
    replicated : (count n : ℕ) (mark : Mark) → slice_get (replicate count New) n ≡ Some mark → mark ≡ New
    replicated zero n mark here = absurd (none-some mark here)
    replicated (suc count) zero mark here = sym (same_Some New mark here)
    replicated (suc count) (suc n) mark here = replicated count n mark here

pub ends : (cells : List Cell) (top : ℕ) (marks : List Mark) (order cycle : List ℕ) → top < length cells
    → IsSearch cells top marks [] order cycle → IsFound cells top order cycle
ends cells top marks order cycle inside s =
    let done : (n : ℕ) → IsMet marks n → IsAmong order n = λ n met. elim met [
      | inl opened ↦ absurd (let on = s.on_path n opened in none-some on.1.0 on.1.1)
      | inr done ↦ s.is_done n done
    ] in
    let step : (a b : ℕ) → IsAmong order a → PlacesCell cells a b → IsAmong order b = λ a b among places.
    done b (s.done_met among.0 a places.1.number b among.1 (places_at cells a places.0 b places.1)) in
    record {
      within = All-from_slots order (λ n. n < length cells) (λ k n here. reachable_within cells top n inside (s.order_reachable k n here));
      reachable = s.order_reachable;
      all = λ n reach. subst (IsAmong order) reach.end (along (IsAmong order) cells top reach.links step (done top s.top_met) reach.chain);
      upward = s.upward;
      cyclic = s.cyclic;
    }

-- ---- a step, by what it finds

pub stop_within : (cells : List Cell) (top : ℕ) (marks : List Mark) (path : List Stop) (order cycle : List ℕ) (stop : Stop) → top < length cells
    → IsSearch cells top marks (path ++ stop ∷ []) order cycle → stop.cell < length cells
stop_within cells top marks path order cycle stop inside s = reachable_within cells top stop.cell inside
    (s.path_reachable (length path) stop (slot_last path stop))

module _ (cells : List Cell) (top : ℕ) (marks : List Mark) (path : List Stop) (order cycle : List ℕ) (stop : Stop)
    (s : IsSearch cells top marks (path ++ stop ∷ []) order cycle) (inside : stop.next < length (targets_at cells stop.cell)) where
  -- the placement that is looked at
  pub next_places : (m : ℕ) → get_or (targets_at cells stop.cell) stop.next None ≡ Some m → PlacesAt cells stop.cell stop.next m
  next_places m is = slice_get-get_or (targets_at cells stop.cell) stop.next None inside ∙ ap Some is

  one_target : (m n : ℕ) → PlacesAt cells stop.cell stop.next m → PlacesAt cells stop.cell stop.next n → m ≡ n
  one_target m n a b = same_Some m n (same_Some (Some m) (Some n) (sym a ∙ b))

  pub go_none : get_or (targets_at cells stop.cell) stop.next None ≡ None → IsSearch cells top marks (path ++ onward stop ∷ []) order cycle
  go_none none = looks cells top marks path order cycle stop s cycle (λ e. e) s.cyclic
      (λ m at. absurd (none-some m (same_Some None (Some m) (sym (slice_get-get_or (targets_at cells stop.cell) stop.next None inside ∙ ap Some none) ∙ at))))

  module _ (m : ℕ) (is : get_or (targets_at cells stop.cell) stop.next None ≡ Some m) where
    pub go_done : slice_get marks m ≡ Some Done → IsSearch cells top marks (path ++ onward stop ∷ []) order cycle
    go_done done = looks cells top marks path order cycle stop s cycle (λ e. e) s.cyclic
        (λ n at. (let e : m ≡ n = one_target m n (next_places m is) at in let done' = subst
        (λ k. slice_get marks k ≡ Some Done) e done in (inr done', λ none. done')))

    pub go_new : m < length cells → slice_get marks m ≡ Some New
        → IsSearch cells top (set marks m Open)
        ((path ++ onward stop ∷ []) ++ record { cell = m; next = 0 } ∷ []) order cycle
    go_new there new = enters cells top marks path order cycle stop s m there (next_places m is) new

    pub go_open : slice_get marks m ≡ Some Open → IsOnPath (path ++ onward stop ∷ []) m
    go_open opened = let on = s.on_path m opened in (on.0, new_stop path stop on.0 m on.1)

    opened_met : slice_get marks m ≡ Some Open → (n : ℕ) → PlacesAt cells stop.cell stop.next n → IsMet marks n
    opened_met opened n at = inl (subst (λ k. slice_get marks k ≡ Some Open) (one_target m n (next_places m is) at) opened)

    pub go_old_cycle : slice_get marks m ≡ Some Open → cycle ≢ [] → IsSearch cells top marks (path ++ onward stop ∷ []) order cycle
    go_old_cycle opened some = looks cells top marks path order cycle stop s cycle (λ e. e) s.cyclic
        (λ n at. (opened_met opened n at, λ none. absurd (some none)))

    pub go_new_cycle : (i : ℕ) (numbers : List ℕ) → slice_get marks m ≡ Some Open → cycle ≡ [] → IsStop (path ++ onward stop ∷ []) i m
        → numbers ≡ map (λ stop. stop.cell) (drop i (path ++ onward stop ∷ [])) → IsSearch cells top marks (path ++ onward stop ∷ []) order numbers
    go_new_cycle i numbers opened none at are =
        let ring : IsCycle cells top numbers = closes cells top path (onward stop) m i numbers
        (on_reachable cells top marks path order cycle stop s)
        (on_onward cells top marks path order cycle stop s)
        (places_cell cells stop.cell stop.next m (next_places m is)) at are in
        let some : numbers ≡ [] → ⊥ = λ e. (let more = ring.nonempty in let long = ap length e in omega arith) in
        looks cells top marks path order cycle stop s numbers (λ e. absurd (some e)) (inr ring) (λ n at'. (opened_met opened n at', λ e. absurd (some e)))

pub same_search : (cells : List Cell) (top : ℕ) (marks marks' : List Mark) (path path' : List Stop) (order order' cycle cycle' : List ℕ)
    → marks' ≡ marks → path' ≡ path → order' ≡ order → cycle' ≡ cycle → IsSearch cells top marks path order cycle
    → IsSearch cells top marks' path' order' cycle'
same_search cells top marks marks' path path' order order' cycle cycle' a b c d s =
    subst (λ m. IsSearch cells top m path' order' cycle') (sym a) (subst (λ p. IsSearch cells top marks p order' cycle') (sym b)
    (subst (λ o. IsSearch cells top marks path o cycle') (sym c) (subst (IsSearch cells top marks path order) (sym d) s)))

pub same_work : (cells : List Cell) (marks marks' : List Mark) (path path' : List Stop) (bound : ℕ)
    → marks' ≡ marks → path' ≡ path → work_left cells marks path < bound → work_left cells marks' path' < bound
same_work cells marks marks' path path' bound a b less =
    subst (λ m. work_left cells m path' < bound) (sym a) (subst (λ p. work_left cells marks p < bound) (sym b) less)

-- the target that a list of targets gives
pub shown_inside : (cells : List Cell) (cell next : ℕ) (now : List (Option ℕ)) → now ≡ targets_at cells cell
    → next < length now → next < length (targets_at cells cell)
shown_inside cells cell next now value inside = subst (λ l. next < length l) value inside

pub shown : (cells : List Cell) (cell next : ℕ) (now : List (Option ℕ)) (target : Option ℕ)
    → now ≡ targets_at cells cell → get_or now next None ≡ target → get_or (targets_at cells cell) next None ≡ target
shown cells cell next now target value is = ap (λ l. get_or l next None) (sym value) ∙ is

pub shown_within : (cells : List Cell) (cell next : ℕ) (now : List (Option ℕ)) (target : ℕ)
    → now ≡ targets_at cells cell → next < length now → get_or now next None ≡ Some target → target < length cells
shown_within cells cell next now target value inside is =
    targets_below cells cell next target
    (slice_get-get_or (targets_at cells cell) next None (shown_inside cells cell next now value inside) ∙ ap Some
    (shown cells cell next now (Some target) value is))

pub mark_is : (marks : List Mark) (n : ℕ) (result mark : Mark) → n < length marks → result ≡ get_or marks n result
    → result ≡ mark → slice_get marks n ≡ Some mark
mark_is marks n result mark inside read is = slot_read marks n result inside read ∙ ap Some is
