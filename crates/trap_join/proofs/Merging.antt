-- A merge of a front with the runs of the row above, step by step.
use Rattle.std.proofs.Common.{◌≡◌, ℕ, zero, suc, length, drop, ℤ, pos, ◌-ℤ◌, ◌<ℤ◌, Bool, true, false, cond, not, ◌&&◌}
use Rattle.std.proofs.Common.{arith, refl, ap, ◌∙◌, sym, subst, List, [], ◌∷◌, ◌++◌, map, filter, append_assoc}
use Rattle.std.proofs.lemmas.Int.{ints}
use Rattle.std.proofs.lemmas.Bool.{false_from_ne_true}
use Rattle.std.proofs.lemmas.List.Elements.{All-contains}
use Rattle.std.specs.List.{Contains, list_any}
use mathlib.Core.Logic.{◌⊎◌, inl, inr}
use Rattle.half_grid.specs.Rows.{place}
use Rattle.half_grid.specs.declared.plane.Line.{Line}
use Rattle.scan_line.specs.Runs.{StandApart}
use Rattle.scan_line.specs.declared.runs.Run.{Run}
use Rattle.trap_join.specs.declared.front.Growing.{Growing}
use Rattle.trap_join.specs.declared.front.Meeting.TheVariants.{Ends, Begins}
use Rattle.trap_join.specs.Fronts.{goes_on, all_go_on, bottom_of, grown_into, ended_at, ends_below, ended}
use Rattle.trap_join.specs.Fronts.{FrontStandsApart, IsRunFrom, IsGrowingFrom, IsMeeting}
use Rattle.trap_join.proofs.Members.{among_rest, is_first, first_or_later}
use Rattle.trap_join.proofs.XOrder.{goes_on_left, goes_on_right, both_true}

-- ---- members of lists that stand apart

pub run_has_tile : (j : ℤ) (runs : List Run) (n : Run) → StandApart j runs → Contains runs n → place n.left j <ℤ place n.right j
run_has_tile j [] n apart h = absurd (omega (arith, h.1))
run_has_tile j (m ∷ runs) n apart h =
    elim (first_or_later m n runs h) [
      | inl e ↦ subst (λ (u : Run). place u.left j <ℤ place u.right j) e apart.0
      | inr later ↦ run_has_tile j runs n apart.2 later
    ]

pub run_from_first : (y : ℤ) (n : Run) (runs : List Run) (m : Run) → StandApart y (n ∷ runs) → Contains (n ∷ runs) m → IsRunFrom y n m
run_from_first y n runs m apart h = (
  run_has_tile y (n ∷ runs) m apart h,
  elim
      (first_or_later n m runs h) [
        | inl e ↦ inl (sym e)
        | inr later ↦ inr
            (All-contains (λ (u : Run). place n.right y <ℤ place u.left y) runs m apart.1 later)
      ],
)

pub growing_has_tile : (j : ℤ) (front : List Growing) (o : Growing) → FrontStandsApart j front → Contains front o → place o.left j <ℤ place o.right j
growing_has_tile j [] o apart h = absurd (omega (arith, h.1))
growing_has_tile j (p ∷ front) o apart h =
    elim (first_or_later p o front h) [
      | inl e ↦ subst (λ (u : Growing). place u.left j <ℤ place u.right j) e apart.0
      | inr later ↦ growing_has_tile j front o apart.2 later
    ]

pub growing_from_first : (y : ℤ) (o : Growing) (front : List Growing) (p : Growing)
    → FrontStandsApart (y -ℤ pos 1) (o ∷ front) → Contains (o ∷ front) p → IsGrowingFrom y o p
growing_from_first y o front p apart h = (
  growing_has_tile (y -ℤ pos 1) (o ∷ front) p apart h,
  elim
      (first_or_later o p front h) [
        | inl e ↦ inl (sym e)
        | inr later ↦ inr
            (All-contains (λ (u : Growing). place o.right (y -ℤ pos 1) <ℤ place u.left (y -ℤ pos 1)) front p apart.1 later)
      ],
)

-- ---- what goes on in none

pub in_none : (o : Growing) (runs : List Run) → ((m : Run) → Contains runs m → goes_on o m ≡ false) → list_any (goes_on o) runs ≡ false
in_none o [] f = refl
in_none o (m ∷ runs) f = rw (f m (is_first m runs), in_none o runs (λ n h. f n (among_rest m n runs h))) refl

pub bottom_here : (front : List Growing) (y : ℤ) (n : Run) → ((p : Growing) → Contains front p → goes_on p n ≡ false) → bottom_of front y n ≡ y
bottom_here [] y n f = refl
bottom_here (p ∷ front) y n f = rw (f p (is_first p front)) (bottom_here front y n (λ q h. f q (among_rest p q front h)))

-- one that goes on in no run changes none
skipped : (o : Growing) (front : List Growing) (y : ℤ) (n : Run) → goes_on o n ≡ false → grown_into (o ∷ front) y n ≡ grown_into front y n
skipped o front y n e = rw e refl

all_skipped : (o : Growing) (front : List Growing) (y : ℤ) (runs : List Run)
    → ((m : Run) → Contains runs m → goes_on o m ≡ false)
    → map (grown_into (o ∷ front) y) runs ≡ map (grown_into front y) runs
all_skipped o front y [] f = refl
all_skipped o front y (n ∷ runs) f =
    let here = skipped o front y n (f n (is_first n runs)) in
    let later = all_skipped o front y runs (λ m h. f m (among_rest n m runs h)) in
    ap (λ (u : Growing). u ∷ map (grown_into (o ∷ front) y) runs) here ∙ ap (λ (us : List Growing). grown_into front y n ∷ us) later

pub ended_here : (o : Growing) (front : List Growing) (y : ℤ) (runs : List Run) → list_any (goes_on o) runs ≡ false
    → ended runs y (o ∷ front) ≡ ended_at y o ∷ ended runs y front
ended_here o front y runs e = rw e refl

pub not_ended : (o : Growing) (front : List Growing) (y : ℤ) (runs : List Run) → list_any (goes_on o) runs ≡ true
    → ended runs y (o ∷ front) ≡ ended runs y front
not_ended o front y runs e = rw e refl

kept_by : (b c : Bool) (o : Growing) (us vs : List Growing) → b ≡ c → us ≡ vs → cond (not b) (o ∷ us) us ≡ cond (not c) (o ∷ vs) vs
kept_by b c o us vs e f = rw (e, f) refl

-- a run in which none goes on ends none
without_run : (front : List Growing) (n : Run) (runs : List Run)
    → ((p : Growing) → Contains front p → goes_on p n ≡ false)
    → filter (ends_below (n ∷ runs)) front ≡ filter (ends_below runs) front
without_run [] n runs f = refl
without_run (o ∷ front) n runs f =
    let here : list_any (goes_on o) (n ∷ runs) ≡ list_any (goes_on o) runs = rw (f o (is_first o front)) refl in
    kept_by (list_any (goes_on o) (n ∷ runs)) (list_any (goes_on o) runs) o _ _ here (without_run front n runs (λ p h. f p (among_rest o p front h)))

-- with no run, all end
no_runs : (front : List Growing) → filter (ends_below []) front ≡ front
no_runs [] = refl
no_runs (o ∷ front) = ap (λ (us : List Growing). o ∷ us) (no_runs front)

pub all_end : (y : ℤ) (front : List Growing) → ended [] y front ≡ map (ended_at y) front
all_end y front = ap (map (ended_at y)) (no_runs front)

-- ---- the steps

module _ (y : ℤ) (o : Growing) (front : List Growing) (n : Run) (runs : List Run)
    (fronts_apart : FrontStandsApart (y -ℤ pos 1) (o ∷ front)) (runs_apart : StandApart y (n ∷ runs)) where
  pub ends_fresh : IsMeeting y o n Ends → map (grown_into (o ∷ front) y) (n ∷ runs) ≡ map (grown_into front y) (n ∷ runs)
  ends_fresh ends = all_skipped o front y (n ∷ runs) (λ m h. ends m (run_from_first y n runs m runs_apart h))

  pub ends_waiting : IsMeeting y o n Ends → ended (n ∷ runs) y (o ∷ front) ≡ ended_at y o ∷ ended (n ∷ runs) y front
  ends_waiting ends = ended_here o front y (n ∷ runs) (in_none o (n ∷ runs) (λ m h. ends m (run_from_first y n runs m runs_apart h)))

  pub begins_fresh : IsMeeting y o n Begins → map (grown_into (o ∷ front) y) (n ∷ runs) ≡ grown_into [] y n ∷ map (grown_into (o ∷ front) y) runs
  begins_fresh begins =
      let e = bottom_here (o ∷ front) y n (λ p h. begins p (growing_from_first y o front p fronts_apart h)) in
      ap (λ (z : ℤ). (let g : Growing = record { y0 = z; left = n.left; right = n.right } in g) ∷ map (grown_into (o ∷ front) y) runs) e

  pub begins_waiting : IsMeeting y o n Begins → ended (n ∷ runs) y (o ∷ front) ≡ ended runs y (o ∷ front)
  begins_waiting begins = ap (map (ended_at y)) (without_run (o ∷ front) n runs (λ p h. begins p (growing_from_first y o front p fronts_apart h)))

  module _ (goes : goes_on o n ≡ true) where
    later_run : (m : Run) → Contains runs m → goes_on o m ≡ false
    later_run m h = false_from_ne_true _ (λ g.
        (let e : place n.left y ≡ place m.left y = ap (λ (l : Line). place l y) (sym (goes_on_left o n goes) ∙ goes_on_left o m g) in
        let a = runs_apart.0 in
        let b = All-contains (λ (u : Run). place n.right y <ℤ place u.left y) runs m runs_apart.1 h in
        omega (arith, ints, e, a, b)))

    later_growing : (p : Growing) → Contains front p → goes_on p n ≡ false
    later_growing p h = false_from_ne_true _ (λ g.
        (let e : place o.left (y -ℤ pos 1) ≡ place p.left (y -ℤ pos 1) = ap (λ (l : Line). place l (y -ℤ pos 1))
        (goes_on_left o n goes ∙ sym (goes_on_left p n g)) in
        let a = fronts_apart.0 in
        let b = All-contains (λ (u : Growing). place o.right (y -ℤ pos 1) <ℤ place u.left (y -ℤ pos 1)) front p fronts_apart.1 h in
        omega (arith, ints, e, a, b)))

    same_growing : grown_into (o ∷ front) y n ≡ o
    same_growing =
        let bottom : bottom_of (o ∷ front) y n ≡ o.y0 = rw goes refl in
        ap (λ (z : ℤ). (let g : Growing = record { y0 = z; left = n.left; right = n.right } in g)) bottom
        ∙ ap (λ (l : Line). (let g : Growing = record { y0 = o.y0; left = l; right = n.right } in g)) (sym (goes_on_left o n goes))
        ∙ ap (λ (l : Line). (let g : Growing = record { y0 = o.y0; left = o.left; right = l } in g)) (sym (goes_on_right o n goes))

    pub goes_fresh : map (grown_into (o ∷ front) y) (n ∷ runs) ≡ o ∷ map (grown_into front y) runs
    goes_fresh =
        ap (λ (u : Growing). u ∷ map (grown_into (o ∷ front) y) runs) same_growing
        ∙ ap (λ (us : List Growing). o ∷ us) (all_skipped o front y runs later_run)

    pub goes_waiting : ended (n ∷ runs) y (o ∷ front) ≡ ended runs y front
    goes_waiting =
        let some : list_any (goes_on o) (n ∷ runs) ≡ true = rw goes refl in
        not_ended o front y (n ∷ runs) some ∙ ap (map (ended_at y)) (without_run front n runs later_growing)

-- ---- rests of lists that stand apart

pub apart_rest : (j : ℤ) (k : ℕ) (runs : List Run) → StandApart j runs → StandApart j (drop k runs)
apart_rest j zero runs h = h
apart_rest j (suc k) [] h = h
apart_rest j (suc k) (n ∷ runs) h = apart_rest j k runs h.2

pub front_rest : (j : ℤ) (k : ℕ) (front : List Growing) → FrontStandsApart j front → FrontStandsApart j (drop k front)
front_rest j zero front h = h
front_rest j (suc k) [] h = h
front_rest j (suc k) (o ∷ front) h = front_rest j k front h.2

-- the same, of two lists that begin so
module _ (y : ℤ) (o : Growing) (n : Run) (fs os : List Growing) (rs ns : List Run) (ef : fs ≡ o ∷ os)
    (er : rs ≡ n ∷ ns) (fronts_apart : FrontStandsApart (y -ℤ pos 1) fs) (runs_apart : StandApart y rs) where
  front_apart : FrontStandsApart (y -ℤ pos 1) (o ∷ os)
  front_apart = subst (FrontStandsApart (y -ℤ pos 1)) ef fronts_apart

  run_apart : StandApart y (n ∷ ns)
  run_apart = subst (StandApart y) er runs_apart

  pub ends_fresh_at : IsMeeting y o n Ends → map (grown_into fs y) rs ≡ map (grown_into os y) rs
  ends_fresh_at ends = rw (ef, er) (ends_fresh y o os n ns front_apart run_apart ends)

  pub ends_waiting_at : IsMeeting y o n Ends → ended rs y fs ≡ ended_at y o ∷ ended rs y os
  ends_waiting_at ends =
      let here = subst (λ (ms : List Run). ended ms y (o ∷ os) ≡ ended_at y o ∷ ended ms y os) (sym er) (ends_waiting y o os n ns front_apart run_apart ends) in
      subst (λ (gs : List Growing). ended rs y gs ≡ ended_at y o ∷ ended rs y os) (sym ef) here

  pub begins_fresh_at : IsMeeting y o n Begins → map (grown_into fs y) rs ≡ grown_into [] y n ∷ map (grown_into fs y) ns
  begins_fresh_at begins = rw (ef, er) (begins_fresh y o os n ns front_apart run_apart begins)

  pub begins_waiting_at : IsMeeting y o n Begins → ended rs y fs ≡ ended ns y fs
  begins_waiting_at begins =
      let here = subst (λ (ms : List Run). ended ms y (o ∷ os) ≡ ended ns y (o ∷ os)) (sym er) (begins_waiting y o os n ns front_apart run_apart begins) in
      subst (λ (gs : List Growing). ended rs y gs ≡ ended ns y gs) (sym ef) here

  pub goes_fresh_at : goes_on o n ≡ true → map (grown_into fs y) rs ≡ o ∷ map (grown_into os y) ns
  goes_fresh_at goes = rw (ef, er) (goes_fresh y o os n ns front_apart run_apart goes)

  pub goes_waiting_at : goes_on o n ≡ true → ended rs y fs ≡ ended ns y os
  goes_waiting_at goes =
      let here = subst (λ (ms : List Run). ended ms y (o ∷ os) ≡ ended ns y os) (sym er) (goes_waiting y o os n ns front_apart run_apart goes) in
      subst (λ (gs : List Growing). ended rs y gs ≡ ended ns y os) (sym ef) here

-- ---- what was put, with what is left

module _ {X : Type 0} where
  pub none_put : (done left rest whole : List X) → left ≡ rest → done ++ left ≡ whole → done ++ rest ≡ whole
  none_put done left rest whole e h = ap (λ (u : List X). done ++ u) (sym e) ∙ h

  pub one_put : (done now left rest whole : List X) (x z : X) → now ≡ done ++ x ∷ [] → x ≡ z → left ≡ z ∷ rest → done ++ left ≡ whole → now ++ rest ≡ whole
  one_put done now left rest whole x z en ex e h =
      ap (λ (u : List X). u ++ rest) (en ∙ ap (λ (u : X). done ++ u ∷ []) ex) ∙ append_assoc done (z ∷ []) rest ∙ ap (λ (u : List X). done ++ u) (sym e) ∙ h

  pub all_put : (done now left part whole : List X) → now ≡ done ++ part → left ≡ part → done ++ left ≡ whole → now ≡ whole
  all_put done now left part whole en e h = en ∙ ap (λ (u : List X). done ++ u) (sym e) ∙ h

-- at the end of either list
pub no_more : (y : ℤ) (fs : List Growing) (rs : List Run) → (fs ≡ []) ⊎ (rs ≡ []) → ended rs y fs ≡ map (ended_at y) fs
no_more y fs rs (inl e) = rw e refl
no_more y fs rs (inr e) = rw e (all_end y fs)

-- ---- where each goes on

and_false : (b : Bool) → b && false ≡ false
and_false true = refl
and_false false = refl

pub lengths_differ : (front : List Growing) (runs : List Run) → (length front ≡ length runs → ⊥) → false ≡ all_go_on front runs
lengths_differ [] [] h = absurd (h refl)
lengths_differ [] (n ∷ runs) h = refl
lengths_differ (o ∷ front) [] h = refl
lengths_differ (o ∷ front) (n ∷ runs) h = rw (← lengths_differ front runs (λ e. h (ap suc e))) (sym (and_false (goes_on o n)))

pub both_go : (o : Growing) (n : Run) (front : List Growing) (runs : List Run)
    → all_go_on (o ∷ front) (n ∷ runs) ≡ true → (goes_on o n ≡ true) × (all_go_on front runs ≡ true)
both_go o n front runs h = both_true (goes_on o n) (all_go_on front runs) h

pub all_fresh : (y : ℤ) (front : List Growing) (runs : List Run) → FrontStandsApart (y -ℤ pos 1) front
    → StandApart y runs → all_go_on front runs ≡ true → map (grown_into front y) runs ≡ front
all_fresh y [] [] fa ra h = refl
all_fresh y [] (n ∷ runs) fa ra h = absurd (let clash : ⊥ = cc in clash)
all_fresh y (o ∷ front) [] fa ra h = absurd (let clash : ⊥ = cc in clash)
all_fresh y (o ∷ front) (n ∷ runs) fa ra h =
    let go = both_go o n front runs h in
    goes_fresh y o front n runs fa ra go.0 ∙ ap (λ (us : List Growing). o ∷ us) (all_fresh y front runs fa.2 ra.2 go.1)

pub all_waiting : (y : ℤ) (front : List Growing) (runs : List Run) → FrontStandsApart (y -ℤ pos 1) front
    → StandApart y runs → all_go_on front runs ≡ true → ended runs y front ≡ []
all_waiting y [] [] fa ra h = refl
all_waiting y [] (n ∷ runs) fa ra h = refl
all_waiting y (o ∷ front) [] fa ra h = absurd (let clash : ⊥ = cc in clash)
all_waiting y (o ∷ front) (n ∷ runs) fa ra h =
    let go = both_go o n front runs h in
    goes_waiting y o front n runs fa ra go.0 ∙ all_waiting y front runs fa.2 ra.2 go.1
