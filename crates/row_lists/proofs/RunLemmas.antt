-- The runs read off a row list are those of its row.
use Rattle.std.proofs.Common.{ℕ, ℤ, pos, zero, suc, ◌<◌, length, slice_index_or, ◌≡◌, ◌≤ℤ◌, ◌<ℤ◌, ◌⊎◌, inl, inr, Bool}
use Rattle.std.proofs.Common.{true, false, List, [], ◌∷◌, All, arith, refl, ap, sym, subst, ◌∙◌}
use Rattle.std.specs.Prelude.{Any}
use Rattle.std.proofs.lemmas.Int.{ints, by_lt_z}
use Rattle.std.proofs.lemmas.List.Elements.{All-nil, All-cons, All-head, All-tail, All-weaker}
use Rattle.half_grid.specs.Edges.{EdgeParts}
use Rattle.half_grid.specs.Rows.{number_in_row, place}
use Rattle.half_grid.specs.declared.plane.Line.{Line}
use Rattle.half_grid.specs.declared.plane.Line.TheVariants.{Upright}
use Rattle.half_grid.specs.declared.plane.Tile.{Tile}
use Rattle.half_grid.specs.declared.border.Operand.TheVariants.{A, B}
use Rattle.half_grid.proofs.ForCallers.{le_yes, le_no}
use Rattle.scan_line.specs.Runs.{IsTaken, AreRuns, RunHas, StandApart, HoldsWindings}
use Rattle.scan_line.specs.declared.runs.Run.{Run}
use Rattle.active_lines.specs.declared.item.ActiveLine.{ActiveLine}
use Rattle.active_lines.specs.declared.item.Windings.{Windings}
use Rattle.row_lists.specs.RowLists.{IsRowList, AscendIn, no_windings, windings_at}
use Rattle.row_lists.specs.RowRuns.{end_of, run_from, runs_of, last_windings, windings_of, taking, IsTestIn}
use Rattle.row_lists.proofs.Alike.{StandRight, left_of_all}
use Rattle.row_lists.proofs.Windings.{gives_windings}
use Rattle.row_lists.proofs.Unique.{same_windings}

-- a number in the row is one of the run's
pub record HasNumber (j n : ℤ) (run : Run) : Type 0 where
  pub from : place run.left j ≤ℤ n
  pub below : n <ℤ place run.right j

-- all runs begin right of a place
abbrev pub BeginRight : ℤ → ℤ → List Run → Type 0
BeginRight j p runs = All (λ r. p <ℤ place r.left j) runs

-- one of the runs has the number
abbrev pub SomeHas : ℤ → ℤ → List Run → Type 0
SomeHas j n [] = ⊥
SomeHas j n (r ∷ runs) = HasNumber j n r ⊎ SomeHas j n runs

no_clash : {P : Type 0} (b : Bool) → b ≡ true → b ≡ false → P
no_clash b h k = absurd (let clash : ⊥ = cc in clash)

module _ (takes : Windings → Bool) (j : ℤ) where
  -- ---- where runs begin and end

  begin_by : (p : ℤ) (l : ActiveLine) (lines : List ActiveLine) (b : Bool) → takes l.windings ≡ b → p <ℤ place l.line j
      → BeginRight j p (runs_of takes true lines) → BeginRight j p (runs_of takes false lines) → BeginRight j p (runs_of takes false (l ∷ lines))
  begin_by p l lines true e here inside outside = rw e (All-cons (λ r. p <ℤ place r.left j) (run_from takes l lines) (runs_of takes true lines) here inside)
  begin_by p l lines false e here inside outside = rw e outside

  pub begin_right : (p : ℤ) (inside : Bool) (lines : List ActiveLine) → StandRight j p lines → BeginRight j p (runs_of takes inside lines)
  begin_right p inside [] h = All-nil (λ r. p <ℤ place r.left j)
  begin_right p true (l ∷ lines) h = begin_right p (takes l.windings) lines (All-tail (λ m. p <ℤ place m.line j) l lines h)
  begin_right p false (l ∷ lines) h =
      let rest = All-tail (λ m. p <ℤ place m.line j) l lines h in
      begin_by p l lines _ refl (All-head (λ m. p <ℤ place m.line j) l lines h) (begin_right p true lines rest) (begin_right p false lines rest)

  end_by : (p : ℤ) (l : ActiveLine) (lines : List ActiveLine) (line : Line) (b : Bool) → takes l.windings ≡ b → p <ℤ place l.line j
      → p <ℤ place (end_of takes l.line lines) j → p <ℤ place (end_of takes line (l ∷ lines)) j
  end_by p l lines line true e here later = rw e later
  end_by p l lines line false e here later = rw e here

  -- the end of a run is right of what its lines are right of
  pub end_right : (p : ℤ) (line : Line) (lines : List ActiveLine) → p <ℤ place line j → StandRight j p lines → p <ℤ place (end_of takes line lines) j
  end_right p line [] here h = here
  end_right p line (l ∷ lines) here h =
      let first = All-head (λ m. p <ℤ place m.line j) l lines h in
      end_by p l lines line _ refl first (end_right p l.line lines first (All-tail (λ m. p <ℤ place m.line j) l lines h))

  -- the runs after the end of a run begin right of it
  after_by : (l : ActiveLine) (lines : List ActiveLine) (line : Line) (b : Bool) → takes l.windings ≡ b → AscendIn j (l ∷ lines)
      → (takes l.windings ≡ true → BeginRight j (place (end_of takes l.line lines) j) (runs_of takes true lines))
      → BeginRight j (place (end_of takes line (l ∷ lines)) j) (runs_of takes true (l ∷ lines))
  after_by l lines line true e h later = let rest = later e in rw e rest
  after_by l lines line false e h later = rw e (begin_right (place l.line j) false lines h.0)

  pub after_end : (line : Line) (lines : List ActiveLine) → AscendIn j lines → BeginRight j (place (end_of takes line lines) j) (runs_of takes true lines)
  after_end line [] h = All-nil (λ r. place line j <ℤ place r.left j)
  after_end line (l ∷ lines) h = after_by l lines line _ refl h (λ e. after_end l.line lines h.1)

  -- a list whose last windings aren't taken ends each run: its end is right of the line at which it begins
  begun_end : (l : ActiveLine) (lines : List ActiveLine) → AscendIn j (l ∷ lines) → takes (last_windings l.windings lines) ≡ false
      → takes l.windings ≡ true → place l.line j <ℤ place (end_of takes l.line lines) j
  begun_end l [] h shut taken = no_clash (takes l.windings) taken shut
  begun_end l (m ∷ lines) h shut taken =
      let P : ActiveLine → Type 0 = λ x. place l.line j <ℤ place x.line j in
      let first = All-head P m lines h.0 in
      end_by (place l.line j) m lines l.line _ refl first (end_right (place l.line j) m.line lines first (All-tail P m lines h.0))

  -- ---- runs stand apart

  apart_by : (l : ActiveLine) (lines : List ActiveLine) (b : Bool) → takes l.windings ≡ b → AscendIn j (l ∷ lines)
      → takes (last_windings l.windings lines) ≡ false
      → StandApart j (runs_of takes true lines) → StandApart j (runs_of takes false lines) → StandApart j (runs_of takes false (l ∷ lines))
  apart_by l lines true e h shut inside outside = rw e (begun_end l lines h shut e, after_end l.line lines h.1, inside)
  apart_by l lines false e h shut inside outside = rw e outside

  pub stand_apart : (inside : Bool) (w : Windings) (lines : List ActiveLine) → AscendIn j lines → takes (last_windings w lines) ≡ false
      → StandApart j (runs_of takes inside lines)
  stand_apart inside w [] h shut = tt
  stand_apart true w (l ∷ lines) h shut = stand_apart (takes l.windings) l.windings lines h.1 shut
  stand_apart false w (l ∷ lines) h shut =
      apart_by l lines _ refl h shut (stand_apart true l.windings lines h.1 shut) (stand_apart false l.windings lines h.1 shut)

  -- ---- the numbers of the runs

  -- a number that isn't right of where the runs begin is in none
  begins_after : (n : ℤ) (runs : List Run) → BeginRight j n runs → SomeHas j n runs → ⊥
  begins_after n [] h k = k
  begins_after n (r ∷ runs) h (inl has) =
      let first = All-head (λ x. n <ℤ place x.left j) r runs h in
      let from = has.from in
      absurd (omega (arith, ints, first, from))
  begins_after n (r ∷ runs) h (inr later) = begins_after n runs (All-tail (λ x. n <ℤ place x.left j) r runs h) later

  -- the number is in a run that begins at the lines, or in the one that goes on before them
  abbrev InRuns : Bool → Line → List ActiveLine → ℤ → Type 0
  InRuns true line lines n = (n <ℤ place (end_of takes line lines) j) ⊎ SomeHas j n (runs_of takes true lines)
  InRuns false line lines n = SomeHas j n (runs_of takes false lines)

  over : (inside b : Bool) (line : Line) (l : ActiveLine) (lines : List ActiveLine) (n : ℤ) → takes l.windings ≡ b → place l.line j ≤ℤ n
      → InRuns b l.line lines n → InRuns inside line (l ∷ lines) n
  over true true line l lines n e le h = rw e h
  over true false line l lines n e le h = rw e (inr h)
  over false true line l lines n e le (inl lt) = rw e (inl (record { from = le; below = lt }))
  over false true line l lines n e le (inr h) = rw e (inr h)
  over false false line l lines n e le h = rw e h

  not_before : (l : ActiveLine) (n : ℤ) (P : Type 0) → place l.line j ≤ℤ n → (n <ℤ place l.line j) ⊎ P → P
  not_before l n P le (inl lt) = absurd (omega (arith, ints, le, lt))
  not_before l n P le (inr p) = p

  first_run : (l : ActiveLine) (lines : List ActiveLine) (n : ℤ) → HasNumber j n (run_from takes l lines) ⊎ SomeHas j n (runs_of takes true lines)
      → InRuns true l.line lines n
  first_run l lines n (inl has) = inl has.below
  first_run l lines n (inr later) = inr later

  back : (inside b : Bool) (line : Line) (l : ActiveLine) (lines : List ActiveLine) (n : ℤ) → takes l.windings ≡ b → place l.line j ≤ℤ n
      → InRuns inside line (l ∷ lines) n → InRuns b l.line lines n
  back true true line l lines n e le h = rw e at h
  back true false line l lines n e le h = let k = rw e at h in not_before l n (SomeHas j n (runs_of takes false lines)) le k
  back false true line l lines n e le h = let k = rw e at h in first_run l lines n k
  back false false line l lines n e le h = rw e at h

  left_in : (inside : Bool) (w : Windings) (line : Line) (l : ActiveLine) (lines : List ActiveLine) (n : ℤ) → takes w ≡ inside
      → AscendIn j (l ∷ lines) → n <ℤ place l.line j
      → (takes w ≡ true → InRuns inside line (l ∷ lines) n) × (InRuns inside line (l ∷ lines) n → takes w ≡ true)
  left_in true w line l lines n e h lt =
      let rest = All-weaker (λ x. place l.line j <ℤ place x.line j) (λ x. n <ℤ place x.line j) (λ x q. omega (arith, ints, lt, q)) lines h.0 in
      (λ k. inl (end_by n l lines line _ refl lt (end_right n l.line lines lt rest)), λ k. e)
  left_in false w line l lines n e h lt =
      let all = All-cons (λ x. n <ℤ place x.line j) l lines lt (All-weaker (λ x. place l.line j <ℤ place x.line j) (λ x. n <ℤ place x.line j)
      (λ x q. omega (arith, ints, lt, q)) lines h.0) in
      (λ k. no_clash (takes w) k e, λ k. absurd (begins_after n (runs_of takes false (l ∷ lines)) (begin_right n false (l ∷ lines) all) k))

  in_runs : (lines : List ActiveLine) (w : Windings) (line : Line) (inside : Bool) → takes w ≡ inside → AscendIn j lines
      → takes (last_windings w lines) ≡ false → (n : ℤ)
      → (takes (windings_at j n w lines) ≡ true → InRuns inside line lines n) × (InRuns inside line lines n → takes (windings_at j n w lines) ≡ true)
  in_runs [] w line true e h shut n = no_clash (takes w) e shut
  in_runs [] w line false e h shut n = (λ k. no_clash (takes w) k e, λ k. absurd k)
  in_runs (l ∷ lines) w line inside e h shut n =
      by_lt_z n (place l.line j)
      (λ lt. (let right = le_no (place l.line j) n lt in rw right (left_in inside w line l lines n e h lt)))
      (λ le. (let right = le_yes (place l.line j) n le in
      let rest = in_runs lines l.windings l.line (takes l.windings) refl h.1 shut n in
      rw right (
        λ k. over inside (takes l.windings) line l lines n refl le (rest.0 k),
        λ k. rest.1 (back inside
            (takes l.windings) line l lines n refl le k),
      )))

  -- ---- the windings that runs hold

  -- the windings at the leftmost tile of a run
  abbrev Held : Windings → List ActiveLine → Run → Type 0
  Held w lines r = windings_at j (place r.left j) w lines ≡ (let v : Windings = record { a = r.a; b = r.b } in v)

  held_later : (w : Windings) (l : ActiveLine) (lines : List ActiveLine) (runs : List Run) → BeginRight j (place l.line j) runs
      → All (Held l.windings lines) runs → All (Held w (l ∷ lines)) runs
  held_later w l lines runs h k = λ i d lt. one (slice_index_or runs i d) (h i d lt) (k i d lt)
    where
      one : (r : Run) → place l.line j <ℤ place r.left j → Held l.windings lines r → Held w (l ∷ lines) r
      one r less held = let right = le_yes (place l.line j) (place r.left j) (omega (arith, ints, less)) in rw right held

  held_here : (w : Windings) (l : ActiveLine) (lines : List ActiveLine) → AscendIn j (l ∷ lines) → Held w (l ∷ lines) (run_from takes l lines)
  held_here w l lines h =
      let right = le_yes (place l.line j) (place l.line j) (omega (arith, ints)) in
      rw right (left_of_all j (place l.line j) l.windings lines h.0)

  not_begun : (l : ActiveLine) (lines : List ActiveLine) → takes l.windings ≡ false → runs_of takes false lines ≡ runs_of takes false (l ∷ lines)
  not_begun l lines e = rw e refl

  begun : (l : ActiveLine) (lines : List ActiveLine) → takes l.windings ≡ true
      → run_from takes l lines ∷ runs_of takes true lines ≡ runs_of takes false (l ∷ lines)
  begun l lines e = rw e refl

  held_by : (w : Windings) (l : ActiveLine) (lines : List ActiveLine) (b : Bool) → takes l.windings ≡ b → AscendIn j (l ∷ lines)
      → All (Held l.windings lines) (runs_of takes true lines) → All (Held l.windings lines) (runs_of takes false lines)
      → All (Held w (l ∷ lines)) (runs_of takes false (l ∷ lines))
  held_by w l lines true e h inside outside =
      subst (All (Held w (l ∷ lines))) (begun l lines e)
      (All-cons (Held w (l ∷ lines)) (run_from takes l lines) (runs_of takes true lines) (held_here w l lines h)
      (held_later w l lines (runs_of takes true lines) (begin_right (place l.line j) true lines h.0) inside))
  held_by w l lines false e h inside outside =
      subst (All (Held w (l ∷ lines))) (not_begun l lines e) (held_later w l lines (runs_of takes false lines) (begin_right
      (place l.line j) false lines h.0) outside)

  all_held : (inside : Bool) (w : Windings) (lines : List ActiveLine) → AscendIn j lines → All (Held w lines) (runs_of takes inside lines)
  all_held inside w [] h = All-nil (Held w [])
  all_held true w (l ∷ lines) h =
      held_later w l lines (runs_of takes (takes l.windings) lines) (begin_right (place l.line j) (takes l.windings) lines h.0) (all_held
      (takes l.windings) l.windings lines h.1)
  all_held false w (l ∷ lines) h = held_by w l lines _ refl h (all_held true l.windings lines h.1) (all_held false l.windings lines h.1)

-- ---- as runs of the row

some_by : (t : Tile) (j : ℤ) (k : ℕ) (x : Run) (runs : List Run) → t.j ≡ j → k < length runs → slice_index_or runs k x ≡ x → RunHas t x
    → SomeHas j (number_in_row t) runs
some_by t j k x [] e lt same has = absurd (omega (arith, lt))
some_by t j zero x (r ∷ runs) e lt same has =
    let here : RunHas t r = subst (RunHas t) (sym same) has in
    inl (record { from = rw (sym e) here.from_left; below = rw (sym e) here.below_right })
some_by t j (suc k) x (r ∷ runs) e lt same has = inr (some_by t j k x runs e (omega (arith, lt)) same has)

any_later : (P : Run → Type 0) (r : Run) (runs : List Run) → Any P runs → Any P (r ∷ runs)
any_later P r runs h = (suc h.0, h.1, omega (arith, h.2), h.3, h.4)

any_by : (t : Tile) (j : ℤ) (runs : List Run) → t.j ≡ j → SomeHas j (number_in_row t) runs → Any (RunHas t) runs
any_by t j [] e h = absurd h
any_by t j (r ∷ runs) e (inl has) = (0, r, omega arith, refl, record { from_left = rw e has.from; below_right = rw e has.below })
any_by t j (r ∷ runs) e (inr later) = any_later (RunHas t) r runs (any_by t j runs e later)

module _ (post : ℤ → ℤ → Bool → Type 0) (edges : List EdgeParts) (j : ℤ) (takes : Windings → Bool) (lines : List ActiveLine)
    (list : IsRowList edges j lines) (test : IsTestIn post edges j takes) (none : takes no_windings ≡ false)
    (shut : takes (last_windings no_windings lines) ≡ false) where
  at_tile : (t : Tile) → t.j ≡ j → windings_at j (number_in_row t) no_windings lines ≡ windings_of edges t
  at_tile t e = same_windings _ (windings_of edges t) (gives_windings edges j lines list A t e) (gives_windings edges j lines list B t e)

  some_taken : (t : Tile) → t.j ≡ j → IsTaken post edges t → Any (RunHas t) (runs_of takes false lines)
  some_taken t e h =
      let due : takes (windings_at j (number_in_row t) no_windings lines) ≡ true = ap takes (at_tile t e) ∙ (test t e).0 h in
      any_by t j (runs_of takes false lines) e ((in_runs takes j lines no_windings (Upright (pos 0)) false none list.ascend shut (number_in_row t)).0 due)

  taken_some : (t : Tile) → t.j ≡ j → Any (RunHas t) (runs_of takes false lines) → IsTaken post edges t
  taken_some t e h =
      let some = some_by t j h.0 h.1 (runs_of takes false lines) e h.2 h.3 h.4 in
      let due = (in_runs takes j lines no_windings (Upright (pos 0)) false none list.ascend shut (number_in_row t)).1 some in
      (test t e).1 (sym (ap takes (at_tile t e)) ∙ due)

  held_run : (r : Run) → Held takes j no_windings lines r → HoldsWindings edges j r
  held_run r held t e number =
      let same = sym held ∙ (ap (λ (n : ℤ). windings_at j n no_windings lines) (sym number) ∙ at_tile t e) in
      (ap (λ (w : Windings). w.a) same, ap (λ (w : Windings). w.b) same)

  pub runs_for_rule : AreRuns post edges j (runs_of takes false lines)
  runs_for_rule = record {
    apart = stand_apart takes j false no_windings lines list.ascend shut;
    taken = λ t e. (some_taken t e, taken_some t e);
    windings = All-weaker (Held takes j no_windings lines) (HoldsWindings edges j) held_run (runs_of takes false lines)
        (all_held takes j false no_windings lines list.ascend);
  }

pub runs_by_row_list : (edges : List EdgeParts) (j : ℤ) (takes : Windings → Bool) (lines : List ActiveLine) → IsRowList edges j lines
    → takes no_windings ≡ false → takes (last_windings no_windings lines) ≡ false → AreRuns (taking takes) edges j (runs_of takes false lines)
runs_by_row_list edges j takes lines list none shut = runs_for_rule (taking takes) edges j takes lines list (λ t e. (λ h. h, λ h. h)) none shut
