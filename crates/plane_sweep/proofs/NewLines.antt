-- The runs that end at the lines through a point, above the stop: the one that enters the point, and those that begin in it.
use Rattle.std.proofs.Common.{ℤ, ◌≡◌, ◌<ℤ◌, Bool, true, false, List, [], ◌∷◌, Option, Some, None, IfSome, All, refl, ap, subst}
use Rattle.std.proofs.lemmas.List.Elements.{All-nil, All-cons, All-head, All-tail}
use Rattle.half_grid.specs.Lines.{x_on}
use Rattle.half_grid.specs.Rows.{place}
use Rattle.half_grid.specs.declared.plane.Line.{Line}
use Rattle.scan_line.specs.declared.runs.Run.{Run}
use Rattle.active_lines.specs.declared.item.ActiveLine.{ActiveLine}
use Rattle.active_lines.specs.declared.item.Windings.{Windings}
use Rattle.row_lists.specs.RowLists.{AscendIn}
use Rattle.row_lists.specs.Halfway.{PassAt}
use Rattle.plane_sweep.specs.StopRuns.{ended_runs}
use Rattle.plane_sweep.specs.Points.{BeginsIn}

abbrev pub run_to : ActiveLine → Line → Run
run_to o line = record { left = o.line; right = line; a = o.windings.a; b = o.windings.b }

module _ (takes : Windings → Bool) (y x : ℤ) where
  -- the line passes through the point, left of all these in the row above
  pub record Begun (o : ActiveLine) (lines : List ActiveLine) : Type 0 where
    pub at : x_on o.line y ≡ x
    pub left : All (λ m. place o.line y <ℤ place m.line y) lines

  -- a run that is open before the lines began in the point
  abbrev pub HasBegun : Option ActiveLine → List ActiveLine → Type 0
  HasBegun None lines = Unit {0}
  HasBegun (Some o) lines = Begun o lines

  begin_by : (b : Bool) (l : ActiveLine) (lines : List ActiveLine) → takes l.windings ≡ b → PassAt y x (l ∷ lines) → AscendIn y (l ∷ lines)
      → ((from : Option ActiveLine) → HasBegun from lines → All (BeginsIn y x) (ended_runs takes from lines))
      → All (BeginsIn y x) (ended_runs takes None (l ∷ lines))
  begin_by true l lines e at ascend later =
      let rest = later (Some l) (record { at = All-head (λ m. x_on m.line y ≡ x) l lines at; left = ascend.0 }) in rw e rest
  begin_by false l lines e at ascend later = let rest = later None tt in rw e rest

  ended_one : (o l : ActiveLine) (lines : List ActiveLine) → takes l.windings ≡ false
      → run_to o l.line ∷ ended_runs takes None lines ≡ ended_runs takes (Some o) (l ∷ lines)
  ended_one o l lines e = rw e refl

  ended_not : (o l : ActiveLine) (lines : List ActiveLine) → takes l.windings ≡ true → ended_runs takes (Some o) lines ≡ ended_runs takes (Some o) (l ∷ lines)
  ended_not o l lines e = rw e refl

  on_by : (b : Bool) (o l : ActiveLine) (lines : List ActiveLine) → takes l.windings ≡ b → PassAt y x (l ∷ lines) → Begun o (l ∷ lines)
      → ((from : Option ActiveLine) → HasBegun from lines → All (BeginsIn y x) (ended_runs takes from lines))
      → All (BeginsIn y x) (ended_runs takes (Some o) (l ∷ lines))
  on_by true o l lines e at begun later =
      subst (All (BeginsIn y x)) (ended_not o l lines e)
      (later (Some o) (record { at = begun.at; left = All-tail (λ m. place o.line y <ℤ place m.line y) l lines begun.left }))
  on_by false o l lines e at begun later =
      subst (All (BeginsIn y x)) (ended_one o l lines e)
      (All-cons (BeginsIn y x) (run_to o l.line) (ended_runs takes None lines)
      (record {
        left = begun.at;
        right = All-head (λ m. x_on m.line y ≡ x) l lines at;
        has_tile = All-head
            (λ m. place o.line y <ℤ place m.line y) l lines begun.left;
      })
      (later None tt))

  pub begin_in : (lines : List ActiveLine) (from : Option ActiveLine) → HasBegun from lines → PassAt y x lines
      → AscendIn y lines → All (BeginsIn y x) (ended_runs takes from lines)
  begin_in [] from begun at ascend = All-nil (BeginsIn y x)
  begin_in (l ∷ lines) None begun at ascend =
      begin_by _ l lines refl at ascend (λ from h. begin_in lines from h (All-tail (λ m. x_on m.line y ≡ x) l lines at) ascend.1)
  begin_in (l ∷ lines) (Some o) begun at ascend =
      on_by _ o l lines refl at begun (λ from h. begin_in lines from h (All-tail (λ m. x_on m.line y ≡ x) l lines at) ascend.1)

  -- ---- a run that enters the point

  pub record Entered (o : ActiveLine) (runs : List Run) : Type 0 where
    pub entering : Option Line
    pub inner : List Run
    pub is : (e : Line) → entering ≡ Some e → runs ≡ run_to o e ∷ inner
    pub none : entering ≡ None → runs ≡ []
    pub at : IfSome entering (λ line. x_on line y ≡ x)
    pub begins : All (BeginsIn y x) inner

  entered_by : (b : Bool) (o l : ActiveLine) (lines : List ActiveLine) → takes l.windings ≡ b → PassAt y x (l ∷ lines) → AscendIn y (l ∷ lines)
      → Entered o (ended_runs takes (Some o) lines) → Entered o (ended_runs takes (Some o) (l ∷ lines))
  entered_by true o l lines e at ascend later = subst (Entered o) (ended_not o l lines e) later
  entered_by false o l lines e at ascend later =
      subst (Entered o) (ended_one o l lines e)
      (record {
        entering = Some l.line;
        inner = ended_runs takes None lines;
        is = λ line same. ap (λ (k : Line). run_to o k ∷ ended_runs takes None lines) (some_same l.line line same);
        none = λ same. none_some l.line same;
        at = All-head (λ m. x_on m.line y ≡ x) l lines at;
        begins = begin_in lines None tt (All-tail (λ m. x_on m.line y ≡ x) l lines at) ascend.1;
      })
    where
      some_same : (k m : Line) → Some k ≡ Some m → k ≡ m
      some_same k m h = cc

      none_some : {P : Type 0} (k : Line) → Some k ≡ None → P
      none_some k h = absurd (let clash : ⊥ = cc in clash)

  pub entered : (o : ActiveLine) (lines : List ActiveLine) → PassAt y x lines → AscendIn y lines → Entered o (ended_runs takes (Some o) lines)
  entered o [] at ascend =
      record {
        entering = None;
        inner = [];
        is = λ line same. absurd (let clash : ⊥ = cc in clash);
        none = λ same.
            refl;
        at = tt;
        begins = All-nil (BeginsIn y x);
      }
  entered o (l ∷ lines) at ascend = entered_by _ o l lines refl at ascend (entered o lines (All-tail (λ m. x_on m.line y ≡ x) l lines at) ascend.1)
