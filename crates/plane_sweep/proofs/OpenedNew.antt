-- The runs at the new lines through a point, and what is open at these.
use Rattle.std.proofs.Common.{ℤ, if◌then◌else◌, ◌≡◌, ◌<ℤ◌, Bool, true, false, List, [], ◌∷◌, ◌++◌, map, Option, Some}
use Rattle.std.proofs.Common.{None, IfSome, All, is_some, refl, ap, sym, ◌∙◌}
use Rattle.std.specs.Option.{option_to_list}
use Rattle.std.proofs.lemmas.List.Elements.{All-nil, All-head, All-tail}
use Rattle.half_grid.specs.Lines.{x_on}
use Rattle.half_grid.specs.Rows.{place}
use Rattle.half_grid.specs.declared.plane.Line.{Line}
use Rattle.scan_line.specs.declared.runs.Run.{Run}
use Rattle.trap_join.specs.declared.front.Growing.{Growing}
use Rattle.trap_join.specs.Fronts.{grown_into}
use Rattle.active_lines.specs.declared.item.ActiveLine.{ActiveLine}
use Rattle.active_lines.specs.declared.item.Opened.{Opened}
use Rattle.active_lines.specs.declared.item.Windings.{Windings}
use Rattle.row_lists.specs.RowLists.{AreAlike, AscendIn}
use Rattle.row_lists.specs.RowRuns.{end_of}
use Rattle.row_lists.specs.Halfway.{PassAt}
use Rattle.plane_sweep.specs.StopRuns.{growing_of, growing_by, ended_runs, open_after, inner_runs, ends_among}
use Rattle.plane_sweep.specs.StopRuns.{end_among, begins_at, opened_at, opened_among, opened_new}
use Rattle.plane_sweep.specs.Points.{BeginsIn}
use Rattle.plane_sweep.proofs.RunsAlong.{run_up_to}
use Rattle.plane_sweep.proofs.NewLines.{begin_in}
use Rattle.plane_sweep.proofs.Distinct.{ended_left}

no_clash : {P : Type 0} (b : Bool) → b ≡ true → b ≡ false → P
no_clash b h k = absurd (let clash : ⊥ = cc in clash)

choose_same : {A : Type 0} (b : Bool) (x : A) → x ≡ (if b then x else x)
choose_same true x = refl
choose_same false x = refl

module _ (takes : Windings → Bool) where
  pub inner_none : (lines : List ActiveLine) → inner_runs takes false lines ≡ ended_runs takes None lines
  inner_none [] = refl
  inner_none (l ∷ lines) = refl

  -- ---- a run that is open before the lines, and ends at one of them

  ended_by : (b : Bool) (o l : ActiveLine) (k : Line) (lines : List ActiveLine) → takes l.windings ≡ b → ends_among takes (l ∷ lines) ≡ true
      → (ends_among takes lines ≡ true → ended_runs takes (Some o) lines ≡ run_up_to o (end_of takes l.line lines) ∷ inner_runs takes true lines)
      → ended_runs takes (Some o) (l ∷ lines) ≡ run_up_to o (end_of takes k (l ∷ lines)) ∷ inner_runs takes true (l ∷ lines)
  ended_by true o l k lines e ends later = let h = rw e at ends in let rest = later h in rw e rest
  ended_by false o l k lines e ends later = rw e (ap (λ (rs : List Run). run_up_to o l.line ∷ rs) (sym (inner_none lines)))

  pub ended_some : (o : ActiveLine) (k : Line) (lines : List ActiveLine) → ends_among takes lines ≡ true
      → ended_runs takes (Some o) lines ≡ run_up_to o (end_of takes k lines) ∷ inner_runs takes true lines
  ended_some o k [] ends = no_clash false ends refl
  ended_some o k (l ∷ lines) ends = ended_by _ o l k lines refl ends (λ h. ended_some o l.line lines h)

  found_by : (b : Bool) (f : Option ActiveLine) (l : ActiveLine) (lines : List ActiveLine) → takes l.windings ≡ b → ends_among takes (l ∷ lines) ≡ true
      → (ends_among takes lines ≡ true → begins_at takes true f lines ≡ begins_at takes true None lines)
      → begins_at takes true f (l ∷ lines) ≡ begins_at takes true None (l ∷ lines)
  found_by true f l lines e ends later = let h = rw e at ends in let rest = later h in rw e rest
  found_by false f l lines e ends later = rw e refl

  pub begins_found : (f : Option ActiveLine) (lines : List ActiveLine) → ends_among takes lines ≡ true
      → begins_at takes true f lines ≡ begins_at takes true None lines
  begins_found f [] ends = no_clash false ends refl
  begins_found f (l ∷ lines) ends = found_by _ f l lines refl ends (λ h. begins_found f lines h)

  end_some_by : (b : Bool) (l : ActiveLine) (k : Line) (lines : List ActiveLine) → takes l.windings ≡ b → ends_among takes (l ∷ lines) ≡ true
      → (ends_among takes lines ≡ true → end_among takes lines ≡ Some (end_of takes l.line lines))
      → end_among takes (l ∷ lines) ≡ Some (end_of takes k (l ∷ lines))
  end_some_by true l k lines e ends later = let h = rw e at ends in let rest = later h in rw e rest
  end_some_by false l k lines e ends later = rw e refl

  pub end_some : (k : Line) (lines : List ActiveLine) → ends_among takes lines ≡ true → end_among takes lines ≡ Some (end_of takes k lines)
  end_some k [] ends = no_clash false ends refl
  end_some k (l ∷ lines) ends = end_some_by _ l k lines refl ends (λ h. end_some l.line lines h)

  -- where it ends
  pub record EndsAt (lines : List ActiveLine) (e : Line) : Type 0 where
    pub ends : ends_among takes lines ≡ true
    pub to : (k : Line) → end_of takes k lines ≡ e
    pub before : (k : Line) (rest : List ActiveLine) → end_of takes k (lines ++ rest) ≡ e

  ends_at_by : (b : Bool) (l : ActiveLine) (lines : List ActiveLine) (e : Line) → takes l.windings ≡ b → end_among takes (l ∷ lines) ≡ Some e
      → (end_among takes lines ≡ Some e → EndsAt lines e)
      → EndsAt (l ∷ lines) e
  ends_at_by true l lines e taken found later =
      let h = later (rw taken at found) in
      record {
        ends = (let q = h.ends in rw taken q);
        to = λ k. (let q = h.to l.line in rw taken q);
        before = λ k rest. (let q = h.before l.line rest in rw taken q);
      }
  ends_at_by false l lines e taken found later =
      let h : Some l.line ≡ Some e = rw taken at found in
      let same : l.line ≡ e = cc in
      record { ends = rw taken refl; to = λ k. rw taken same; before = λ k rest. rw taken same }

  pub ends_at : (lines : List ActiveLine) (e : Line) → end_among takes lines ≡ Some e → EndsAt lines e
  ends_at [] e found = absurd (let clash : ⊥ = cc in clash)
  ends_at (l ∷ lines) e found = ends_at_by _ l lines e refl found (λ h. ends_at lines e h)

  passes_by : (b : Bool) (l : ActiveLine) (lines : List ActiveLine) → takes l.windings ≡ b → end_among takes (l ∷ lines) ≡ None
      → (end_among takes lines ≡ None → ends_among takes lines ≡ false)
      → ends_among takes (l ∷ lines) ≡ false
  passes_by true l lines taken none later = let h = later (rw taken at none) in rw taken h
  passes_by false l lines taken none later = absurd (let h : Some l.line ≡ None = rw taken at none in let clash : ⊥ = cc in clash)

  pub ends_not : (lines : List ActiveLine) → end_among takes lines ≡ None → ends_among takes lines ≡ false
  ends_not [] none = refl
  ends_not (l ∷ lines) none = passes_by _ l lines refl none (λ h. ends_not lines h)

  -- the line at which a run begins is one of them
  begins_choose : (P : ActiveLine → Type 0) (b inside : Bool) (l : ActiveLine) (f : Option ActiveLine) → P l → IfSome f P
      → IfSome (if b then (if inside then f else Some l) else None) P
  begins_choose P true true l f h k = k
  begins_choose P true false l f h k = h
  begins_choose P false inside l f h k = tt

  pub begins_among : (P : ActiveLine → Type 0) (inside : Bool) (f : Option ActiveLine) (lines : List ActiveLine) → IfSome f P → All P lines
      → IfSome (begins_at takes inside f lines) P
  begins_among P inside f [] h all = h
  begins_among P inside f (l ∷ lines) h all =
      begins_among P (takes l.windings) (if takes l.windings then (if inside then f else Some l) else None) lines
      (begins_choose P (takes l.windings) inside l f (All-head P l lines all) h) (All-tail P l lines all)

  -- ---- and one that passes them

  -- what holds of lines at which no run ends that is open before them
  pub record PassLines (lines : List ActiveLine) : Type 0 where
    pub ended : (o : ActiveLine) → ended_runs takes (Some o) lines ≡ []
    pub open_still : (o : ActiveLine) → open_after takes (Some o) lines ≡ Some o
    pub inner : inner_runs takes true lines ≡ []
    pub begins : (f : Option ActiveLine) → begins_at takes true f lines ≡ f
    pub ends : end_among takes lines ≡ None

  pass_by : (b : Bool) (l : ActiveLine) (lines : List ActiveLine) → takes l.windings ≡ b → ends_among takes (l ∷ lines) ≡ false
      → (ends_among takes lines ≡ false → PassLines lines)
      → PassLines (l ∷ lines)
  pass_by true l lines e none later =
      let h = rw e at none in
      let k = later h in
      record {
        ended = λ o. (let q = k.ended o in rw e q);
        open_still = λ o. (let q = k.open_still o in rw e q);
        inner = (let q = k.inner in rw e q);
        begins = λ f. (let q = k.begins f in rw e q);
        ends = (let q = k.ends in rw e q);
      }
  pass_by false l lines e none later = let h = rw e at none in no_clash true refl h

  pub pass_lines : (lines : List ActiveLine) → ends_among takes lines ≡ false → PassLines lines
  pass_lines [] none = record { ended = λ o. refl; open_still = λ o. refl; inner = refl; begins = λ f. refl; ends = refl }
  pass_lines (l ∷ lines) none = pass_by _ l lines refl none (λ h. pass_lines lines h)

  -- ---- the run that is open after the lines

  begins_by : (b : Bool) (l : ActiveLine) (f : Option ActiveLine) (lines : List ActiveLine) → takes l.windings ≡ b → is_some f ≡ is_some f
      → ((g : Option ActiveLine) → begins_at takes (is_some g) g lines ≡ open_after takes g lines)
      → begins_at takes (is_some f) f (l ∷ lines) ≡ open_after takes f (l ∷ lines)
  begins_by true l None lines e h later = let q = later (Some l) in rw e q
  begins_by true l (Some o) lines e h later = let q = later (Some o) in rw e q
  begins_by false l None lines e h later = let q = later None in rw e q
  begins_by false l (Some o) lines e h later = let q = later None in rw e q

  pub begins_open : (f : Option ActiveLine) (lines : List ActiveLine) → begins_at takes (is_some f) f lines ≡ open_after takes f lines
  begins_open f [] = refl
  begins_open f (l ∷ lines) = begins_by _ l f lines refl refl (λ g. begins_open g lines)

  -- where it begins at one of them
  pub open_begun : (o : ActiveLine) (lines : List ActiveLine) → ends_among takes lines ≡ true
      → open_after takes (Some o) lines ≡ begins_at takes true None lines
  open_begun o lines ends = sym (begins_open (Some o) lines) ∙ begins_found (Some o) lines ends

  none_begins : (l : ActiveLine) (lines : List ActiveLine) → begins_at takes (takes l.windings) None lines ≡ begins_at takes true None (l ∷ lines)
  none_begins l lines = ap (λ (f : Option ActiveLine). begins_at takes (takes l.windings) f lines) (choose_same (takes l.windings) None)

  -- ---- the runs that begin and end among the lines stand left of it

  pub inner_left : (y : ℤ) (inside : Bool) (lines : List ActiveLine) (o : ActiveLine) → AscendIn y lines → begins_at takes inside None lines ≡ Some o
      → All (λ r. place r.left y <ℤ place o.line y) (inner_runs takes inside lines)
  inner_left y inside [] o ascend e = All-nil (λ r. place r.left y <ℤ place o.line y)
  inner_left y true (l ∷ lines) o ascend e = inner_left y (takes l.windings) lines o ascend.1 (none_begins l lines ∙ e)
  inner_left y false (l ∷ lines) o ascend e = ended_left takes y (l ∷ lines) None o ascend tt (sym (begins_open None (l ∷ lines)) ∙ e)

  -- and begin in the point
  pub inner_begin : (y x : ℤ) (inside : Bool) (lines : List ActiveLine) → PassAt y x lines → AscendIn y lines
      → All (BeginsIn y x) (inner_runs takes inside lines)
  inner_begin y x inside [] at ascend = All-nil (BeginsIn y x)
  inner_begin y x true (l ∷ lines) at ascend = inner_begin y x (takes l.windings) lines (All-tail (λ m. x_on m.line y ≡ x) l lines at) ascend.1
  inner_begin y x false (l ∷ lines) at ascend = begin_in takes y x (l ∷ lines) None tt at ascend

  -- ---- what is open at the new lines

  -- the trapezoid at the line at which the run begins that is open after them
  abbrev pub begun_growing : ℤ → Option Opened → Option ActiveLine → Option Growing
  begun_growing y kept None = None
  begun_growing y kept (Some b) =
      Some (let g : Growing = record { y0 = (opened_at y kept b.line).since; left = b.line; right = (opened_at y kept b.line).right } in g)

  module _ (y : ℤ) (kept : Option Opened) where
    abbrev Grows : Bool → List ActiveLine → Type 0
    Grows inside lines =
        growing_of (opened_new takes inside y kept lines) ≡ map (grown_into [] y) (inner_runs takes inside lines) ++ option_to_list
        (begun_growing y kept (begins_at takes inside None lines))

    -- where the run that begins at the line ends among the others, and where it doesn't
    new_by : (c : Bool) (l : ActiveLine) (lines : List ActiveLine) → ends_among takes lines ≡ c → Grows true lines
        → growing_by l.line (Some (opened_among takes y kept l.line lines)) (growing_of (opened_new takes true y kept lines))
        ≡ map (grown_into [] y) (ended_runs takes (Some l) lines) ++ option_to_list (begun_growing y kept (begins_at takes true (Some l) lines))
    new_by true l lines e later =
        let runs = ended_some l l.line lines e in
        let found = begins_found (Some l) lines e in
        rw (e, runs, found) (ap (λ (us : List Growing). grown_into [] y (run_up_to l (end_of takes l.line lines)) ∷ us) later)
    new_by false l lines e later =
        let p = pass_lines lines e in
        let none : growing_of (opened_new takes true y kept lines) ≡ [] = later
        ∙ alone (inner_runs takes true lines) (begins_at takes true None lines) p.inner (p.begins None) in
        let runs = p.ended l in
        let found = p.begins (Some l) in
        rw (e, runs, found, none) refl
      where
        alone : (rs : List Run) (f : Option ActiveLine) → rs ≡ [] → f ≡ None → map (grown_into [] y) rs ++ option_to_list (begun_growing y kept f) ≡ []
        alone rs f h k = rw (h, k) refl

    line_by : (b : Bool) (l : ActiveLine) (lines : List ActiveLine) → takes l.windings ≡ b → Grows true lines → Grows false lines → Grows false (l ∷ lines)
    line_by true l lines e inside outside = let h = new_by _ l lines refl inside in rw e h
    line_by false l lines e inside outside = rw e
        (outside ∙ ap (λ (rs : List Run). map (grown_into [] y) rs ++ option_to_list (begun_growing y kept (begins_at takes false None lines)))
        (inner_none lines))

    pub growing_new : (inside : Bool) (lines : List ActiveLine) → Grows inside lines
    growing_new inside [] = refl
    growing_new true (l ∷ lines) =
        growing_new (takes l.windings) lines
        ∙ ap (λ (f : Option ActiveLine). map (grown_into [] y) (inner_runs takes (takes l.windings) lines) ++ option_to_list (begun_growing y kept f))
        (none_begins l lines)
    growing_new false (l ∷ lines) = line_by _ l lines refl (growing_new true lines) (growing_new false lines)

    pub alike_new : (inside : Bool) (lines : List ActiveLine) → AreAlike lines (opened_new takes inside y kept lines)
    alike_new inside [] = tt
    alike_new true (l ∷ lines) = (refl, refl, alike_new (takes l.windings) lines)
    alike_new false (l ∷ lines) = (refl, refl, alike_new (takes l.windings) lines)
