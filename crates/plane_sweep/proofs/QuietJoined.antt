-- Over lines that stay, where the run below and the one above go on up to one line, but began at different ones.
use Rattle.std.proofs.Common.{ℤ, if◌then◌else◌, pos, ◌+ℤ◌, ◌-ℤ◌, ◌≡◌, ◌≤ℤ◌, ◌<ℤ◌, ◌⊎◌, inl, inr, Bool, true, false}
use Rattle.std.proofs.Common.{List, [], ◌∷◌, ◌++◌, map, Option, Some, None, All, append-nil, append_assoc, arith, refl}
use Rattle.std.proofs.Common.{ap, sym, subst, ◌∙◌}
use Rattle.std.proofs.lemmas.Int.{ints}
use Rattle.std.proofs.lemmas.List.Elements.{All-nil, All-cons, All-head, All-tail, All-append, All-weaker}
use Rattle.half_grid.specs.Lines.{x_on}
use Rattle.half_grid.specs.Rows.{place}
use Rattle.half_grid.specs.Trapezoids.{Trapezoid}
use Rattle.half_grid.specs.declared.plane.Line.{Line}
use Rattle.trap_join.specs.declared.front.Growing.{Growing}
use Rattle.trap_join.specs.Fronts.{ended_at}
use Rattle.active_lines.specs.declared.item.ActiveLine.{ActiveLine}
use Rattle.active_lines.specs.declared.item.Opened.{Opened}
use Rattle.active_lines.specs.declared.item.Windings.{Windings}
use Rattle.row_lists.specs.RowLists.{AscendIn, NoMeetings, no_windings}
use Rattle.row_lists.specs.RowRuns.{end_of, last_windings}
use Rattle.row_lists.specs.Halfway.{PassLeft, PassAt, PassAtOrRight}
use Rattle.row_lists.proofs.ForCallers.{last_append}
use Rattle.plane_sweep.specs.StopRuns.{growing_of, growing_by, AreOpened, ends_among, begins_at, leaving_of, opened_new, with_opened}
use Rattle.plane_sweep.specs.States.{AreAlikeAt, AreApartAt, AreJoinedAt}
use Rattle.plane_sweep.proofs.OldLines.{Parted, parted, some_end}
use Rattle.plane_sweep.proofs.Quiet.{AscendStrictly}
use Rattle.plane_sweep.proofs.QuietAlike.{strictly, open_is, quiet_alike}
use Rattle.plane_sweep.proofs.EnterApart.{joined_open, open_joined, apart_alike, over_passes, apart_ends, apart_passes}
use Rattle.plane_sweep.proofs.LeavePoint.{point_apart, point_passes}

first_all : (P : ActiveLine → Type 0) (xs ys : List ActiveLine) → All P (xs ++ ys) → All P xs
first_all P [] ys h = All-nil P
first_all P (x ∷ xs) ys h = All-cons P x xs (All-head P x (xs ++ ys) h) (first_all P xs ys (All-tail P x (xs ++ ys) h))

pub ascend_first : (j : ℤ) (xs ys : List ActiveLine) → AscendIn j (xs ++ ys) → AscendIn j xs
ascend_first j [] ys h = tt
ascend_first j (x ∷ xs) ys h = (first_all (λ m. place x.line j <ℤ place m.line j) xs ys h.0, ascend_first j xs ys h.1)

no_opened : (l : ActiveLine) → l.opened ≡ None → with_opened None l ≡ l
no_opened l h = ap (λ (o : Option Opened). with_opened o l) (sym h)

none_growing : (l : ActiveLine) → l.opened ≡ None → growing_of (l ∷ []) ≡ []
none_growing l h = ap (λ (o : Option Opened). growing_by l.line o []) h

module _ (takes : Windings → Bool) (y : ℤ) (given : List Trapezoid) where
  -- further right, where all lines to come are
  pub raise_joined : (x to : ℤ) (gone before rest : List ActiveLine) (w : Windings) → AreJoinedAt takes y x gone before rest given → x ≤ℤ to
      → PassAtOrRight y to rest → takes w ≡ true
      → takes (last_windings w rest) ≡ false → AreJoinedAt takes y to gone before rest given
  raise_joined x to gone before rest w s up right inside shut = record {
    fresh = s.fresh;
    growing = s.growing;
    stands = record {
      settled = s.stands.settled;
      at = s.stands.at;
      grow = All-weaker (λ g. x_on g.left y <ℤ x) (λ g. x_on g.left y <ℤ to) (λ g q. omega (arith, ints, q, up)) (growing_of gone) s.stands.grow;
      run = λ k d lt. (let q = s.stands.run k d lt in omega (arith, ints, q, up));
      begun = (let left = s.stands.begun.left in record {
        since = s.stands.begun.since;
        left = omega (arith, ints, left, up);
        new = All-weaker (λ c. c.left ≡ s.growing.left → x_on c.right y <ℤ x) (λ c. c.left ≡ s.growing.left → x_on c.right y <ℤ to)
            (λ c h same. (let k = h same in omega (arith, ints, k, up)))
            (growing_of gone) s.stands.begun.new;
        run_elsewhere = s.stands.begun.run_elsewhere;
      });
      over = record {
        reaches = subst (λ (line : Line). to ≤ℤ x_on line y) (sym s.stands.over.ends.is)
            (some_end takes (λ (line : Line). to ≤ℤ x_on line y) s.stands.over.ends.from w rest right inside shut);
        ends = s.stands.over.ends;
      };
    };
    before_is = s.before_is;
  }

  -- ---- one line

  module _ (gone before rest : List ActiveLine) (l : ActiveLine) (w : Windings) (s : AreJoinedAt takes y (x_on l.line y) gone before (l ∷ rest) given)
      (inside : takes w ≡ true)
      (shut : takes (last_windings l.windings rest) ≡ false) (right : PassAtOrRight y (x_on l.line y +ℤ pos 1) rest) (ascend : AscendIn (y -ℤ pos 1) (l ∷ rest))
      (opened : l.opened ≡ None) (later : AreOpened takes (takes l.windings) rest) where
    here : PassAt y (x_on l.line y) (l ∷ [])
    here = All-cons (λ m. x_on m.line y ≡ x_on l.line y) l [] refl (All-nil (λ m. x_on m.line y ≡ x_on l.line y))

    alone : AscendIn y (l ∷ [])
    alone = (All-nil (λ m. place l.line y <ℤ place m.line y), tt)

    split : Parted takes y (x_on l.line y) rest (growing_of (l ∷ [])) (leaving_of takes None (l ∷ []))
    split = parted takes y (x_on l.line y) true w (l ∷ []) rest here right ascend shut (opened, later)

    given_same : given ++ map (ended_at y) (growing_of (l ∷ [])) ≡ given
    given_same = ap (λ (us : List Growing). given ++ map (ended_at y) us) (none_growing l opened) ∙ append-nil given

    list_same : before ++ opened_new takes true y None (l ∷ []) ≡ before ++ l ∷ []
    list_same = ap (λ (m : ActiveLine). before ++ m ∷ []) (no_opened l opened)

    none_ends : takes l.windings ≡ true → ends_among takes (l ∷ []) ≡ false
    none_ends e = rw e refl

    one_ends : takes l.windings ≡ false → ends_among takes (l ∷ []) ≡ true
    one_ends e = rw e refl

    end_here : takes l.windings ≡ false → (k : Line) (lines : List ActiveLine) → end_of takes k (l ∷ lines) ≡ l.line
    end_here e k lines = rw e refl

    none_leaves : takes l.windings ≡ false → leaving_of takes None (l ∷ []) ≡ None
    none_leaves e = rw e refl

    none_begins : (b : Bool) → begins_at takes true None (l ∷ []) ≡ None
    none_begins b = choose (takes l.windings)
      where
        choose : (c : Bool) → (let f : Option ActiveLine = if c then None else None in f) ≡ None
        choose true = refl
        choose false = refl

    -- the runs go on
    line_passes : takes l.windings ≡ true → AreJoinedAt takes y (x_on l.line y +ℤ pos 1) (gone ++ l ∷ []) (before ++ l ∷ []) rest given
    line_passes taken =
        let o = joined_open takes y (x_on l.line y) gone before (l ∷ rest) given s in
        let over = over_passes takes y (x_on l.line y) gone before (l ∷ []) (l ∷ []) rest given w s.growing.right s.stands.over
        (none_ends taken) right inside shut in
        let e = apart_passes takes y (x_on l.line y) gone before (l ∷ []) (l ∷ []) rest given s.growing (Some s.growing.right) (Some s.growing.right) o
        (none_ends taken) over in
        let q = point_passes takes y (x_on l.line y) gone before (l ∷ []) (l ∷ []) rest true given (Some s.growing.right)
        (leaving_of takes None (l ∷ [])) split here alone s.growing e
        (Some s.growing.right) over None in
        subst (λ (list : List ActiveLine). AreJoinedAt takes y (x_on l.line y +ℤ pos 1) (gone ++ l ∷ []) list rest given) list_same
        (subst (λ (zs : List Trapezoid). AreJoinedAt takes y (x_on l.line y +ℤ pos 1) (gone ++ l ∷ [])
        (before ++ opened_new takes true y None (l ∷ [])) rest zs) given_same
        (open_joined takes y (x_on l.line y +ℤ pos 1) (gone ++ l ∷ []) (before ++ opened_new takes true y None (l ∷ [])) rest
        (given ++ map (ended_at y) (growing_of (l ∷ []))) s.growing q))

    -- both end at the line
    line_ends : takes no_windings ≡ false → takes l.windings ≡ false → AreAlikeAt takes y (x_on l.line y +ℤ pos 1) (gone ++ l ∷ [])
        (before ++ l ∷ []) rest given
    line_ends nothing not_taken =
        let o = joined_open takes y (x_on l.line y) gone before (l ∷ rest) given s in
        let at = s.stands.over.ends.is ∙ end_here not_taken s.stands.over.ends.from rest in
        let e = apart_ends takes y (x_on l.line y) gone before (l ∷ []) (l ∷ []) rest given s.growing (Some s.growing.right) None l.line o at refl
        (one_ends not_taken)
        (λ k. end_here not_taken k []) tt in
        let q = point_apart takes y (x_on l.line y) gone before (l ∷ []) (l ∷ []) rest true given None
        (leaving_of takes None (l ∷ [])) split here alone e None tt
        (λ b begin. none_some b (sym (none_begins true) ∙ begin)) in
        let last = last_append no_windings before (l ∷ []) in
        apart_alike takes y (x_on l.line y +ℤ pos 1) (gone ++ l ∷ []) (before ++ l ∷ []) rest given
        (subst (λ (list : List ActiveLine). AreApartAt takes y (x_on l.line y +ℤ pos 1) (gone ++ l ∷ []) list rest given None) list_same
        (subst (λ (zs : List Trapezoid). AreApartAt takes y (x_on l.line y +ℤ pos 1) (gone ++ l ∷ [])
        (before ++ opened_new takes true y None (l ∷ [])) rest zs None) given_same q))
        (open_is takes (before ++ l ∷ []) l.windings nothing last ∙ not_taken)
      where
        none_some : {P : Type 0} (b : ActiveLine) → None ≡ Some b → P
        none_some b h = absurd (let clash : ⊥ = cc in clash)

  -- ---- all lines

  abbrev Quietly : ℤ → List ActiveLine → List ActiveLine → List ActiveLine → Type 0
  Quietly to gone before rest = AreAlikeAt takes y to gone before rest given ⊎ AreJoinedAt takes y to gone before rest given

  moved : (to : ℤ) (gone before mid rest : List ActiveLine) (l : ActiveLine) → Quietly to ((gone ++ l ∷ []) ++ mid) ((before ++ l ∷ []) ++ mid) rest
      → Quietly to (gone ++ l ∷ mid) (before ++ l ∷ mid) rest
  moved to gone before mid rest l q =
      subst (λ (us : List ActiveLine). Quietly to us (before ++ l ∷ mid) rest) (append_assoc gone (l ∷ []) mid)
      (subst (λ (us : List ActiveLine). Quietly to ((gone ++ l ∷ []) ++ mid) us rest) (append_assoc before (l ∷ []) mid) q)

  none_moved : (to : ℤ) (gone before rest : List ActiveLine) → Quietly to gone before rest → Quietly to (gone ++ []) (before ++ []) rest
  none_moved to gone before rest q =
      subst (λ (us : List ActiveLine). Quietly to us (before ++ []) rest) (sym (append-nil gone))
      (subst (λ (us : List ActiveLine). Quietly to gone us rest) (sym (append-nil before)) q)

  right_of : (to : ℤ) (l : ActiveLine) (mid rest : List ActiveLine) → All (λ m. x_on l.line y <ℤ x_on m.line y) mid → x_on l.line y <ℤ to
      → PassAtOrRight y to rest
      → PassAtOrRight y (x_on l.line y +ℤ pos 1) (mid ++ rest)
  right_of to l mid rest near lt right =
      All-append (λ m. (x_on l.line y +ℤ pos 1) ≤ℤ x_on m.line y) mid rest
      (All-weaker (λ m. x_on l.line y <ℤ x_on m.line y) (λ m. (x_on l.line y +ℤ pos 1) ≤ℤ x_on m.line y) (λ m q. omega (arith, ints, q)) mid near)
      (All-weaker (λ m. to ≤ℤ x_on m.line y) (λ m. (x_on l.line y +ℤ pos 1) ≤ℤ x_on m.line y) (λ m q. omega (arith, ints, q, lt)) rest right)

  at_or_right : (l : ActiveLine) (lines : List ActiveLine) → PassAtOrRight y (x_on l.line y +ℤ pos 1) lines → PassAtOrRight y (x_on l.line y) (l ∷ lines)
  at_or_right l lines h =
      All-cons (λ m. x_on l.line y ≤ℤ x_on m.line y) l lines (omega (arith, ints))
      (All-weaker (λ m. (x_on l.line y +ℤ pos 1) ≤ℤ x_on m.line y) (λ m. x_on l.line y ≤ℤ x_on m.line y) (λ m q. omega (arith, ints, q)) lines h)

  less_meetings : (l : ActiveLine) (mid : List ActiveLine) → NoMeetings (l ∷ mid) (y -ℤ pos 1) y → NoMeetings mid (y -ℤ pos 1) y
  less_meetings l [] none z low high s = absurd s
  less_meetings l (m ∷ mid) none z low high s = none z low high (inr s)

  module _ (to : ℤ) (rest : List ActiveLine) (nothing : takes no_windings ≡ false) (right : PassAtOrRight y to rest) where
    line_by : (b : Bool) (l : ActiveLine) (mid gone before : List ActiveLine) (w : Windings) → takes l.windings ≡ b
        → AreJoinedAt takes y (x_on l.line y) gone before (l ∷ (mid ++ rest)) given
        → takes w ≡ true → takes (last_windings l.windings (mid ++ rest)) ≡ false → All (λ m. x_on l.line y <ℤ x_on m.line y) mid → PassLeft y to (l ∷ mid)
        → AscendIn (y -ℤ pos 1) (l ∷ (mid ++ rest)) → NoMeetings mid (y -ℤ pos 1) y → l.opened ≡ None → AreOpened takes (takes l.windings) (mid ++ rest)
        → (AreJoinedAt takes y (x_on l.line y +ℤ pos 1) (gone ++ l ∷ []) (before ++ l ∷ []) (mid ++ rest) given → takes l.windings ≡ true
        → Quietly to ((gone ++ l ∷ []) ++ mid) ((before ++ l ∷ []) ++ mid) rest)
        → Quietly to (gone ++ l ∷ mid) (before ++ l ∷ mid) rest
    line_by true l mid gone before w taken s inside shut near left ascend none opened later more =
        let far = right_of to l mid rest near (All-head (λ m. x_on m.line y <ℤ to) l mid left) right in
        moved to gone before mid rest l (more (line_passes gone before (mid ++ rest) l w s inside shut far ascend opened later taken) taken)
    line_by false l mid gone before w taken s inside shut near left ascend none opened later more =
        let lt = All-head (λ m. x_on m.line y <ℤ to) l mid left in
        let far = right_of to l mid rest near lt right in
        let a = line_ends gone before (mid ++ rest) l w s inside shut far ascend opened later nothing taken in
        moved to gone before mid rest l
        (inl (quiet_alike takes y (x_on l.line y +ℤ pos 1) to (gone ++ l ∷ []) (before ++ l ∷ []) mid rest given a (omega (arith, ints, lt))
        (All-tail (λ m. x_on m.line y <ℤ to) l mid left)
        l.windings nothing (last_append no_windings before (l ∷ [])) (ascend_first (y -ℤ pos 1) mid rest ascend.1) none far later))

    quiet_by : (mid : List ActiveLine) (x : ℤ) (gone before : List ActiveLine) (w : Windings) → AreJoinedAt takes y x gone before (mid ++ rest) given
        → takes w ≡ true
        → takes (last_windings w (mid ++ rest)) ≡ false → x ≤ℤ to → PassLeft y to mid → PassAtOrRight y x (mid ++ rest)
        → AscendIn (y -ℤ pos 1) (mid ++ rest) → AscendStrictly y mid
        → NoMeetings mid (y -ℤ pos 1) y → AreOpened takes true (mid ++ rest) → Quietly to (gone ++ mid) (before ++ mid) rest
    quiet_by [] x gone before w s inside shut up left from ascend strict none opened =
        none_moved to gone before rest (inr (raise_joined x to gone before rest w s up right inside shut))
    quiet_by (l ∷ mid) x gone before w s inside shut up left from ascend strict none opened =
        let lt = All-head (λ m. x_on m.line y <ℤ to) l mid left in
        let far = right_of to l mid rest strict.0 lt right in
        let here = raise_joined x (x_on l.line y) gone before (l ∷ (mid ++ rest)) w s (All-head (λ m. x ≤ℤ x_on m.line y) l (mid ++ rest) from)
        (at_or_right l (mid ++ rest) far) inside shut in
        line_by _ l mid gone before w refl here inside shut strict.0 left ascend (less_meetings l mid none) opened.0 opened.1
        (λ q taken. quiet_by mid (x_on l.line y +ℤ pos 1) (gone ++ l ∷ []) (before ++ l ∷ []) l.windings q taken shut (omega (arith, ints, lt))
        (All-tail (λ m. x_on m.line y <ℤ to) l mid left) far
        ascend.1 strict.1 (less_meetings l mid none) (subst (λ (b : Bool). AreOpened takes b (mid ++ rest)) taken opened.1))

    -- after the lines they still go on so, or ended at one of the lines, and are the same
    pub quiet_joined : (mid : List ActiveLine) (x : ℤ) (gone before : List ActiveLine) (w : Windings)
        → AreJoinedAt takes y x gone before (mid ++ rest) given → takes w ≡ true
        → takes (last_windings w (mid ++ rest)) ≡ false → x ≤ℤ to → PassLeft y to mid → PassAtOrRight y x (mid ++ rest) → AscendIn (y -ℤ pos 1) (mid ++ rest)
        → NoMeetings mid (y -ℤ pos 1) y → AreOpened takes true (mid ++ rest)
        → AreAlikeAt takes y to (gone ++ mid) (before ++ mid) rest given ⊎ AreJoinedAt takes y to (gone ++ mid) (before ++ mid) rest given
    quiet_joined mid x gone before w s inside shut up left from ascend none opened =
        quiet_by mid x gone before w s inside shut up left from ascend (strictly y mid (ascend_first (y -ℤ pos 1) mid rest ascend) none) none opened
