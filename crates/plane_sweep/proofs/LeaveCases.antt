-- What leaves a point, case by case as it is decided: the runs right of the point.
use Rattle.std.proofs.Common.{ℤ, pos, ◌+ℤ◌, ◌-ℤ◌, ◌≡◌, ◌⊎◌, inl, inr, if◌then◌else◌, Bool, true, false, List, [], ◌∷◌}
use Rattle.std.proofs.Common.{◌++◌, map, Option, Some, None, IfSome, is_some, append-nil, refl, ap, sym, subst, ◌∙◌}
use Rattle.half_grid.specs.Trapezoids.{Trapezoid}
use Rattle.half_grid.specs.declared.plane.Line.{Line}
use Rattle.half_grid.specs.declared.plane.Line.TheVariants.{Upright}
use Rattle.trap_join.specs.declared.front.Growing.{Growing}
use Rattle.trap_join.specs.Fronts.{ended_at}
use Rattle.active_lines.specs.declared.item.ActiveLine.{ActiveLine}
use Rattle.active_lines.specs.declared.item.Opened.{Opened}
use Rattle.active_lines.specs.declared.item.Windings.{Windings}
use Rattle.row_lists.specs.RowLists.{no_windings}
use Rattle.row_lists.specs.RowRuns.{end_of, last_windings}
use Rattle.row_lists.proofs.ForCallers.{last_append}
use Rattle.plane_sweep.specs.StopRuns.{growing_of, AreOpened, IsOpenUpTo, open_after, ends_among, leaving_at, leaving_of, begins_at, opened_new}
use Rattle.plane_sweep.specs.States.{GoesOver, AreAlikeAt, AreJoinedAt, AreApartAt, HasEntered}
use Rattle.plane_sweep.specs.Crossings.{IsCrossing, RunsAre, EnteredAre, passes_below, after_of, LeaveApart, LeavesOn}
use Rattle.plane_sweep.specs.declared.entry.Runs.TheVariants.{Alike, Apart}
use Rattle.plane_sweep.specs.declared.entry.Entered.TheVariants.{Together, Separate}
use Rattle.plane_sweep.proofs.RunsAlong.{inside_after, inside_by_windings}
use Rattle.plane_sweep.proofs.OldLines.{Parted, parted, none_begins, leaving_same}
use Rattle.plane_sweep.proofs.QuietAlike.{open_is}
use Rattle.plane_sweep.proofs.QuietJoined.{ascend_first}
use Rattle.plane_sweep.proofs.AlikeRuns.{alike_last, last_same}
use Rattle.plane_sweep.proofs.OpenedNew.{alike_new}
use Rattle.plane_sweep.proofs.EnterPoint.{pending}
use Rattle.plane_sweep.proofs.EnterApart.{joined_open, open_apart, open_joined, apart_alike, over_passes, apart_passes}
use Rattle.plane_sweep.proofs.LeavePoint.{parted_over, point_apart, point_passes, point_same, point_alike}

no_clash : {P : Type 0} (b : Bool) → b ≡ true → b ≡ false → P
no_clash b h k = absurd (let clash : ⊥ = cc in clash)

-- ---- whether the windings right of the lines are taken

module _ (takes : Windings → Bool) where
  pass_by : (b : Bool) (l : ActiveLine) (lines : List ActiveLine) → takes l.windings ≡ b → ends_among takes (l ∷ lines) ≡ false
      → (ends_among takes lines ≡ false → inside_after takes true lines ≡ true)
      → inside_after takes b lines ≡ true
  pass_by true l lines e none later = later (rw e at none)
  pass_by false l lines e none later = let h = rw e at none in no_clash true refl h

  pub pass_inside : (lines : List ActiveLine) → ends_among takes lines ≡ false → inside_after takes true lines ≡ true
  pass_inside [] none = refl
  pass_inside (l ∷ lines) none = pass_by _ l lines refl none (λ h. pass_inside lines h)

  found_by : (b inside : Bool) (f : Option Growing) (l : ActiveLine) (rest : List ActiveLine) → takes l.windings ≡ b → is_some f ≡ inside
      → AreOpened takes inside (l ∷ rest)
      → is_some (if takes l.windings then leaving_at l l.opened f else None) ≡ takes l.windings
  found_by false inside f l rest e h opened = rw e refl
  found_by true true f l rest e h opened = let shut = opened.0 in rw (e, shut) h
  found_by true false f l rest e h opened = begun (rw e at opened)
    where
      begun : IsOpenUpTo (end_of takes l.line rest) l × AreOpened takes true rest
          → is_some (if takes l.windings then leaving_at l l.opened f else None) ≡ takes l.windings
      begun k = (let is = k.0.opened in rw (e, is) refl)

  pub leaving_inside : (f : Option Growing) (inside : Bool) (lines rest : List ActiveLine) → is_some f ≡ inside → AreOpened takes inside (lines ++ rest)
      → is_some (leaving_of takes f lines) ≡ inside_after takes inside lines
  leaving_inside f inside [] rest h opened = h
  leaving_inside f true (l ∷ lines) rest h opened =
      leaving_inside (if takes l.windings then leaving_at l l.opened f else None) (takes l.windings) lines rest
      (found_by _ true f l (lines ++ rest) refl h opened) opened.1
  leaving_inside f false (l ∷ lines) rest h opened =
      leaving_inside (if takes l.windings then leaving_at l l.opened f else None) (takes l.windings) lines rest
      (found_by _ false f l (lines ++ rest) refl h opened) opened.1

module _ (takes : Windings → Bool) (y x : ℤ) (below above : Windings) (gone before old new rest : List ActiveLine) (given : List Trapezoid)
    (c : IsCrossing takes y x below above gone before old new rest) where
  pub split : Parted takes y x rest (growing_of old) (leaving_of takes None old)
  split = parted takes y x (takes below) below old rest c.old_at c.right c.old_ascend c.shut c.opened

  -- ---- the windings right of the point

  below_is : takes (last_windings below old) ≡ inside_after takes (takes below) old
  below_is = inside_by_windings takes below old

  pass_taken : takes below ≡ true → ends_among takes old ≡ false → takes (last_windings below old) ≡ true
  pass_taken h none = below_is ∙ (ap (λ (b : Bool). inside_after takes b old) h ∙ pass_inside takes old none)

  list_last : (inside : Bool) (kept : Option Opened) → last_windings no_windings (before ++ opened_new takes inside y kept new) ≡ last_windings above new
  list_last inside kept =
      last_append no_windings before (opened_new takes inside y kept new)
      ∙ (sym (alike_last (last_windings no_windings before) new (opened_new takes inside y kept new) (alike_new takes y kept inside new))
      ∙ ap (λ (w : Windings). last_windings w new) c.above_is)

  -- a run is open after the new lines exactly where the windings right of them are taken
  pub open_now : (inside : Bool) (kept : Option Opened) → is_some (open_after takes None (before ++ opened_new takes inside y kept new)) ≡ takes
      (last_windings above new)
  open_now inside kept = open_is takes (before ++ opened_new takes inside y kept new) (last_windings above new) c.nothing (list_last inside kept)

  some_after : (right : Option Line) (leaving : Option Growing) → right ≡ None → is_some leaving ≡ is_some (after_of right leaving)
  some_after (Some r) leaving h = absurd (let clash : ⊥ = cc in clash)
  some_after None None h = refl
  some_after None (Some g) h = refl

  passed_after : (right : Option Line) (leaving : Option Growing) → is_some right ≡ true → true ≡ is_some (after_of right leaving)
  passed_after (Some r) leaving h = refl
  passed_after None leaving h = absurd (let clash : ⊥ = cc in clash)

  none_right : (right : Option Line) → is_some right ≡ false → right ≡ None
  none_right None h = refl
  none_right (Some r) h = absurd (let clash : ⊥ = cc in clash)

  after_by : (b e : Bool) (right : Option Line) → takes below ≡ b → ends_among takes old ≡ e → is_some right ≡ passes_below takes below old
      → takes (last_windings below old) ≡ is_some (after_of right (leaving_of takes None old))
  after_by true false right h ends fit =
      let some : is_some right ≡ true = fit ∙ (rw (h, ends) refl) in
      pass_taken h ends ∙ passed_after right (leaving_of takes None old) some
  after_by true true right h ends fit =
      let none : is_some right ≡ false = fit ∙ (rw (h, ends) refl) in
      let any : Growing = record { y0 = y; left = Upright (pos 0); right = Upright (pos 0) } in
      let inside = leaving_inside takes (Some any) true old rest refl (subst (λ (b : Bool). AreOpened takes b (old ++ rest)) h c.opened) in
      below_is ∙ (ap (λ (b : Bool). inside_after takes b old) h
      ∙ (sym inside ∙ (ap (λ (o : Option Growing). is_some o) (leaving_same takes (Some any) None old ends) ∙ some_after right (leaving_of takes None old)
      (none_right right none))))
  after_by false e right h ends fit =
      let none : is_some right ≡ false = fit ∙ (rw h refl) in
      let inside = leaving_inside takes None false old rest refl (subst (λ (b : Bool). AreOpened takes b (old ++ rest)) h c.opened) in
      below_is ∙ (ap (λ (b : Bool). inside_after takes b old) h ∙ (sym inside ∙ some_after right (leaving_of takes None old) (none_right right none)))

  after_fit : (right : Option Line) → is_some right ≡ passes_below takes below old
      → takes (last_windings below old) ≡ is_some (after_of right (leaving_of takes None old))
  after_fit right fit = after_by _ _ right refl refl fit

  -- ---- one run passes

  pub given_same : takes below ≡ true → ends_among takes old ≡ false → given ++ map (ended_at y) (growing_of old) ≡ given
  given_same h none =
      ap (λ (us : List Growing). given ++ map (ended_at y) us)
      (none_begins takes old rest (subst (λ (b : Bool). AreOpened takes b (old ++ rest)) h c.opened) none) ∙ append-nil given

  together_fit : (inside : Bool) → inside ≡ true → takes above ≡ inside → takes below ≡ true → ends_among takes old ≡ false → ends_among takes new ≡ false
      → (kept : Option Opened)
      → takes (last_windings below old) ≡ is_some (open_after takes None (before ++ opened_new takes inside y kept new))
  together_fit inside is enters h from to kept =
      pass_taken h from
      ∙ sym (open_now inside kept ∙ (inside_by_windings takes above new ∙ (ap (λ (b : Bool). inside_after takes b new) (enters ∙ is)
      ∙ pass_inside takes new to)))

  pub leave_together : (kept : Option Opened) → EnteredAre takes y x gone before old new rest given below (takes above) Together
      → RunsAre takes y (x +ℤ pos 1) (gone ++ old) (before ++ opened_new takes (takes above) y kept new) rest given (last_windings below old) Alike
  leave_together kept t =
      (by_state (subst (λ (b : Bool). AreOpened takes b (old ++ rest)) t.2 c.opened) t.1 t.2 t.3 t.4 t.0, together_fit (takes above) t.1 refl t.2 t.3 t.4 kept)
    where
      by_state : AreOpened takes true (old ++ rest) → takes above ≡ true → takes below ≡ true → ends_among takes old ≡ false → ends_among takes new ≡ false
          → AreAlikeAt takes y x gone before (old ++ rest) given ⊎ AreJoinedAt takes y x gone before (old ++ rest) given
          → AreAlikeAt takes y (x +ℤ pos 1) (gone ++ old) (before ++ opened_new takes (takes above) y kept new) rest given
          ⊎ AreJoinedAt takes y (x +ℤ pos 1) (gone ++ old) (before ++ opened_new takes (takes above) y kept new) rest given
      by_state opened is h from to (inl a) =
          inl (subst (λ (b : Bool). AreAlikeAt takes y (x +ℤ pos 1) (gone ++ old) (before ++ opened_new takes b y kept new) rest given) (sym is)
          (point_alike takes y x gone before old new rest given kept
          (pending takes y x gone before old new rest given a (open_is takes before above c.nothing c.above_is ∙ is)) from to opened))
      by_state opened is h from to (inr j) =
          let o = joined_open takes y x gone before (old ++ rest) given j in
          let over = over_passes takes y x gone before old new rest given below j.growing.right j.stands.over from c.right h c.shut in
          let e = apart_passes takes y x gone before old new rest given j.growing (Some j.growing.right) (Some j.growing.right) o to over in
          let q = point_passes takes y x gone before old new rest true given (Some j.growing.right)
          (leaving_of takes None old) split c.new_at c.new_ascend j.growing e (Some j.growing.right) over kept in
          inr (subst (λ (b : Bool). AreJoinedAt takes y (x +ℤ pos 1) (gone ++ old) (before ++ opened_new takes b y kept new) rest given) (sym is)
          (subst (λ (zs : List Trapezoid). AreJoinedAt takes y (x +ℤ pos 1) (gone ++ old) (before ++ opened_new takes true y kept new) rest zs)
          (given_same h from)
          (open_joined takes y (x +ℤ pos 1) (gone ++ old) (before ++ opened_new takes true y kept new) rest
          (given ++ map (ended_at y) (growing_of old)) j.growing q)))

  -- ---- others

  leaving_over : (right : Option Line) (leaving : Option Growing) → Parted takes y x rest (growing_of old) leaving
      → IfSome right (GoesOver takes y (x +ℤ pos 1) rest)
      → IfSome (after_of right leaving) (GoesOver takes y (x +ℤ pos 1) rest)
  leaving_over (Some r) leaving p over = over
  leaving_over None None p over = tt
  leaving_over None (Some g) p over = parted_over takes y x rest (growing_of old) (Some g) g p refl

  leave_by : (inside : Bool) (right : Option Line) (growing : Option Growing) → HasEntered takes y x gone before new rest inside given growing right
      → LeaveApart (leaving_of takes None old) (begins_at takes inside None new)
      → AreApartAt takes y (x +ℤ pos 1) (gone ++ old) (before ++ opened_new takes inside y None new) rest (given ++ map (ended_at y) (growing_of old))
      (after_of right (leaving_of takes None old))
  leave_by inside right None e apart =
      point_apart takes y x gone before old new rest inside given right (leaving_of takes None old) split c.new_at c.new_ascend e
      (after_of right (leaving_of takes None old))
      (leaving_over right (leaving_of takes None old) split e.over) apart
  leave_by inside right (Some g) e apart =
      open_apart takes y (x +ℤ pos 1) (gone ++ old) (before ++ opened_new takes inside y None new) rest (given ++ map (ended_at y) (growing_of old)) g
      (after_of right (leaving_of takes None old))
      (point_passes takes y x gone before old new rest inside given right (leaving_of takes None old) split c.new_at c.new_ascend g e
      (after_of right (leaving_of takes None old))
      (leaving_over right (leaving_of takes None old) split e.over) None)

  pub leave_apart : (inside : Bool) (right : Option Line) → EnteredAre takes y x gone before old new rest given below inside (Separate right)
      → LeaveApart (leaving_of takes None old) (begins_at takes inside None new)
      → RunsAre takes y (x +ℤ pos 1) (gone ++ old) (before ++ opened_new takes inside y None new) rest (given ++ map (ended_at y) (growing_of old))
      (last_windings below old)
      (Apart (after_of right (leaving_of takes None old)))
  leave_apart inside right s apart = (leave_by inside right s.0 s.1 apart, after_fit right s.2)

  -- where none is left of what was apart
  pub leave_none : (inside : Bool) (kept : Option Opened) (given1 : List Trapezoid) (right : Option Line) → right ≡ None
      → RunsAre takes y (x +ℤ pos 1) (gone ++ old) (before ++ opened_new takes inside y kept new) rest given1 (last_windings below old) (Apart right)
      → takes (last_windings above new) ≡ false
      → RunsAre takes y (x +ℤ pos 1) (gone ++ old) (before ++ opened_new takes inside y kept new) rest given1 (last_windings below old) Alike
  leave_none inside kept given1 (Some r) none s shut = absurd (let clash : ⊥ = cc in clash)
  leave_none inside kept given1 None none s shut = (
    inl (apart_alike takes y (x +ℤ pos 1) (gone ++ old) (before ++ opened_new takes inside y kept new) rest given1 s.0 (open_now inside kept ∙ shut)),
    s.1 ∙ sym (open_now inside kept ∙ shut),
  )

  -- the run that leaves goes on
  some_here : (right : Option Line) (g : Growing) → is_some (after_of right (Some g)) ≡ true
  some_here None g = refl
  some_here (Some r) g = refl

  begun_taken : (inside : Bool) (b : ActiveLine) → open_after takes None (before ++ new) ≡ begins_at takes inside None new
      → begins_at takes inside None new ≡ Some b → true ≡ takes (last_windings above new)
  begun_taken inside b opening begun =
      sym (ap (λ (o : Option ActiveLine). is_some o) (opening ∙ begun))
      ∙ open_is takes (before ++ new) (last_windings above new) c.nothing
      (last_append no_windings before new ∙ ap (λ (w : Windings). last_windings w new) c.above_is)

  on_by : (inside : Bool) (right : Option Line) (growing : Option Growing) (kept : Opened) (inner : List Growing)
      → HasEntered takes y x gone before new rest inside given growing right
      → is_some right ≡ passes_below takes below old → (k : LeavesOn (leaving_of takes None old) (begins_at takes inside None new) kept)
      → growing_of old ≡ inner ++ k.c ∷ []
      → RunsAre takes y (x +ℤ pos 1) (gone ++ old) (before ++ opened_new takes inside y (Some kept) new) rest (given ++ map (ended_at y) inner)
      (last_windings below old) Alike
  on_by inside right (Some g) kept inner e fit k all = clash (begins_at takes inside None new) k.b e.opening.2 k.begun_is
    where
      clash : {P : Type 0} (o : Option ActiveLine) (b : ActiveLine) → o ≡ None → o ≡ Some b → P
      clash o b none some = absurd (let bad : ⊥ = cc in bad)
  on_by inside right None kept inner e fit k all =
      let p = subst (λ (o : Option Growing). Parted takes y x rest (growing_of old) o) k.leaving_is split in
      let a = point_same takes y x gone before old new rest inside given right k.c p c.new_at c.new_ascend
      (ascend_first (y -ℤ pos 1) old rest c.old_ascend) e k.b k.begun_is k.same in
      let same = (last_same p.inner inner k.c k.c (sym p.is ∙ all)).0 in
      let list = subst (λ (o : Opened). AreAlikeAt takes y (x +ℤ pos 1) (gone ++ old) (before ++ opened_new takes inside y (Some o) new) rest
      (given ++ map (ended_at y) p.inner)) (sym k.kept_is) a in (
        inl (subst (λ (us : List Growing). AreAlikeAt takes y (x +ℤ pos 1) (gone ++ old) (before ++ opened_new takes inside y (Some kept) new) rest
            (given ++ map (ended_at y) us)) same list),
        (after_fit right fit ∙ (ap (λ (o : Option Growing). is_some (after_of right o)) k.leaving_is ∙ some_here right k.c))
            ∙ (begun_taken inside k.b e.opening k.begun_is ∙ sym (open_now inside (Some kept))),
      )

  pub leave_on : (inside : Bool) (right : Option Line) (kept : Opened) (inner : List Growing)
      → EnteredAre takes y x gone before old new rest given below inside (Separate right)
      → (k : LeavesOn (leaving_of takes None old) (begins_at takes inside None new) kept) → growing_of old ≡ inner ++ k.c ∷ []
      → RunsAre takes y (x +ℤ pos 1) (gone ++ old) (before ++ opened_new takes inside y (Some kept) new) rest (given ++ map (ended_at y) inner)
      (last_windings below old) Alike
  leave_on inside right kept inner s k all = on_by inside right s.0 kept inner s.1 s.2 k all
