-- What enters a point, by what the lines through it do: the run below and the one above, where they are the same, and where not.
use Rattle.std.proofs.Common.{ℤ, pos, ◌+ℤ◌, ◌≡◌, ◌≢◌, ◌≤ℤ◌, ◌<ℤ◌, Bool, true, false, List, [], ◌∷◌, ◌++◌, Option, Some}
use Rattle.std.proofs.Common.{None, IfSome, All, is_some, append-nil, append_assoc, arith, refl, ap, sym, subst, ◌∙◌}
use Rattle.std.specs.Option.{option_to_list}
use Rattle.std.proofs.lemmas.Int.{ints}
use Rattle.std.proofs.lemmas.List.Elements.{All-nil, All-cons, All-append, All-weaker}
use Rattle.half_grid.specs.Lines.{x_on}
use Rattle.half_grid.specs.Trapezoids.{Trapezoid, trapezoid}
use Rattle.half_grid.specs.declared.plane.Line.{Line}
use Rattle.scan_line.specs.declared.runs.Run.{Run}
use Rattle.trap_join.specs.declared.front.Growing.{Growing}
use Rattle.trap_join.specs.Fronts.{grown_into, ended_at}
use Rattle.active_lines.specs.ActiveLists.{IsReopened}
use Rattle.active_lines.specs.declared.item.ActiveLine.{ActiveLine}
use Rattle.active_lines.specs.declared.item.Opened.{Opened}
use Rattle.active_lines.specs.declared.item.Windings.{Windings}
use Rattle.row_lists.specs.RowLists.{AreAlike}
use Rattle.row_lists.specs.RowRuns.{end_of, last_windings}
use Rattle.row_lists.specs.Halfway.{PassAtOrRight}
use Rattle.plane_sweep.specs.StopRuns.{growing_of, ended_runs, open_after, inner_runs, ends_among, begins_at}
use Rattle.plane_sweep.specs.Settled.{IsSettled}
use Rattle.plane_sweep.specs.States.{IsOpenAt, Stands, AreAlikeAt, IsFresh, GoesOver, OpensLast, HasEntered}
use Rattle.plane_sweep.proofs.RunsAlong.{run_up_to, ended_append, open_append}
use Rattle.plane_sweep.proofs.OldLines.{ends_in_rest, end_beyond}
use Rattle.plane_sweep.proofs.Entering.{Core, enters_same, enters_over, enters_other}
use Rattle.plane_sweep.proofs.FirstLast.{none_open, all_closed}
use Rattle.plane_sweep.proofs.AlikeRuns.{SameOpen, alike_self, alike_append, alike_ended, alike_open, open_moved, reopen_alike, reopen_last}
use Rattle.plane_sweep.proofs.OpenedNew.{inner_none, ended_some, pass_lines, begins_open, open_begun}

-- ---- the runs, whatever is open at the lines before

module _ (takes : Windings → Bool) where
  runs_after : (before before1 new : List ActiveLine) (o : Option ActiveLine) → AreAlike before before1 → open_after takes None before ≡ o
      → ended_runs takes None (before1 ++ new) ≡ ended_runs takes None before ++ ended_runs takes o new
  runs_after before before1 new o alike e =
      sym (alike_ended takes None None (before ++ new) (before1 ++ new) tt (alike_append before new before1 new alike (alike_self new)))
      ∙ (ended_append takes None before new ∙ ap (λ (k : Option ActiveLine). ended_runs takes None before ++ ended_runs takes k new) e)

  pub runs_none : (before before1 new : List ActiveLine) → AreAlike before before1 → open_after takes None before ≡ None
      → ended_runs takes None (before1 ++ new) ≡ ended_runs takes None before ++ inner_runs takes false new
  runs_none before before1 new alike e =
      runs_after before before1 new None alike e ∙ ap (λ (rs : List Run). ended_runs takes None before ++ rs) (sym (inner_none takes new))

  pub runs_end : (before before1 new : List ActiveLine) (o : ActiveLine) (e k : Line) → AreAlike before before1 → open_after takes None before ≡ Some o
      → ends_among takes new ≡ true
      → end_of takes k new ≡ e → ended_runs takes None (before1 ++ new) ≡ (ended_runs takes None before ++ run_up_to o e ∷ []) ++ inner_runs takes true new
  runs_end before before1 new o e k alike at ends same =
      runs_after before before1 new (Some o) alike at
      ∙ (ap (λ (rs : List Run). ended_runs takes None before ++ rs) (ended_some takes o k new ends)
      ∙ (ap (λ (line : Line). ended_runs takes None before ++ run_up_to o line ∷ inner_runs takes true new) same
      ∙ sym (append_assoc (ended_runs takes None before) (run_up_to o e ∷ []) (inner_runs takes true new))))

  pub runs_pass : (before before1 new : List ActiveLine) (o : ActiveLine) → AreAlike before before1 → open_after takes None before ≡ Some o
      → ends_among takes new ≡ false
      → ended_runs takes None (before1 ++ new) ≡ ended_runs takes None before ++ inner_runs takes true new
  runs_pass before before1 new o alike at passes =
      let p = pass_lines takes new passes in
      runs_after before before1 new (Some o) alike at ∙ ap (λ (rs : List Run). ended_runs takes None before ++ rs) (p.ended o ∙ sym p.inner)

  -- ---- and the run that is open after the new lines

  pub open_there : (o p : Option ActiveLine) (k : ActiveLine) → SameOpen o p → o ≡ Some k → (m : ActiveLine) × (p ≡ Some m)
  open_there None p k same e = absurd (let clash : ⊥ = cc in clash)
  open_there (Some o) None k same e = absurd same
  open_there (Some o) (Some m) k same e = (m, refl)

  pub opens_none : (before new : List ActiveLine) → open_after takes None before ≡ None → open_after takes None (before ++ new) ≡ begins_at takes false None new
  opens_none before new e = open_append takes None before new ∙ (ap (λ (k : Option ActiveLine). open_after takes k new) e ∙ sym (begins_open takes None new))

  pub opens_end : (before before1 new : List ActiveLine) (o : ActiveLine) → AreAlike before before1 → open_after takes None before ≡ Some o
      → ends_among takes new ≡ true
      → open_after takes None (before1 ++ new) ≡ begins_at takes true None new
  opens_end before before1 new o alike e ends =
      let there = open_there (open_after takes None before) (open_after takes None before1) o (alike_open takes None None before before1 tt alike) e in
      open_append takes None before1 new ∙ (ap (λ (k : Option ActiveLine). open_after takes k new) there.1 ∙ open_begun takes there.0 new ends)

  -- one that passes them
  pub opens_pass : (before before1 new : List ActiveLine) (o : ActiveLine) (g : Growing) → AreAlike before before1 → open_after takes None before ≡ Some o
      → g.left ≡ o.line → ends_among takes new ≡ false
      → OpensLast takes true new (Some g) (open_after takes None (before1 ++ new))
  opens_pass before before1 new o g alike e left passes =
      let p = pass_lines takes new passes in
      let there = open_append takes None before new ∙ (ap (λ (k : Option ActiveLine). open_after takes k new) e ∙ p.open_still o) in
      let same = alike_open takes None None (before ++ new) (before1 ++ new) tt (alike_append before new before1 new alike (alike_self new)) in (
        open_moved (Some g) (open_after takes None (before ++ new)) (open_after takes None (before1 ++ new)) same
            (subst (λ (k : Option ActiveLine). IsOpenAt (Some g) k) (sym there) left),
        p.inner,
        p.begins None,
      )

-- ---- the same run below and above

pub no_open : (o : Option ActiveLine) → is_some o ≡ false → o ≡ None
no_open None h = refl
no_open (Some o) h = absurd (let clash : ⊥ = cc in clash)

-- the trapezoid and the line at which its run began
pub record OpenPair (p : Option Growing) (o : Option ActiveLine) : Type 0 where
  pub g : Growing
  pub l : ActiveLine
  pub growing : p ≡ Some g
  pub opening : o ≡ Some l
  pub left : g.left ≡ l.line

pub open_pair : (p : Option Growing) (o : Option ActiveLine) → IsOpenAt p o → is_some o ≡ true → OpenPair p o
open_pair None None at h = absurd (let clash : ⊥ = cc in clash)
open_pair None (Some l) at h = absurd at
open_pair (Some g) None at h = absurd at
open_pair (Some g) (Some l) at h = record { g = g; l = l; growing = refl; opening = refl; left = at }

module _ (takes : Windings → Bool) (y x : ℤ) (gone before old new rest : List ActiveLine) (given : List Trapezoid) where
  -- one run is open
  pub record Pending : Type 0 where
    pub closed : List Growing
    pub fresh : List Growing
    pub g : Growing
    pub o : ActiveLine
    pub stands : Stands takes y x (old ++ rest) closed (ended_runs takes None before) fresh given (Some g) (Some o)
    pub gone_is : growing_of gone ≡ closed ++ g ∷ []
    pub before_is : growing_of before ≡ fresh ++ g ∷ []
    pub opening : open_after takes None before ≡ Some o

  pub pending : AreAlikeAt takes y x gone before (old ++ rest) given → is_some (open_after takes None before) ≡ true → Pending
  pending s inside =
      let k = open_pair s.growing (open_after takes None before) s.stands.at inside in
      record {
        closed = s.closed;
        fresh = s.fresh;
        g = k.g;
        o = k.l;
        stands = subst (λ (p : Option Growing). Stands takes y x (old ++ rest) s.closed (ended_runs takes None before) s.fresh given p (Some k.l)) k.growing
            (subst (λ (o : Option ActiveLine). Stands takes y x (old ++ rest) s.closed (ended_runs takes None before) s.fresh given s.growing o) k.opening
            s.stands);
        gone_is = s.gone_is ∙ ap (λ (p : Option Growing). s.closed ++ option_to_list p) k.growing;
        before_is = s.before_is ∙ ap (λ (p : Option Growing). s.fresh ++ option_to_list p) k.growing;
        opening = k.opening;
      }

  -- none is
  pub alike_none : AreAlikeAt takes y x gone before (old ++ rest) given → is_some (open_after takes None before) ≡ false
      → HasEntered takes y x gone before new rest false given None None
  alike_none s outside =
      let none = none_open s.growing (open_after takes None before) s.stands.at outside in
      let whole = all_closed (growing_of gone) s.closed s.growing s.gone_is none in
      record {
        fresh = s.fresh;
        runs = ended_runs takes None before;
        settled = subst (λ (us : List Growing). IsSettled y us (ended_runs takes None before) s.fresh given) whole s.stands.settled;
        grow = subst (All (λ g. x_on g.left y <ℤ x)) whole s.stands.grow;
        run = s.stands.run;
        before_is = s.before_is ∙ ap (λ (p : Option Growing). s.fresh ++ option_to_list p) none;
        runs_are = runs_none takes before before new (alike_self before) (no_open (open_after takes None before) outside);
        opening = opens_none takes before new (no_open (open_after takes None before) outside);
        begun = tt;
        entered = tt;
        over = tt;
      }

  -- both end at one line
  pub alike_same : (q : Pending) (e : Line) → ends_among takes old ≡ true → ends_among takes new ≡ true → ((k : Line) → end_of takes k (old ++ rest) ≡ e)
      → ((k : Line) → end_of takes k new ≡ e)
      → HasEntered takes y x gone before new rest true given None None
  alike_same q e below above from to =
      let c = enters_same takes y x (old ++ rest) q.closed (ended_runs takes None before) q.fresh given q.g q.o q.stands e
      (q.stands.pends.right ∙ from q.stands.pends.from) in
      record {
        fresh = q.fresh ++ q.g ∷ [];
        runs = ended_runs takes None before ++ run_up_to q.o e ∷ [];
        settled = subst (λ (us : List Growing). IsSettled y us (ended_runs takes None before ++ run_up_to q.o e ∷ []) (q.fresh ++ q.g ∷ []) given)
            (sym q.gone_is) c.settled;
        grow = subst (All (λ g. x_on g.left y <ℤ x)) (sym q.gone_is) c.grow;
        run = c.run;
        before_is = q.before_is ∙ sym (append-nil (q.fresh ++ q.g ∷ []));
        runs_are = runs_end takes before before new q.o e e (alike_self before) q.opening above (to e);
        opening = opens_end takes before before new q.o (alike_self before) q.opening above;
        begun = tt;
        entered = tt;
        over = tt;
      }

  -- the trapezoid's end, as it is read off the line that is reopened
  ended_here : (q : Pending) (l : ActiveLine) (k : Opened) → l.line ≡ q.g.left
      → l.opened ≡ Some (let o : Opened = record { right = q.g.right; since = q.g.y0 } in o) → l.opened ≡ Some k
      → ended_at y q.g ≡ trapezoid k.since y l.line k.right
  ended_here q l k line was is =
      let same : (let o : Opened = record { right = q.g.right; since = q.g.y0 } in o) ≡ k = some_same _ k (sym was ∙ is) in
      ap (λ (m : Line). trapezoid q.g.y0 y m q.g.right) (sym line) ∙ ap (λ (o : Opened). trapezoid o.since y l.line o.right) same
    where
      some_same : (a b : Opened) → Some a ≡ Some b → a ≡ b
      some_same a b h = cc

  -- both end, at different lines: one ends, and another one was there
  module _ (q : Pending) (before1 : List ActiveLine) (l : ActiveLine) (k : Opened) (d : Line)
      (again : IsReopened (let o : Opened = record { right = d; since = y } in o) before l before1)
      (is : l.opened ≡ Some k) where
    abbrev given1 : List Trapezoid
    given1 = given ++ trapezoid k.since y l.line k.right ∷ []

    alike1 : AreAlike before before1
    alike1 = reopen_alike (let o : Opened = record { right = d; since = y } in o) before before1 l again

    given_is : given ++ ended_at y q.g ∷ [] ≡ given1
    given_is =
        let r = reopen_last (let o : Opened = record { right = d; since = y } in o) before before1 l q.fresh q.g again q.before_is in
        ap (λ (z : Trapezoid). given ++ z ∷ []) (ended_here q l k r.at r.was is)

    now_is : growing_of before1 ≡ q.fresh ++ (let u : Growing = record { y0 = y; left = q.g.left; right = d } in u) ∷ []
    now_is = (reopen_last (let o : Opened = record { right = d; since = y } in o) before before1 l q.fresh q.g again q.before_is).now

    -- the one above ends at the line with which it is reopened
    above_ended : Core y x (q.closed ++ q.g ∷ []) (ended_runs takes None before ++ run_up_to q.o d ∷ [])
        (q.fresh ++ grown_into [] y (run_up_to q.o d) ∷ []) (given ++ ended_at y q.g ∷ [])
        → ends_among takes new ≡ true → ((m : Line) → end_of takes m new ≡ d) → (right : Option Line) → IfSome right (GoesOver takes y (x +ℤ pos 1) rest)
        → HasEntered takes y x gone before1 new rest true given1 None right
    above_ended c above to right over = record {
      fresh = q.fresh ++ grown_into [] y (run_up_to q.o d) ∷ [];
      runs = ended_runs takes None before ++ run_up_to q.o d ∷ [];
      settled = subst (λ (us : List Growing). IsSettled y us (ended_runs takes None before ++ run_up_to q.o d ∷ [])
          (q.fresh ++ grown_into [] y (run_up_to q.o d) ∷ []) given1) (sym q.gone_is)
          (subst (λ (zs : List Trapezoid). IsSettled y (q.closed ++ q.g ∷ []) (ended_runs takes None before ++ run_up_to q.o d ∷ [])
          (q.fresh ++ grown_into [] y (run_up_to q.o d) ∷ []) zs) given_is c.settled);
      grow = subst (All (λ g. x_on g.left y <ℤ x)) (sym q.gone_is) c.grow;
      run = c.run;
      before_is = now_is
          ∙ (ap (λ (m : Line). q.fresh ++ (let u : Growing = record { y0 = y; left = m; right = d } in u) ∷ []) q.stands.at
          ∙ sym (append-nil (q.fresh ++ grown_into [] y (run_up_to q.o d) ∷ [])));
      runs_are = runs_end takes before before1 new q.o d d alike1 q.opening above (to d);
      opening = opens_end takes before before1 new q.o alike1 q.opening above;
      begun = tt;
      entered = tt;
      over = over;
    }

    pub alike_other : (e : Line) → ((m : Line) → end_of takes m (old ++ rest) ≡ e) → e ≢ d → ends_among takes new ≡ true → ((m : Line) → end_of takes m new ≡ d)
        → HasEntered takes y x gone before1 new rest true given1 None None
    alike_other e from other above to =
        above_ended
        (enters_other takes y x (old ++ rest) q.closed (ended_runs takes None before) q.fresh given q.g q.o q.stands d
        (λ same. other (sym (q.stands.pends.right ∙ from q.stands.pends.from) ∙ same)))
        above to None tt

    -- the one below passes, and the one above ends
    pub alike_below_passes : (w : Windings) → PassAtOrRight y (x +ℤ pos 1) rest → takes w ≡ true → takes (last_windings w (old ++ rest)) ≡ false
        → ends_among takes old ≡ false
        → ends_among takes new ≡ true → ((m : Line) → end_of takes m new ≡ d) → x_on d y ≡ x → HasEntered takes y x gone before1 new rest true given1 None
        (Some k.right)
    alike_below_passes w right inside shut below above to at =
        let r = reopen_last (let o : Opened = record { right = d; since = y } in o) before before1 l q.fresh q.g again q.before_is in
        let far : (x +ℤ pos 1) ≤ℤ x_on q.g.right y
        = subst (λ (m : Line). (x +ℤ pos 1) ≤ℤ x_on m y) (sym q.stands.pends.right)
        (end_beyond takes (λ (m : Line). (x +ℤ pos 1) ≤ℤ x_on m y) q.stands.pends.from w old rest right inside below shut) in
        let among = ends_in_rest takes q.stands.pends.from old rest below in
        let over : GoesOver takes y (x +ℤ pos 1) rest q.g.right = record
        { reaches = far; ends = record { from = among.from; is = q.stands.pends.right ∙ among.is } } in
        let same : q.g.right ≡ k.right = right_is _ k (sym r.was ∙ is) in
        above_ended
        (enters_other takes y x (old ++ rest) q.closed (ended_runs takes None before) q.fresh given q.g q.o q.stands d
        (λ e. (let here = ap (λ (m : Line). x_on m y) e in absurd (omega (arith, ints, far, here, at)))))
        above to (Some k.right) (subst (GoesOver takes y (x +ℤ pos 1) rest) same over)
      where
        right_is : (a b : Opened) → Some a ≡ Some b → a.right ≡ b.right
        right_is a b h = (let same : a ≡ b = cc in ap (λ (o : Opened). o.right) same)

    -- the one below ends, and the one above passes
    pub alike_above_passes : (e : Line) → ((m : Line) → end_of takes m (old ++ rest) ≡ e) → x_on e y ≡ x → ends_among takes new ≡ false
        → HasEntered takes y x gone before1 new rest true given1 (Some (let u : Growing = record { y0 = y; left = q.g.left; right = d } in u)) None
    alike_above_passes e from at above =
        let c = enters_over takes y x (old ++ rest) q.closed (ended_runs takes None before) q.fresh given q.g q.o q.stands in
        record {
          fresh = q.fresh;
          runs = ended_runs takes None before;
          settled = subst (λ (us : List Growing). IsSettled y us (ended_runs takes None before) q.fresh given1) (sym q.gone_is)
              (subst (λ (zs : List Trapezoid). IsSettled y (q.closed ++ q.g ∷ []) (ended_runs takes None before) q.fresh zs) given_is c.settled);
          grow = subst (All (λ g. x_on g.left y <ℤ x)) (sym q.gone_is) c.grow;
          run = c.run;
          before_is = now_is;
          runs_are = runs_pass takes before before1 new q.o alike1 q.opening above;
          opening = opens_pass takes before before1 new q.o (let u : Growing = record { y0 = y; left = q.g.left; right = d } in u) alike1 q.opening
              q.stands.at above;
          begun = subst (λ (us : List Growing). IsFresh y (x +ℤ pos 1) us (ended_runs takes None before)
              (let u : Growing = record { y0 = y; left = q.g.left; right = d } in u)) (sym q.gone_is) begun;
          entered = q.stands.pends.left;
          over = tt;
        }
      where
        here : x_on q.g.right y ≡ x
        here = ap (λ (m : Line). x_on m y) (q.stands.pends.right ∙ from q.stands.pends.from) ∙ at

        begun : IsFresh y (x +ℤ pos 1) (q.closed ++ q.g ∷ []) (ended_runs takes None before)
            (let u : Growing = record { y0 = y; left = q.g.left; right = d } in u)
        begun = (let lt = q.stands.pends.left in record {
          since = refl;
          left = omega (arith, ints, lt);
          new = All-append (λ c. c.left ≡ q.g.left → x_on c.right y <ℤ (x +ℤ pos 1)) q.closed (q.g ∷ [])
              (All-weaker (λ c. c.left ≢ q.g.left) (λ c. c.left ≡ q.g.left → x_on c.right y <ℤ (x +ℤ pos 1))
              (λ c differ same. absurd (differ same)) q.closed q.stands.pends.alone.grow_elsewhere)
              (All-cons (λ c. c.left ≡ q.g.left → x_on c.right y <ℤ (x +ℤ pos 1)) q.g [] (λ same. (let a = here in omega (arith, ints, a)))
              (All-nil (λ c. c.left ≡ q.g.left → x_on c.right y <ℤ (x +ℤ pos 1))));
          run_elsewhere = q.stands.pends.alone.run_elsewhere;
        })
