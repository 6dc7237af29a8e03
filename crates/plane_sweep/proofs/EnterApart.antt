-- What enters a point where the runs below and above differ: the one below was given already, the one above began at the stop.
use Rattle.std.proofs.Common.{ℤ, pos, ◌+ℤ◌, ◌≡◌, ◌<ℤ◌, Bool, true, false, List, [], ◌∷◌, ◌++◌, Option, Some, None}
use Rattle.std.proofs.Common.{IfSome, is_some, append-nil, arith, refl, ap, sym, subst, ◌∙◌}
use Rattle.std.specs.Option.{option_to_list}
use Rattle.std.proofs.lemmas.Int.{ints}
use Rattle.std.proofs.lemmas.List.Elements.{All-weaker}
use Rattle.half_grid.specs.Lines.{x_on}
use Rattle.half_grid.specs.Trapezoids.{Trapezoid}
use Rattle.half_grid.specs.declared.plane.Line.{Line}
use Rattle.scan_line.specs.declared.runs.Run.{Run}
use Rattle.trap_join.specs.declared.front.Growing.{Growing}
use Rattle.trap_join.specs.Fronts.{grown_into}
use Rattle.active_lines.specs.ActiveLists.{IsReopened}
use Rattle.active_lines.specs.declared.item.ActiveLine.{ActiveLine}
use Rattle.active_lines.specs.declared.item.Opened.{Opened}
use Rattle.active_lines.specs.declared.item.Windings.{Windings}
use Rattle.row_lists.specs.RowRuns.{end_of, last_windings}
use Rattle.row_lists.specs.Halfway.{PassAtOrRight}
use Rattle.plane_sweep.specs.StopRuns.{growing_of, ended_runs, open_after, ends_among}
use Rattle.plane_sweep.specs.States.{IsOpenAt, AreAlikeAt, IsFresh, GoesOver, StandsApart, AreApartAt, AreJoinedAt, HasEntered}
use Rattle.plane_sweep.proofs.RunsAlong.{run_up_to}
use Rattle.plane_sweep.proofs.Entering.{apart_enters}
use Rattle.plane_sweep.proofs.Passing.{below_passes}
use Rattle.plane_sweep.proofs.FirstLast.{none_open}
use Rattle.plane_sweep.proofs.AlikeRuns.{SameOpen, alike_self, alike_ended, alike_open, open_moved, reopen_alike, reopen_last}
use Rattle.plane_sweep.proofs.EnterPoint.{no_open, open_pair, open_there, runs_none, runs_end, runs_pass, opens_none, opens_end, opens_pass}

module _ (takes : Windings → Bool) (y x : ℤ) (gone before rest : List ActiveLine) (given : List Trapezoid) where
  -- a run above that is open, with its trapezoid
  pub record IsApartOpen (g : Growing) (right : Option Line) : Type 0 where
    pub fresh : List Growing
    pub o : ActiveLine
    pub stands : StandsApart takes y x rest (growing_of gone) (ended_runs takes None before) fresh given (Some g) (Some o) right
    pub before_is : growing_of before ≡ fresh ++ g ∷ []
    pub opening : open_after takes None before ≡ Some o

  -- there is one where the windings above are taken
  pub apart_open : (right : Option Line) → AreApartAt takes y x gone before rest given right → is_some (open_after takes None before) ≡ true
      → (g : Growing) × IsApartOpen g right
  apart_open right s inside =
      let k = open_pair s.growing (open_after takes None before) s.stands.at inside in (
        k.g,
        record {
          fresh = s.fresh;
          o = k.l;
          stands = subst (λ (p : Option Growing). StandsApart takes y x rest (growing_of gone) (ended_runs takes None before) s.fresh given p
              (Some k.l) right) k.growing
              (subst (λ (o : Option ActiveLine). StandsApart takes y x rest (growing_of gone)
              (ended_runs takes None before) s.fresh given s.growing o right) k.opening s.stands);
          before_is = s.before_is ∙ ap (λ (p : Option Growing). s.fresh ++ option_to_list p) k.growing;
          opening = k.opening;
        },
      )

  joined_at : (o : Option ActiveLine) (g : Growing) → IsOpenAt (Some g) o → (l : ActiveLine) × (o ≡ Some l)
  joined_at None g at = absurd at
  joined_at (Some l) g at = (l, refl)

  pub joined_open : (s : AreJoinedAt takes y x gone before rest given) → IsApartOpen s.growing (Some s.growing.right)
  joined_open s =
      let k = joined_at (open_after takes None before) s.growing s.stands.at in
      record {
        fresh = s.fresh;
        o = k.0;
        stands = subst (λ (o : Option ActiveLine). StandsApart takes y x rest (growing_of gone) (ended_runs takes None before) s.fresh given
            (Some s.growing) o (Some s.growing.right)) k.1 s.stands;
        before_is = s.before_is;
        opening = k.1;
      }

  -- as one state again
  pub open_apart : (g : Growing) (right : Option Line) → IsApartOpen g right → AreApartAt takes y x gone before rest given right
  open_apart g right s = record {
    fresh = s.fresh;
    growing = Some g;
    stands = subst (λ (o : Option ActiveLine). StandsApart takes y x rest (growing_of gone) (ended_runs takes None before) s.fresh given (Some g) o right)
        (sym s.opening) s.stands;
    before_is = s.before_is;
  }

  pub open_joined : (g : Growing) → IsApartOpen g (Some g.right) → AreJoinedAt takes y x gone before rest given
  open_joined g s = record {
    fresh = s.fresh;
    growing = g;
    stands = subst (λ (o : Option ActiveLine). StandsApart takes y x rest (growing_of gone) (ended_runs takes None before) s.fresh given (Some g) o
        (Some g.right)) (sym s.opening) s.stands;
    before_is = s.before_is;
  }

  -- nothing is open: it is as where both are alike
  pub apart_alike : AreApartAt takes y x gone before rest given None → is_some (open_after takes None before) ≡ false
      → AreAlikeAt takes y x gone before rest given
  apart_alike s outside =
      let none = none_open s.growing (open_after takes None before) s.stands.at outside in
      let shut = no_open (open_after takes None before) outside in
      record {
        closed = growing_of gone;
        fresh = s.fresh;
        growing = None;
        stands = record {
          settled = s.stands.settled;
          at = subst (λ (o : Option ActiveLine). IsOpenAt None o) (sym shut) tt;
          grow = s.stands.grow;
          run = s.stands.run;
          pends = tt;
        };
        gone_is = sym (append-nil (growing_of gone));
        before_is = s.before_is ∙ ap (λ (p : Option Growing). s.fresh ++ option_to_list p) none;
      }

-- ---- with another right line

module _ (takes : Windings → Bool) (y x : ℤ) (gone before before1 rest : List ActiveLine) (given : List Trapezoid) where
  pub apart_reopened : (g : Growing) (right : Option Line) (d : Line) (l : ActiveLine) → IsApartOpen takes y x gone before rest given g right
      → IsReopened (let o : Opened = record { right = d; since = y } in o) before l before1
      → IsApartOpen takes y x gone before1 rest given (let u : Growing = record { y0 = y; left = g.left; right = d } in u) right
  apart_reopened g right d l s again =
      let o : Opened = record { right = d; since = y } in
      let alike = reopen_alike o before before1 l again in
      let now = (reopen_last o before before1 l s.fresh g again s.before_is).now in
      let same = alike_open takes None None before before1 tt alike in
      let there = open_there takes (open_after takes None before) (open_after takes None before1) s.o same s.opening in
      let at = open_moved (Some g) (Some s.o) (Some there.0) (subst (λ (k : Option ActiveLine). SameOpen (Some s.o) k) there.1
      (subst (λ (k : Option ActiveLine). SameOpen k (open_after takes None before1)) s.opening same)) s.stands.at in
      record {
        fresh = s.fresh;
        o = there.0;
        stands = subst (λ (rs : List Run). StandsApart takes y x rest (growing_of gone) rs s.fresh given
            (Some (let u : Growing = record { y0 = y; left = g.left; right = d } in u)) (Some there.0) right)
            (alike_ended takes None None before before1 tt alike)
            (record {
              settled = s.stands.settled;
              at = at;
              grow = s.stands.grow;
              run = s.stands.run;
              begun = record { since = refl; left = s.stands.begun.left; new = s.stands.begun.new; run_elsewhere = s.stands.begun.run_elsewhere };
              over = s.stands.over;
            });
        before_is = now;
        opening = there.1;
      }

  -- where the run below and the one above go on in the same windings, with the right line of the one below
  pub apart_settles : (r : Line) (l : ActiveLine) → AreApartAt takes y x gone before rest given (Some r) → is_some (open_after takes None before) ≡ true
      → IsReopened (let o : Opened = record { right = r; since = y } in o) before l before1 → AreJoinedAt takes y x gone before1 rest given
  apart_settles r l s inside again =
      let k = apart_open takes y x gone before rest given (Some r) s inside in
      open_joined takes y x gone before1 rest given (let u : Growing = record { y0 = y; left = k.0.left; right = r } in u)
      (apart_reopened k.0 (Some r) r l k.1 again)

-- ---- at a point

module _ (takes : Windings → Bool) (y x : ℤ) (gone before old new rest : List ActiveLine) (given : List Trapezoid) where
  -- the run below passes
  pub over_passes : (w : Windings) (line : Line) → GoesOver takes y x (old ++ rest) line → ends_among takes old ≡ false → PassAtOrRight y (x +ℤ pos 1) rest
      → takes w ≡ true
      → takes (last_windings w (old ++ rest)) ≡ false → GoesOver takes y (x +ℤ pos 1) rest line
  over_passes w line h none right inside shut = below_passes takes y x old rest none line w h right inside shut

  -- none above
  pub apart_none : (right after : Option Line) → AreApartAt takes y x gone before (old ++ rest) given right → is_some (open_after takes None before) ≡ false
      → IfSome after (GoesOver takes y (x +ℤ pos 1) rest) → HasEntered takes y x gone before new rest false given None after
  apart_none right after s outside over =
      let none = none_open s.growing (open_after takes None before) s.stands.at outside in
      let shut = no_open (open_after takes None before) outside in
      record {
        fresh = s.fresh;
        runs = ended_runs takes None before;
        settled = s.stands.settled;
        grow = s.stands.grow;
        run = s.stands.run;
        before_is = s.before_is ∙ ap (λ (p : Option Growing). s.fresh ++ option_to_list p) none;
        runs_are = runs_none takes before before new (alike_self before) shut;
        opening = opens_none takes before new shut;
        begun = tt;
        entered = tt;
        over = over;
      }

  same_growing : (g : Growing) (o : ActiveLine) (e : Line) → g.y0 ≡ y → g.left ≡ o.line → g.right ≡ e → g ≡ grown_into [] y (run_up_to o e)
  same_growing g o e a b c =
      ap (λ (k : ℤ). let u : Growing = record { y0 = k; left = g.left; right = g.right } in u) a
      ∙ (ap (λ (k : Line). let u : Growing = record { y0 = y; left = k; right = g.right } in u) b
      ∙ ap (λ (k : Line). let u : Growing = record { y0 = y; left = o.line; right = k } in u) c)

  -- the one above ends at its right line
  pub apart_ends : (g : Growing) (right after : Option Line) (e : Line) → IsApartOpen takes y x gone before (old ++ rest) given g right → g.right ≡ e
      → x_on e y ≡ x
      → ends_among takes new ≡ true → ((k : Line) → end_of takes k new ≡ e) → IfSome after (GoesOver takes y (x +ℤ pos 1) rest)
      → HasEntered takes y x gone before new rest true given None after
  apart_ends g right after e s same at above to over =
      let c = apart_enters takes y x (old ++ rest) (growing_of gone) (ended_runs takes None before) s.fresh given g s.o right s.stands e at in
      record {
        fresh = s.fresh ++ grown_into [] y (run_up_to s.o e) ∷ [];
        runs = ended_runs takes None before ++ run_up_to s.o e ∷ [];
        settled = c.settled;
        grow = c.grow;
        run = c.run;
        before_is = s.before_is
            ∙ (ap (λ (u : Growing). s.fresh ++ u ∷ []) (same_growing g s.o e s.stands.begun.since s.stands.at same)
            ∙ sym (append-nil (s.fresh ++ grown_into [] y (run_up_to s.o e) ∷ [])));
        runs_are = runs_end takes before before new s.o e e (alike_self before) s.opening above (to e);
        opening = opens_end takes before before new s.o (alike_self before) s.opening above;
        begun = tt;
        entered = tt;
        over = over;
      }

  -- the one above passes
  pub apart_passes : (g : Growing) (right after : Option Line) → IsApartOpen takes y x gone before (old ++ rest) given g right → ends_among takes new ≡ false
      → IfSome after (GoesOver takes y (x +ℤ pos 1) rest) → HasEntered takes y x gone before new rest true given (Some g) after
  apart_passes g right after s above over = record {
    fresh = s.fresh;
    runs = ended_runs takes None before;
    settled = s.stands.settled;
    grow = s.stands.grow;
    run = s.stands.run;
    before_is = s.before_is;
    runs_are = runs_pass takes before before new s.o (alike_self before) s.opening above;
    opening = opens_pass takes before before new s.o g (alike_self before) s.opening s.stands.at above;
    begun = further s.stands.begun;
    entered = s.stands.begun.left;
    over = over;
  }
    where
      further : IsFresh y x (growing_of gone) (ended_runs takes None before) g → IsFresh y (x +ℤ pos 1) (growing_of gone) (ended_runs takes None before) g
      further f = (let lt = f.left in record {
        since = f.since;
        left = omega (arith, ints, lt);
        new = All-weaker (λ c. c.left ≡ g.left → x_on c.right y <ℤ x) (λ c. c.left ≡ g.left → x_on c.right y <ℤ (x +ℤ pos 1))
            (λ c h same. (let k = h same in omega (arith, ints, k))) (growing_of gone) f.new;
        run_elsewhere = f.run_elsewhere;
      })
