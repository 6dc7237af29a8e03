-- The runs of a stop left of all lines, over lines at which nothing changes, where nothing differs any more, and right of all lines.
use Rattle.std.proofs.Common.{ℤ, pos, ◌-ℤ◌, ◌≡◌, ◌≤ℤ◌, ◌⊎◌, inl, inr, Bool, true, false, List, [], ◌++◌, Option, Some, None, is_some, ap, sym, subst, ◌∙◌}
use Rattle.half_grid.specs.Trapezoids.{Trapezoid}
use Rattle.half_grid.specs.declared.plane.Line.{Line}
use Rattle.active_lines.specs.ActiveLists.{IsReopened}
use Rattle.active_lines.specs.declared.item.ActiveLine.{ActiveLine}
use Rattle.active_lines.specs.declared.item.Opened.{Opened}
use Rattle.active_lines.specs.declared.item.Windings.{Windings}
use Rattle.row_lists.specs.RowLists.{AscendIn, NoMeetings, no_windings}
use Rattle.row_lists.specs.RowRuns.{last_windings, runs_of}
use Rattle.row_lists.specs.Halfway.{PassLeft, PassAtOrRight}
use Rattle.row_lists.proofs.ForCallers.{last_append}
use Rattle.plane_sweep.specs.StopRuns.{growing_of, AreOpened, open_after}
use Rattle.plane_sweep.specs.Settled.{IsSettled}
use Rattle.plane_sweep.specs.States.{AreAlikeAt, AreJoinedAt}
use Rattle.plane_sweep.specs.Crossings.{RunsAre}
use Rattle.plane_sweep.specs.declared.entry.Runs.{Runs}
use Rattle.plane_sweep.specs.declared.entry.Runs.TheVariants.{Alike, Apart}
use Rattle.plane_sweep.proofs.FirstLast.{first_state, stop_settled}
use Rattle.plane_sweep.proofs.QuietAlike.{open_is, quiet_alike}
use Rattle.plane_sweep.proofs.QuietJoined.{ascend_first, quiet_joined}
use Rattle.plane_sweep.proofs.EnterApart.{joined_open, apart_alike, apart_settles}

no_clash : {P : Type 0} (b : Bool) → b ≡ true → b ≡ false → P
no_clash b h k = absurd (let clash : ⊥ = cc in clash)

-- left of all lines
pub runs_first : (takes : Windings → Bool) (y x : ℤ) (rest : List ActiveLine) → takes no_windings ≡ false → RunsAre takes y x [] [] rest [] no_windings Alike
runs_first takes y x rest nothing = (inl (first_state takes y x rest), nothing)

module _ (takes : Windings → Bool) (y x : ℤ) (gone before : List ActiveLine) (given : List Trapezoid) (w : Windings) (nothing : takes no_windings ≡ false)
    (last : last_windings no_windings before ≡ w) where
  open_here : is_some (open_after takes None before) ≡ takes w
  open_here = open_is takes before w nothing last

  joined_taken : (rest : List ActiveLine) → AreJoinedAt takes y x gone before rest given → takes w ≡ true
  joined_taken rest s =
      let k = joined_open takes y x gone before rest given s in
      sym open_here ∙ ap (λ (o : Option ActiveLine). is_some o) k.opening

  -- over lines at which nothing changes, as far as `to`
  pub runs_quiet : (to : ℤ) (mid rest : List ActiveLine) → RunsAre takes y x gone before (mid ++ rest) given w Alike
      → takes (last_windings w (mid ++ rest)) ≡ false → x ≤ℤ to → PassLeft y to mid
      → PassAtOrRight y to rest → PassAtOrRight y x (mid ++ rest) → AscendIn (y -ℤ pos 1) (mid ++ rest) → NoMeetings mid (y -ℤ pos 1) y
      → AreOpened takes (takes w) (mid ++ rest)
      → RunsAre takes y to (gone ++ mid) (before ++ mid) rest given (last_windings w mid) Alike
  runs_quiet to mid rest s shut up left right from ascend apart opened = (by s.0, sym (open_is takes (before ++ mid) (last_windings w mid) nothing all))
    where
      all : last_windings no_windings (before ++ mid) ≡ last_windings w mid
      all = last_append no_windings before mid ∙ ap (λ (v : Windings). last_windings v mid) last

      by : AreAlikeAt takes y x gone before (mid ++ rest) given ⊎ AreJoinedAt takes y x gone before (mid ++ rest) given
          → AreAlikeAt takes y to (gone ++ mid) (before ++ mid) rest given ⊎ AreJoinedAt takes y to (gone ++ mid) (before ++ mid) rest given
      by (inl a) =
          inl (quiet_alike takes y x to gone before mid rest given a up left w nothing last (ascend_first (y -ℤ pos 1) mid rest ascend) apart from opened)
      by (inr j) =
          let taken = joined_taken (mid ++ rest) j in
          quiet_joined takes y given to rest nothing right mid x gone before w j taken shut up left from ascend apart
          (subst (λ (b : Bool). AreOpened takes b (mid ++ rest)) taken opened)

  -- where the windings below and above are the same again
  pub runs_settle_none : (rest : List ActiveLine) → RunsAre takes y x gone before rest given w (Apart None) → RunsAre takes y x gone before rest given w Alike
  runs_settle_none rest s = (inl (apart_alike takes y x gone before rest given s.0 (open_here ∙ s.1)), sym open_here)

  pub runs_settle : (rest before1 : List ActiveLine) (r : Line) (l : ActiveLine) → RunsAre takes y x gone before rest given w (Apart (Some r))
      → IsReopened (let o : Opened = record { right = r; since = y } in o) before l before1 → last_windings no_windings before1 ≡ w
      → RunsAre takes y x gone before1 rest given w Alike
  runs_settle rest before1 r l s again same =
      (inr (apart_settles takes y x gone before before1 rest given r l s.0 (open_here ∙ s.1) again), sym (open_is takes before1 w nothing same))

  -- right of all lines
  pub runs_last : (rest : List ActiveLine) (runs : Runs) → takes w ≡ false → RunsAre takes y x gone before rest given w runs
      → IsSettled y (growing_of gone) (runs_of takes false before) (growing_of before) given
  runs_last rest Alike shut (inl a, fit) = stop_settled takes y x gone before rest given w nothing last shut a
  runs_last rest Alike shut (inr j, fit) = no_clash (takes w) (joined_taken rest j) shut
  runs_last rest (Apart (Some r)) shut s = no_clash (takes w) s.1 shut
  runs_last rest (Apart None) shut s = stop_settled takes y x gone before rest given w nothing last shut
      (apart_alike takes y x gone before rest given s.0 (open_here ∙ shut))
