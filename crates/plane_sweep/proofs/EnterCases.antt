-- What enters a point, case by case as it is decided.
use Rattle.std.proofs.Common.{ℤ, pos, ◌+ℤ◌, ◌≡◌, ◌≢◌, inl, inr, Bool, true, false, ◌&&◌, List, [], ◌∷◌, ◌++◌, Option}
use Rattle.std.proofs.Common.{Some, None, IfSome, All, is_some, refl, ap, sym, subst, ◌∙◌}
use Rattle.std.proofs.lemmas.List.Elements.{All-head, All-tail}
use Rattle.half_grid.specs.Lines.{x_on}
use Rattle.half_grid.specs.Trapezoids.{Trapezoid, trapezoid, IsShot}
use Rattle.half_grid.specs.declared.plane.Line.{Line}
use Rattle.trap_join.specs.declared.front.Growing.{Growing}
use Rattle.trap_join.specs.Fronts.{ended_at}
use Rattle.active_lines.specs.ActiveLists.{IsShut, IsReopened}
use Rattle.active_lines.specs.declared.item.ActiveLine.{ActiveLine}
use Rattle.active_lines.specs.declared.item.Opened.{Opened}
use Rattle.active_lines.specs.declared.item.Windings.{Windings}
use Rattle.row_lists.specs.Halfway.{PassAt}
use Rattle.plane_sweep.specs.StopRuns.{growing_of, growing_by, open_after, ends_among, end_among}
use Rattle.plane_sweep.specs.States.{GoesOver, AreJoinedAt, HasEntered}
use Rattle.plane_sweep.specs.Crossings.{IsCrossing, RunsAre, EnteredAre, passes_below, beyond_of}
use Rattle.plane_sweep.specs.declared.entry.Runs.TheVariants.{Alike, Apart}
use Rattle.plane_sweep.specs.declared.entry.Entered.TheVariants.{Together, Separate}
use Rattle.plane_sweep.proofs.Openings.{growing_append}
use Rattle.plane_sweep.proofs.QuietAlike.{open_is}
use Rattle.plane_sweep.proofs.AlikeRuns.{reopen_last}
use Rattle.plane_sweep.proofs.OpenedNew.{ends_at, ends_not}
use Rattle.plane_sweep.proofs.EnterPoint.{Pending, pending, alike_none, alike_same, alike_other, alike_below_passes, alike_above_passes}
use Rattle.plane_sweep.proofs.EnterApart.{IsApartOpen, apart_open, joined_open, apart_reopened, over_passes, apart_none, apart_ends, apart_passes}

no_clash : {P : Type 0} (b : Bool) → b ≡ true → b ≡ false → P
no_clash b h k = absurd (let clash : ⊥ = cc in clash)

-- where a run ends among lines through the point
end_by : (takes : Windings → Bool) (y x : ℤ) (b : Bool) (l : ActiveLine) (lines : List ActiveLine) (e : Line) → takes l.windings ≡ b
    → end_among takes (l ∷ lines) ≡ Some e → x_on l.line y ≡ x
    → (end_among takes lines ≡ Some e → x_on e y ≡ x) → x_on e y ≡ x
end_by takes y x true l lines e taken h here later = later (rw taken at h)
end_by takes y x false l lines e taken h here later = some_is l.line (rw taken at h) here
  where
    some_is : (k : Line) → Some k ≡ Some e → x_on k y ≡ x → x_on e y ≡ x
    some_is k h at = (let same : k ≡ e = cc in subst (λ (m : Line). x_on m y ≡ x) same at)

end_at : (takes : Windings → Bool) (y x : ℤ) (lines : List ActiveLine) (e : Line) → end_among takes lines ≡ Some e → PassAt y x lines → x_on e y ≡ x
end_at takes y x [] e h at = absurd (let clash : ⊥ = cc in clash)
end_at takes y x (l ∷ lines) e h at =
    end_by takes y x _ l lines e refl h (All-head (λ m. x_on m.line y ≡ x) l lines at)
    (λ k. end_at takes y x lines e k (All-tail (λ m. x_on m.line y ≡ x) l lines at))

module _ (takes : Windings → Bool) (y x : ℤ) (below above : Windings) (gone before old new rest : List ActiveLine) (given : List Trapezoid)
    (c : IsCrossing takes y x below above gone before old new rest) where
  -- the run above enters exactly where the windings there are taken
  entering : is_some (open_after takes None before) ≡ takes above
  entering = open_is takes before above c.nothing c.above_is

  no_pass : takes below ≡ false → (let none : Option Line = None in is_some none) ≡ passes_below takes below old
  no_pass h = rw h refl

  ended_pass : ends_among takes old ≡ true → (let none : Option Line = None in is_some none) ≡ passes_below takes below old
  ended_pass h = rw h (by (takes below))
    where
      by : (b : Bool) → false ≡ (b && false)
      by true = refl
      by false = refl

  some_pass : (right : Line) → takes below ≡ true → ends_among takes old ≡ false → is_some (Some right) ≡ passes_below takes below old
  some_pass right h k = rw (h, k) refl

  -- ---- the rows have the same runs

  joined_none : AreJoinedAt takes y x gone before (old ++ rest) given → takes above ≡ false → {P : Type 0} → P
  joined_none s h {P} =
      let k = joined_open takes y x gone before (old ++ rest) given s in
      no_clash (is_some (open_after takes None before)) (ap (λ (o : Option ActiveLine). is_some o) k.opening) (entering ∙ h)

  -- none
  pub enter_none : RunsAre takes y x gone before (old ++ rest) given below Alike → takes above ≡ false
      → EnteredAre takes y x gone before old new rest given below false (Separate None)
  enter_none (inl s, fit) h = (None, alike_none takes y x gone before old new rest given s (entering ∙ h), no_pass (fit ∙ (entering ∙ h)))
  enter_none (inr s, fit) h = joined_none s h

  inside_below : takes below ≡ is_some (open_after takes None before) → takes above ≡ true → takes below ≡ true
  inside_below fit h = fit ∙ (entering ∙ h)

  -- one that passes
  pub enter_together : RunsAre takes y x gone before (old ++ rest) given below Alike → takes above ≡ true → end_among takes old ≡ None
      → end_among takes new ≡ None
      → EnteredAre takes y x gone before old new rest given below true Together
  enter_together s h from to = (s.0, refl, inside_below s.1 h, ends_not takes old from, ends_not takes new to)

  -- one that ends at one line
  pub enter_same : (e : Line) → RunsAre takes y x gone before (old ++ rest) given below Alike → takes above ≡ true → end_among takes old ≡ Some e
      → end_among takes new ≡ Some e
      → EnteredAre takes y x gone before old new rest given below true (Separate None)
  enter_same e (inl s, fit) h from to =
      let b = ends_at takes old e from in
      let a = ends_at takes new e to in
      let q = pending takes y x gone before old new rest given s (entering ∙ h) in
      (None, alike_same takes y x gone before old new rest given q e b.ends a.ends (λ k. b.before k rest) a.to, ended_pass b.ends)
  enter_same e (inr s, fit) h from to =
      let b = ends_at takes old e from in
      let a = ends_at takes new e to in
      let o = joined_open takes y x gone before (old ++ rest) given s in
      let same : s.growing.right ≡ e = s.stands.over.ends.is ∙ b.before s.stands.over.ends.from rest in (
        None,
        apart_ends takes y x gone before old new rest given s.growing (Some s.growing.right) None e o same
            (end_at takes y x new e to c.new_at) a.ends a.to tt,
        ended_pass b.ends,
      )

  -- ---- one that ends below or above, or at two lines: the list was reopened

  module _ (before1 : List ActiveLine) (given1 : List Trapezoid) (d : Line) (l : ActiveLine) (k : Opened)
      (again : IsReopened (let o : Opened = record { right = d; since = y } in o) before l before1)
      (is : l.opened ≡ Some k) (shot : IsShot (trapezoid k.since y l.line k.right) → given1 ≡ given ++ trapezoid k.since y l.line k.right ∷ [])
      (none : k.since ≡ y → given1 ≡ given) where
    some_same : (a b : Opened) → Some a ≡ Some b → a ≡ b
    some_same a b h = cc

    last_member : (P : Growing → Type 0) (us vs : List Growing) (g : Growing) → All P ((us ++ g ∷ []) ++ vs) → P g
    last_member P [] vs g h = All-head P g vs h
    last_member P (u ∷ us) vs g h = last_member P us vs g (All-tail P u ((us ++ g ∷ []) ++ vs) h)

    -- what grew up to the stop was given
    pushed : (q : Pending takes y x gone before old new rest given) → given ++ trapezoid k.since y l.line k.right ∷ [] ≡ given1
    pushed q =
        let o : Opened = record { right = d; since = y } in
        let r = reopen_last o before before1 l q.fresh q.g again q.before_is in
        let same : (let w : Opened = record { right = q.g.right; since = q.g.y0 } in w) ≡ k = some_same _ k (sym r.was ∙ is) in
        let there : IsShot (ended_at y q.g)
        = last_member (λ g. IsShot (ended_at y g)) q.closed (growing_of old) q.g
        (subst (λ (us : List Growing). All (λ g. IsShot (ended_at y g)) (us ++ growing_of old)) q.gone_is
        (subst (All (λ g. IsShot (ended_at y g))) (growing_append gone old) c.shots)) in
        let here : ended_at y q.g ≡ trapezoid k.since y l.line k.right
        = ap (λ (m : Line). trapezoid q.g.y0 y m q.g.right) (sym r.at) ∙ ap (λ (w : Opened). trapezoid w.since y l.line w.right) same in
        sym (shot (subst IsShot here there))

    moved : (q : Pending takes y x gone before old new rest given) (growing : Option Growing) (right : Option Line)
        → HasEntered takes y x gone before1 new rest true (given ++ trapezoid k.since y l.line k.right ∷ []) growing right
        → HasEntered takes y x gone before1 new rest true given1 growing right
    moved q growing right e = subst (λ (zs : List Trapezoid). HasEntered takes y x gone before1 new rest true zs growing right) (pushed q) e

    -- the same, where it was given before
    module _ (s : AreJoinedAt takes y x gone before (old ++ rest) given) where
      was : (k.since ≡ y) × (k.right ≡ s.growing.right)
      was =
          let o : Opened = record { right = d; since = y } in
          let j = joined_open takes y x gone before (old ++ rest) given s in
          let r = reopen_last o before before1 l j.fresh s.growing again j.before_is in
          let same : (let w : Opened = record { right = s.growing.right; since = s.growing.y0 } in w) ≡ k = some_same _ k (sym r.was ∙ is) in
          (sym (ap (λ (w : Opened). w.since) same) ∙ j.stands.begun.since, sym (ap (λ (w : Opened). w.right) same))

      reopened : IsApartOpen takes y x gone before1 (old ++ rest) given1 (let u : Growing = record { y0 = y; left = s.growing.left; right = d } in u)
          (Some s.growing.right)
      reopened =
          subst (λ (zs : List Trapezoid). IsApartOpen takes y x gone before1 (old ++ rest) zs
          (let u : Growing = record { y0 = y; left = s.growing.left; right = d } in u) (Some s.growing.right))
          (sym (none was.0))
          (apart_reopened takes y x gone before before1 (old ++ rest) given s.growing (Some s.growing.right) d l
          (joined_open takes y x gone before (old ++ rest) given s) again)

    -- both end
    pub enter_other : (e : Line) → RunsAre takes y x gone before (old ++ rest) given below Alike → takes above ≡ true → end_among takes old ≡ Some e
        → end_among takes new ≡ Some d → e ≢ d
        → EnteredAre takes y x gone before1 old new rest given1 below true (Separate None)
    enter_other e (inl s, fit) h from to differ =
        let b = ends_at takes old e from in
        let a = ends_at takes new d to in
        let q = pending takes y x gone before old new rest given s (entering ∙ h) in (
          None,
          moved q None None (alike_other takes y x gone before old new rest given q before1 l k d again is e
              (λ m. b.before m rest) differ a.ends a.to),
          ended_pass b.ends,
        )
    enter_other e (inr s, fit) h from to differ =
        let b = ends_at takes old e from in
        let a = ends_at takes new d to in (
          None,
          apart_ends takes y x gone before1 old new rest given1 (let u : Growing = record { y0 = y; left = s.growing.left; right = d } in u)
              (Some s.growing.right) None d (reopened s) refl
              (end_at takes y x new d to c.new_at) a.ends a.to tt,
          ended_pass b.ends,
        )

    -- the one above passes
    pub enter_over : (e : Line) → RunsAre takes y x gone before (old ++ rest) given below Alike → takes above ≡ true → end_among takes old ≡ Some e
        → end_among takes new ≡ None
        → EnteredAre takes y x gone before1 old new rest given1 below true (Separate None)
    enter_over e (inl s, fit) h from to =
        let b = ends_at takes old e from in
        let q = pending takes y x gone before old new rest given s (entering ∙ h) in (
          Some (let u : Growing = record { y0 = y; left = q.g.left; right = d } in u),
          moved q (Some (let u : Growing = record { y0 = y; left = q.g.left; right = d } in u)) None
              (alike_above_passes takes y x gone before old new rest given q before1 l k d again is e (λ m. b.before m rest)
              (end_at takes y x old e from c.old_at) (ends_not takes new to)),
          ended_pass b.ends,
        )
    enter_over e (inr s, fit) h from to =
        let b = ends_at takes old e from in (
          Some (let u : Growing = record { y0 = y; left = s.growing.left; right = d } in u),
          apart_passes takes y x gone before1 old new rest given1 (let u : Growing = record { y0 = y; left = s.growing.left; right = d } in u)
              (Some s.growing.right) None (reopened s)
              (ends_not takes new to) tt,
          ended_pass b.ends,
        )

    -- the one below passes
    pub enter_under : RunsAre takes y x gone before (old ++ rest) given below Alike → takes above ≡ true → end_among takes old ≡ None
        → end_among takes new ≡ Some d
        → EnteredAre takes y x gone before1 old new rest given1 below true (Separate (Some k.right))
    enter_under (inl s, fit) h from to =
        let a = ends_at takes new d to in
        let q = pending takes y x gone before old new rest given s (entering ∙ h) in
        let w = inside_below fit h in
        let p = ends_not takes old from in (
          None,
          moved q None (Some k.right)
              (alike_below_passes takes y x gone before old new rest given q before1 l k d again is below c.right w c.shut p a.ends a.to
              (end_at takes y x new d to c.new_at)),
          some_pass k.right w p,
        )
    enter_under (inr s, fit) h from to =
        let a = ends_at takes new d to in
        let w = inside_below fit h in
        let p = ends_not takes old from in
        let over = over_passes takes y x gone before old new rest given below s.growing.right s.stands.over p c.right w c.shut in (
          None,
          apart_ends takes y x gone before1 old new rest given1 (let u : Growing = record { y0 = y; left = s.growing.left; right = d } in u)
              (Some s.growing.right) (Some k.right) d (reopened s) refl
              (end_at takes y x new d to c.new_at) a.ends a.to (subst (GoesOver takes y (x +ℤ pos 1) rest) (sym (was s).1) over),
          some_pass k.right w p,
        )

  -- ---- the rows have other runs

  beyond_over : (right found : Option Line) → IfSome right (GoesOver takes y x (old ++ rest)) → takes below ≡ is_some right → end_among takes old ≡ found
      → IfSome (beyond_of right found) (GoesOver takes y (x +ℤ pos 1) rest)
  beyond_over right (Some e) over fit from = tt
  beyond_over None None over fit from = tt
  beyond_over (Some r) None over fit from = over_passes takes y x gone before old new rest given below r over (ends_not takes old from) c.right fit c.shut

  beyond_fit : (right found : Option Line) → takes below ≡ is_some right → end_among takes old ≡ found
      → is_some (beyond_of right found) ≡ passes_below takes below old
  beyond_fit right (Some e) fit from = ended_pass (ends_at takes old e from).ends
  beyond_fit None None fit from = no_pass fit
  beyond_fit (Some r) None fit from = some_pass r fit (ends_not takes old from)

  pub enter_apart_none : (right found : Option Line) → RunsAre takes y x gone before (old ++ rest) given below (Apart right) → takes above ≡ false
      → end_among takes old ≡ found
      → EnteredAre takes y x gone before old new rest given below false (Separate (beyond_of right found))
  enter_apart_none right found s h from = (
    None,
    apart_none takes y x gone before old new rest given right (beyond_of right found) s.0 (entering ∙ h) (beyond_over right found s.0.stands.over s.1 from),
    beyond_fit right found s.1 from,
  )

  pub enter_apart_over : (right found : Option Line) → RunsAre takes y x gone before (old ++ rest) given below (Apart right) → takes above ≡ true
      → end_among takes old ≡ found
      → end_among takes new ≡ None → EnteredAre takes y x gone before old new rest given below true (Separate (beyond_of right found))
  enter_apart_over right found s h from to =
      let o = apart_open takes y x gone before (old ++ rest) given right s.0 (entering ∙ h) in (
        Some o.0,
        apart_passes takes y x gone before old new rest given o.0 right (beyond_of right found) o.1 (ends_not takes new to)
            (beyond_over right found s.0.stands.over s.1 from),
        beyond_fit right found s.1 from,
      )

  pub enter_apart_ends : (right found : Option Line) (d : Line) (before1 : List ActiveLine) (l : ActiveLine)
      → RunsAre takes y x gone before (old ++ rest) given below (Apart right) → takes above ≡ true
      → end_among takes old ≡ found → end_among takes new ≡ Some d → IsReopened (let o : Opened = record { right = d; since = y } in o) before l before1
      → EnteredAre takes y x gone before1 old new rest given below true (Separate (beyond_of right found))
  enter_apart_ends right found d before1 l s h from to again =
      let o = apart_open takes y x gone before (old ++ rest) given right s.0 (entering ∙ h) in
      let a = ends_at takes new d to in (
        None,
        apart_ends takes y x gone before1 old new rest given (let u : Growing = record { y0 = y; left = o.0.left; right = d } in u) right
            (beyond_of right found) d
            (apart_reopened takes y x gone before before1 (old ++ rest) given o.0 right d l o.1 again) refl (end_at takes y x new d to c.new_at) a.ends a.to
            (beyond_over right found s.0.stands.over s.1 from),
        beyond_fit right found s.1 from,
      )

  -- something is open where the windings above are taken
  all_shut : (lines : List ActiveLine) → All IsShut lines → growing_of lines ≡ []
  all_shut [] h = refl
  all_shut (l ∷ lines) h = ap (λ (o : Option Opened). growing_by l.line o (growing_of lines)) (All-head IsShut l lines h)
      ∙ all_shut lines (All-tail IsShut l lines h)

  not_empty : (us : List Growing) (g : Growing) → us ++ g ∷ [] ≡ [] → ⊥
  not_empty [] g h = absurd (let clash : ⊥ = cc in clash)
  not_empty (u ∷ us) g h = absurd (let clash : ⊥ = cc in clash)

  pub open_alike : RunsAre takes y x gone before (old ++ rest) given below Alike → takes above ≡ true → All IsShut before → ⊥
  open_alike (inl s, fit) h shut =
      let q = pending takes y x gone before old new rest given s (entering ∙ h) in
      not_empty q.fresh q.g (sym q.before_is ∙ all_shut before shut)
  open_alike (inr s, fit) h shut = not_empty s.fresh s.growing (sym s.before_is ∙ all_shut before shut)

  pub open_apart_too : (right : Option Line) → RunsAre takes y x gone before (old ++ rest) given below (Apart right) → takes above ≡ true
      → All IsShut before → ⊥
  open_apart_too right s h shut =
      let o = apart_open takes y x gone before (old ++ rest) given right s.0 (entering ∙ h) in
      not_empty o.1.fresh o.0 (sym o.1.before_is ∙ all_shut before shut)
