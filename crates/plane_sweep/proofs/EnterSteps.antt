-- What enters a point, as the code has it.
use Rattle.std.proofs.Common.{ℤ, ◌≡◌, ◌≢◌, Bool, true, false, List, Option, Some, None, IfSome, IfNone, All, ap, sym, subst, ◌∙◌}
use Rattle.half_grid.specs.Trapezoids.{Trapezoid}
use Rattle.half_grid.specs.declared.plane.Line.{Line}
use Rattle.active_lines.specs.ActiveLists.{IsShut, IsReopened}
use Rattle.active_lines.specs.declared.item.ActiveLine.{ActiveLine}
use Rattle.active_lines.specs.declared.item.Opened.{Opened}
use Rattle.row_lists.specs.RowLists.{AreAlike}
use Rattle.plane_sweep.specs.Crossings.{EnteredAre, EndsOpen, EntersAlike, EntersApart, Enters, beyond_of}
use Rattle.plane_sweep.specs.declared.entry.Runs.{Runs}
use Rattle.plane_sweep.specs.declared.entry.Entered.{Entered}
use Rattle.plane_sweep.specs.declared.entry.Runs.TheVariants.{Apart}
use Rattle.plane_sweep.specs.declared.entry.Entered.TheVariants.{Together, Separate}
use Rattle.plane_sweep.proofs.AlikeRuns.{alike_self, reopen_alike}
use Rattle.plane_sweep.proofs.EnterCases.{enter_none, enter_together, enter_same, enter_other, enter_over, enter_under}
use Rattle.plane_sweep.proofs.EnterCases.{enter_apart_none, enter_apart_over, enter_apart_ends, open_alike}
use Rattle.plane_sweep.proofs.EnterCases.{open_apart_too}

module _ (y : ℤ) (inside : Bool) (from to : Option Line) (before : List ActiveLine) (given : List Trapezoid) where
  pub alike_outside : inside ≡ false → EntersAlike y inside from to before before given given (Separate None)
  alike_outside out takes x below above gone old new rest c s enters f t =
      subst (λ (b : Bool). EnteredAre takes y x gone before old new rest given below b (Separate None)) (sym out)
      (enter_none takes y x below above gone before old new rest given c s (sym enters ∙ out))

  pub alike_together : inside ≡ true → from ≡ None → to ≡ None → EntersAlike y inside from to before before given given Together
  alike_together is none none_too takes x below above gone old new rest c s enters f t =
      subst (λ (b : Bool). EnteredAre takes y x gone before old new rest given below b Together) (sym is)
      (enter_together takes y x below above gone before old new rest given c s (sym enters ∙ is) (sym f ∙ none) (sym t ∙ none_too))

  pub alike_one : (e d : Line) → inside ≡ true → from ≡ Some e → to ≡ Some d → d ≡ e → EntersAlike y inside from to before before given given
      (Separate None)
  alike_one e d is some some_too same takes x below above gone old new rest c s enters f t =
      subst (λ (b : Bool). EnteredAre takes y x gone before old new rest given below b (Separate None)) (sym is)
      (enter_same takes y x below above gone before old new rest given c e s (sym enters ∙ is) (sym f ∙ some)
      (sym t ∙ (some_too ∙ ap (λ (k : Line). Some k) same)))

  module _ (before1 : List ActiveLine) (given1 : List Trapezoid) (d : Line) (found : Option Line) (ends : EndsOpen y before before1 d given given1 found)
      (is : inside ≡ true) where
    pub alike_under : from ≡ None → to ≡ Some d → EntersAlike y inside from to before before1 given given1 (Separate found)
    alike_under none some takes x below above gone old new rest c s enters f t =
        let k = ends (open_alike takes y x below above gone before old new rest given c s (sym enters ∙ is)) in
        subst (λ (o : Option Line). EnteredAre takes y x gone before1 old new rest given1 below inside (Separate o)) (sym k.found_is)
        (subst (λ (b : Bool). EnteredAre takes y x gone before1 old new rest given1 below b (Separate (Some k.k.right))) (sym is)
        (enter_under takes y x below above gone before old new rest given c before1 given1 d k.l k.k k.again k.is k.shot k.none s (sym enters ∙ is)
        (sym f ∙ none) (sym t ∙ some)))

    pub alike_over : (e : Line) → from ≡ Some e → to ≡ None → EntersAlike y inside from to before before1 given given1 (Separate None)
    alike_over e some none takes x below above gone old new rest c s enters f t =
        let k = ends (open_alike takes y x below above gone before old new rest given c s (sym enters ∙ is)) in
        subst (λ (b : Bool). EnteredAre takes y x gone before1 old new rest given1 below b (Separate None)) (sym is)
        (enter_over takes y x below above gone before old new rest given c before1 given1 d k.l k.k k.again k.is k.shot k.none e s (sym enters ∙ is)
        (sym f ∙ some) (sym t ∙ none))

    pub alike_two : (e : Line) → from ≡ Some e → to ≡ Some d → d ≢ e → EntersAlike y inside from to before before1 given given1 (Separate None)
    alike_two e some some_too differ takes x below above gone old new rest c s enters f t =
        let k = ends (open_alike takes y x below above gone before old new rest given c s (sym enters ∙ is)) in
        subst (λ (b : Bool). EnteredAre takes y x gone before1 old new rest given1 below b (Separate None)) (sym is)
        (enter_other takes y x below above gone before old new rest given c before1 given1 d k.l k.k k.again k.is k.shot k.none e s (sym enters ∙ is)
        (sym f ∙ some) (sym t ∙ some_too) (λ h. differ (sym h)))

module _ (y : ℤ) (inside : Bool) (right from to : Option Line) (before : List ActiveLine) where
  pub apart_outside : inside ≡ false → EntersApart y inside right from to before before (Separate (beyond_of right from))
  apart_outside out takes x below above gone old new rest given c s enters f t =
      subst (λ (b : Bool). EnteredAre takes y x gone before old new rest given below b (Separate (beyond_of right from))) (sym out)
      (enter_apart_none takes y x below above gone before old new rest given c right from s (sym enters ∙ out) (sym f))

  pub apart_over : inside ≡ true → to ≡ None → EntersApart y inside right from to before before (Separate (beyond_of right from))
  apart_over is none takes x below above gone old new rest given c s enters f t =
      subst (λ (b : Bool). EnteredAre takes y x gone before old new rest given below b (Separate (beyond_of right from))) (sym is)
      (enter_apart_over takes y x below above gone before old new rest given c right from s (sym enters ∙ is) (sym f) (sym t ∙ none))

  pub apart_ended : (before1 : List ActiveLine) (d : Line) (found : Option ActiveLine) → inside ≡ true → to ≡ Some d
      → IfSome found (λ l. IsReopened (let o : Opened = record { right = d; since = y } in o) before l before1) → IfNone found (All IsShut before)
      → EntersApart y inside right from to before before1 (Separate (beyond_of right from))
  apart_ended before1 d None is some again shut takes x below above gone old new rest given c s enters f t =
      absurd (open_apart_too takes y x below above gone before old new rest given c right s (sym enters ∙ is) shut)
  apart_ended before1 d (Some l) is some again shut takes x below above gone old new rest given c s enters f t =
      subst (λ (b : Bool). EnteredAre takes y x gone before1 old new rest given below b (Separate (beyond_of right from))) (sym is)
      (enter_apart_ends takes y x below above gone before old new rest given c right from d before1 l s (sym enters ∙ is) (sym f) (sym t ∙ some) again)

pub maybe_alike : (o : Opened) (before before1 : List ActiveLine) (found : Option ActiveLine) → IfSome found (λ l. IsReopened o before l before1)
    → IfNone found (before1 ≡ before) → AreAlike before before1
maybe_alike o before before1 None again same = subst (λ (ls : List ActiveLine). AreAlike before ls) (sym same) (alike_self before)
maybe_alike o before before1 (Some l) again same = reopen_alike o before before1 l again

pub apart_as : (y : ℤ) (inside : Bool) (right from to : Option Line) (before before1 : List ActiveLine) (given : List Trapezoid) (runs : Runs)
    (e : Entered) → runs ≡ Apart right
    → EntersApart y inside right from to before before1 e → Enters y inside runs from to before before1 given given e
apart_as y inside right from to before before1 given runs e is h =
    subst (λ (r : Runs). Enters y inside r from to before before1 given given e) (sym is)
    (λ takes x below above gone old new rest c s. h takes x below above gone old new rest given c s)
