-- The growing trapezoids at the lines through a point, below the stop: those that end in the point, and the one that leaves it.
use Rattle.std.proofs.Common.{ℤ, pos, if◌then◌else◌, ◌≡◌, ◌-ℤ◌, ◌+ℤ◌, ◌≤ℤ◌, ◌<ℤ◌, Bool, true, false, List, [], ◌∷◌}
use Rattle.std.proofs.Common.{◌++◌, Option, Some, None, IfSome, All, arith, refl, ap, sym, subst, ◌∙◌}
use Rattle.std.specs.Option.{option_to_list}
use Rattle.std.proofs.lemmas.Int.{ints}
use Rattle.std.proofs.lemmas.List.Elements.{All-nil, All-cons, All-head, All-tail, All-weaker}
use Rattle.half_grid.specs.Lines.{x_on}
use Rattle.half_grid.specs.Rows.{place}
use Rattle.half_grid.specs.declared.plane.Line.{Line}
use Rattle.trap_join.specs.declared.front.Growing.{Growing}
use Rattle.active_lines.specs.declared.item.ActiveLine.{ActiveLine}
use Rattle.active_lines.specs.declared.item.Opened.{Opened}
use Rattle.active_lines.specs.declared.item.Windings.{Windings}
use Rattle.row_lists.specs.RowLists.{AscendIn}
use Rattle.row_lists.specs.RowRuns.{end_of, last_windings}
use Rattle.row_lists.specs.Halfway.{PassAt, PassAtOrRight}
use Rattle.plane_sweep.specs.StopRuns.{ends_among, leaving_of, leaving_at, growing_of, growing_by, AreOpened, IsOpenUpTo}
use Rattle.plane_sweep.specs.Points.{EndsIn, Leaves}
use Rattle.plane_sweep.specs.States.{EndsAmong}

no_clash : {P : Type 0} (b : Bool) → b ≡ true → b ≡ false → P
no_clash b h k = absurd (let clash : ⊥ = cc in clash)

module _ (takes : Windings → Bool) where
  -- ---- where a run ends

  module _ (P : Line → Type 0) where
    among_by : (b : Bool) (line : Line) (l : ActiveLine) (lines rest : List ActiveLine) → takes l.windings ≡ b → P l.line
        → (ends_among takes lines ≡ true → P (end_of takes l.line (lines ++ rest))) → ends_among takes (l ∷ lines) ≡ true
        → P (end_of takes line (l ∷ (lines ++ rest)))
    among_by true line l lines rest e here later h = let k = rw e at h in rw e (later k)
    among_by false line l lines rest e here later h = rw e here

    -- among these lines
    pub end_among : (line : Line) (lines rest : List ActiveLine) → All (λ l. P l.line) lines
        → ends_among takes lines ≡ true → P (end_of takes line (lines ++ rest))
    end_among line [] rest all h = no_clash false h refl
    end_among line (l ∷ lines) rest all h =
        among_by _ line l lines rest refl (All-head (λ m. P m.line) l lines all)
        (end_among l.line lines rest (All-tail (λ m. P m.line) l lines all)) h

    last_by : (b : Bool) (line : Line) (l : ActiveLine) (lines : List ActiveLine) → takes l.windings ≡ b → P l.line
        → P (end_of takes l.line lines) → P (end_of takes line (l ∷ lines))
    last_by true line l lines e here later = rw e later
    last_by false line l lines e here later = rw e here

    -- among all lines, where there are some
    all_ends : (line : Line) (lines : List ActiveLine) → P line → All (λ l. P l.line) lines → P (end_of takes line lines)
    all_ends line [] here all = here
    all_ends line (l ∷ lines) here all =
        let first = All-head (λ m. P m.line) l lines all in
        last_by _ line l lines refl first (all_ends l.line lines first (All-tail (λ m. P m.line) l lines all))

    pub some_end : (line : Line) (w : Windings) (lines : List ActiveLine) → All (λ l. P l.line) lines → takes w ≡ true
        → takes (last_windings w lines) ≡ false → P (end_of takes line lines)
    some_end line w [] all inside shut = no_clash (takes w) inside shut
    some_end line w (l ∷ lines) all inside shut =
        let first = All-head (λ m. P m.line) l lines all in
        last_by _ line l lines refl first (all_ends l.line lines first (All-tail (λ m. P m.line) l lines all))

    beyond_by : (b : Bool) (line : Line) (l : ActiveLine) (lines rest : List ActiveLine) → takes l.windings ≡ b → ends_among takes (l ∷ lines) ≡ false
        → (takes l.windings ≡ true → ends_among takes lines ≡ false → P (end_of takes l.line (lines ++ rest))) → P (end_of takes line (l ∷ (lines ++ rest)))
    beyond_by true line l lines rest e h later = let k = rw e at h in let p = later e k in rw e p
    beyond_by false line l lines rest e h later = let k = rw e at h in no_clash true refl k

    -- or among the lines after them
    pub end_beyond : (line : Line) (w : Windings) (lines rest : List ActiveLine) → All (λ l. P l.line) rest → takes w ≡ true → ends_among takes lines ≡ false
        → takes (last_windings w (lines ++ rest)) ≡ false → P (end_of takes line (lines ++ rest))
    end_beyond line w [] rest all inside none shut = some_end line w rest all inside shut
    end_beyond line w (l ∷ lines) rest all inside none shut =
        beyond_by _ line l lines rest refl none (λ taken more. end_beyond l.line l.windings lines rest all taken more shut)

  among_rest_by : (b : Bool) (line : Line) (l : ActiveLine) (lines rest : List ActiveLine) → takes l.windings ≡ b → ends_among takes (l ∷ lines) ≡ false
      → (ends_among takes lines ≡ false → EndsAmong takes rest (end_of takes l.line (lines ++ rest)))
      → EndsAmong takes rest (end_of takes line (l ∷ (lines ++ rest)))
  among_rest_by true line l lines rest e h later = let k = rw e at h in let p = later k in rw e p
  among_rest_by false line l lines rest e h later = let k = rw e at h in no_clash true refl k

  pub ends_in_rest : (line : Line) (lines rest : List ActiveLine) → ends_among takes lines ≡ false → EndsAmong takes rest (end_of takes line (lines ++ rest))
  ends_in_rest line [] rest h = record { from = line; is = refl }
  ends_in_rest line (l ∷ lines) rest h = among_rest_by _ line l lines rest refl h (λ k. ends_in_rest l.line lines rest k)

  -- ---- lines at which no run begins

  not_open : (l : ActiveLine) (lines : List ActiveLine) → l.opened ≡ None → growing_of (l ∷ lines) ≡ growing_of lines
  not_open l lines e = ap (λ (o : Option Opened). growing_by l.line o (growing_of lines)) e

  all_by : (b : Bool) (l : ActiveLine) (lines rest : List ActiveLine) → takes l.windings ≡ b
      → ends_among takes (l ∷ lines) ≡ false → AreOpened takes b (lines ++ rest)
      → (AreOpened takes true (lines ++ rest) → ends_among takes lines ≡ false → growing_of lines ≡ []) → growing_of lines ≡ []
  all_by true l lines rest e h opened later = later opened (rw e at h)
  all_by false l lines rest e h opened later = let k = rw e at h in no_clash true refl k

  pub none_begins : (lines rest : List ActiveLine) → AreOpened takes true (lines ++ rest) → ends_among takes lines ≡ false → growing_of lines ≡ []
  none_begins [] rest opened h = refl
  none_begins (l ∷ lines) rest opened h =
      not_open l lines opened.0 ∙ all_by _ l lines rest refl h opened.1 (λ more k. none_begins lines rest more k)

  -- ---- the one that is open after the lines

  leaves_by : (b : Bool) (f h : Option Growing) (l : ActiveLine) (lines : List ActiveLine) → takes l.windings ≡ b → ends_among takes (l ∷ lines) ≡ true
      → ((p q : Option Growing) → ends_among takes lines ≡ true → leaving_of takes p lines ≡ leaving_of takes q lines)
      → leaving_of takes f (l ∷ lines) ≡ leaving_of takes h (l ∷ lines)
  leaves_by true f h l lines e ends later = let k = rw e at ends in let same = later (leaving_at l l.opened f) (leaving_at l l.opened h) k in rw e same
  leaves_by false f h l lines e ends later = rw e refl

  -- where the run ends that is open before the lines, it doesn't matter which it is
  pub leaving_same : (f h : Option Growing) (lines : List ActiveLine) → ends_among takes lines ≡ true → leaving_of takes f lines ≡ leaving_of takes h lines
  leaving_same f h [] ends = no_clash false ends refl
  leaving_same f h (l ∷ lines) ends = leaves_by _ f h l lines refl ends (λ p q k. leaving_same p q lines k)

  kept_by : (b : Bool) (f : Option Growing) (l : ActiveLine) (lines rest : List ActiveLine) → takes l.windings ≡ b
      → ends_among takes (l ∷ lines) ≡ false → l.opened ≡ None
      → AreOpened takes b (lines ++ rest)
      → (AreOpened takes true (lines ++ rest) → ends_among takes lines ≡ false → leaving_of takes f lines ≡ f)
      → leaving_of takes f (l ∷ lines) ≡ f
  kept_by true f l lines rest e ends shut opened later = let k = rw e at ends in let same = later opened k in rw (e, shut) same
  kept_by false f l lines rest e ends shut opened later = let k = rw e at ends in no_clash true refl k

  pub leaving_kept : (f : Option Growing) (lines rest : List ActiveLine) → ends_among takes lines ≡ false
      → AreOpened takes true (lines ++ rest) → leaving_of takes f lines ≡ f
  leaving_kept f [] rest ends opened = refl
  leaving_kept f (l ∷ lines) rest ends opened = kept_by _ f l lines rest refl ends opened.0 opened.1 (λ later k. leaving_kept f lines rest k later)

  nothing_leaves : (l : ActiveLine) (lines : List ActiveLine) → takes l.windings ≡ false → leaving_of takes None lines ≡ leaving_of takes None (l ∷ lines)
  nothing_leaves l lines e = rw e refl

  choose_none : (b : Bool) → (let none : Option Growing = None in none) ≡ (if b then None else None)
  choose_none true = refl
  choose_none false = refl

  still_none : (l : ActiveLine) (lines : List ActiveLine) → l.opened ≡ None → leaving_of takes None lines ≡ leaving_of takes None (l ∷ lines)
  still_none l lines e = rw e (ap (λ (o : Option Growing). leaving_of takes o lines) (choose_none (takes l.windings)))

  -- ---- the growing ones at the lines

  -- those that end in the point, and the one that leaves it, if there is one
  pub record Parted (y x : ℤ) (rest : List ActiveLine) (front : List Growing) (leaving : Option Growing) : Type 0 where
    pub inner : List Growing
    pub is : front ≡ inner ++ option_to_list leaving
    pub ends : All (EndsIn y x) inner
    pub leaves : IfSome leaving (Leaves y x)
    pub beyond : IfSome leaving (λ g. EndsAmong takes rest g.right)

  module _ (y x : ℤ) where
    none_parted : (rest : List ActiveLine) → Parted y x rest [] None
    none_parted rest = record { inner = []; is = refl; ends = All-nil (EndsIn y x); leaves = tt; beyond = tt }

    one_more : (rest : List ActiveLine) (g : Growing) (front : List Growing) (leaving : Option Growing) → EndsIn y x g
        → Parted y x rest front leaving → Parted y x rest (g ∷ front) leaving
    one_more rest g front leaving h p = record {
      inner = g ∷ p.inner;
      is = ap (λ (us : List Growing). g ∷ us) p.is;
      ends = All-cons (EndsIn y x) g p.inner h p.ends;
      leaves = p.leaves;
      beyond = p.beyond;
    }

    one_leaves : (rest : List ActiveLine) (g : Growing) (front : List Growing) → Leaves y x g
        → EndsAmong takes rest g.right → front ≡ [] → Parted y x rest (g ∷ front) (Some g)
    one_leaves rest g front h k e = record {
      inner = [];
      is = ap (λ (us : List Growing). g ∷ us) e;
      ends = All-nil (EndsIn y x);
      leaves = h;
      beyond = k;
    }

    -- a line through the point with those after it
    module _ (l : ActiveLine) (lines rest : List ActiveLine) (at : PassAt y x (l ∷ lines)) (right : PassAtOrRight y (x +ℤ pos 1) rest)
        (ascend : AscendIn (y -ℤ pos 1) (l ∷ (lines ++ rest)))
        (shut : takes (last_windings l.windings (lines ++ rest)) ≡ false) (taken : takes l.windings ≡ true) where
      grows : ℤ → Growing
      grows since = record { y0 = since; left = l.line; right = end_of takes l.line (lines ++ rest) }

      here : x_on l.line y ≡ x
      here = All-head (λ m. x_on m.line y ≡ x) l lines at

      tile : place l.line (y -ℤ pos 1) <ℤ place (end_of takes l.line (lines ++ rest)) (y -ℤ pos 1)
      tile = some_end (λ (line : Line). place l.line (y -ℤ pos 1) <ℤ place line (y -ℤ pos 1)) l.line l.windings (lines ++ rest) ascend.0 taken shut

      in_point : (since : ℤ) → ends_among takes lines ≡ true → EndsIn y x (grows since)
      unfolding grows
      in_point since h = record {
        left = here;
        right = end_among (λ (line : Line). x_on line y ≡ x) l.line lines rest (All-tail (λ m. x_on m.line y ≡ x) l lines at) h;
        has_tile = tile;
      }

      beyond : (since : ℤ) → ends_among takes lines ≡ false → Leaves y x (grows since)
      unfolding grows
      beyond since h = record {
        left = here;
        right = end_beyond (λ (line : Line). x <ℤ x_on line y) l.line l.windings lines rest
            (All-weaker (λ m. (x +ℤ pos 1) ≤ℤ x_on m.line y) (λ m. x <ℤ x_on m.line y) (λ m q. omega (arith, ints, q)) rest right) taken h shut;
      }

      begun_by : (b : Bool) (since : ℤ) → ends_among takes lines ≡ b → AreOpened takes true (lines ++ rest)
          → Parted y x rest (growing_of lines) (leaving_of takes None lines)
          → Parted y x rest (grows since ∷ growing_of lines) (leaving_of takes (Some (grows since)) lines)
      unfolding grows
      begun_by true since h opened p =
          subst (λ (o : Option Growing). Parted y x rest (grows since ∷ growing_of lines) o) (leaving_same None (Some (grows since)) lines h)
          (one_more rest (grows since) (growing_of lines) (leaving_of takes None lines) (in_point since h) p)
      begun_by false since h opened p =
          subst (λ (o : Option Growing). Parted y x rest (grows since ∷ growing_of lines) o) (sym (leaving_kept (Some (grows since)) lines rest h opened))
          (one_leaves rest (grows since) (growing_of lines) (beyond since h) (ends_in_rest l.line lines rest h) (none_begins lines rest opened h))

      begun : (opened : IsOpenUpTo (end_of takes l.line (lines ++ rest)) l) → AreOpened takes true (lines ++ rest)
          → Parted y x rest (growing_of lines) (leaving_of takes None lines)
          → Parted y x rest (growing_of (l ∷ lines)) (leaving_of takes None (l ∷ lines))
      unfolding grows
      begun opened later p =
          subst (λ (o : Option Growing). Parted y x rest (growing_of (l ∷ lines)) o) (sym (first_leaving taken))
          (subst (λ (o : Option Opened). Parted y x rest (growing_by l.line o (growing_of lines))
          (leaving_of takes (leaving_at l o None) lines)) (sym opened.opened)
          (begun_by _ opened.since refl later p))
        where
          first_leaving : takes l.windings ≡ true → leaving_of takes None (l ∷ lines) ≡ leaving_of takes (leaving_at l l.opened None) lines
          first_leaving e = rw e refl

    parted_by : (b : Bool) (l : ActiveLine) (lines rest : List ActiveLine) → takes l.windings ≡ b → PassAt y x (l ∷ lines) → PassAtOrRight y (x +ℤ pos 1) rest
        → AscendIn (y -ℤ pos 1) (l ∷ (lines ++ rest)) → takes (last_windings l.windings (lines ++ rest)) ≡ false
        → AreOpened takes false (l ∷ (lines ++ rest)) → Parted y x rest (growing_of lines) (leaving_of takes None lines)
        → Parted y x rest (growing_of (l ∷ lines)) (leaving_of takes None (l ∷ lines))
    parted_by true l lines rest e at right ascend shut opened p =
        let k = rw e at opened in begun l lines rest at right ascend shut e k.0 k.1 p
    parted_by false l lines rest e at right ascend shut opened p =
        let k = rw e at opened in
        subst (λ (us : List Growing). Parted y x rest us (leaving_of takes None (l ∷ lines))) (sym (not_open l lines k.0))
        (subst (λ (o : Option Growing). Parted y x rest (growing_of lines) o) (nothing_leaves l lines e) p)

    pub parted : (inside : Bool) (w : Windings) (lines rest : List ActiveLine) → PassAt y x lines
        → PassAtOrRight y (x +ℤ pos 1) rest → AscendIn (y -ℤ pos 1) (lines ++ rest)
        → takes (last_windings w (lines ++ rest)) ≡ false → AreOpened takes inside (lines ++ rest)
        → Parted y x rest (growing_of lines) (leaving_of takes None lines)
    parted inside w [] rest at right ascend shut opened = none_parted rest
    parted true w (l ∷ lines) rest at right ascend shut opened =
        subst (λ (us : List Growing). Parted y x rest us (leaving_of takes None (l ∷ lines))) (sym (not_open l lines opened.0))
        (subst (λ (o : Option Growing). Parted y x rest (growing_of lines) o) (still_none l lines opened.0)
        (parted (takes l.windings) l.windings lines rest (All-tail (λ m. x_on m.line y ≡ x) l lines at) right ascend.1 shut opened.1))
    parted false w (l ∷ lines) rest at right ascend shut opened =
        parted_by _ l lines rest refl at right ascend shut opened
        (parted (takes l.windings) l.windings lines rest (All-tail (λ m. x_on m.line y ≡ x) l lines at) right ascend.1 shut opened.1)
