-- What leaves a point, once what enters it is settled: the state after the point, with the new lines in the list.
use Rattle.std.proofs.Common.{ℤ, pos, ◌+ℤ◌, ◌-ℤ◌, ◌≡◌, ◌≢◌, ◌<ℤ◌, Bool, true, false, List, [], ◌∷◌, ◌++◌, map, Option}
use Rattle.std.proofs.Common.{Some, None, IfSome, All, append-nil, append_assoc, arith, refl, ap, sym, subst, ◌∙◌}
use Rattle.std.specs.Option.{option_to_list}
use Rattle.std.proofs.lemmas.Int.{ints}
use Rattle.std.proofs.lemmas.List.Elements.{All-nil, All-cons, All-append, All-weaker}
use Rattle.half_grid.specs.Lines.{x_on}
use Rattle.half_grid.specs.Rows.{place}
use Rattle.half_grid.specs.Trapezoids.{Trapezoid}
use Rattle.half_grid.specs.declared.plane.Line.{Line}
use Rattle.scan_line.specs.declared.runs.Run.{Run}
use Rattle.trap_join.specs.declared.front.Growing.{Growing}
use Rattle.trap_join.specs.Fronts.{grown_into, ended_at}
use Rattle.active_lines.specs.declared.item.ActiveLine.{ActiveLine}
use Rattle.active_lines.specs.declared.item.Opened.{Opened}
use Rattle.active_lines.specs.declared.item.Windings.{Windings}
use Rattle.row_lists.specs.RowLists.{AscendIn, AreAlike}
use Rattle.row_lists.specs.Halfway.{PassAt}
use Rattle.plane_sweep.specs.StopRuns.{growing_of, AreOpened, ended_runs, open_after, inner_runs, ends_among, begins_at, opened_new}
use Rattle.plane_sweep.specs.Settled.{IsSettled}
use Rattle.plane_sweep.specs.Points.{EndsIn, BeginsIn, Leaves}
use Rattle.plane_sweep.specs.States.{IsOpenAt, IsAlone, EndsAmong, Stands, AreAlikeAt, IsFresh, GoesOver, StandsApart, AreApartAt, HasEntered}
use Rattle.plane_sweep.proofs.Openings.{growing_append}
use Rattle.plane_sweep.proofs.OldLines.{Parted, none_begins}
use Rattle.plane_sweep.proofs.PointStates.{in_point, leaves_point}
use Rattle.plane_sweep.proofs.PointPassed.{same_leaves}
use Rattle.plane_sweep.proofs.Distinct.{other_line, grow_left}
use Rattle.plane_sweep.proofs.AlikeRuns.{SameOpen, alike_self, alike_append, alike_ended, alike_open, open_moved}
use Rattle.plane_sweep.proofs.OpenedNew.{inner_left, inner_begin, begins_among, begun_growing, growing_new, alike_new, pass_lines}
use Rattle.plane_sweep.proofs.Passing.{passes_on}
use Rattle.plane_sweep.proofs.EnterPoint.{Pending, runs_pass, opens_pass}
use Rattle.plane_sweep.proofs.EnterApart.{IsApartOpen}

elsewhere : (y x : ℤ) (l m : Line) → x_on l y <ℤ x → x_on m y ≡ x → l ≢ m
elsewhere y x l m lt at e = (let same = ap (λ (k : Line). x_on k y) e in absurd (omega (arith, ints, lt, at, same)))

module _ (takes : Windings → Bool) (y x : ℤ) (gone before old new rest : List ActiveLine) (inside : Bool) (given : List Trapezoid)
    (growing : Option Growing) (right : Option Line)
    (leaving : Option Growing) (e : HasEntered takes y x gone before new rest inside given growing right) (p : Parted takes y x rest (growing_of old) leaving)
    (at : PassAt y x new) (ascend : AscendIn y new) where
  abbrev begun_here : List Run
  begun_here = inner_runs takes inside new

  abbrev fresh_here : List Growing
  fresh_here = e.fresh ++ map (grown_into [] y) (inner_runs takes inside new)

  begins : All (BeginsIn y x) (inner_runs takes inside new)
  begins = inner_begin takes y x inside new at ascend

  -- ---- what is settled: all that ends, or all but what goes on

  settled_by : (l : Option Growing) → IfSome l (Leaves y x)
      → IsSettled y (growing_of gone ++ (p.inner ++ option_to_list l)) (e.runs ++ inner_runs takes inside new) fresh_here
      (given ++ map (ended_at y) (p.inner ++ option_to_list l))
  settled_by None h =
      subst (λ (us : List Growing). IsSettled y (growing_of gone ++ us) (e.runs ++ inner_runs takes inside new) fresh_here (given ++ map (ended_at y) us))
      (sym (append-nil p.inner))
      (in_point y x (growing_of gone) p.inner e.runs (inner_runs takes inside new) e.fresh given e.grow e.run p.ends begins e.settled)
  settled_by (Some c) h =
      subst (λ (zs : List Trapezoid). IsSettled y (growing_of gone ++ (p.inner ++ c ∷ [])) (e.runs ++ inner_runs takes inside new) fresh_here
      (given ++ zs)) (sym (ended_more p.inner))
      (subst (λ (zs : List Trapezoid). IsSettled y (growing_of gone ++ (p.inner ++ c ∷ [])) (e.runs ++ inner_runs takes inside new) fresh_here zs)
      (append_assoc given (map (ended_at y) p.inner) (ended_at y c ∷ []))
      (leaves_point y x (growing_of gone) p.inner e.runs (inner_runs takes inside new) e.fresh given e.grow e.run p.ends begins e.settled c h))
    where
      ended_more : (us : List Growing) → map (ended_at y) (us ++ c ∷ []) ≡ map (ended_at y) us ++ ended_at y c ∷ []
      ended_more [] = refl
      ended_more (u ∷ us) = ap (λ (zs : List Trapezoid). ended_at y u ∷ zs) (ended_more us)

  gone_now : growing_of (gone ++ old) ≡ growing_of gone ++ (p.inner ++ option_to_list leaving)
  gone_now = growing_append gone old ∙ ap (λ (us : List Growing). growing_of gone ++ us) p.is

  settled_here : IsSettled y (growing_of (gone ++ old)) (e.runs ++ inner_runs takes inside new) fresh_here (given ++ map (ended_at y) (growing_of old))
  settled_here =
      subst (λ (us : List Growing). IsSettled y us (e.runs ++ inner_runs takes inside new) fresh_here (given ++ map (ended_at y) (growing_of old)))
      (sym gone_now)
      (subst (λ (us : List Growing). IsSettled y (growing_of gone ++ (p.inner ++ option_to_list leaving))
      (e.runs ++ inner_runs takes inside new) fresh_here (given ++ map (ended_at y) us)) (sym p.is)
      (settled_by leaving p.leaves))

  -- ---- where it begins

  leaving_at : (l : Option Growing) → IfSome l (Leaves y x) → All (λ g. x_on g.left y <ℤ (x +ℤ pos 1)) (option_to_list l)
  leaving_at None h = All-nil (λ g. x_on g.left y <ℤ (x +ℤ pos 1))
  leaving_at (Some c) h = All-cons (λ g. x_on g.left y <ℤ (x +ℤ pos 1)) c [] (let l = h.left in omega (arith, ints, l))
      (All-nil (λ g. x_on g.left y <ℤ (x +ℤ pos 1)))

  grow_now : All (λ g. x_on g.left y <ℤ (x +ℤ pos 1)) (growing_of (gone ++ old))
  grow_now =
      subst (All (λ g. x_on g.left y <ℤ (x +ℤ pos 1))) (sym gone_now)
      (All-append (λ g. x_on g.left y <ℤ (x +ℤ pos 1)) (growing_of gone) (p.inner ++ option_to_list leaving)
      (All-weaker (λ g. x_on g.left y <ℤ x) (λ g. x_on g.left y <ℤ (x +ℤ pos 1)) (λ g q. omega (arith, ints, q)) (growing_of gone) e.grow)
      (All-append (λ g. x_on g.left y <ℤ (x +ℤ pos 1)) p.inner (option_to_list leaving)
      (All-weaker (EndsIn y x) (λ g. x_on g.left y <ℤ (x +ℤ pos 1)) (λ g h. (let l = h.left in omega (arith, ints, l))) p.inner p.ends)
      (leaving_at leaving p.leaves)))

  run_now : All (λ r. x_on r.left y <ℤ (x +ℤ pos 1)) (e.runs ++ inner_runs takes inside new)
  run_now =
      All-append (λ r. x_on r.left y <ℤ (x +ℤ pos 1)) e.runs (inner_runs takes inside new)
      (All-weaker (λ r. x_on r.left y <ℤ x) (λ r. x_on r.left y <ℤ (x +ℤ pos 1)) (λ r q. omega (arith, ints, q)) e.runs e.run)
      (All-weaker (BeginsIn y x) (λ r. x_on r.left y <ℤ (x +ℤ pos 1)) (λ r h. (let l = h.left in omega (arith, ints, l))) (inner_runs takes inside new) begins)

  -- ---- a run that begins among the new lines, and is open after them

  module _ (b : ActiveLine) (begin : begins_at takes inside None new ≡ Some b) where
    begun_at : x_on b.line y ≡ x
    begun_at = some_at (begins_at takes inside None new) begin (begins_among takes (λ m. x_on m.line y ≡ x) inside None new tt at)
      where
        some_at : (o : Option ActiveLine) → o ≡ Some b → IfSome o (λ m. x_on m.line y ≡ x) → x_on b.line y ≡ x
        some_at None same h = absurd (let clash : ⊥ = cc in clash)
        some_at (Some m) same h = (let k : m ≡ b = cc in subst (λ (l : ActiveLine). x_on l.line y ≡ x) k h)

    run_elsewhere : All (λ r. r.left ≢ b.line) (e.runs ++ inner_runs takes inside new)
    run_elsewhere =
        All-append (λ r. r.left ≢ b.line) e.runs (inner_runs takes inside new)
        (All-weaker (λ r. x_on r.left y <ℤ x) (λ r. r.left ≢ b.line) (λ r lt. elsewhere y x r.left b.line lt begun_at) e.runs e.run)
        (All-weaker (λ r. place r.left y <ℤ place b.line y) (λ r. r.left ≢ b.line) (λ r lt. other_line y r.left b.line lt) (inner_runs takes inside new)
        (inner_left takes y inside new b ascend begin))

    leaving_new : (l : Option Growing) → IfSome l (λ c. c.left ≢ b.line) → All (λ c. c.left ≡ b.line → x_on c.right y <ℤ (x +ℤ pos 1)) (option_to_list l)
    leaving_new None h = All-nil (λ c. c.left ≡ b.line → x_on c.right y <ℤ (x +ℤ pos 1))
    leaving_new (Some c) h =
        All-cons (λ c. c.left ≡ b.line → x_on c.right y <ℤ (x +ℤ pos 1)) c [] (λ same. absurd (h same))
        (All-nil (λ c. c.left ≡ b.line → x_on c.right y <ℤ (x +ℤ pos 1)))

    begun_fresh : IfSome leaving (λ c. c.left ≢ b.line)
        → IsFresh y (x +ℤ pos 1) (growing_of (gone ++ old)) (e.runs ++ inner_runs takes inside new)
        (let g : Growing = record { y0 = y; left = b.line; right = b.line } in g)
    begun_fresh differ = (let a = begun_at in record {
      since = refl;
      left = omega (arith, ints, a);
      new = subst (All (λ c. c.left ≡ b.line → x_on c.right y <ℤ (x +ℤ pos 1))) (sym gone_now)
          (All-append (λ c. c.left ≡ b.line → x_on c.right y <ℤ (x +ℤ pos 1)) (growing_of gone) (p.inner ++ option_to_list leaving)
          (All-weaker (λ c. x_on c.left y <ℤ x) (λ c. c.left ≡ b.line → x_on c.right y <ℤ (x +ℤ pos 1))
          (λ c lt same. absurd (elsewhere y x c.left b.line lt a same)) (growing_of gone) e.grow)
          (All-append (λ c. c.left ≡ b.line → x_on c.right y <ℤ (x +ℤ pos 1)) p.inner (option_to_list leaving)
          (All-weaker (EndsIn y x) (λ c. c.left ≡ b.line → x_on c.right y <ℤ (x +ℤ pos 1))
          (λ c h same. (let r = h.right in omega (arith, ints, r))) p.inner p.ends)
          (leaving_new leaving differ)));
      run_elsewhere = run_elsewhere;
    })

  -- ---- the list with the new lines

  module _ (kept : Option Opened) where
    abbrev list_now : List ActiveLine
    list_now = before ++ opened_new takes inside y kept new

    same_list : AreAlike (before ++ new) list_now
    same_list = alike_append before new before (opened_new takes inside y kept new) (alike_self before) (alike_new takes y kept inside new)

    runs_now : ended_runs takes None list_now ≡ e.runs ++ inner_runs takes inside new
    runs_now = sym (alike_ended takes None None (before ++ new) list_now tt same_list) ∙ e.runs_are

    same_open : SameOpen (open_after takes None (before ++ new)) (open_after takes None list_now)
    same_open = alike_open takes None None (before ++ new) list_now tt same_list

    list_is : growing_of list_now ≡ (e.fresh ++ option_to_list growing)
        ++ (map (grown_into [] y) (inner_runs takes inside new) ++ option_to_list (begun_growing takes y kept (begins_at takes inside None new)))
    list_is =
        growing_append before (opened_new takes inside y kept new)
        ∙ (ap (λ (us : List Growing). us ++ growing_of (opened_new takes inside y kept new)) e.before_is
        ∙ ap (λ (us : List Growing). (e.fresh ++ option_to_list growing) ++ us) (growing_new takes y kept inside new))

    -- the state, where the runs above and below differ
    apart_now : (q : Option Growing) (after : Option Line) → IsOpenAt q (open_after takes None (before ++ new))
        → IfSome q (IsFresh y (x +ℤ pos 1) (growing_of (gone ++ old)) (e.runs ++ inner_runs takes inside new))
        → growing_of list_now ≡ fresh_here ++ option_to_list q
        → IfSome after (GoesOver takes y (x +ℤ pos 1) rest)
        → AreApartAt takes y (x +ℤ pos 1) (gone ++ old) list_now rest (given ++ map (ended_at y) (growing_of old)) after
    apart_now q after open_there fresh is over = record {
      fresh = fresh_here;
      growing = q;
      stands = subst
          (λ (rs : List Run). StandsApart takes y (x +ℤ pos 1) rest (growing_of (gone ++ old)) rs fresh_here (given ++ map (ended_at y) (growing_of old)) q
          (open_after takes None list_now) after)
          (sym runs_now)
          (record {
            settled = settled_here;
            at = open_moved q (open_after takes None (before ++ new)) (open_after takes None list_now) same_open open_there;
            grow = grow_now;
            run = run_now;
            begun = fresh;
            over = over;
          });
      before_is = is;
    }

  -- ---- none passes above

  list_from : (kept : Option Opened) → growing ≡ None
      → growing_of (before ++ opened_new takes inside y kept new) ≡ fresh_here ++ option_to_list (begun_growing takes y kept (begins_at takes inside None new))
  list_from kept none =
      list_is kept
      ∙ (ap (λ (o : Option Growing). (e.fresh ++ option_to_list o) ++ (map (grown_into [] y) (inner_runs takes inside new) ++ option_to_list
      (begun_growing takes y kept (begins_at takes inside None new)))) none
      ∙ (ap (λ (us : List Growing). us ++ (map (grown_into [] y) (inner_runs takes inside new) ++ option_to_list
      (begun_growing takes y kept (begins_at takes inside None new)))) (append-nil e.fresh)
      ∙ sym (append_assoc e.fresh (map (grown_into [] y) (inner_runs takes inside new))
      (option_to_list (begun_growing takes y kept (begins_at takes inside None new))))))

-- ---- the state after the point

-- what leaves the point below reaches further
pub leaves_over : (takes : Windings → Bool) (y x : ℤ) (rest : List ActiveLine) (c : Growing) → Leaves y x c → EndsAmong takes rest c.right
    → GoesOver takes y (x +ℤ pos 1) rest c.right
leaves_over takes y x rest c h among = (let r = h.right in record { reaches = omega (arith, ints, r); ends = among })

parted_over_by : (takes : Windings → Bool) (y x : ℤ) (rest : List ActiveLine) (leaving : Option Growing) (c : Growing) → leaving ≡ Some c
    → IfSome leaving (Leaves y x)
    → IfSome leaving (λ g. EndsAmong takes rest g.right) → GoesOver takes y (x +ℤ pos 1) rest c.right
parted_over_by takes y x rest None c e h k = absurd (let clash : ⊥ = cc in clash)
parted_over_by takes y x rest (Some d) c e h k = (let same : d ≡ c = cc in subst (λ (g : Growing). GoesOver takes y (x +ℤ pos 1) rest g.right) same
    (leaves_over takes y x rest d h k))

pub parted_over : (takes : Windings → Bool) (y x : ℤ) (rest : List ActiveLine) (front : List Growing) (leaving : Option Growing) (c : Growing)
    → Parted takes y x rest front leaving
    → leaving ≡ Some c → GoesOver takes y (x +ℤ pos 1) rest c.right
parted_over takes y x rest front leaving c p e = parted_over_by takes y x rest leaving c e p.leaves p.beyond

module _ (takes : Windings → Bool) (y x : ℤ) (gone before old new rest : List ActiveLine) (inside : Bool) (given : List Trapezoid) (right : Option Line)
    (leaving : Option Growing)
    (p : Parted takes y x rest (growing_of old) leaving) (at : PassAt y x new) (ascend : AscendIn y new) where
  -- no run passes above: all that grew up to the point ends, and the last run that begins there is open, if one is
  module _ (e : HasEntered takes y x gone before new rest inside given None right) (after : Option Line)
      (over : IfSome after (GoesOver takes y (x +ℤ pos 1) rest)) where
    begins_by : (o : Option ActiveLine) → begins_at takes inside None new ≡ o → ((b : ActiveLine) → o ≡ Some b → IfSome leaving (λ c. c.left ≢ b.line))
        → AreApartAt takes y (x +ℤ pos 1) (gone ++ old) (before ++ opened_new takes inside y None new) rest (given ++ map (ended_at y) (growing_of old)) after
    begins_by None none differ =
        apart_now takes y x gone before old new rest inside given None right leaving e p at ascend None None after
        (subst (λ (k : Option ActiveLine). IsOpenAt None k) (sym (e.opening ∙ none)) tt) tt
        (list_from takes y x gone before old new rest inside given None right leaving e p at ascend None refl
        ∙ ap (λ (k : Option ActiveLine). (e.fresh ++ map (grown_into [] y) (inner_runs takes inside new)) ++ option_to_list (begun_growing takes y None k))
        none)
        over
    begins_by (Some b) begin differ =
        apart_now takes y x gone before old new rest inside given None right leaving e p at ascend None
        (Some (let g : Growing = record { y0 = y; left = b.line; right = b.line } in g)) after
        (subst (λ (k : Option ActiveLine). IsOpenAt (Some (let g : Growing = record { y0 = y; left = b.line; right = b.line } in g)) k)
        (sym (e.opening ∙ begin)) refl)
        (begun_fresh takes y x gone before old new rest inside given None right leaving e p at ascend b begin (differ b refl))
        (list_from takes y x gone before old new rest inside given None right leaving e p at ascend None refl
        ∙ ap (λ (k : Option ActiveLine). (e.fresh ++ map (grown_into [] y) (inner_runs takes inside new)) ++ option_to_list (begun_growing takes y None k))
        begin)
        over

    pub point_apart : ((b : ActiveLine) → begins_at takes inside None new ≡ Some b → IfSome leaving (λ c. c.left ≢ b.line))
        → AreApartAt takes y (x +ℤ pos 1) (gone ++ old) (before ++ opened_new takes inside y None new) rest (given ++ map (ended_at y) (growing_of old)) after
    point_apart differ = begins_by (begins_at takes inside None new) refl differ

  -- a run passes above
  module _ (g : Growing) (e : HasEntered takes y x gone before new rest inside given (Some g) right) (after : Option Line)
      (over : IfSome after (GoesOver takes y (x +ℤ pos 1) rest)) (kept : Option Opened) where
    leaving_fresh : (l : Option Growing) → IfSome l (Leaves y x) → All (λ c. c.left ≡ g.left → x_on c.right y <ℤ (x +ℤ pos 1)) (option_to_list l)
    leaving_fresh None h = All-nil (λ c. c.left ≡ g.left → x_on c.right y <ℤ (x +ℤ pos 1))
    leaving_fresh (Some c) h =
        All-cons (λ d. d.left ≡ g.left → x_on d.right y <ℤ (x +ℤ pos 1)) c [] (λ same. absurd (elsewhere y x g.left c.left e.entered h.left (sym same)))
        (All-nil (λ d. d.left ≡ g.left → x_on d.right y <ℤ (x +ℤ pos 1)))

    still_fresh : IsFresh y (x +ℤ pos 1) (growing_of (gone ++ old)) (e.runs ++ inner_runs takes inside new) g
    still_fresh = record {
      since = e.begun.since;
      left = e.begun.left;
      new = subst (All (λ c. c.left ≡ g.left → x_on c.right y <ℤ (x +ℤ pos 1)))
          (sym (gone_now takes y x gone before old new rest inside given (Some g) right leaving e p at ascend))
          (All-append (λ c. c.left ≡ g.left → x_on c.right y <ℤ (x +ℤ pos 1)) (growing_of gone) (p.inner ++ option_to_list leaving) e.begun.new
          (All-append (λ c. c.left ≡ g.left → x_on c.right y <ℤ (x +ℤ pos 1)) p.inner (option_to_list leaving)
          (All-weaker (EndsIn y x) (λ c. c.left ≡ g.left → x_on c.right y <ℤ (x +ℤ pos 1))
          (λ c h same. (let r = h.right in omega (arith, ints, r))) p.inner p.ends)
          (leaving_fresh leaving p.leaves)));
      run_elsewhere = subst (λ (rs : List Run). All (λ r. r.left ≢ g.left) (e.runs ++ rs)) (sym e.opening.1)
          (subst (All (λ r. r.left ≢ g.left)) (sym (append-nil e.runs)) e.begun.run_elsewhere);
    }

    list_same : growing_of (before ++ opened_new takes inside y kept new) ≡ (e.fresh ++ map (grown_into [] y) (inner_runs takes inside new)) ++ g ∷ []
    list_same =
        list_is takes y x gone before old new rest inside given (Some g) right leaving e p at ascend kept
        ∙ (ap (λ (k : Option ActiveLine). (e.fresh ++ g ∷ []) ++ (map (grown_into [] y) (inner_runs takes inside new) ++ option_to_list
        (begun_growing takes y kept k))) e.opening.2
        ∙ none_more (inner_runs takes inside new) e.opening.1)
      where
        none_more : (rs : List Run) → rs ≡ [] → (e.fresh ++ g ∷ []) ++ (map (grown_into [] y) rs ++ []) ≡ (e.fresh ++ map (grown_into [] y) rs) ++ g ∷ []
        none_more rs h = rw h (append-nil (e.fresh ++ g ∷ []) ∙ ap (λ (us : List Growing). us ++ g ∷ []) (sym (append-nil e.fresh)))

    passed_apart : AreApartAt takes y (x +ℤ pos 1) (gone ++ old) (before ++ opened_new takes inside y kept new) rest
        (given ++ map (ended_at y) (growing_of old)) after
    passed_apart =
        apart_now takes y x gone before old new rest inside given (Some g) right leaving e p at ascend kept
        (Some g) after e.opening.0 still_fresh list_same over

    pub point_passes : IsApartOpen takes y (x +ℤ pos 1) (gone ++ old) (before ++ opened_new takes inside y kept new) rest
        (given ++ map (ended_at y) (growing_of old)) g after
    unfolding passed_apart apart_now
    point_passes = as_open (open_after takes None (before ++ opened_new takes inside y kept new)) refl passed_apart.stands.at
      where
        as_open : (o : Option ActiveLine) → open_after takes None (before ++ opened_new takes inside y kept new) ≡ o → IsOpenAt (Some g) o
            → IsApartOpen takes y (x +ℤ pos 1) (gone ++ old) (before ++ opened_new takes inside y kept new) rest
            (given ++ map (ended_at y) (growing_of old)) g after
        as_open None same at = absurd at
        as_open (Some o) same at = record {
          fresh = e.fresh ++ map (grown_into [] y) (inner_runs takes inside new);
          o = o;
          stands = subst
              (λ (k : Option ActiveLine). StandsApart takes y (x +ℤ pos 1) rest (growing_of (gone ++ old))
              (ended_runs takes None (before ++ opened_new takes inside y kept new))
              (e.fresh ++ map (grown_into [] y) (inner_runs takes inside new)) (given ++ map (ended_at y) (growing_of old)) (Some g) k after)
              same passed_apart.stands;
          before_is = list_same;
          opening = same;
        }

-- the run that leaves the point below is the one that leaves it above: it goes on, and the others end
module _ (takes : Windings → Bool) (y x : ℤ) (gone before old new rest : List ActiveLine) (inside : Bool) (given : List Trapezoid) (right : Option Line)
    (c : Growing)
    (p : Parted takes y x rest (growing_of old) (Some c)) (at : PassAt y x new) (ascend : AscendIn y new) (below : AscendIn (y -ℤ pos 1) old)
    (e : HasEntered takes y x gone before new rest inside given None right) (b : ActiveLine) (begin : begins_at takes inside None new ≡ Some b)
    (same : c.left ≡ b.line) where
  abbrev kept_on : Option Opened
  kept_on = Some (let o : Opened = record { right = c.right; since = c.y0 } in o)

  abbrev now : List ActiveLine
  now = before ++ opened_new takes inside y (Some (let o : Opened = record { right = c.right; since = c.y0 } in o)) new

  alone : IsAlone (growing_of gone ++ p.inner) (e.runs ++ inner_runs takes inside new) c.left
  alone = record {
    grow_elsewhere = All-append (λ k. k.left ≢ c.left) (growing_of gone) p.inner
        (All-weaker (λ k. x_on k.left y <ℤ x) (λ k. k.left ≢ c.left) (λ k lt. elsewhere y x k.left c.left lt p.leaves.left) (growing_of gone) e.grow)
        (All-weaker (λ k. place k.left (y -ℤ pos 1) <ℤ place c.left (y -ℤ pos 1)) (λ k. k.left ≢ c.left)
        (λ k lt. other_line (y -ℤ pos 1) k.left c.left lt) p.inner
        (grow_left (y -ℤ pos 1) c old p.inner below p.is));
    run_elsewhere = subst (λ (line : Line). All (λ r. r.left ≢ line) (e.runs ++ inner_runs takes inside new)) (sym same)
        (run_elsewhere takes y x gone before old new rest inside given None right (Some c) e p at ascend b begin);
  }

  same_stands : Stands takes y (x +ℤ pos 1) rest (growing_of gone ++ p.inner) (e.runs ++ inner_runs takes inside new)
      (e.fresh ++ map (grown_into [] y) (inner_runs takes inside new))
      (given ++ map (ended_at y) p.inner) (Some c) (Some b)
  same_stands =
      same_leaves takes y x rest (growing_of gone) p.inner e.runs (inner_runs takes inside new) e.fresh given e.grow e.run e.settled p.ends
      (begins takes y x gone before old new rest inside given None right (Some c) e p at ascend) c b same p.leaves p.beyond alone

  same_growing : (o : Opened) (line : Line) → o.since ≡ c.y0 → o.right ≡ c.right → c.left ≡ line
      → (let g : Growing = record { y0 = o.since; left = line; right = o.right } in g) ≡ c
  same_growing o line s r l =
      ap (λ (k : ℤ). let g : Growing = record { y0 = k; left = line; right = o.right } in g) s
      ∙ (ap (λ (k : Line). let g : Growing = record { y0 = c.y0; left = line; right = k } in g) r
      ∙ ap (λ (k : Line). let g : Growing = record { y0 = c.y0; left = k; right = c.right } in g) (sym l))

  pub point_same : AreAlikeAt takes y (x +ℤ pos 1) (gone ++ old) now rest (given ++ map (ended_at y) p.inner)
  point_same = record {
    closed = growing_of gone ++ p.inner;
    fresh = e.fresh ++ map (grown_into [] y) (inner_runs takes inside new);
    growing = Some c;
    stands = subst
        (λ (rs : List Run). Stands takes y (x +ℤ pos 1) rest (growing_of gone ++ p.inner) rs
        (e.fresh ++ map (grown_into [] y) (inner_runs takes inside new)) (given ++ map (ended_at y) p.inner) (Some c)
        (open_after takes None now))
        (sym (runs_now takes y x gone before old new rest inside given None right (Some c) e p at ascend kept_on))
        (record {
          settled = same_stands.settled;
          at = open_moved (Some c) (open_after takes None (before ++ new)) (open_after takes None now)
              (same_open takes y x gone before old new rest inside given None right (Some c) e p at ascend kept_on)
              (subst (λ (k : Option ActiveLine). IsOpenAt (Some c) k) (sym (e.opening ∙ begin)) same);
          grow = same_stands.grow;
          run = same_stands.run;
          pends = same_stands.pends;
        });
    gone_is = gone_now takes y x gone before old new rest inside given None right (Some c) e p at ascend
        ∙ sym (append_assoc (growing_of gone) p.inner (c ∷ []));
    before_is = list_from takes y x gone before old new rest inside given None right (Some c) e p at ascend kept_on refl
        ∙ (ap (λ (k : Option ActiveLine). (e.fresh ++ map (grown_into [] y) (inner_runs takes inside new)) ++ option_to_list
        (begun_growing takes y kept_on k)) begin
        ∙ ap (λ (g : Growing). (e.fresh ++ map (grown_into [] y) (inner_runs takes inside new)) ++ g ∷ [])
        (same_growing (let o : Opened = record { right = c.right; since = c.y0 } in o) b.line refl refl same));
  }

-- both runs pass
module _ (takes : Windings → Bool) (y x : ℤ) (gone before old new rest : List ActiveLine) (given : List Trapezoid) (kept : Option Opened)
    (q : Pending takes y x gone before old new rest given) (below : ends_among takes old ≡ false) (above : ends_among takes new ≡ false)
    (opened : AreOpened takes true (old ++ rest)) where
  abbrev list_passed : List ActiveLine
  list_passed = before ++ opened_new takes true y kept new

  none_new : growing_of (opened_new takes true y kept new) ≡ []
  none_new = growing_new takes y kept true new ∙ none_by (inner_runs takes true new) (begins_at takes true None new) (pass_lines takes new above).inner
      ((pass_lines takes new above).begins None)
    where
      none_by : (rs : List Run) (f : Option ActiveLine) → rs ≡ [] → f ≡ None → map (grown_into [] y) rs ++ option_to_list (begun_growing takes y kept f) ≡ []
      none_by rs f h k = rw (h, k) refl

  passed_stands : Stands takes y (x +ℤ pos 1) rest q.closed (ended_runs takes None before) q.fresh given (Some q.g) (Some q.o)
  passed_stands = passes_on takes y x old rest below q.closed (ended_runs takes None before) q.fresh given q.g q.o q.stands

  alike_list : AreAlike (before ++ new) list_passed
  alike_list = alike_append before new before (opened_new takes true y kept new) (alike_self before) (alike_new takes y kept true new)

  runs_same : ended_runs takes None before ≡ ended_runs takes None list_passed
  runs_same =
      sym (append-nil (ended_runs takes None before)) ∙ (ap (λ (rs : List Run). ended_runs takes None before ++ rs) (sym (pass_lines takes new above).inner)
      ∙ (sym (runs_pass takes before before new q.o (alike_self before) q.opening above)
      ∙ alike_ended takes None None (before ++ new) list_passed tt alike_list))

  pub point_alike : AreAlikeAt takes y (x +ℤ pos 1) (gone ++ old) list_passed rest given
  point_alike = record {
    closed = q.closed;
    fresh = q.fresh;
    growing = Some q.g;
    stands = subst (λ (rs : List Run). Stands takes y (x +ℤ pos 1) rest q.closed rs q.fresh given (Some q.g) (open_after takes None list_passed)) runs_same
        (record {
          settled = passed_stands.settled;
          at = open_moved (Some q.g) (open_after takes None (before ++ new)) (open_after takes None list_passed)
              (alike_open takes None None (before ++ new) list_passed tt alike_list)
              (opens_pass takes before before new q.o q.g (alike_self before) q.opening q.stands.at above).0;
          grow = passed_stands.grow;
          run = passed_stands.run;
          pends = passed_stands.pends;
        });
    gone_is = growing_append gone old ∙ (ap (λ (us : List Growing). growing_of gone ++ us) (none_begins takes old rest opened below)
        ∙ (append-nil (growing_of gone) ∙ q.gone_is));
    before_is = growing_append before (opened_new takes true y kept new)
        ∙ (ap (λ (us : List Growing). growing_of before ++ us) none_new ∙ (append-nil (growing_of before) ∙ q.before_is));
  }
