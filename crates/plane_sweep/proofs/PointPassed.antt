-- Over a point, once what enters it is settled: what ends in it and what begins in it, and what leaves it.
use Rattle.std.proofs.Common.{ℤ, pos, ◌+ℤ◌, ◌≡◌, ◌≢◌, ◌<ℤ◌, Bool, List, [], ◌∷◌, ◌++◌, Some, None, map, All, arith, ap}
use Rattle.std.proofs.lemmas.Int.{ints}
use Rattle.std.proofs.lemmas.List.Elements.{All-nil, All-cons, All-append, All-weaker}
use Rattle.half_grid.specs.Lines.{x_on}
use Rattle.half_grid.specs.Trapezoids.{Trapezoid}
use Rattle.half_grid.specs.declared.plane.Line.{Line}
use Rattle.scan_line.specs.declared.runs.Run.{Run}
use Rattle.trap_join.specs.declared.front.Growing.{Growing}
use Rattle.trap_join.specs.Fronts.{grown_into, ended_at}
use Rattle.active_lines.specs.declared.item.ActiveLine.{ActiveLine}
use Rattle.active_lines.specs.declared.item.Windings.{Windings}
use Rattle.plane_sweep.specs.Settled.{IsSettled}
use Rattle.plane_sweep.specs.Points.{GrowLeft, RunLeft, EndsIn, BeginsIn, Leaves}
use Rattle.plane_sweep.specs.States.{IsAlone, EndsAmong, Stands, IsFresh, GoesOver, StandsApart}
use Rattle.plane_sweep.proofs.PointStates.{in_point, leaves_point}

module _ (takes : Windings → Bool) (y x : ℤ) (rest : List ActiveLine) (closed inner : List Growing)
    (runs begun : List Run) (fresh : List Growing) (given : List Trapezoid)
    (grow : GrowLeft y x closed) (run : RunLeft y x runs) (settled : IsSettled y closed runs fresh given)
    (ends : All (EndsIn y x) inner) (begins : All (BeginsIn y x) begun) where
  abbrev fresh_here : List Growing
  fresh_here = fresh ++ map (grown_into [] y) begun

  abbrev given_here : List Trapezoid
  given_here = given ++ map (ended_at y) inner

  here : IsSettled y (closed ++ inner) (runs ++ begun) fresh_here given_here
  here = in_point y x closed inner runs begun fresh given grow run ends begins settled

  all_grow : GrowLeft y (x +ℤ pos 1) (closed ++ inner)
  all_grow =
      All-append (λ g. x_on g.left y <ℤ (x +ℤ pos 1)) closed inner
      (All-weaker (λ g. x_on g.left y <ℤ x) (λ g. x_on g.left y <ℤ (x +ℤ pos 1)) (λ g q. omega (arith, ints, q)) closed grow)
      (All-weaker (EndsIn y x) (λ g. x_on g.left y <ℤ (x +ℤ pos 1)) (λ g h. (let l = h.left in omega (arith, ints, l))) inner ends)

  all_run : RunLeft y (x +ℤ pos 1) (runs ++ begun)
  all_run =
      All-append (λ r. x_on r.left y <ℤ (x +ℤ pos 1)) runs begun
      (All-weaker (λ r. x_on r.left y <ℤ x) (λ r. x_on r.left y <ℤ (x +ℤ pos 1)) (λ r q. omega (arith, ints, q)) runs run)
      (All-weaker (BeginsIn y x) (λ r. x_on r.left y <ℤ (x +ℤ pos 1)) (λ r h. (let l = h.left in omega (arith, ints, l))) begun begins)

  -- nothing leaves it
  pub nothing_leaves : Stands takes y (x +ℤ pos 1) rest (closed ++ inner) (runs ++ begun) fresh_here given_here None None
  nothing_leaves = record { settled = here; at = tt; grow = all_grow; run = all_run; pends = tt }

  -- the same run leaves it below and above: the trapezoid may go on
  module _ (g : Growing) (o : ActiveLine) (same : g.left ≡ o.line) (leaves : Leaves y x g) (among : EndsAmong takes rest g.right)
      (alone : IsAlone (closed ++ inner) (runs ++ begun) g.left) where
    pub same_leaves : Stands takes y (x +ℤ pos 1) rest (closed ++ inner) (runs ++ begun) fresh_here given_here (Some g) (Some o)
    same_leaves = record {
      settled = here;
      at = same;
      grow = all_grow;
      run = all_run;
      pends = record { alone = alone; left = (let l = leaves.left in omega (arith, ints, l)); from = among.from; right = among.is };
    }

  -- ---- a run that begins above alone

  -- it has the left line of nothing that grew up to the stop from left of the point, and what ended in the point doesn't reach further
  fresh_in : (g : Growing) → x_on g.left y ≡ x → All (λ c. c.left ≡ g.left → x_on c.right y <ℤ (x +ℤ pos 1)) (closed ++ inner)
  fresh_in g at =
      All-append (λ c. c.left ≡ g.left → x_on c.right y <ℤ (x +ℤ pos 1)) closed inner
      (All-weaker (λ c. x_on c.left y <ℤ x) (λ c. c.left ≡ g.left → x_on c.right y <ℤ (x +ℤ pos 1))
      (λ c q e. (let same = ap (λ (k : Line). x_on k y) e in absurd (omega (arith, ints, q, at, same)))) closed grow)
      (All-weaker (EndsIn y x) (λ c. c.left ≡ g.left → x_on c.right y <ℤ (x +ℤ pos 1)) (λ c h e. (let r = h.right in omega (arith, ints, r))) inner ends)

  begun_fresh : (g : Growing) → g.y0 ≡ y → x_on g.left y ≡ x → All (λ r. r.left ≢ g.left) (runs ++ begun)
      → IsFresh y (x +ℤ pos 1) (closed ++ inner) (runs ++ begun) g
  begun_fresh g since at other = record { since = since; left = omega (arith, ints, at); new = fresh_in g at; run_elsewhere = other }

  pub begins_apart : (g : Growing) (o : ActiveLine) → g.left ≡ o.line → g.y0 ≡ y → x_on g.left y ≡ x → All (λ r. r.left ≢ g.left) (runs ++ begun)
      → StandsApart takes y (x +ℤ pos 1) rest (closed ++ inner) (runs ++ begun) fresh_here given_here (Some g) (Some o) None
  begins_apart g o same since at other = record {
    settled = here;
    at = same;
    grow = all_grow;
    run = all_run;
    begun = begun_fresh g since at other;
    over = tt;
  }

  -- ---- a run that leaves below and not above

  module _ (c : Growing) (leaves : Leaves y x c) (among : EndsAmong takes rest c.right) where
    abbrev given_left : List Trapezoid
    given_left = given_here ++ ended_at y c ∷ []

    left_settled : IsSettled y (closed ++ (inner ++ c ∷ [])) (runs ++ begun) fresh_here given_left
    left_settled = leaves_point y x closed inner runs begun fresh given grow run ends begins settled c leaves

    left_over : GoesOver takes y (x +ℤ pos 1) rest c.right
    left_over = (let r = leaves.right in record { reaches = omega (arith, ints, r); ends = among })

    left_grow : GrowLeft y (x +ℤ pos 1) (closed ++ (inner ++ c ∷ []))
    left_grow =
        All-append (λ g. x_on g.left y <ℤ (x +ℤ pos 1)) closed (inner ++ c ∷ [])
        (All-weaker (λ g. x_on g.left y <ℤ x) (λ g. x_on g.left y <ℤ (x +ℤ pos 1)) (λ g q. omega (arith, ints, q)) closed grow)
        (All-append (λ g. x_on g.left y <ℤ (x +ℤ pos 1)) inner (c ∷ [])
        (All-weaker (EndsIn y x) (λ g. x_on g.left y <ℤ (x +ℤ pos 1)) (λ g h. (let l = h.left in omega (arith, ints, l))) inner ends)
        (All-cons (λ g. x_on g.left y <ℤ (x +ℤ pos 1)) c [] (let l = leaves.left in omega (arith, ints, l)) (All-nil (λ g. x_on g.left y <ℤ (x +ℤ pos 1)))))

    pub leaves_alone : StandsApart takes y (x +ℤ pos 1) rest (closed ++ (inner ++ c ∷ [])) (runs ++ begun) fresh_here given_left None None (Some c.right)
    leaves_alone = record { settled = left_settled; at = tt; grow = left_grow; run = all_run; begun = tt; over = left_over }

    -- and another one begins above
    pub leaves_apart : (g : Growing) (o : ActiveLine) → g.left ≡ o.line → g.y0 ≡ y → x_on g.left y ≡ x
        → c.left ≢ g.left → All (λ r. r.left ≢ g.left) (runs ++ begun)
        → StandsApart takes y (x +ℤ pos 1) rest (closed ++ (inner ++ c ∷ [])) (runs ++ begun) fresh_here given_left (Some g) (Some o) (Some c.right)
    leaves_apart g o same since at differ other = record {
      settled = left_settled;
      at = same;
      grow = left_grow;
      run = all_run;
      begun = record { since = since; left = omega (arith, ints, at); new = all_new g at differ; run_elsewhere = other };
      over = left_over;
    }
      where
        all_new : (g : Growing) → x_on g.left y ≡ x → c.left ≢ g.left
            → All (λ d. d.left ≡ g.left → x_on d.right y <ℤ (x +ℤ pos 1)) (closed ++ (inner ++ c ∷ []))
        all_new g at differ =
            All-append (λ d. d.left ≡ g.left → x_on d.right y <ℤ (x +ℤ pos 1)) closed (inner ++ c ∷ [])
            (All-weaker (λ d. x_on d.left y <ℤ x) (λ d. d.left ≡ g.left → x_on d.right y <ℤ (x +ℤ pos 1))
            (λ d q e. (let same = ap (λ (k : Line). x_on k y) e in absurd (omega (arith, ints, q, at, same)))) closed grow)
            (All-append (λ d. d.left ≡ g.left → x_on d.right y <ℤ (x +ℤ pos 1)) inner (c ∷ [])
            (All-weaker (EndsIn y x) (λ d. d.left ≡ g.left → x_on d.right y <ℤ (x +ℤ pos 1)) (λ d h e. (let r = h.right in omega (arith, ints, r))) inner ends)
            (All-cons (λ d. d.left ≡ g.left → x_on d.right y <ℤ (x +ℤ pos 1)) c [] (λ e. absurd (differ e))
            (All-nil (λ d. d.left ≡ g.left → x_on d.right y <ℤ (x +ℤ pos 1)))))
