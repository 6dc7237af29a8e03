-- Several trapezoids that grow on, each in the run with its lines.
use Rattle.std.proofs.Common.{ℤ, ◌≡◌, ◌≢◌, List, [], ◌∷◌, ◌++◌, append_assoc, sym, subst, ◌∙◌}
use Rattle.std.specs.Prelude.{All}
use Rattle.std.specs.List.{AllZip}
use Rattle.std.proofs.lemmas.List.{append-nil}
use Rattle.std.proofs.lemmas.List.Elements.{All-head, All-tail, All-push}
use Rattle.half_grid.specs.Trapezoids.{Trapezoid}
use Rattle.scan_line.specs.declared.runs.Run.{Run}
use Rattle.trap_join.specs.declared.front.Growing.{Growing}
use Rattle.plane_sweep.specs.StopRuns.{SameLines}
use Rattle.plane_sweep.specs.Settled.{IsSettled}
use Rattle.plane_sweep.specs.States.{IsAlone}
use Rattle.plane_sweep.proofs.PointSteps.{entering_goes_on}

-- each has a left line of its own: none of the front, none of a run, none of the others
abbrev pub StandAlone : List Growing → List Run → List Growing → Type 0
StandAlone front runs [] = Unit {0}
StandAlone front runs (g ∷ gs) = IsAlone front runs g.left × All (λ (h : Growing). h.left ≢ g.left) gs × StandAlone front runs gs

alone_more : (front : List Growing) (runs : List Run) (g h : Growing) (r : Run) → g.left ≡ r.left → h.left ≢ g.left → IsAlone front runs h.left
    → IsAlone (front ++ g ∷ []) (runs ++ r ∷ []) h.left
alone_more front runs g h r same other alone = record {
  grow_elsewhere = All-push (λ (p : Growing). p.left ≢ h.left) front g alone.grow_elsewhere (λ e. other (sym e));
  run_elsewhere = All-push (λ (s : Run). s.left ≢ h.left) runs r alone.run_elsewhere (λ e. other (sym (same ∙ e)));
}

stand_more : (front : List Growing) (runs : List Run) (g : Growing) (r : Run) (gs : List Growing) → g.left ≡ r.left
    → All (λ (h : Growing). h.left ≢ g.left) gs → StandAlone front runs gs → StandAlone (front ++ g ∷ []) (runs ++ r ∷ []) gs
stand_more front runs g r [] same others alone = tt
stand_more front runs g r (h ∷ gs) same others alone =
    let other = All-head (λ (k : Growing). k.left ≢ g.left) h gs others in
    let rest = stand_more front runs g r gs same (All-tail (λ (k : Growing). k.left ≢ g.left) h gs others) alone.2 in
    (alone_more front runs g h r same other alone.0, alone.1, rest)

pub all_go_on : (y : ℤ) (gs : List Growing) (rs : List Run) (front : List Growing) (runs : List Run) (fresh : List Growing) (done : List Trapezoid)
    → AllZip SameLines gs rs → StandAlone front runs gs → IsSettled y front runs fresh done → IsSettled y (front ++ gs) (runs ++ rs) (fresh ++ gs) done
all_go_on y [] [] front runs fresh done h alone s =
    subst (λ (us : List Growing). IsSettled y us (runs ++ []) (fresh ++ []) done) (sym (append-nil front))
    (subst (λ (rs : List Run). IsSettled y front rs (fresh ++ []) done) (sym (append-nil runs))
    (subst (λ (us : List Growing). IsSettled y front runs us done) (sym (append-nil fresh)) s))
all_go_on y [] (r ∷ rs) front runs fresh done h alone s = absurd h
all_go_on y (g ∷ gs) [] front runs fresh done h alone s = absurd h
all_go_on y (g ∷ gs) (r ∷ rs) front runs fresh done h alone s =
    let one = entering_goes_on y front runs fresh done g r s alone.0 h.0.left h.0.right in
    let rest = all_go_on y gs rs (front ++ g ∷ []) (runs ++ r ∷ []) (fresh ++ g ∷ []) done h.1
    (stand_more front runs g r gs h.0.left alone.1 alone.2) one in
    subst (λ (us : List Growing). IsSettled y us (runs ++ (r ∷ rs)) (fresh ++ (g ∷ gs)) done) (append_assoc front (g ∷ []) gs)
    (subst (λ (ss : List Run). IsSettled y ((front ++ g ∷ []) ++ gs) ss (fresh ++ (g ∷ gs)) done) (append_assoc runs (r ∷ []) rs)
    (subst (λ (us : List Growing). IsSettled y ((front ++ g ∷ []) ++ gs) ((runs ++ r ∷ []) ++ rs) us done) (append_assoc fresh (g ∷ []) gs) rest))
