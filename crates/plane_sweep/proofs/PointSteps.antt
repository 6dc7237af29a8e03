-- What is settled at a point: the run that enters it, what ends and begins in it, and the run that leaves it.
use Rattle.std.proofs.Common.{ℤ, pos, ◌≡◌, ◌≢◌, ◌-ℤ◌, ◌<ℤ◌, Bool, true, false, List, [], ◌∷◌, ◌++◌, map, All}
use Rattle.std.proofs.Common.{append_assoc, append-nil, arith, refl, ap, sym, subst, ◌∙◌, inl, inr}
use Rattle.std.proofs.lemmas.Int.{ints}
use Rattle.std.proofs.lemmas.List.Elements.{All-head, All-tail, All-contains, Contains-append_cases}
use Rattle.half_grid.specs.Lines.{x_on}
use Rattle.half_grid.specs.Rows.{place}
use Rattle.half_grid.specs.Trapezoids.{Trapezoid}
use Rattle.half_grid.specs.declared.plane.Line.{Line}
use Rattle.half_grid.specs.declared.plane.Line.TheVariants.{Upright, Rising, Falling}
use Rattle.scan_line.specs.declared.runs.Run.{Run}
use Rattle.trap_join.specs.declared.front.Growing.{Growing}
use Rattle.trap_join.specs.Fronts.{goes_on, grown_into, ended_at}
use Rattle.trap_join.proofs.ForCallers.{goes_on_left, goes_on_right, goes_on_by}
use Rattle.plane_sweep.specs.Settled.{IsSettled, IsNew, IsOver}
use Rattle.plane_sweep.specs.Points.{GrowLeft, RunLeft, EndsIn, BeginsIn, Leaves, IsApartFrom}
use Rattle.plane_sweep.specs.States.{IsAlone}
use Rattle.plane_sweep.proofs.Settling.{one_ends, one_begins, one_goes_on}

-- ---- what doesn't go on

not_by : (b : Bool) (g : Growing) (r : Run) → goes_on g r ≡ b → (goes_on g r ≡ true → ⊥) → b ≡ false
not_by true g r e h = absurd (h e)
not_by false g r e h = refl

not_on : (g : Growing) (r : Run) → (goes_on g r ≡ true → ⊥) → goes_on g r ≡ false
not_on g r h = not_by _ g r refl h

pub other_left : (g : Growing) (r : Run) → g.left ≢ r.left → goes_on g r ≡ false
other_left g r h = not_on g r (λ e. h (goes_on_left g r e))

pub other_right : (g : Growing) (r : Run) → g.right ≢ r.right → goes_on g r ≡ false
other_right g r h = not_on g r (λ e. h (goes_on_right g r e))

elsewhere : (l m : Line) (y : ℤ) → (x_on l y ≡ x_on m y → ⊥) → l ≢ m
elsewhere l m y h = λ e. h (ap (λ (k : Line). x_on k y) e)

-- lines through one point change places there
turned : (l m : Line) (y : ℤ) → x_on l y ≡ x_on m y → place l (y -ℤ pos 1) <ℤ place m (y -ℤ pos 1) → place m y <ℤ place l y
turned (Upright c) (Upright d) y e h = omega (arith, ints, e, h)
turned (Upright c) (Rising d) y e h = omega (arith, ints, e, h)
turned (Upright c) (Falling d) y e h = omega (arith, ints, e, h)
turned (Rising c) (Upright d) y e h = omega (arith, ints, e, h)
turned (Rising c) (Rising d) y e h = omega (arith, ints, e, h)
turned (Rising c) (Falling d) y e h = omega (arith, ints, e, h)
turned (Falling c) (Upright d) y e h = omega (arith, ints, e, h)
turned (Falling c) (Rising d) y e h = omega (arith, ints, e, h)
turned (Falling c) (Falling d) y e h = omega (arith, ints, e, h)

-- what ends in a point goes on in nothing that begins in it
in_point : (y x : ℤ) (g : Growing) (r : Run) → EndsIn y x g → BeginsIn y x r → goes_on g r ≡ false
in_point y x g r e b =
    not_on g r (λ on. (let l = goes_on_left g r on in
    let m = goes_on_right g r on in
    let back = turned g.left g.right y (e.left ∙ sym e.right) e.has_tile in
    let up : place g.left y <ℤ place g.right y = rw (l, m) b.has_tile in
    absurd (omega (arith, ints, back, up))))

-- runs that begin left of the point don't take a growing one whose left line passes through it
pub over_left : (y x : ℤ) (runs : List Run) (g : Growing) → RunLeft y x runs → x_on g.left y ≡ x → IsOver runs g
over_left y x runs g h at r member =
    let left : x_on r.left y <ℤ x = All-contains (λ s. x_on s.left y <ℤ x) runs r h member in
    other_left g r (elsewhere g.left r.left y (λ e. absurd (omega (arith, ints, left, at, e))))

pub new_right : (y x : ℤ) (front : List Growing) (r : Run) → GrowLeft y x front → x_on r.left y ≡ x → IsNew front r
new_right y x front r h at g member =
    let left : x_on g.left y <ℤ x = All-contains (λ p. x_on p.left y <ℤ x) front g h member in
    other_left g r (elsewhere g.left r.left y (λ e. absurd (omega (arith, ints, left, at, e))))

new_both : (front others : List Growing) (r : Run) → IsNew front r → IsNew others r → IsNew (front ++ others) r
new_both front others r h k g member = elim (Contains-append_cases front others g member) [ inl m ↦ h g m | inr m ↦ k g m ]

over_both : (runs others : List Run) (g : Growing) → IsOver runs g → IsOver others g → IsOver (runs ++ others) g
over_both runs others g h k r member = elim (Contains-append_cases runs others r member) [ inl m ↦ h r m | inr m ↦ k r m ]

-- ---- a run that begins apart from what grows

apart_new : (y : ℤ) (front : List Growing) (r : Run) → IsApartFrom y front r → IsNew front r
apart_new y front r h g member =
    let apart = All-contains (λ p. p.left ≡ r.left → x_on p.right y ≢ x_on r.right y) front g h member in
    not_on g r (λ on. apart (goes_on_left g r on) (ap (λ (k : Line). x_on k y) (goes_on_right g r on)))

pub enters_apart : (y : ℤ) (front : List Growing) (runs : List Run) (fresh : List Growing) (done : List Trapezoid) (r : Run)
    → IsSettled y front runs fresh done → IsApartFrom y front r → IsSettled y front (runs ++ r ∷ []) (fresh ++ grown_into [] y r ∷ []) done
enters_apart y front runs fresh done r s h = one_begins y front runs fresh done r s (apart_new y front r h)

-- ---- what ends in the point, and what begins in it

pub all_end_in : (y x : ℤ) (inner : List Growing) (front : List Growing) (runs : List Run) (fresh : List Growing) (done : List Trapezoid) → RunLeft y x runs
    → All (EndsIn y x) inner → IsSettled y front runs fresh done → IsSettled y (front ++ inner) runs fresh (done ++ map (ended_at y) inner)
all_end_in y x [] front runs fresh done left h s =
    subst (λ (us : List Growing). IsSettled y us runs fresh (done ++ [])) (sym (append-nil front))
    (subst (λ (zs : List Trapezoid). IsSettled y front runs fresh zs) (sym (append-nil done)) s)
all_end_in y x (g ∷ inner) front runs fresh done left h s =
    let first = All-head (EndsIn y x) g inner h in
    let one = one_ends y front runs fresh done g s (over_left y x runs g left first.left) in
    let rest = all_end_in y x inner (front ++ g ∷ []) runs fresh (done ++ ended_at y g ∷ []) left (All-tail (EndsIn y x) g inner h) one in
    subst (λ (us : List Growing). IsSettled y us runs fresh (done ++ map (ended_at y) (g ∷ inner))) (append_assoc front (g ∷ []) inner)
    (subst (λ (zs : List Trapezoid). IsSettled y ((front ++ g ∷ []) ++ inner) runs fresh zs)
    (append_assoc done (ended_at y g ∷ []) (map (ended_at y) inner)) rest)

new_inner : (y x : ℤ) (inner : List Growing) (r : Run) → All (EndsIn y x) inner → BeginsIn y x r → IsNew inner r
new_inner y x inner r h b g member = in_point y x g r (All-contains (EndsIn y x) inner g h member) b

pub all_begin_in : (y x : ℤ) (begun : List Run) (front inner : List Growing) (runs : List Run) (fresh : List Growing)
    (done : List Trapezoid) → GrowLeft y x front
    → All (EndsIn y x) inner → All (BeginsIn y x) begun → IsSettled y (front ++ inner) runs fresh done
    → IsSettled y (front ++ inner) (runs ++ begun) (fresh ++ map (grown_into [] y) begun) done
all_begin_in y x [] front inner runs fresh done left ends h s =
    subst (λ (rs : List Run). IsSettled y (front ++ inner) rs (fresh ++ []) done) (sym (append-nil runs))
    (subst (λ (us : List Growing). IsSettled y (front ++ inner) runs us done) (sym (append-nil fresh)) s)
all_begin_in y x (r ∷ begun) front inner runs fresh done left ends h s =
    let first = All-head (BeginsIn y x) r begun h in
    let new = new_both front inner r (new_right y x front r left first.left) (new_inner y x inner r ends first) in
    let one = one_begins y (front ++ inner) runs fresh done r s new in
    let rest = all_begin_in y x begun front inner (runs ++ r ∷ []) (fresh ++ grown_into [] y r ∷ []) done left ends (All-tail (BeginsIn y x) r begun h) one in
    subst (λ (rs : List Run). IsSettled y (front ++ inner) rs (fresh ++ map (grown_into [] y) (r ∷ begun)) done) (append_assoc runs (r ∷ []) begun)
    (subst (λ (us : List Growing). IsSettled y (front ++ inner) ((runs ++ r ∷ []) ++ begun) us done)
    (append_assoc fresh (grown_into [] y r ∷ []) (map (grown_into [] y) begun)) rest)

-- ---- what grows up to the point's right ends where it doesn't go on in the run that leaves

over_begun : (y x : ℤ) (begun : List Run) (g : Growing) → All (BeginsIn y x) begun → Leaves y x g → IsOver begun g
over_begun y x begun g h leaves r member =
    let b = All-contains (BeginsIn y x) begun r h member in
    let at = b.right in
    let far = leaves.right in
    other_right g r (elsewhere g.right r.right y (λ e. absurd (omega (arith, ints, at, far, e))))

pub leaving_ends : (y x : ℤ) (front : List Growing) (runs begun : List Run) (fresh : List Growing)
    (done : List Trapezoid) (g : Growing) → RunLeft y x runs → All (BeginsIn y x) begun
    → Leaves y x g → IsSettled y front (runs ++ begun) fresh done → IsSettled y (front ++ g ∷ []) (runs ++ begun) fresh (done ++ ended_at y g ∷ [])
leaving_ends y x front runs begun fresh done g left h leaves s =
    one_ends y front (runs ++ begun) fresh done g s (over_both runs begun g (over_left y x runs g left leaves.left) (over_begun y x begun g h leaves))

-- ---- the run that enters

alone_over : (front : List Growing) (runs : List Run) (g : Growing) → IsAlone front runs g.left → IsOver runs g
alone_over front runs g h r member =
    let other = All-contains (λ s. s.left ≢ g.left) runs r h.run_elsewhere member in
    other_left g r (λ e. other (sym e))

pub alone_new : (front : List Growing) (runs : List Run) (r : Run) → IsAlone front runs r.left → IsNew front r
alone_new front runs r h g member = other_left g r (All-contains (λ p. p.left ≢ r.left) front g h.grow_elsewhere member)

pub entering_goes_on : (y : ℤ) (front : List Growing) (runs : List Run) (fresh : List Growing) (done : List Trapezoid)
    (g : Growing) (r : Run) → IsSettled y front runs fresh done
    → IsAlone front runs g.left → g.left ≡ r.left → g.right ≡ r.right → IsSettled y (front ++ g ∷ []) (runs ++ r ∷ []) (fresh ++ g ∷ []) done
entering_goes_on y front runs fresh done g r s alone l m =
    one_goes_on y front runs fresh done g r s (goes_on_by g r l m) (alone_over front runs g alone)
    (alone_new front runs r (subst (IsAlone front runs) l alone))

pub entering_ends : (y : ℤ) (front : List Growing) (runs : List Run) (fresh : List Growing) (done : List Trapezoid)
    (g : Growing) → IsSettled y front runs fresh done
    → IsAlone front runs g.left → IsSettled y (front ++ g ∷ []) runs fresh (done ++ ended_at y g ∷ [])
entering_ends y front runs fresh done g s alone = one_ends y front runs fresh done g s (alone_over front runs g alone)
