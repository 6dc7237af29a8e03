-- Growing trapezoids and runs are settled one after another.
use Rattle.std.proofs.Common.{ℤ, ◌≡◌, Bool, true, false, not, cond, List, [], ◌∷◌, ◌++◌, map, filter, append-nil, refl, ap, sym, ◌∙◌}
use Rattle.std.specs.List.{list_any}
use Rattle.std.proofs.lemmas.List.{map_push, map-append}
use Rattle.std.proofs.lemmas.List.Elements.{filter-append}
use Rattle.half_grid.specs.Trapezoids.{Trapezoid}
use Rattle.scan_line.specs.declared.runs.Run.{Run}
use Rattle.trap_join.specs.declared.front.Growing.{Growing}
use Rattle.trap_join.specs.Fronts.{goes_on, bottom_of, grown_into, ended_at, ends_below, ended}
use Rattle.trap_join.proofs.ForCallers.{is_first, among_rest, in_none, bottom_here, goes_on_left, goes_on_right}
use Rattle.plane_sweep.specs.Settled.{IsSettled, IsNew, IsOver}

pub nothing_settled : (y : ℤ) → IsSettled y [] [] [] []
nothing_settled y = record { grows = refl; ends = refl }

-- ---- one more that grows up to the stop

bottom_by : (b : Bool) (p : Growing) (front : List Growing) (y : ℤ) (r : Run) (g : Growing) → goes_on p r ≡ b
    → bottom_of (front ++ g ∷ []) y r ≡ bottom_of front y r → bottom_of (p ∷ (front ++ g ∷ [])) y r ≡ bottom_of (p ∷ front) y r
bottom_by true p front y r g e h = rw e refl
bottom_by false p front y r g e h = rw e h

-- it goes on in another run, or in none
bottom_same : (front : List Growing) (y : ℤ) (r : Run) (g : Growing) → goes_on g r ≡ false → bottom_of (front ++ g ∷ []) y r ≡ bottom_of front y r
bottom_same [] y r g e = rw e refl
bottom_same (p ∷ front) y r g e = bottom_by _ p front y r g refl (bottom_same front y r g e)

bottom_last : (front : List Growing) (y : ℤ) (r : Run) (g : Growing) → goes_on g r ≡ true → IsNew front r → bottom_of (front ++ g ∷ []) y r ≡ g.y0
bottom_last [] y r g e new = rw e refl
bottom_last (p ∷ front) y r g e new =
    let other = new p (is_first p front) in
    rw other (bottom_last front y r g e (λ q h. new q (among_rest p q front h)))

grown_by : (front others : List Growing) (y : ℤ) (r : Run) → bottom_of front y r ≡ bottom_of others y r → grown_into front y r ≡ grown_into others y r
grown_by front others y r h = ap (λ (b : ℤ). let g : Growing = record { y0 = b; left = r.left; right = r.right } in g) h

all_grown : (front : List Growing) (y : ℤ) (g : Growing) (runs : List Run) → IsOver runs g
    → map (grown_into (front ++ g ∷ []) y) runs ≡ map (grown_into front y) runs
all_grown front y g [] over = refl
all_grown front y g (r ∷ runs) over =
    let here = grown_by (front ++ g ∷ []) front y r (bottom_same front y r g (over r (is_first r runs))) in
    let later = all_grown front y g runs (λ s h. over s (among_rest r s runs h)) in
    ap (λ (u : Growing). u ∷ map (grown_into (front ++ g ∷ []) y) runs) here ∙ ap (λ (us : List Growing). grown_into front y r ∷ us) later

filter_one : (b : Bool) (y : ℤ) (g : Growing) → map (ended_at y) (cond (not b) (g ∷ []) []) ≡ cond (not b) (ended_at y g ∷ []) []
filter_one true y g = refl
filter_one false y g = refl

ended_last : (y : ℤ) (front : List Growing) (runs : List Run) (g : Growing)
    → ended runs y (front ++ g ∷ []) ≡ ended runs y front ++ cond (not (list_any (goes_on g) runs)) (ended_at y g ∷ []) []
ended_last y front runs g =
    ap (map (ended_at y)) (filter-append (ends_below runs) front (g ∷ []))
    ∙ (map-append (ended_at y) (filter (ends_below runs) front) (filter (ends_below runs) (g ∷ []))
    ∙ ap (λ (zs : List Trapezoid). ended runs y front ++ zs) (filter_one (list_any (goes_on g) runs) y g))

ended_more : (y : ℤ) (front : List Growing) (runs : List Run) (g : Growing) → list_any (goes_on g) runs ≡ false
    → ended runs y (front ++ g ∷ []) ≡ ended runs y front ++ ended_at y g ∷ []
ended_more y front runs g e =
    ended_last y front runs g ∙ ap (λ (b : Bool). ended runs y front ++ cond (not b) (ended_at y g ∷ []) []) e

pub one_ends : (y : ℤ) (front : List Growing) (runs : List Run) (fresh : List Growing) (done : List Trapezoid) (g : Growing)
    → IsSettled y front runs fresh done → IsOver runs g → IsSettled y (front ++ g ∷ []) runs fresh (done ++ ended_at y g ∷ [])
one_ends y front runs fresh done g s over = record {
  grows = s.grows ∙ sym (all_grown front y g runs over);
  ends = ap (λ (zs : List Trapezoid). zs ++ ended_at y g ∷ []) s.ends ∙ sym (ended_more y front runs g (in_none g runs over));
}

-- ---- one more run of the row above

any_by : (b : Bool) (p : Run → Bool) (r s : Run) (runs : List Run) → p s ≡ b → list_any p (runs ++ r ∷ []) ≡ list_any p runs
    → list_any p (s ∷ (runs ++ r ∷ [])) ≡ list_any p (s ∷ runs)
any_by true p r s runs e h = rw e refl
any_by false p r s runs e h = rw e h

any_same : (p : Run → Bool) (r : Run) (runs : List Run) → p r ≡ false → list_any p (runs ++ r ∷ []) ≡ list_any p runs
any_same p r [] e = rw e refl
any_same p r (s ∷ runs) e = any_by _ p r s runs refl (any_same p r runs e)

any_last_by : (b : Bool) (p : Run → Bool) (r s : Run) (runs : List Run) → p s ≡ b → list_any p (runs ++ r ∷ []) ≡ true
    → list_any p (s ∷ (runs ++ r ∷ [])) ≡ true
any_last_by true p r s runs e h = rw e refl
any_last_by false p r s runs e h = rw e h

any_last : (p : Run → Bool) (r : Run) (runs : List Run) → p r ≡ true → list_any p (runs ++ r ∷ []) ≡ true
any_last p r [] e = rw e refl
any_last p r (s ∷ runs) e = any_last_by _ p r s runs refl (any_last p r runs e)

kept_by : (b c : Bool) (g : Growing) (us vs : List Growing) → b ≡ c → us ≡ vs → cond (not b) (g ∷ us) us ≡ cond (not c) (g ∷ vs) vs
kept_by b c g us vs e f = rw (e, f) refl

with_run : (front : List Growing) (r : Run) (runs : List Run) → IsNew front r → filter (ends_below (runs ++ r ∷ [])) front ≡ filter (ends_below runs) front
with_run [] r runs new = refl
with_run (g ∷ front) r runs new =
    kept_by (list_any (goes_on g) (runs ++ r ∷ [])) (list_any (goes_on g) runs) g _ _ (any_same (goes_on g) r runs (new g (is_first g front)))
    (with_run front r runs (λ p h. new p (among_rest g p front h)))

pub one_begins : (y : ℤ) (front : List Growing) (runs : List Run) (fresh : List Growing) (done : List Trapezoid) (r : Run)
    → IsSettled y front runs fresh done → IsNew front r → IsSettled y front (runs ++ r ∷ []) (fresh ++ grown_into [] y r ∷ []) done
one_begins y front runs fresh done r s new = record {
  grows =
      ap (λ (us : List Growing). us ++ grown_into [] y r ∷ []) s.grows
      ∙ (ap (λ (u : Growing). map (grown_into front y) runs ++ u ∷ []) (grown_by [] front y r (sym (bottom_here front y r new)))
      ∙ sym (map_push (grown_into front y) runs r));
  ends = s.ends ∙ ap (map (ended_at y)) (sym (with_run front r runs new));
}

-- ---- one that goes on in a run

same_growing : (g : Growing) (r : Run) (b : ℤ) → g.left ≡ r.left → g.right ≡ r.right → b ≡ g.y0
    → g ≡ (let h : Growing = record { y0 = b; left = r.left; right = r.right } in h)
same_growing g r b p q e =
    ap (λ (x : ℤ). let h : Growing = record { y0 = x; left = g.left; right = g.right } in h) (sym e)
    ∙ (ap (λ (x : _). let h : Growing = record { y0 = b; left = x; right = g.right } in h) p
    ∙ ap (λ (x : _). let h : Growing = record { y0 = b; left = r.left; right = x } in h) q)

ended_none : (y : ℤ) (front : List Growing) (runs : List Run) (g : Growing) → list_any (goes_on g) runs ≡ true
    → ended runs y (front ++ g ∷ []) ≡ ended runs y front
ended_none y front runs g e =
    ended_last y front runs g ∙ (ap (λ (b : Bool). ended runs y front ++ cond (not b) (ended_at y g ∷ []) []) e ∙ append-nil (ended runs y front))

pub one_goes_on : (y : ℤ) (front : List Growing) (runs : List Run) (fresh : List Growing) (done : List Trapezoid) (g : Growing) (r : Run)
    → IsSettled y front runs fresh done → goes_on g r ≡ true → IsOver runs g → IsNew front r
    → IsSettled y (front ++ g ∷ []) (runs ++ r ∷ []) (fresh ++ g ∷ []) done
one_goes_on y front runs fresh done g r s on over new = record {
  grows =
      ap (λ (us : List Growing). us ++ g ∷ []) (s.grows ∙ sym (all_grown front y g runs over))
      ∙ (ap (λ (u : Growing). map (grown_into (front ++ g ∷ []) y) runs ++ u ∷ [])
      (same_growing g r (bottom_of (front ++ g ∷ []) y r) (goes_on_left g r on) (goes_on_right g r on) (bottom_last front y r g on new))
      ∙ sym (map_push (grown_into (front ++ g ∷ []) y) runs r));
  ends = s.ends ∙ (ap (map (ended_at y)) (sym (with_run front r runs new)) ∙ sym (ended_none y front (runs ++ r ∷ []) g (any_last (goes_on g) r runs on)));
}
