-- Runs of shapes among others: what is put last, and which shape has a number.
use Rattle.std.proofs.Common.{◌≡◌, ◌≤◌, ◌<◌, ◌+◌, ◌-◌, ℕ, zero, suc, List, [], ◌∷◌, ◌++◌, length, take, drop}
use Rattle.std.proofs.Common.{refl, sym, ap, subst, ◌∙◌, ◌≢◌, append_assoc, length-append, length-drop, arith, ◌⊎◌, inl, inr, Some, slice_get, slice_set}
use Rattle.std.proofs.lemmas.List.{length-map, drop-append-le, take-append-le, take_all, drop_all, length-take-le}
use Rattle.std.proofs.Math.Seq.{drop-append_seam, drop-append-add}
use Rattle.std.proofs.lemmas.Option.{slice_get_cases, slice_get_within, same_Some}
use Rattle.std.proofs.lemmas.Grind.{common_steps}
use Rattle.layout_model.specs.PathBounds.{IsNearBrush}
use Rattle.layout_model.specs.Segments.{segments_in, AreNearAfter}
use Rattle.layout_model.specs.declared.shapes.Shape.{Shape}
use Rattle.layout_model.specs.declared.shape_lists.Run.{Run}
use Rattle.layout_model.specs.Repeats.{repeated, AreCopies}
use Rattle.layout_model.specs.ShapeLists.{shapes_of_run, shapes_from, shapes_of, IsRun, AreRuns, IsAgain, AreTimes, AreKept, IsRank, AreShapes}
use Rattle.layout_model.proofs.RepeatLemmas.{get_dropped, get_taken, get_left, get_right, once_alone, copies_from}
use Rattle.layout_model.proofs.SegmentListLemmas.{drawn_length}

-- more own shapes
pub runs_among_more : (many more taken before : ℕ) (runs : List Run) → many ≤ more → AreRuns many taken before runs → AreRuns more taken before runs
runs_among_more many more taken before [] h few = omega arith
runs_among_more many more taken before (run ∷ runs) h (is, rest) = (
  record { ascends = is.ascends; within = omega (arith, is.within); place = is.place; near = is.near; brush = is.brush },
  runs_among_more many more run.after (run.before + length run.path.value.items) runs h rest,
)

-- an own shape put last is the last of all
pub own_pushed : (own : List Shape) (shape : Shape) (taken before : ℕ) (runs : List Run) → AreRuns (length own) taken before runs
    → shapes_from (own ++ shape ∷ []) taken runs ≡ shapes_from own taken runs ++ shape ∷ []
own_pushed own shape taken before [] few = drop-append-le taken own (shape ∷ []) few
own_pushed own shape taken before (run ∷ runs) (is, rest) =
    let few : taken ≤ length own = omega (arith, is.ascends, is.within) in
    let left : run.after - taken ≤ length (drop taken own) = omega (arith, is.within, length-drop taken own) in
    rw (drop-append-le taken own (shape ∷ []) few)
    (rw (take-append-le (run.after - taken) (drop taken own) (shape ∷ []) left)
    (rw (own_pushed own shape run.after (run.before + length run.path.value.items) runs rest) (simp append_assoc)))

run_alone : (own : List Shape) (run : Run) (taken : ℕ) → run.after ≡ length own → taken ≤ length own
    → shapes_from own taken (run ∷ []) ≡ drop taken own ++ shapes_of_run run
run_alone own run taken last few =
    let whole : take (run.after - taken) (drop taken own) ≡ drop taken own =
    take_all (run.after - taken) (drop taken own) (omega (arith, length-drop taken own)) in
    let none : drop run.after own ≡ [] = drop_all run.after own (omega arith) in
    rw (whole, none) (grind (arith, common_steps))

-- a run put last after all own shapes is last of all
pub run_pushed : (own : List Shape) (run : Run) (taken before : ℕ) (runs : List Run) → AreRuns (length own) taken before runs → run.after ≡ length own
    → shapes_from own taken (runs ++ run ∷ []) ≡ shapes_from own taken runs ++ shapes_of_run run
run_pushed own run taken before [] few last = run_alone own run taken last few
run_pushed own run taken before (next ∷ runs) (is, rest) last =
    rw (run_pushed own run next.after (next.before + length next.path.value.items) runs rest last) (simp append_assoc)

-- a run has as many shapes as its path has segments
pub run_length : (run : Run) → length (shapes_of_run run) ≡ length run.path.value.items
run_length run = drawn_length run.pair run.offsets run.is_fixed _ run.brush.half run.brush.begin run.brush.end ∙ length-map _ _ ∙ length-map _ _

taken_length : (own : List Shape) (taken after : ℕ) → taken ≤ after → after ≤ length own → length (take (after - taken) (drop taken own)) + taken ≡ after
taken_length own taken after h k =
    let left : after - taken ≤ length (drop taken own) = omega (arith, length-drop taken own) in
    omega (arith, length-take-le (after - taken) (drop taken own) left)

-- how many shapes there are with a first run
length_with_run : (own : List Shape) (run : Run) (taken before : ℕ) (runs : List Run) → IsRun (length own) taken before run
    → length (shapes_from own taken (run ∷ runs)) + taken ≡ run.after + (length run.path.value.items + length (shapes_from own run.after runs))
length_with_run own run taken before runs is =
    rw (length-append (take (run.after - taken) (drop taken own)) (shapes_of_run run ++ shapes_from own run.after runs))
    (rw (length-append (shapes_of_run run) (shapes_from own run.after runs), run_length run)
    (omega (arith, taken_length own taken run.after is.ascends is.within)))

-- a run that stands after all is in its place
pub runs_pushed : (own : List Shape) (run : Run) (taken before : ℕ) (runs : List Run) → AreRuns (length own) taken before runs → run.after ≡ length own
    → run.before ≡ before + length (shapes_from own taken runs)
    → AreNearAfter run.by (segments_in run.path.value.items) → IsNearBrush run.brush
    → AreRuns (length own) taken before (runs ++ run ∷ [])
runs_pushed own run taken before [] few last place near brush = (
  record { ascends = omega arith; within = omega arith; place = omega (arith, length-drop taken own); near = near; brush = brush },
  omega arith,
)
runs_pushed own run taken before (next ∷ runs) (is, rest) last place near brush = (
  is,
  runs_pushed own run next.after (next.before + length next.path.value.items) runs rest last
      (omega (arith, is.place, place, length_with_run own next taken before runs is)) near brush,
)

-- the items of a list with one more
get_pushed : {A : Type 0} (xs : List A) (y : A) (k : ℕ) (x : A) → slice_get (xs ++ y ∷ []) k ≡ Some x → (slice_get xs k ≡ Some x) ⊎ (x ≡ y)
get_pushed [] y zero x at = inr (sym (same_Some y x at))
get_pushed [] y (suc k) x at = absurd (omega (arith, slice_get_within [] k x at))
get_pushed (z ∷ xs) y zero x at = inl at
get_pushed (z ∷ xs) y (suc k) x at = get_pushed xs y k x at

again_itself : (run : Run) → IsAgain run run
again_itself run = record { after = refl; shapes = refl }

again_after : (a b c : Run) → IsAgain a b → IsAgain b c → IsAgain a c
again_after a b c first second = record { after = second.after ∙ first.after; shapes = second.shapes ∙ first.shapes }

-- a run put last that is given once as it says
pub times_pushed : (runs : List Run) (run : Run) → AreTimes runs → run.times ≡ 1 → AreTimes (runs ++ run ∷ [])
times_pushed runs run are single = record {
  some = λ k r at. elim (get_pushed runs run k r at) as (λ _. 0 < r.times) [
    | inl there ↦ are.some k r there
    | inr same ↦ omega (arith, ap (λ (q : Run). q.times) same)
  ];
  same = λ k j r at less. elim (get_pushed runs run k r at) as (λ _. (again : Run) × (slice_get (runs ++ run ∷ []) (k + j) ≡ Some again) × IsAgain r again) [
    | inl there ↦ (
        let one = are.same k j r there less in
        (one.0, get_left runs (run ∷ []) (k + j) (slice_get_within runs (k + j) one.0 one.1) ∙ one.1, one.2))
    | inr same ↦ (
        let first : j ≡ 0 = omega (arith, less, ap (λ (q : Run). q.times) same) in
        let e : k + j ≡ k = omega (arith, first) in
        (r, ap (slice_get (runs ++ run ∷ [])) e ∙ at, again_itself r))
  ];
}

pub run_keeps : (own : List Shape) (runs : List Run) (count new : ℕ) (run : Run) → AreShapes own runs count
    → run.times ≡ 1 → run.after ≡ length own → run.before ≡ count → new ≡ count + length run.path.value.items
    → AreNearAfter run.by (segments_in run.path.value.items) → IsNearBrush run.brush → AreShapes own (runs ++ run ∷ []) new
run_keeps own runs count new run sound single after before total near brush =
    let all = ap length (run_pushed own run 0 0 runs sound.order after) in
    let sum = length-append (shapes_of own runs) (shapes_of_run run) in
    record {
      order = runs_pushed own run 0 0 runs sound.order after (omega (arith, before, sound.total)) near brush;
      times = times_pushed runs run sound.times single;
      total = omega (arith, all, sum, run_length run, sound.total, total);
    }

pub run_shows : (own : List Shape) (runs : List Run) (count : ℕ) (run : Run) → AreShapes own runs count → run.after ≡ length own
    → shapes_of own (runs ++ run ∷ []) ≡ shapes_of own runs ++ shapes_of_run run
run_shows own runs count run sound after = run_pushed own run 0 0 runs sound.order after

-- no run has fewer shapes before it than the first of all
pub none_earlier : (many taken before : ℕ) (runs : List Run) (j : ℕ) (run : Run) → AreRuns many taken before runs
    → slice_get runs j ≡ Some run → before ≤ run.before
none_earlier many taken before [] j run all at = absurd (omega (arith, slice_get_within [] j run at))
none_earlier many taken before (first ∷ runs) zero run (is, rest) at =
    let same : first ≡ run = cc in
    let e : first.before ≡ run.before = ap (λ (r : Run). r.before) same in omega (arith, is.place, is.ascends, e)
none_earlier many taken before (first ∷ runs) (suc j) run (is, rest) at =
    omega (arith, is.place, is.ascends, none_earlier many first.after (first.before + length first.path.value.items) runs j run rest at)

-- if a list has an item where another has the same, the other is long enough
pub within_alike : {A : Type 0} (xs ys : List A) (k j : ℕ) → slice_get xs k ≡ slice_get ys j → k < length xs → j < length ys
within_alike xs ys k j e h = elim (slice_get_cases xs k).1 as (λ _. j < length ys) [
  | inl (x, inside, at, is) ↦ slice_get_within ys j x (sym e ∙ at)
  | inr (past, none) ↦ absurd (omega arith)
]

-- before the first run there are own shapes
pub before_first : (own : List Shape) (taken before : ℕ) (runs : List Run) (k : ℕ) → AreRuns (length own) taken before runs
    → ((run : Run) → slice_get runs 0 ≡ Some run → before + k < run.before) → slice_get (shapes_from own taken runs) k ≡ slice_get own (taken + k)
before_first own taken before [] k few next = get_dropped taken own k
before_first own taken before (run ∷ runs) k (is, rest) next =
    let long = taken_length own taken run.after is.ascends is.within in
    let early : before + k < run.before = next run refl in
    get_left (take (run.after - taken) (drop taken own)) (shapes_of_run run ++ shapes_from own run.after runs) k (omega (arith, long, is.place))
    ∙ get_taken (run.after - taken) (drop taken own) k (omega (arith, is.place, is.ascends)) ∙ get_dropped taken own k

-- from a run on
from_run : (own : List Shape) (taken before : ℕ) (run : Run) (runs : List Run) (k j : ℕ) → IsRun (length own) taken before run → before + k ≡ run.before + j
    → slice_get (shapes_from own taken (run ∷ runs)) k ≡ slice_get (shapes_of_run run ++ shapes_from own run.after runs) j
from_run own taken before run runs k j is e =
    get_right (take (run.after - taken) (drop taken own)) (shapes_of_run run ++ shapes_from own run.after runs) j k
    (omega (arith, is.place, taken_length own taken run.after is.ascends is.within))

less_or_not : (a b : ℕ) → (a < b) ⊎ (b ≤ a)
less_or_not zero zero = inr (omega arith)
less_or_not zero (suc b) = inl (omega arith)
less_or_not (suc a) zero = inr (omega arith)
less_or_not (suc a) (suc b) = elim (less_or_not a b) as (λ _. (suc a < suc b) ⊎ (suc b ≤ suc a)) [ inl h ↦ inl (omega arith) | inr h ↦ inr (omega arith) ]

-- from a run on up to the next
up_to_next : (own : List Shape) (run : Run) (runs : List Run) (j : ℕ) → AreRuns (length own) run.after (run.before + length run.path.value.items) runs
    → ((next : Run) → slice_get runs 0 ≡ Some next → run.before + j < next.before)
    → slice_get (shapes_of_run run ++ shapes_from own run.after runs) j ≡ slice_get (shapes_of_run run ++ drop run.after own) j
up_to_next own run runs j rest next =
    let long = run_length run in
    elim (less_or_not j (length (shapes_of_run run))) as
    (λ _. slice_get (shapes_of_run run ++ shapes_from own run.after runs) j ≡ slice_get (shapes_of_run run ++ drop run.after own) j) [
      | inl less ↦ get_left (shapes_of_run run) (shapes_from own run.after runs) j less ∙ sym (get_left (shapes_of_run run) (drop run.after own) j less)
      | inr more ↦ (
          let i : ℕ = j - length (shapes_of_run run) in
          let e : j ≡ length (shapes_of_run run) + i = omega arith in
          get_right (shapes_of_run run) (shapes_from own run.after runs) i j e
          ∙ before_first own run.after (run.before + length run.path.value.items) runs i rest (λ r at. omega (arith, long, next r at))
          ∙ sym (get_dropped run.after own i) ∙ sym (get_right (shapes_of_run run) (drop run.after own) i j e))
    ]

-- a shape by the last run that has no more shapes before it
at_run : (own : List Shape) (taken before : ℕ) (runs : List Run) (p : ℕ) (run : Run) (k j : ℕ) → AreRuns (length own) taken before runs
    → slice_get runs p ≡ Some run
    → ((next : Run) → slice_get runs (suc p) ≡ Some next → before + k < next.before) → before + k ≡ run.before + j
    → slice_get (shapes_from own taken runs) k ≡ slice_get (shapes_of_run run ++ drop run.after own) j
at_run own taken before [] p run k j all at next e = absurd (omega (arith, slice_get_within [] p run at))
at_run own taken before (first ∷ runs) zero run k j (is, rest) at next e =
    let same : first ≡ run = cc in
    let place : before + k ≡ first.before + j = omega (arith, ap (λ (r : Run). r.before) same) in
    from_run own taken before first runs k j is place
    ∙ up_to_next own first runs j rest (λ r there. omega (arith, next r there))
    ∙ ap (λ (r : Run). slice_get (shapes_of_run r ++ drop r.after own) j) same
at_run own taken before (first ∷ runs) (suc p) run k j (is, rest) at next e =
    let late = none_earlier (length own) first.after (first.before + length first.path.value.items) runs p run rest at in
    let i : ℕ = before + k - first.before in
    let place : before + k ≡ first.before + i = omega (arith, late) in
    let n : ℕ = i - length first.path.value.items in
    let long = run_length first in
    let more : i ≡ length (shapes_of_run first) + n = omega (arith, late, long) in
    let total : first.before + length first.path.value.items + n ≡ before + k = omega (arith, long) in
    from_run own taken before first runs k i is place
    ∙ get_right (shapes_of_run first) (shapes_from own first.after runs) n i more
    ∙ at_run own first.after (first.before + length first.path.value.items) runs p run n j rest at
    (λ r there. omega (arith, total, next r there)) (omega (arith, total, e))

-- a shape by a rank above 0
pub by_rank : (own : List Shape) (runs : List Run) (k rank j : ℕ) (run : Run) → AreRuns (length own) 0 0 runs → IsRank runs k rank → 0 < rank
    → slice_get runs (rank - 1) ≡ Some run → k ≡ run.before + j → slice_get (shapes_of own runs) k ≡ slice_get (shapes_of_run run ++ drop run.after own) j
by_rank own runs k rank j run all is some at e =
    let here : suc (rank - 1) ≡ rank = omega arith in
    at_run own 0 0 runs (rank - 1) run k j all at
    (λ next there. (let less : k < next.before = is.next next (subst (λ n. slice_get runs n ≡ Some next) here there) in omega arith)) (omega arith)

-- a shape by the rank 0
pub by_no_rank : (own : List Shape) (runs : List Run) (k : ℕ) → AreRuns (length own) 0 0 runs → IsRank runs k 0
    → slice_get (shapes_of own runs) k ≡ slice_get own k
by_no_rank own runs k all is =
    before_first own 0 0 runs k all (λ run at. (let less : k < run.before = is.next run at in omega arith)) ∙ ap (slice_get own) (omega arith)

-- a shape of a run, and one after it
pub in_run : (own : List Shape) (run : Run) (j : ℕ) → j < length run.path.value.items
    → slice_get (shapes_of_run run ++ drop run.after own) j ≡ slice_get (shapes_of_run run) j
in_run own run j less = get_left (shapes_of_run run) (drop run.after own) j (omega (arith, run_length run))

pub after_run : (own : List Shape) (run : Run) (j : ℕ) → length run.path.value.items ≤ j
    → slice_get (shapes_of_run run ++ drop run.after own) j ≡ slice_get (drop run.after own) (j - length run.path.value.items)
after_run own run j past =
    get_right (shapes_of_run run) (drop run.after own) (j - length run.path.value.items) j (omega (arith, run_length run))

-- a run stands after no more own shapes than there are
pub run_within : (many taken before : ℕ) (runs : List Run) (p : ℕ) (run : Run) → AreRuns many taken before runs → slice_get runs p ≡ Some run → run.after ≤ many
run_within many taken before [] p run all at = absurd (omega (arith, slice_get_within [] p run at))
run_within many taken before (first ∷ runs) zero run (is, rest) at =
    let same : first ≡ run = cc in omega (arith, is.within, ap (λ (r : Run). r.after) same)
run_within many taken before (first ∷ runs) (suc p) run (is, rest) at =
    run_within many first.after (first.before + length first.path.value.items) runs p run rest at

-- a run's path is near 0 where it is moved, and so are its lengths
pub run_near : (many taken before : ℕ) (runs : List Run) (p : ℕ) (run : Run) → AreRuns many taken before runs → slice_get runs p ≡ Some run
    → AreNearAfter run.by (segments_in run.path.value.items) × IsNearBrush run.brush
run_near many taken before [] p run all at = absurd (omega (arith, slice_get_within [] p run at))
run_near many taken before (first ∷ runs) zero run (is, rest) at =
    let same : first ≡ run = cc in
    subst (λ (r : Run). AreNearAfter r.by (segments_in r.path.value.items) × IsNearBrush r.brush) same (is.near, is.brush)
run_near many taken before (first ∷ runs) (suc p) run (is, rest) at =
    run_near many first.after (first.before + length first.path.value.items) runs p run rest at

-- where there are no runs there are own shapes alone
pub without_runs : (own : List Shape) (runs : List Run) → length runs ≡ 0 → shapes_of own runs ≡ own
without_runs own [] none = refl
without_runs own (run ∷ runs) none = absurd (omega arith)

-- ---- what is noted of a run

same_or_not : (a b : ℕ) → (a ≡ b) ⊎ (a ≢ b)
same_or_not zero zero = inl refl
same_or_not zero (suc b) = inr (λ e. absurd (omega (arith, e)))
same_or_not (suc a) zero = inr (λ e. absurd (omega (arith, e)))
same_or_not (suc a) (suc b) = elim (same_or_not a b) as (λ _. (suc a ≡ suc b) ⊎ (suc a ≢ suc b)) [
  | inl e ↦ inl (ap suc e)
  | inr not ↦ inr (λ e. not (omega (arith, e)))
]

get_set_at : {A : Type 0} (xs : List A) (p : ℕ) (x y : A) → slice_get xs p ≡ Some x → slice_get (slice_set xs p y) p ≡ Some y
get_set_at [] p x y at = absurd (omega (arith, slice_get_within [] p x at))
get_set_at (z ∷ xs) zero x y at = refl
get_set_at (z ∷ xs) (suc p) x y at = get_set_at xs p x y at

get_set_else : {A : Type 0} (xs : List A) (p k : ℕ) (y : A) → k ≢ p → slice_get (slice_set xs p y) k ≡ slice_get xs k
get_set_else [] p k y not = refl
get_set_else (z ∷ xs) zero zero y not = absurd (not refl)
get_set_else (z ∷ xs) zero (suc k) y not = refl
get_set_else (z ∷ xs) (suc p) zero y not = refl
get_set_else (z ∷ xs) (suc p) (suc k) y not = get_set_else xs p k y (λ e. not (ap suc e))

length_set : {A : Type 0} (xs : List A) (p : ℕ) (y : A) → length (slice_set xs p y) ≡ length xs
length_set [] p y = refl
length_set (z ∷ xs) zero y = refl
length_set (z ∷ xs) (suc p) y = ap suc (length_set xs p y)

-- it changes no shape
noted_shapes : (own : List Shape) (taken : ℕ) (runs : List Run) (p : ℕ) (run : Run) (n : ℕ) → slice_get runs p ≡ Some run
    → shapes_from own taken (slice_set runs p (record run { times = n })) ≡ shapes_from own taken runs
noted_shapes own taken [] p run n at = absurd (omega (arith, slice_get_within [] p run at))
noted_shapes own taken (first ∷ runs) zero run n at =
    let same : first ≡ run = cc in
    subst (λ (r : Run). shapes_from own taken (record run { times = n } ∷ runs) ≡ shapes_from own taken (r ∷ runs)) (sym same) refl
noted_shapes own taken (first ∷ runs) (suc p) run n at =
    ap (λ l. take (first.after - taken) (drop taken own) ++ (shapes_of_run first ++ l)) (noted_shapes own first.after runs p run n at)

-- nor a place
noted_order : (many taken before : ℕ) (runs : List Run) (p : ℕ) (run : Run) (n : ℕ) → slice_get runs p ≡ Some run → AreRuns many taken before runs
    → AreRuns many taken before (slice_set runs p (record run { times = n }))
noted_order many taken before [] p run n at are = absurd (omega (arith, slice_get_within [] p run at))
noted_order many taken before (first ∷ runs) zero run n at (is, rest) =
    let same : first ≡ run = cc in
    let all : IsRun many taken before run × AreRuns many run.after (run.before + length run.path.value.items) runs =
    subst (λ (r : Run). IsRun many taken before r × AreRuns many r.after (r.before + length r.path.value.items) runs) same (is, rest) in (
      record { ascends = all.0.ascends; within = all.0.within; place = all.0.place; near = all.0.near; brush = all.0.brush },
      all.1,
    )
noted_order many taken before (first ∷ runs) (suc p) run n at (is, rest) = (
  is,
  noted_order many first.after (first.before + length first.path.value.items) runs p run n at rest,
)

-- a run where one was, with the same shapes
noted_at : (runs : List Run) (p : ℕ) (run : Run) (n k : ℕ) (old : Run) → slice_get runs p ≡ Some run → slice_get runs k ≡ Some old
    → (new : Run) × (slice_get (slice_set runs p (record run { times = n })) k ≡ Some new) × IsAgain old new
noted_at runs p run n k old at there =
    elim (same_or_not k p) as
    (λ _. (new : Run) × (slice_get (slice_set runs p (record run { times = n })) k ≡ Some new) × IsAgain old new) [
      | inl e ↦ (
          let same : old ≡ run = same_Some old run (sym there ∙ ap (slice_get runs) e ∙ at) in
          let noted : Run = record run { times = n } in (
            noted,
            ap (slice_get (slice_set runs p noted)) e ∙ get_set_at runs p run noted at,
            subst (λ (r : Run). IsAgain r noted) (sym same) record { after = refl; shapes = refl },
          ))
      | inr not ↦ (old, get_set_else runs p k (record run { times = n }) not ∙ there, again_itself old)
    ]

-- a run that the next one is, given again, is given once more than that
noted_times : (runs : List Run) (p : ℕ) (run next : Run) → AreTimes runs → slice_get runs p ≡ Some run → slice_get runs (p + 1) ≡ Some next
    → IsAgain run next → AreTimes (slice_set runs p (record run { times = next.times + 1 }))
noted_times runs p run next are at there alike =
    let noted : Run = record run { times = next.times + 1 } in
    let new : List Run = slice_set runs p noted in
    record {
      some = λ k r here. elim (same_or_not k p) as (λ _. 0 < r.times) [
        | inl e ↦ (
            let same : r ≡ noted = same_Some r noted (sym here ∙ ap (slice_get new) e ∙ get_set_at runs p run noted at) in
            omega (arith, ap (λ (q : Run). q.times) same))
        | inr not ↦ are.some k r (sym (get_set_else runs p k noted not) ∙ here)
      ];
      same = λ k j r here less. elim (same_or_not k p) as (λ _. (again : Run) × (slice_get new (k + j) ≡ Some again) × IsAgain r again) [
        | inl e ↦ (
            let same : r ≡ noted = same_Some r noted (sym here ∙ ap (slice_get new) e ∙ get_set_at runs p run noted at) in
            let few : j < next.times + 1 = subst (λ (q : Run). j < q.times) same less in
            later k j r here e same few)
        | inr not ↦ (
            let one = are.same k j r (sym (get_set_else runs p k noted not) ∙ here) less in
            let here_now = noted_at runs p run (next.times + 1) (k + j) one.0 at one.1 in
            (here_now.0, here_now.1, again_after r one.0 here_now.0 one.2 here_now.2))
      ];
    }
  where
    later : (k j : ℕ) (r : Run) → slice_get (slice_set runs p (record run { times = next.times + 1 })) k ≡ Some r → k ≡ p
        → r ≡ record run { times = next.times + 1 } → j < next.times + 1
        → (again : Run) × (slice_get (slice_set runs p (record run { times = next.times + 1 })) (k + j) ≡ Some again) × IsAgain r again
    later k zero r here e same few =
        let new : List Run = slice_set runs p (record run { times = next.times + 1 }) in
        let z : k + 0 ≡ k = omega arith in
        (r, ap (slice_get new) z ∙ here, again_itself r)
    later k (suc i) r here e same few =
        let new : List Run = slice_set runs p (record run { times = next.times + 1 }) in
        let one = are.same (p + 1) i next there (omega arith) in
        let now = noted_at runs p run (next.times + 1) (p + 1 + i) one.0 at one.1 in
        let place : k + suc i ≡ p + 1 + i = omega (arith, e) in
        let first : IsAgain r next = subst (λ (q : Run). IsAgain q next) (sym same) record { after = alike.after; shapes = alike.shapes } in
        (now.0, ap (slice_get new) place ∙ now.1, again_after r next now.0 first (again_after next one.0 now.0 one.2 now.2))

pub noted_kept : (runs : List Run) (p : ℕ) (run next : Run) → slice_get runs p ≡ Some run → slice_get runs (p + 1) ≡ Some next → IsAgain run next
    → AreKept runs (slice_set runs p (record run { times = next.times + 1 }))
noted_kept runs p run next at there alike = record {
  many = length_set runs p (record run { times = next.times + 1 });
  shapes = λ own. noted_shapes own 0 runs p run (next.times + 1) at;
  order = λ many are. noted_order many 0 0 runs p run (next.times + 1) at are;
  times = λ are. noted_times runs p run next are at there alike;
}

-- ---- a run as copies

-- what begins with a run
from_it : (own : List Shape) (taken before : ℕ) (runs : List Run) (p : ℕ) (run : Run) (k : ℕ) → AreRuns (length own) taken before runs
    → slice_get runs p ≡ Some run → before + k ≡ run.before
    → drop k (shapes_from own taken runs) ≡ shapes_of_run run ++ shapes_from own run.after (drop (suc p) runs)
from_it own taken before [] p run k all at e = absurd (omega (arith, slice_get_within [] p run at))
from_it own taken before (first ∷ runs) zero run k (is, rest) at e =
    let same : first ≡ run = cc in
    let front : List Shape = take (first.after - taken) (drop taken own) in
    let long : k ≡ length front = omega (arith, is.place, ap (λ (r : Run). r.before) same, taken_length own taken first.after is.ascends is.within) in
    ap (λ n. drop n (front ++ (shapes_of_run first ++ shapes_from own first.after runs))) long
    ∙ drop-append_seam front (shapes_of_run first ++ shapes_from own first.after runs)
    ∙ ap (λ (r : Run). shapes_of_run r ++ shapes_from own r.after runs) same
from_it own taken before (first ∷ runs) (suc p) run k (is, rest) at e =
    let late = none_earlier (length own) first.after (first.before + length first.path.value.items) runs p run rest at in
    let front : List Shape = take (first.after - taken) (drop taken own) in
    let n : ℕ = run.before - (first.before + length first.path.value.items) in
    let long = taken_length own taken first.after is.ascends is.within in
    let more = from_it own first.after (first.before + length first.path.value.items) runs p run n rest at (omega (arith, late)) in
    let sum = length-append front (shapes_of_run first) in
    let k_is : k ≡ length (front ++ shapes_of_run first) + n = omega (arith, sum, long, is.place, run_length first, late) in
    ap (drop k) (sym (append_assoc front (shapes_of_run first) (shapes_from own first.after runs)))
    ∙ ap (λ m. drop m ((front ++ shapes_of_run first) ++ shapes_from own first.after runs)) k_is
    ∙ drop-append-add (front ++ shapes_of_run first) (shapes_from own first.after runs) n ∙ more

-- what begins with a run, given so many times
begins_again : (own : List Shape) (run : Run) (runs : List Run) (times : ℕ)
    → ((j : ℕ) → j < times → (again : Run) × (slice_get runs j ≡ Some again) × IsAgain run again)
    → (rest : List Shape) × (shapes_from own run.after runs ≡ repeated times (shapes_of_run run) ++ rest)
begins_again own run runs zero are = (shapes_from own run.after runs, refl)
begins_again own run [] (suc times) are =
    let one = are 0 (omega arith) in absurd (omega (arith, slice_get_within [] 0 one.0 one.1))
begins_again own run (first ∷ runs) (suc times) are =
    let one = are 0 (omega arith) in
    let same : first ≡ one.0 = same_Some first one.0 one.1 in
    let alike : IsAgain run first = subst (λ (r : Run). IsAgain run r) (sym same) one.2 in
    let more = begins_again own run runs times (λ j less. are (suc j) (omega arith)) in
    let none : first.after - run.after ≡ 0 = omega (arith, alike.after) in (
      more.0,
      ap (λ n. take n (drop run.after own) ++ (shapes_of_run first ++ shapes_from own first.after runs)) none
          ∙ ap (λ l. l ++ shapes_from own first.after runs) alike.shapes
          ∙ ap (λ n. shapes_of_run run ++ shapes_from own n runs) alike.after
          ∙ ap (λ l. shapes_of_run run ++ l) more.1
          ∙ sym (append_assoc (shapes_of_run run) (repeated times (shapes_of_run run)) more.0),
    )

-- a run that was read, with some shapes, is given so often
pub run_copies : (own : List Shape) (runs : List Run) (p : ℕ) (run : Run) (k count : ℕ) → AreShapes own runs count → slice_get runs p ≡ Some run
    → run.before ≡ k → 0 < length run.path.value.items → AreCopies (shapes_of own runs) k (length run.path.value.items) run.times
run_copies own runs p run k count sound at begins some = given run.times refl (sound.times.some p run at)
  where
    given : (times : ℕ) → times ≡ run.times → 0 < times → AreCopies (shapes_of own runs) k (length run.path.value.items) run.times
    given zero e none = absurd (omega arith)
    given (suc more) e often =
        let next = begins_again own run (drop (suc p) runs) more (λ j less. next_at j (omega (arith, e))) in
        copies_from (shapes_of own runs) k run.times (shapes_of_run run) (length run.path.value.items) next.0 (sym (run_length run)) some
        (omega (arith, e))
        (from_it own 0 0 runs p run k sound.order at (omega (arith, begins)) ∙ ap (λ l. shapes_of_run run ++ l) next.1
        ∙ sym (append_assoc (shapes_of_run run) (repeated more (shapes_of_run run)) next.0)
        ∙ ap (λ n. repeated n (shapes_of_run run) ++ next.0) e)
      where
        next_at : (j : ℕ) → suc j < run.times → (again : Run) × (slice_get (drop (suc p) runs) j ≡ Some again) × IsAgain run again
        next_at j less =
            let one = sound.times.same p (suc j) run at less in
            let place : suc p + j ≡ p + suc j = omega arith in
            (one.0, get_dropped (suc p) runs j ∙ ap (slice_get runs) place ∙ one.1, one.2)

-- a run begins no later than the shapes end
pub begins_within : (own : List Shape) (taken before : ℕ) (runs : List Run) (p : ℕ) (run : Run) → AreRuns (length own) taken before runs
    → slice_get runs p ≡ Some run → run.before ≤ before + length (shapes_from own taken runs)
begins_within own taken before [] p run all at = absurd (omega (arith, slice_get_within [] p run at))
begins_within own taken before (first ∷ runs) zero run (is, rest) at =
    let same : first ≡ run = cc in
    omega (arith, is.place, is.ascends, ap (λ (r : Run). r.before) same, length_with_run own first taken before runs is)
begins_within own taken before (first ∷ runs) (suc p) run (is, rest) at =
    omega (
      arith,
      is.place,
      length_with_run own first taken before runs is,
      begins_within own first.after (first.before + length first.path.value.items) runs p run rest at,
    )

-- up to the next run, or to the end, the shapes are given once
pub up_to_run : (own : List Shape) (runs : List Run) (count k rank start : ℕ) → AreShapes own runs count → IsRank runs k rank → k < length (shapes_of own runs)
    → ((run : Run) → slice_get runs rank ≡ Some run → start ≡ run.before) → (length runs ≤ rank → start ≡ count)
    → (k < start) × AreCopies (shapes_of own runs) k (start - k) 1
up_to_run own runs count k rank start sound is inside some none =
    let ends : (k < start) × (start ≤ length (shapes_of own runs)) =
    elim (slice_get_cases runs rank).1 as (λ _. (k < start) × (start ≤ length (shapes_of own runs))) [
      | inl (run, few, at, same) ↦ (
        omega (arith, is.next run at, some run at),
        omega (arith, some run at, begins_within own 0 0 runs rank run sound.order at),
      )
      | inr (past, absent) ↦ (omega (arith, none past, sound.total), omega (arith, none past, sound.total))
    ] in
    (ends.0, once_alone (shapes_of own runs) k (start - k) (omega (arith, ends.0)) (omega (arith, ends.0, ends.1)))
