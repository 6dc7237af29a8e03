use Rattle.std.proofs.Common.{◌≡◌, ◌<◌, ◌≤◌, ◌-◌, ℕ, List, Some, length, slice_get, get_or, refl, sym, ap, subst, ◌∙◌, arith}
use Rattle.std.proofs.lemmas.Option.{slice_get_read}
use Rattle.layout_model.specs.Repeats.{AreCopies}
use Rattle.layout_model.specs.ShapeLists.{shapes_of, AreShapes, IsRank}
use Rattle.layout_model.specs.declared.shapes.Shape.{Shape}
use Rattle.layout_model.specs.declared.shape_lists.Run.{Run}
use Rattle.layout_model.proofs.ShapeListLemmas.{run_copies, up_to_run}
use Rattle.layout_model.proofs.shape_lists.Shapes.copies_at.Goals as goal

-- a run that begins there, as it was read
begun : (own : List Shape) (runs read : List Run) (shapes : List Shape) (count k rank many : ℕ) (run : Run) → AreShapes own runs count → IsRank runs k rank
    → read ≡ runs → 0 < rank → run ≡ get_or read (rank - 1) run → run.before ≡ k → many ≡ length run.path.value.items → 0 < many
    → shapes_of own runs ≡ shapes → AreCopies shapes k many run.times
begun own runs read shapes count k rank many run sound is alike some at begins items more all =
    let here : slice_get runs (rank - 1) ≡ Some run =
    slice_get_read runs (length runs) (rank - 1) run refl (omega (arith, is.within)) (subst (λ l. run ≡ get_or l (rank - 1) run) alike at) in
    subst (λ l. AreCopies l k many run.times) all
    (subst (λ n. AreCopies (shapes_of own runs) k n run.times) (sym items)
    (run_copies own runs (rank - 1) run k count sound here begins (subst (λ n. 0 < n) items more)))

-- no run begins there, as it was read
between : (own : List Shape) (runs read : List Run) (shapes : List Shape) (count k rank start : ℕ) → AreShapes own runs count → IsRank read k rank
    → read ≡ runs → k < length shapes → ((run : Run) → slice_get read rank ≡ Some run → start ≡ run.before) → (length read ≤ rank → start ≡ count)
    → shapes_of own runs ≡ shapes → (k < start) × AreCopies shapes k (start - k) 1
between own runs read shapes count k rank start sound is alike inside some none all =
    subst (λ l. (k < start) × AreCopies l k (start - k) 1) all
    (up_to_run own runs count k rank start sound (subst (λ l. IsRank l k rank) alike is) (subst (λ l. k < length l) (sym all) inside)
    (subst (λ l. (run : Run) → slice_get l rank ≡ Some run → start ≡ run.before) alike some) (subst (λ l. length l ≤ rank → start ≡ count) alike none))

pub returns-then-many-gt0 : goal.returns-then-many-gt0
returns-then-many-gt0 c =
    begun c.self.inside.own c.self.inside.runs c.as_slice-runs.result.now c.args.self.now c.self.inside.count c.args.k c.rank-rank.result
    (length c.as_slice-many.result.now) c.index-runs-rank.result c.self.invariant
    (subst (λ l. IsRank l c.args.k c.rank-rank.result) c.as_slice-runs.ensures c.rank-rank.ensures) c.as_slice-runs.ensures
    c.if-rank-gt0.true c.index-runs-rank.is c.if-run-k.true
    (ap length (c.as_slice-many.ensures.value ∙ ap (λ v. v.items) c.deref.ensures)) c.if-many-gt0.true c.self.view_is

pub overflow_sub-result : goal.overflow_sub-result
overflow_sub-result c =
    let there = between c.self.inside.own c.self.inside.runs c.as_slice-runs.result.now c.args.self.now c.self.inside.count c.args.k
    c.rank-rank.result c.start_of.result c.self.invariant c.rank-rank.ensures c.as_slice-runs.ensures c.requires.inside
    c.start_of.ensures.some c.start_of.ensures.none c.self.view_is in
    omega (arith, there.0)

pub returns : goal.returns
returns c =
    (between c.self.inside.own c.self.inside.runs c.as_slice-runs.result.now c.args.self.now c.self.inside.count c.args.k
    c.rank-rank.result c.start_of.result c.self.invariant c.rank-rank.ensures c.as_slice-runs.ensures c.requires.inside
    c.start_of.ensures.some c.start_of.ensures.none c.self.view_is).1
