use Rattle.std.proofs.Common.{◌≡◌, ℕ, ◌++◌, ◌-◌, ◌<◌, ◌≤◌, List, Some, length, drop, slice_get, get_or, refl, subst, ap, ◌∙◌, arith}
use Rattle.std.proofs.lemmas.Option.{slice_get_read}
use Rattle.layout_model.specs.ShapeLists.{AreRuns, shapes_of, shapes_of_run, IsRank}
use Rattle.layout_model.specs.declared.shapes.Shape.{Shape}
use Rattle.layout_model.specs.declared.shape_lists.Run.{Run}
use Rattle.layout_model.proofs.ShapeListLemmas.{by_rank, by_no_rank, within_alike, in_run, after_run, run_within, run_near}
use Rattle.layout_model.proofs.shape_lists.shape_among.Goals as goal

own_alike : (own : List Shape) (runs : List Run) (k rank : ℕ) → AreRuns (length own) 0 0 runs → IsRank runs k rank → rank ≡ 0
    → slice_get (shapes_of own runs) k ≡ slice_get own k
own_alike own runs k rank all is none = by_no_rank own runs k all (subst (IsRank runs k) none is)

pub own_shape-requires : goal.own_shape-requires
own_shape-requires c =
    let own = c.args.own.now in let runs = c.args.runs.now in
    within_alike (shapes_of own runs) own c.args.k c.args.k
    (own_alike own runs c.args.k c.rank-rank.result c.requires.runs c.rank-rank.ensures c.if-rank-eq0.true) c.requires.inside

pub returns-then-rank-eq0 : goal.returns-then-rank-eq0
returns-then-rank-eq0 c =
    own_alike c.args.own.now c.args.runs.now c.args.k c.rank-rank.result c.requires.runs c.rank-rank.ensures c.if-rank-eq0.true ∙ c.own_shape.ensures

-- the run that was read
read : (runs : List Run) (k rank : ℕ) (run : Run) → IsRank runs k rank → (rank ≡ 0 → ⊥) → run ≡ get_or runs (rank - 1) run
    → slice_get runs (rank - 1) ≡ Some run
read runs k rank run is some at = slice_get_read runs (length runs) (rank - 1) run refl (omega (arith, is.within)) at

-- a run that was read has no more shapes before it
not_after : (runs : List Run) (k rank : ℕ) (run : Run) → IsRank runs k rank → (rank ≡ 0 → ⊥) → run ≡ get_or runs (rank - 1) run → run.before ≤ k
not_after runs k rank run is some at = is.last (rank - 1) run (omega arith) (read runs k rank run is some at)

by_run : (own : List Shape) (runs : List Run) (k rank : ℕ) (run : Run) → AreRuns (length own) 0 0 runs → IsRank runs k rank → (rank ≡ 0 → ⊥)
    → run ≡ get_or runs (rank - 1) run → slice_get (shapes_of own runs) k ≡ slice_get (shapes_of_run run ++ drop run.after own) (k - run.before)
by_run own runs k rank run all is some at =
    by_rank own runs k rank (k - run.before) run all is (omega arith) (read runs k rank run is some at) (omega (arith, not_after runs k rank run is some at))

pub overflow_sub-j : goal.overflow_sub-j
overflow_sub-j c =
    not_after c.args.runs.now c.args.k c.rank-rank.result c.index-runs-rank.result c.rank-rank.ensures c.if-rank-eq0.false c.index-runs-rank.is

after_it : (own : List Shape) (runs : List Run) (k rank many : ℕ) (run : Run) → AreRuns (length own) 0 0 runs → IsRank runs k rank
    → (rank ≡ 0 → ⊥) → run ≡ get_or runs (rank - 1) run → many ≡ length run.path.value.items → many ≤ k - run.before
    → slice_get (shapes_of own runs) k ≡ slice_get (drop run.after own) (k - run.before - many)
after_it own runs k rank many run all is some at items past =
    rw items
    (by_run own runs k rank run all is some at
    ∙ after_run own run (k - run.before) (subst (λ n. n ≤ k - run.before) items past))

pub shape_of_run-requires-clause-near : goal.shape_of_run-requires-clause-near
shape_of_run-requires-clause-near c =
    (run_near (length c.args.own.now) 0 0 c.args.runs.now (c.rank-rank.result - 1) c.index-runs-rank.result c.requires.runs
    (read c.args.runs.now c.args.k c.rank-rank.result c.index-runs-rank.result c.rank-rank.ensures c.if-rank-eq0.false c.index-runs-rank.is)).0

pub shape_of_run-requires-clause-brush : goal.shape_of_run-requires-clause-brush
shape_of_run-requires-clause-brush c =
    (run_near (length c.args.own.now) 0 0 c.args.runs.now (c.rank-rank.result - 1) c.index-runs-rank.result c.requires.runs
    (read c.args.runs.now c.args.k c.rank-rank.result c.index-runs-rank.result c.rank-rank.ensures c.if-rank-eq0.false c.index-runs-rank.is)).1

pub returns-then-j-segments : goal.returns-then-j-segments
returns-then-j-segments c =
    let run = c.index-runs-rank.result in
    let many : length c.as_slice-segments.result.now ≡ length run.path.value.items =
    ap length (c.as_slice-segments.ensures.value ∙ ap (λ v. v.items) c.deref.ensures) in
    let less : c.args.k - run.before < length run.path.value.items = subst (λ n. c.args.k - run.before < n) many c.if-j-segments.true in
    by_run c.args.own.now c.args.runs.now c.args.k c.rank-rank.result run c.requires.runs c.rank-rank.ensures c.if-rank-eq0.false c.index-runs-rank.is
    ∙ in_run c.args.own.now run (c.args.k - run.before) less ∙ c.shape_of_run.ensures

pub own_after-requires-clause-after : goal.own_after-requires-clause-after
own_after-requires-clause-after c =
    run_within (length c.args.own.now) 0 0 c.args.runs.now (c.rank-rank.result - 1) c.index-runs-rank.result c.requires.runs
    (read c.args.runs.now c.args.k c.rank-rank.result c.index-runs-rank.result c.rank-rank.ensures c.if-rank-eq0.false c.index-runs-rank.is)

pub own_after-requires-clause-inside : goal.own_after-requires-clause-inside
own_after-requires-clause-inside c =
    let own = c.args.own.now in let runs = c.args.runs.now in let run = c.index-runs-rank.result in
    within_alike (shapes_of own runs) (drop run.after own) c.args.k (c.args.k - run.before - length c.as_slice-segments.result.now)
    (after_it own runs c.args.k c.rank-rank.result (length c.as_slice-segments.result.now) run c.requires.runs
    c.rank-rank.ensures c.if-rank-eq0.false c.index-runs-rank.is
    (ap length (c.as_slice-segments.ensures.value ∙ ap (λ v. v.items) c.deref.ensures)) c.if-j-segments.false) c.requires.inside

pub returns : goal.returns
returns c =
    let own = c.args.own.now in let runs = c.args.runs.now in let run = c.index-runs-rank.result in
    after_it own runs c.args.k c.rank-rank.result (length c.as_slice-segments.result.now) run c.requires.runs c.rank-rank.ensures
    c.if-rank-eq0.false c.index-runs-rank.is
    (ap length (c.as_slice-segments.ensures.value ∙ ap (λ v. v.items) c.deref.ensures)) c.if-j-segments.false
    ∙ c.own_after.ensures
