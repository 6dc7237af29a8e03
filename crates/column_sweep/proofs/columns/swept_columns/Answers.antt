use Rattle.std.proofs.Common.{ℤ, Bool, List, pos, negsuc, ◌^◌, ◌+◌, All, subst, sym, arith}
use Rattle.std.proofs.lemmas.Int.{ints}
use Rattle.std.proofs.lemmas.Result.{IfOk-weaker}
use Rattle.std.proofs.lemmas.List.Sorted.{All-permutation, IsPermutation-sym}
use Rattle.std.proofs.lemmas.List.Elements.{All-weaker}
use Rattle.half_grid.specs.Edges.{EdgeParts, IsEdge}
use Rattle.trap_join.specs.Joins.{IsTakenIn}
use Rattle.column_sweep.specs.Sewing.{CoverTogether, AreSewn, AreLeft}
use Rattle.column_sweep.specs.Dealing.{RisesPast}
use Rattle.column_sweep.proofs.PartWindings.{first_left, rest_balanced, none_before, none_behind}
use Rattle.column_sweep.proofs.Dealt.{taken_apart}
use Rattle.column_sweep.proofs.Progressing.{swept_none, all_sewn, all_covered}
use Rattle.column_sweep.proofs.columns.swept_columns.Goals as goal

pub loop-cut-init : goal.loop-cut-init
loop-cut-init g c =
    let pre : g.row.F.Denot → ℤ → ℤ → Type 0 = λ rule a b. g.F.Fn.pre rule (a, (b, tt)) in
    let post : g.row.F.Denot → ℤ → ℤ → Bool → Type 0 = λ rule a b r. g.F.Fn.post rule (a, (b, tt)) r in
    let begin = c.begin-progress.ensures in
    let waiting = rw c.as_slice.ensures.value at c.know_edges.ensures in
    let known : All IsEdge c.args.edges.items = All-permutation IsEdge _ _ (IsPermutation-sym _ _ c.sort_for_cuts.ensures.permutation) waiting in
    record {
      left = rw (begin.from, begin.edges, c.as_slice-later.ensures.value) (first_left c.args.edges.items _ c.sort_for_cuts.ensures.permutation waiting);
      swept = rw (begin.from, begin.finals, begin.seams)
          (swept_none (IsTakenIn (post c.args.rule.now) c.args.edges.items c.args.window) c.args.window
          (negsuc (2 ^ 44)) (none_before (pre c.args.rule.now)
          (post c.args.rule.now) c.requires.rule c.args.window c.args.edges.items known));
      rises = subst (λ (xs : List EdgeParts). All (λ d. RisesPast d.x xs) c.args.cuts.now) (sym c.as_slice-later.ensures.value) c.sort_for_cuts.ensures.rises;
      low = rw begin.from (omega (arith, ints));
      high = rw begin.from (omega (arith, ints));
    }

pub split_before-requires : goal.split_before-requires
split_before-requires g c = c.loop-cut.invariant.rises c.loop-cut.cut-index _ (omega arith)

pub loop-cut-preserved : goal.loop-cut-preserved
loop-cut-preserved g c =
    let i = c.loop-cut.invariant in
    let lt = c.is_next.ensures.right c.if-not-is_next.false in
    let within = c.is_next.ensures.within c.if-not-is_next.false in
    let low = i.low in
    let high = within.high in
    let left = subst (λ (xs : List EdgeParts). AreLeft c.loop-cut.progress.from.x c.args.edges.items xs)
    (taken_apart c.loop-cut.progress.edges.items _ _ _ c.split_before.ensures.whole) i.left in
    let next = c.in_ok-progress.ensures in
    record {
      left = rw next.from (next.left c.args.edges.items c.split_before.result.1.now c.split_before.ensures.right lt left);
      swept = rw next.from (next.swept c.args.edges.items c.split_before.result.1.now (negsuc (2 ^ 44)) c.split_before.ensures.right i.low lt left i.swept);
      rises = All-weaker (λ d. RisesPast d.x c.loop-cut.later.now) (λ d. RisesPast d.x c.split_before.result.1.now)
          (λ d. c.split_before.ensures.rises d.x) c.args.cuts.now i.rises;
      low = rw next.from (omega (arith, ints, low, lt));
      high = rw next.from (omega (arith, ints, high));
    }

pub finish-requires-clause-balanced : goal.finish-requires-clause-balanced
finish-requires-clause-balanced g c = rest_balanced c.loop-cut.progress.from.x c.args.edges.items _ c.args.window c.loop-cut.invariant.left c.requires.balanced

pub returns-clause-sewn : goal.returns-clause-sewn
returns-clause-sewn g c =
    let post : g.row.F.Denot → ℤ → ℤ → Bool → Type 0 = λ rule a b r. g.F.Fn.post rule (a, (b, tt)) r in
    let i = c.loop-cut.invariant in
    let known : All IsEdge c.args.edges.items = All-permutation IsEdge _ _
    (IsPermutation-sym _ _ c.sort_for_cuts.ensures.permutation)
    (rw c.as_slice.ensures.value at c.know_edges.ensures) in
    IfOk-weaker c.finish.result _ (λ sewn. AreSewn c.args.window sewn.finals.items sewn.seams.items)
    (λ sewn. all_sewn (IsTakenIn (post c.args.rule.now) c.args.edges.items c.args.window) c.args.window
    (negsuc (2 ^ 44)) (pos (2 ^ 44 + 1)) sewn.finals.items sewn.seams.items)
    (c.finish.ensures.swept c.args.edges.items (negsuc (2 ^ 44)) i.low i.high known c.requires.balanced i.left i.swept)

pub returns-clause-covers : goal.returns-clause-covers
returns-clause-covers g c =
    let pre : g.row.F.Denot → ℤ → ℤ → Type 0 = λ rule a b. g.F.Fn.pre rule (a, (b, tt)) in
    let post : g.row.F.Denot → ℤ → ℤ → Bool → Type 0 = λ rule a b r. g.F.Fn.post rule (a, (b, tt)) r in
    let i = c.loop-cut.invariant in
    let known : All IsEdge c.args.edges.items = All-permutation IsEdge _ _
    (IsPermutation-sym _ _ c.sort_for_cuts.ensures.permutation)
    (rw c.as_slice.ensures.value at c.know_edges.ensures) in
    IfOk-weaker c.finish.result _ (λ sewn. CoverTogether (IsTakenIn (post c.args.rule.now) c.args.edges.items c.args.window) sewn.finals.items sewn.seams.items)
    (λ sewn. all_covered (IsTakenIn (post c.args.rule.now) c.args.edges.items c.args.window) c.args.window
    (negsuc (2 ^ 44)) (pos (2 ^ 44 + 1)) sewn.finals.items sewn.seams.items
    (none_behind (pre c.args.rule.now) (post c.args.rule.now) c.requires.rule c.args.window c.args.edges.items known c.requires.balanced))
    (c.finish.ensures.swept c.args.edges.items (negsuc (2 ^ 44)) i.low i.high known c.requires.balanced i.left i.swept)
