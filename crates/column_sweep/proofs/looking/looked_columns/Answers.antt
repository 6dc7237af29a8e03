use Rattle.std.proofs.Common.{ℤ, Bool, List, negsuc, ◌^◌, All, subst, sym, ap, ◌∙◌, ◌++◌, arith}
use Rattle.std.proofs.lemmas.Int.{ints}
use Rattle.std.proofs.lemmas.Result.{IfOk-weaker}
use Rattle.std.proofs.lemmas.List.Sorted.{All-permutation, IsPermutation-sym}
use Rattle.std.proofs.lemmas.List.Elements.{All-weaker}
use Rattle.half_grid.specs.Edges.{EdgeParts, IsEdge}
use Rattle.column_sweep.specs.Looking.{IsLookedTo, IsFirstTaken}
use Rattle.column_sweep.specs.Dealing.{RisesPast}
use Rattle.column_sweep.proofs.PartWindings.{first_left, none_before}
use Rattle.column_sweep.proofs.Dealt.{taken_apart}
use Rattle.column_sweep.proofs.LookedColumns.{found_from, looked_none, left_in_balanced, found_at_all}
use Rattle.column_sweep.proofs.looking.looked_columns.Goals as goal

pub loop-cut-init : goal.loop-cut-init
loop-cut-init g c =
    let pre : g.row.F.Denot → ℤ → ℤ → Type 0 = λ rule a b. g.F.Fn.pre rule (a, (b, tt)) in
    let post : g.row.F.Denot → ℤ → ℤ → Bool → Type 0 = λ rule a b r. g.F.Fn.post rule (a, (b, tt)) r in
    let begin = c.begin-looked.ensures in
    let waiting = rw c.as_slice.ensures.value at c.know_edges.ensures in
    let known : All IsEdge c.args.edges.items = All-permutation IsEdge _ _ (IsPermutation-sym _ _ c.sort_for_cuts.ensures.permutation) waiting in
    record {
      looked = rw (begin.from, begin.edges, c.as_slice-later.ensures.value)
          (looked_none (post c.args.rule.now) c.args.edges.items c.args.window (negsuc (2 ^ 44)) _
          (none_before (pre c.args.rule.now)
          (post c.args.rule.now) c.requires.rule c.args.window c.args.edges.items known)
          c.requires.balanced (first_left c.args.edges.items _ c.sort_for_cuts.ensures.permutation waiting) _ begin.found);
      rises = subst (λ (xs : List EdgeParts). All (λ d. RisesPast d.x xs) c.args.cuts.now) (sym c.as_slice-later.ensures.value) c.sort_for_cuts.ensures.rises;
      high = rw begin.from (omega (arith, ints));
    }

pub looked_column-requires-clause-found : goal.looked_column-requires-clause-found
looked_column-requires-clause-found g c =
    found_from _ c.args.window c.loop-cut.looked.from.x c.args.edges.items c.loop-cut.looked.found c.loop-cut.invariant.looked.known

pub split_before-requires : goal.split_before-requires
split_before-requires g c = c.loop-cut.invariant.rises c.loop-cut.cut-index _ (omega arith)

pub loop-cut-preserved : goal.loop-cut-preserved
loop-cut-preserved g c =
    let post : g.row.F.Denot → ℤ → ℤ → Bool → Type 0 = λ rule a b r. g.F.Fn.post rule (a, (b, tt)) r in
    let i = c.loop-cut.invariant in
    let lt = c.is_next.ensures.right c.if-not-is_next.false in
    let within = c.is_next.ensures.within c.if-not-is_next.false in
    let high = within.high in
    let looked = subst (λ (xs : List EdgeParts). IsLookedTo
    (post c.args.rule.now) c.args.edges.items c.args.window c.loop-cut.looked.from.x xs
    c.loop-cut.looked.found)
    (taken_apart c.loop-cut.looked.edges.items _ _ _ c.split_before.ensures.whole ∙ ap
    (λ (xs : List EdgeParts). xs ++ c.split_before.result.1.now) (sym c.in_ok-extend_from_slice.ensures.items))
    i.looked in
    let next = c.in_ok-looked.ensures in
    record {
      looked = rw next.from (next.looked c.args.edges.items c.split_before.result.1.now c.split_before.ensures.right lt looked);
      rises = All-weaker (λ d. RisesPast d.x c.loop-cut.later.now) (λ d. RisesPast d.x c.split_before.result.1.now)
          (λ d. c.split_before.ensures.rises d.x) c.args.cuts.now i.rises;
      high = rw next.from (omega (arith, ints, high));
    }

pub finish-requires-clause-found : goal.finish-requires-clause-found
finish-requires-clause-found g c =
    found_from _ c.args.window c.loop-cut.looked.from.x c.args.edges.items c.loop-cut.looked.found c.loop-cut.invariant.looked.known

pub finish-requires-clause-balanced : goal.finish-requires-clause-balanced
finish-requires-clause-balanced g c = left_in_balanced _ c.loop-cut.looked.from.x c.args.edges.items _ c.loop-cut.invariant.looked.left

pub returns : goal.returns
returns g c =
    let pre : g.row.F.Denot → ℤ → ℤ → Type 0 = λ rule a b. g.F.Fn.pre rule (a, (b, tt)) in
    let post : g.row.F.Denot → ℤ → ℤ → Bool → Type 0 = λ rule a b r. g.F.Fn.post rule (a, (b, tt)) r in
    let i = c.loop-cut.invariant in
    let known : All IsEdge c.args.edges.items = All-permutation IsEdge _ _
    (IsPermutation-sym _ _ c.sort_for_cuts.ensures.permutation)
    (rw c.as_slice.ensures.value at c.know_edges.ensures) in
    IfOk-weaker c.finish.result _ (IsFirstTaken (post c.args.rule.now) c.args.edges.items c.args.window)
    (λ found. found_at_all (pre c.args.rule.now) (post c.args.rule.now) c.requires.rule c.args.edges.items c.args.window known c.requires.balanced found)
    (c.finish.ensures c.args.edges.items i.high known c.requires.balanced i.looked)
