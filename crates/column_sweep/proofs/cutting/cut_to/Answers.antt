use Rattle.std.proofs.Common.{rules, length, ◌<◌, ◌≡◌, ◌∙◌, ℕ, suc, ◌+◌, List, set, slice_index_or, sym, ap, arith}
use Rattle.half_grid.specs.Edges.{EdgeParts}
use Rattle.column_sweep.specs.Cutting.{in_rows_of}
use Rattle.column_sweep.proofs.CutLemmas.{changed_up_to, changed_none, changed_all, changed_at, changed_next, changed_same}
use Rattle.column_sweep.proofs.cutting.cut_to.Goals as goal
use Rattle.column_sweep.proofs.cutting.cut_to.Goals.{then-overhangs, else-overhangs}

pub loop-n-init : goal.loop-n-init
loop-n-init c = sym (changed_none (in_rows_of c.args.window) c.args.edges.now.items)

pub loop-n-preserved : goal.loop-n-preserved
loop-n-preserved c =
    let f = in_rows_of c.args.window in
    let old = c.args.edges.now.items in
    let n = c.loop-n.n in
    let same : c.len-n-end.result ≡ length old = search rules in
    let inside : n < length old = omega (arith, same, c.loop-n-test.true) in
    let up : suc n ≡ n + 1 = omega arith in
    let further : changed_up_to f (suc n) old ≡ changed_up_to f (n + 1) old = ap (λ (k : ℕ). changed_up_to f k old) up in
    let was : (d : EdgeParts) → d ≡ slice_index_or c.loop-n.edges.items n d → d ≡ slice_index_or old n d =
    λ d at. at ∙ ap (λ (es : List EdgeParts). slice_index_or es n d) c.loop-n.invariant ∙ changed_at f n old d in
    elim c.if-overhangs.branch [
      | then-overhangs w ↦
          ap (λ v. v.items) w.edges-is ∙ ap (λ (es : List EdgeParts). set es n w.in_rows_of.result) c.loop-n.invariant
          ∙ ap (λ (e : EdgeParts). set (changed_up_to f n old) n e)
          (w.in_rows_of.ensures ∙ ap f (was w.index-then-overhangs.result.now w.index-then-overhangs.ensures))
          ∙ changed_next f n old w.index-then-overhangs.result.now inside ∙ further
      | else-overhangs w ↦
          ap (λ v. v.items) w.edges-is ∙ c.loop-n.invariant
          ∙ changed_same f n old c.index.result.now inside
          (ap f (sym (was c.index.result.now c.index.ensures)) ∙ c.overhangs.ensures.no w.if-overhangs.false
          ∙ was c.index.result.now c.index.ensures)
          ∙ further
    ]

pub returns : goal.returns
returns c =
    let same : c.len-n-end.result ≡ length c.args.edges.now.items = search rules in
    c.loop-n.invariant ∙ changed_all (in_rows_of c.args.window) c.loop-n.n c.args.edges.now.items (omega (arith, same, c.loop-n-test.false))
