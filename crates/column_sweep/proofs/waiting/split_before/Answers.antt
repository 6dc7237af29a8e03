use Rattle.std.proofs.Common.{rules, ◌≡◌, ◌∷◌, ◌≤ℤ◌, All, drop, subst, sym, ◌∙◌}
use Rattle.column_sweep.specs.Dealing.{RisesPast}
use Rattle.column_sweep.specs.Parts.{LiesRight}
use Rattle.column_sweep.specs.Waiting.{least_x}
use Rattle.column_sweep.proofs.Dealt.{right_of_first, next_of_drop, more_than_dropped, whole_again}
use Rattle.column_sweep.proofs.waiting.split_before.Goals as goal

pub loop-edge-preserved : goal.loop-edge-preserved
loop-edge-preserved c =
    let i = c.loop-edge.invariant in
    let left : c.in-Some.edge.now ∷ c.in-Some.rest.now ≡ drop c.loop-edge.count c.args.waiting.now = sym c.in-Some.ensures.cases.0 ∙ i.left in
    record {
      bound = more_than_dropped c.loop-edge.count c.args.waiting.now _ _ left;
      left = next_of_drop c.loop-edge.count c.args.waiting.now _ _ left;
      rises = λ x up. (let rest = rw c.in-Some.ensures.cases.0 at (i.rises x up) in rest.1);
    }

pub returns-then-cut-least_x-clause-whole : goal.returns-then-cut-least_x-clause-whole
returns-then-cut-least_x-clause-whole c = whole_again _ _ _ _ c.split_at.ensures.front c.split_at.ensures.back

pub returns-then-cut-least_x-clause-rises : goal.returns-then-cut-least_x-clause-rises
returns-then-cut-least_x-clause-rises c = λ x up.
    subst (RisesPast x) (c.loop-edge.invariant.left ∙ sym c.split_at.ensures.back) (c.loop-edge.invariant.rises x up)

pub returns-then-cut-least_x-clause-right : goal.returns-then-cut-least_x-clause-right
returns-then-cut-least_x-clause-right c =
    let le : c.args.cut.x ≤ℤ c.least_x.result.x = search rules in
    let at : c.args.cut.x ≤ℤ (least_x c.in-Some.edge.now).x = rw c.least_x.ensures at le in
    let up = rw c.in-Some.ensures.cases.0 at (c.loop-edge.invariant.rises c.args.cut.x c.requires) in
    subst (All (LiesRight c.args.cut.x))
    (sym c.in-Some.ensures.cases.0 ∙ (c.loop-edge.invariant.left ∙ sym c.split_at.ensures.back))
    (right_of_first c.args.cut.x _ _ at up)

pub returns-clause-whole : goal.returns-clause-whole
returns-clause-whole c = whole_again _ _ _ _ c.split_at-2.ensures.front c.split_at-2.ensures.back

pub returns-clause-rises : goal.returns-clause-rises
returns-clause-rises c = λ x up.
    subst (RisesPast x) (c.loop-edge.invariant.left ∙ sym c.split_at-2.ensures.back) (c.loop-edge.invariant.rises x up)
