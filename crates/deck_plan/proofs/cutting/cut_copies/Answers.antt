use Rattle.std.proofs.Common.{◌-◌, ◌*◌, ◌+◌, ℕ, List, sym, subst, arith}
use Rattle.std.proofs.lemmas.Result.{on_ok_weaker}
use Rattle.half_grid.specs.Trapezoids.{Trapezoid}
use Rattle.deck_plan.specs.Plans.{AreCutUpTo}
use Rattle.deck_plan.proofs.PieceLemmas.{in_table, others_are, copies_more}
use Rattle.deck_plan.proofs.cutting.cut_copies.Goals as goal

pub reserve-requires : goal.reserve-requires
reserve-requires c =
    in_table c.args.tree.now.layout.cells c.args.tree.now.top c.args.parts.now c.args.cell c.args.number c.requires.cell c.requires.before

pub cut_some-requires-clause-inside : goal.cut_some-requires-clause-inside
cut_some-requires-clause-inside c =
    let others = others_are c.args.copies.period c.args.copies.times c.requires.copies.once in
    let within = c.requires.copies.within in
    omega (arith, others, within)

pub push_none-requires : goal.push_none-requires
push_none-requires c =
    in_table c.args.tree.now.layout.cells c.args.tree.now.top c.cut_some.new.parts c.args.cell (c.args.number + c.args.copies.period)
    c.requires.cell c.in_ok-cut_some.ensures

pub returns : goal.returns
returns c =
    let cells = c.args.tree.now.layout.cells in
    let top = c.args.tree.now.top in
    let copies = c.args.copies in
    let n = c.args.number in
    let again : ℕ = (copies.times - 1) * copies.period in
    let next : ℕ = n + copies.times * copies.period in
    let others = others_are copies.period copies.times c.requires.copies.once in
    on_ok_weaker c.push_none.result
    (λ is. subst (λ (table : List (List (List Trapezoid))). AreCutUpTo cells top table c.args.cell next) (sym is)
    (copies_more cells top c.cut_some.new.parts c.args.cell (n + copies.period) c.requires.cell c.in_ok-cut_some.ensures
    n copies.period copies.times again next c.requires.reached c.requires.copies (omega arith) (omega (arith, others)) (omega arith)))
    c.push_none.ensures.ok
