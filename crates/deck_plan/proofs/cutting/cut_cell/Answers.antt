use Rattle.std.proofs.Common.{ap, subst, List, length, arith}
use Rattle.layout_model.specs.Repeats.{AreCopies}
use Rattle.layout_model.specs.declared.shapes.Shape.{Shape}
use Rattle.deck_plan.proofs.PieceLemmas.{cell_cut, cell_bare, some_copies}
use Rattle.deck_plan.proofs.cutting.cut_cell.Goals as goal

pub cut_copies-requires-clause-reached : goal.cut_copies-requires-clause-reached
cut_copies-requires-clause-reached c = c.is_bare.ensures.reached c.if-is_bare.false

pub cut_copies-requires-clause-copies : goal.cut_copies-requires-clause-copies
cut_copies-requires-clause-copies c =
    subst (λ (shapes : List Shape). AreCopies shapes c.loop-number.number c.copies_at-copies.result.period c.copies_at-copies.result.times)
    c.shapes_of-shapes.ensures c.copies_at-copies.ensures

pub cut_copies-requires-clause-few : goal.cut_copies-requires-clause-few
cut_copies-requires-clause-few c = let h = c.copies_at-copies.ensures.within in let e = c.len.ensures in omega (arith, h, e)

pub loop-number-preserved : goal.loop-number-preserved
loop-number-preserved c = record { cut = c.in_ok-cut_copies.ensures; few = c.copies_at-copies.ensures.within }

pub loop-number-smaller : goal.loop-number-smaller
loop-number-smaller c =
    let copies = c.copies_at-copies.ensures in
    let some = some_copies c.copies_at-copies.result.period c.copies_at-copies.result.times copies.some copies.once in
    let h = copies.within in
    omega (arith, some, h)

pub returns : goal.returns
returns c =
    let all = ap (λ (shapes : List Shape). length shapes) c.shapes_of-shapes.ensures in
    cell_cut c.args.tree.now.layout.cells c.args.tree.now.top c.loop-number.parts c.args.cell c.loop-number.number
    (omega (arith, all, c.loop-number-test.false, c.len.ensures)) c.loop-number.invariant.cut

pub returns-then-is_bare : goal.returns-then-is_bare
returns-then-is_bare c =
    cell_bare c.args.tree.now.layout.cells c.args.tree.now.top c.args.parts.now c.args.cell (c.is_bare.ensures.bare c.if-is_bare.true) c.requires.before
