use Rattle.std.proofs.Common.{◌≡◌, ◌<◌, length, get_or, slice_get, Some, None, sym, subst, ◌∙◌, arith}
use Rattle.std.proofs.lemmas.List.{length-set}
use Rattle.std.proofs.lemmas.List.Elements.{All-set}
use Rattle.std.proofs.lemmas.Option.{slice_get-get_or}
use Rattle.cell_tree.specs.Factors.{IsFarthest, IsFarthestOf, IsCapped}
use Rattle.cell_tree.proofs.TableLemmas.{known_more, known_all, known_before}
use Rattle.cell_tree.proofs.FactorLemmas.{is_farthest, mags_on_grid}
use Rattle.cell_tree.proofs.factors.farthest.Goals as goal

pub loop-cell-preserved : goal.loop-cell-preserved
loop-cell-preserved c =
    let cells = c.args.linked.now.cells in let order = c.args.order.now in let i = c.loop-cell.cell-index in
    let table = c.loop-cell.farthest.items in let inv = c.loop-cell.invariant in
    let n = get_or order i 0 in
    let here : slice_get order i ≡ Some n = slice_get-get_or order i 0 c.loop-cell-test.true in
    let inside : n < length table = subst (λ l. n < l) (sym inv.0) (c.requires.order.within i 0 c.loop-cell-test.true) in
    let of : IsFarthestOf cells c.args.only_fixed table n c.farthest_of.result = subst
    (λ h. IsFarthestOf cells c.args.only_fixed h n c.farthest_of.result) c.as_slice.ensures.value
    c.farthest_of.ensures.of in
    let new = is_farthest cells c.args.only_fixed table n c.farthest_of.result of
    (λ m k at. known_before (IsFarthest cells c.args.only_fixed) None order table i m inv.2
    (c.requires.order.upward i n k m here at))
    (λ k p at. mags_on_grid cells c.requires.grid.cells n k p at) in (
      length-set table n c.farthest_of.result ∙ inv.0,
      All-set IsCapped table n c.farthest_of.result c.farthest_of.ensures.capped inv.1,
      known_more (IsFarthest cells c.args.only_fixed) None order table i n c.farthest_of.result here inside inv.2 new,
    )

pub returns-clause-farthest : goal.returns-clause-farthest
returns-clause-farthest c = known_all (IsFarthest c.args.linked.now.cells c.args.only_fixed) None c.args.order.now c.loop-cell.farthest.items
    (λ j n before at. c.loop-cell.invariant.2 j n (omega (arith, c.loop-cell-test.false)) at)
