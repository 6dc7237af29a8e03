use Rattle.std.proofs.Common.{◌≡◌, ◌<◌, length, get_or, slice_get, Some, sym, subst, ◌∙◌, arith}
use Rattle.std.proofs.lemmas.List.{length-set}
use Rattle.std.proofs.lemmas.Option.{slice_get-get_or}
use Rattle.cell_tree.specs.Cells.{targets_at}
use Rattle.cell_tree.specs.Heights.{IsHeight, IsHeightOf}
use Rattle.cell_tree.proofs.TableLemmas.{known_more, known_all, known_before}
use Rattle.cell_tree.proofs.HeightLemmas.{is_height}
use Rattle.cell_tree.proofs.heights.heights.Goals as goal

pub loop-cell-preserved : goal.loop-cell-preserved
loop-cell-preserved c =
    let cells = c.args.linked.now.cells in let order = c.args.order.now in let i = c.loop-cell.cell-index in let table = c.loop-cell.heights.items in
    let n = get_or order i 0 in
    let here : slice_get order i ≡ Some n = slice_get-get_or order i 0 c.loop-cell-test.true in
    let inside : n < length table = subst (λ l. n < l) (sym c.loop-cell.invariant.0) (c.requires.within i 0 c.loop-cell-test.true) in
    let of : IsHeightOf (targets_at cells n) table c.height_of.result =
    subst (λ t. IsHeightOf t table c.height_of.result) c.targets.ensures.value
    (subst (λ h. IsHeightOf c.targets.result.now h c.height_of.result) c.as_slice.ensures.value
    c.height_of.ensures) in
    let new = is_height cells n c.height_of.result table of
    (λ k m at. known_before (IsHeight cells) 0 order table i m c.loop-cell.invariant.1
    (c.requires.upward i n k m here at)) in (
      length-set table n c.height_of.result ∙ c.loop-cell.invariant.0,
      known_more
          (IsHeight cells) 0 order table i n c.height_of.result here inside c.loop-cell.invariant.1 new,
    )

pub returns-clause-heights : goal.returns-clause-heights
returns-clause-heights c = known_all (IsHeight c.args.linked.now.cells) 0 c.args.order.now c.loop-cell.heights.items
    (λ j n before at. c.loop-cell.invariant.1 j n (omega (arith, c.loop-cell-test.false)) at)
