use Rattle.std.proofs.Common.{◌≡◌, ◌+◌, ◌<◌, length, map, [], get_or, slice_get, Some, ap, sym, subst, ◌∙◌, inl, arith}
use Rattle.std.proofs.lemmas.List.{length-set, length-map, map-set}
use Rattle.std.proofs.lemmas.Option.{slice_get-get_or}
use Rattle.cell_tree.specs.HullTables.{AreCellHulls, AreOnlyAmong}
use Rattle.cell_tree.proofs.TableLemmas.{Known, known_more, known_all, only_more}
use Rattle.cell_tree.proofs.hulls.hulls.Goals as goal

pub loop-cell-preserved : goal.loop-cell-preserved
loop-cell-preserved c =
    let cells = c.args.linked.now.cells in let order = c.args.order.now in let i = c.loop-cell.cell-index in let table = c.loop-cell.hulls.items in
    let n = get_or order i 0 in
    let here : slice_get order i ≡ Some n = slice_get-get_or order i 0 c.loop-cell-test.true in
    let inside : n < length (map (λ list. list.items) table) = omega (
      arith,
      length-map table
          (λ list. list.items),
      c.loop-cell.invariant.0,
      c.requires.order.within i 0 c.loop-cell-test.true,
    ) in
    let known = known_more (AreCellHulls cells) [] order
    (map (λ list. list.items) table) i n c.in_ok-own.own.items here inside c.loop-cell.invariant.1
    c.in_ok-own.ensures in
    let only = only_more order (map (λ list. list.items) table) i n c.in_ok-own.own.items here c.loop-cell.invariant.2 in (
      length-set table n c.in_ok-own.own ∙ c.loop-cell.invariant.0,
      subst
          (λ t. Known (AreCellHulls cells) [] order t (i + 1))
          (sym (map-set (λ list. list.items) table n c.in_ok-own.own)) known,
      subst (AreOnlyAmong order) (sym (map-set (λ list. list.items) table n c.in_ok-own.own)) only,
    )

pub loop-cell-init : goal.loop-cell-init
loop-cell-init c = (
  c.in_ok-hulls.ensures.long ∙ ap length c.cells.ensures,
  λ j n before at. absurd (omega (arith, before)),
  λ n. inl (c.in_ok-hulls.ensures.empty n),
)

pub returns-clause-hulls : goal.returns-clause-hulls
returns-clause-hulls c = known_all (AreCellHulls c.args.linked.now.cells) [] c.args.order.now (map (λ list. list.items) c.loop-cell.hulls.items)
    (λ j n before at. c.loop-cell.invariant.1 j n (omega (arith, c.loop-cell-test.false)) at)

pub hulls_of-requires-clause-small : goal.hulls_of-requires-clause-small
hulls_of-requires-clause-small c = λ k m at.
    (let order = c.args.order.now in let i = c.loop-cell.cell-index in
    let before = c.requires.order.upward i (get_or order i 0) k m
    (slice_get-get_or order i 0 c.loop-cell-test.true) at in c.requires.near m (before.0, before.2))
