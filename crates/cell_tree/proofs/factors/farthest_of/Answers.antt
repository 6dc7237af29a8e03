use Rattle.std.proofs.Common.{◌≡◌, ◌+◌, Some, None, length, get_or, slice_get, sym, ap, subst, ◌∙◌, arith}
use Rattle.std.proofs.lemmas.List.{length-map}
use Rattle.std.proofs.lemmas.Option.{slice_get_within, slice_get-get_or}
use Rattle.cell_tree.specs.Cells.{placements_at, targets_at, cell_number}
use Rattle.cell_tree.specs.Factors.{better}
use Rattle.cell_tree.proofs.SlotLemmas.{slot_read}
use Rattle.cell_tree.proofs.FactorLemmas.{SoFar, far_more}
use Rattle.cell_tree.proofs.factors.farthest_of.Goals as goal

pub loop-k-preserved : goal.loop-k-preserved
loop-k-preserved c =
    let cells = c.args.linked.now.cells in let n = c.args.cell in let k = c.loop-k.k in
    let placement = c.index-placements-k.result in let target = get_or c.targets-target-items.result.now k None in
    let e = c.better-best.ensures ∙ ap (better c.loop-k.best) c.through.ensures in
    subst (SoFar cells c.args.only_fixed c.args.farthest.now n (k + 1)) (sym e)
    (far_more cells c.args.only_fixed c.args.farthest.now n k c.loop-k.best placement target c.loop-k.invariant
    (subst (λ l. slice_get l k ≡ Some placement) c.placements-placements.ensures
    (slot_read c.placements-placements.result.now k placement
    (omega (
      arith,
      ap length c.placements-placements.ensures,
      ap length c.targets-target-items.ensures.value,
      length-map (placements_at c.args.linked.now.cells c.args.cell)
          (λ p. cell_number c.args.linked.now.cells p.target),
    )) c.index-placements-k.is))
    (subst (λ l. slice_get l k ≡ Some target) c.targets-target-items.ensures.value
    (slice_get-get_or c.targets-target-items.result.now k None c.loop-k-test.true)))

pub returns-clause-of : goal.returns-clause-of
returns-clause-of c =
    let so = c.loop-k.invariant in
    record {
      here = so.1;
      above = λ far leads. so.2 far leads
          (let within = slice_get_within (targets_at c.args.linked.now.cells c.args.cell) leads.number
          (Some leads.target) leads.places in
          omega (arith, c.loop-k-test.false, ap length c.targets-target-items.ensures.value));
      from = so.3;
    }
