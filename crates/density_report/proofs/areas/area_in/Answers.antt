use Rattle.std.proofs.Common.{subst, sym}
use Rattle.bool_ops.specs.Operations.{IsJoinedOf}
use Rattle.half_grid.specs.Windows.{RowRange}
use Rattle.deck_plan.specs.Areas.{IsInBand}
use Rattle.deck_plan.specs.Needs.{IsAskedBand}
use Rattle.density_report.proofs.AreaLemmas.{asked}
use Rattle.density_report.proofs.areas.area_in.Goals as goal

pub area-requires-clause-band : goal.area-requires-clause-band
area-requires-clause-band c = subst (λ (w : RowRange). IsAskedBand w) (sym c.rows_of.ensures) (asked c.args.batch.now c.requires.batch c.requires.few)

pub returns : goal.returns
returns c =
    let p = c.args.plan.now in
    let k = c.args.output in
    record {
      joined = subst (λ (w : RowRange). IsJoinedOf w (IsInBand p.cells p.top p.deck k w) c.in_ok-traps.traps.items)
          c.rows_of.ensures c.in_ok-traps.ensures.joined;
      shots = c.in_ok-traps.ensures.shots;
    }
