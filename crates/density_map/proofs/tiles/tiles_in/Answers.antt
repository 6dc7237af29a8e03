use Rattle.std.proofs.Common.{FitsSigned, w64, ◌∙◌, ap, sym, subst, arith, rules}
use Rattle.std.proofs.lemmas.Int.{ints, to_z-of_z}
use Rattle.half_grid.specs.Windows.{RowRange}
use Rattle.density_map.specs.Wedges.{AreRowsOf, count_in_rows}
use Rattle.density_map.proofs.ClipLemmas.{none_wide, none_shared, shared_rows_are, count_shared}
use Rattle.density_map.proofs.tiles.tiles_in.Goals as goal

pub returns-then-frame : goal.returns-then-frame
returns-then-frame c =
    let f0 : FitsSigned w64 c.args.frame.now.x0 = search rules in
    let f1 : FitsSigned w64 c.args.frame.now.x1 = search rules in
    let test = simp to_z-of_z at c.if-frame.true in
    record { value = none_wide c.args.trap.now c.args.frame.now (omega (arith, ints, test)) }

pub returns-in_default : goal.returns-in_default
returns-in_default c = record { value = none_shared c.args.trap.now c.args.frame.now c.shared_rows.ensures.shot.legal c.in_default.ensures.rows }

pub tiles_of_rows-requires-clause-rows : goal.tiles_of_rows-requires-clause-rows
tiles_of_rows-requires-clause-rows c =
    let f0 : FitsSigned w64 c.args.frame.now.x0 = search rules in
    let f1 : FitsSigned w64 c.args.frame.now.x1 = search rules in
    let test = simp to_z-of_z at c.if-frame.false in
    subst (λ (r : RowRange). AreRowsOf c.args.trap.now c.args.frame.now r) (sym c.in-Some.ensures.rows.1)
    (shared_rows_are c.args.trap.now c.args.frame.now (omega (arith, ints, test)) c.in-Some.ensures.rows.0)

pub returns : goal.returns
returns c =
    record {
      value = c.tiles_of_rows.ensures ∙ ap
          (λ (r : RowRange). count_in_rows c.args.frame.now r c.args.trap.now) c.in-Some.ensures.rows.1
          ∙ count_shared c.args.trap.now c.args.frame.now c.in-Some.ensures.rows.0;
    }
