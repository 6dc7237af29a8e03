use Rattle.std.proofs.Common.{w64, FitsSigned, rules}
use Rattle.std.proofs.lemmas.Int.{to_z-of_z}
use Rattle.deck_plan.proofs.ExtentLemmas.{shared_is}
use Rattle.deck_plan.proofs.extents.shared_rows.Goals as goal

pub returns : goal.returns
returns c =
    let low : FitsSigned w64 c.later_start.result = search rules in
    let high : FitsSigned w64 c.earlier_end.result = search rules in
    let is = simp to_z-of_z at c.new.ensures in
    shared_is c.args.a c.args.b c.later_start.result c.earlier_end.result c.new.result c.later_start.ensures c.earlier_end.ensures is
