use Rattle.std.proofs.Common.{FitsSigned, w64, rules, ◌∙◌}
use Rattle.std.proofs.lemmas.Int.{to_z-of_z}
use Rattle.edge_events.proofs.ByNumber.{key_same}
use Rattle.edge_events.proofs.number.EventNumber.key.Goals as goal

pub returns : goal.returns
returns c =
    let fits : FitsSigned w64 c.moved_back.result = search rules in
    simp to_z-of_z (c.moved_back.ensures ∙ key_same c.args.self c.requires)
