use Rattle.std.proofs.Common.{◌∙◌, ap, cond, Some}
use Rattle.gds_reader.specs.Names.{same_name}
use Rattle.gds_reader.proofs.naming.Names.put.Goals as goal

pub returns-in-Ok : goal.returns-in-Ok
returns-in-Ok c = record {
  ok = λ bytes past names other.
      c.in-Ok.ensures.updates.0 (record c.args.name { now = other }) ∙ ap (cond (same_name c.args.name.now other) (Some c.args.at)) (names other);
}
