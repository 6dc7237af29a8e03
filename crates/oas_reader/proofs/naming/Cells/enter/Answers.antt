use Rattle.std.proofs.Common.{rules, ◌≡◌, None}
use Rattle.oas_reader.specs.Naming.{place_in}
use Rattle.oas_reader.proofs.naming.Cells.enter.Goals as goal
use Rattle.oas_reader.proofs.NameLemmas.{entered}

pub returns-in-Ok-clause-cells : goal.returns-in-Ok-clause-cells
returns-in-Ok-clause-cells c = λ bytes all past r are called.
    let none : place_in c.args.self.now c.args.name.now ≡ None = search rules in
    entered bytes all past c.args.at r c.args.name.now c.args.self.now (record { places = c.insert.new.self })
    (λ other. c.in-Ok.ensures.updates.0 (record c.args.name { now = other })) none are called
