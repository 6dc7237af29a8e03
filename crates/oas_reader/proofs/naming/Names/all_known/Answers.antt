use Rattle.std.proofs.Common.{refl, sym, ◌∙◌}
use Rattle.oas_reader.proofs.naming.Names.all_known.Goals as goal
use Rattle.oas_reader.proofs.NameLemmas.{unknown_in}

pub returns-in-Some-clause-unknown : goal.returns-in-Some-clause-unknown
returns-in-Some-clause-unknown c = λ bytes past are.
    (c.in-Some.at, sym (unknown_in bytes past c.args.self.now are) ∙ sym c.first_stray.ensures ∙ c.in-Some.is, refl)

pub returns-in-None-clause-known : goal.returns-in-None-clause-known
returns-in-None-clause-known c = λ bytes past are. sym (unknown_in bytes past c.args.self.now are) ∙ sym c.first_stray.ensures ∙ c.in-None.is
