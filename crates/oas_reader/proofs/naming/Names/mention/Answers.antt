use Rattle.std.proofs.Common.{rules, ◌≡◌, None, true, nat_eq, refl, ◌∙◌}
use Rattle.std.specs.Prelude.{is_some}
use Rattle.indexmap.specs.IndexMap.{get}
use Rattle.indexmap.proofs.CallerLemmas.{insert_entry-new}
use Rattle.oas_reader.proofs.naming.Names.mention.Goals as goal
use Rattle.oas_reader.proofs.NameLemmas.{mentioned_again, mentioned_first}

pub returns-then-is_some-clause-names : goal.returns-then-is_some-clause-names
returns-then-is_some-clause-names c = λ bytes past r are mentions.
    let there : is_some (get nat_eq c.args.self.now.used c.args.number) ≡ true = search rules in
    mentioned_again bytes past c.args.self.now c.args.at r c.args.number are mentions there

pub returns-in-Ok-clause-names : goal.returns-in-Ok-clause-names
returns-in-Ok-clause-names c = λ bytes past r are mentions.
    let none : get nat_eq c.args.self.now.used c.args.number ≡ None = search rules in
    mentioned_first bytes past c.args.self.now (record c.args.self.now { used = c.insert.new.self }) c.args.at r c.args.number are mentions refl refl refl refl
    (c.in-Ok.ensures.entries ∙ insert_entry-new nat_eq c.args.self.now.used c.args.number c.args.at none)
