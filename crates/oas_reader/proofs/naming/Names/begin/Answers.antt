use Rattle.std.proofs.Common.{rules, ◌≡◌, None, refl, sym, ap, subst, ◌∙◌}
use Rattle.oas_record.specs.declared.fields.Called.TheVariants.{Number}
use Rattle.oas_reader.specs.Items.{text_in}
use Rattle.oas_reader.specs.Naming.{cell_in, cell_record, AreNamesOf}
use Rattle.oas_reader.specs.Names.{conflict_of}
use Rattle.oas_reader.specs.Reading.{item}
use Rattle.std.proofs.Common.{◌∷◌}
use Rattle.oas_reader.proofs.naming.Names.begin.Goals as goal
use Rattle.oas_reader.proofs.NameLemmas.{begun_text, none_conflicts}

pub returns-in_ok-mention-in-Number-clause-new : goal.returns-in_ok-mention-in-Number-clause-new
returns-in_ok-mention-in-Number-clause-new c = λ past are.
    ap (λ k. conflict_of c.args.bytes.now past (cell_record k)) c.in-Number.is ∙ none_conflicts c.args.bytes.now past

pub returns-in_ok-mention-in-Number-clause-names : goal.returns-in_ok-mention-in-Number-clause-names
returns-in_ok-mention-in-Number-clause-names c = λ past are.
    subst (λ k. AreNamesOf c.args.bytes.now (item c.args.at (cell_record k) ∷ past) c.mention.new.self) (sym c.in-Number.is)
    (c.in_ok-mention-in-Number.ensures.names c.args.bytes.now past (cell_record (Number c.in-Number.number)) are
    (record { written = refl; claims = refl; gives = refl; counts = refl }))

pub returns-in-Ok-clause-names : goal.returns-in-Ok-clause-names
returns-in-Ok-clause-names c = λ past are.
    let none : cell_in c.args.self.now (text_in c.args.bytes.now (c.in-Text.first, c.in-Text.next)) ≡ None = search rules in
    let new = record c.args.self.now { cells = c.insert.new.self } in
    subst (λ k. AreNamesOf c.args.bytes.now (item c.args.at (cell_record k) ∷ past) new) (sym c.in-Text.is)
    (begun_text c.args.bytes.now past c.args.at c.in-Text.first c.in-Text.next c.args.self.now new
    (λ other. c.in-Ok.ensures.updates.0 (record { ref_ptr = c.args.bytes.ref_ptr; now = other })) none refl refl refl refl are)
