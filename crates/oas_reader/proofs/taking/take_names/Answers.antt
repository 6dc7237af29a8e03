use Rattle.std.proofs.Common.{◌≡◌, None, OnOk, refl, sym, subst, ◌∙◌}
use Rattle.oas_reader.specs.Items.{records_in}
use Rattle.oas_reader.specs.Names.{conflict_of}
use Rattle.oas_reader.proofs.TakeLemmas.{silent_by, silent, name_back, calls_by, no_conflict}
use Rattle.oas_reader.proofs.taking.take_names.Goals as goal

pub returns-in-CellName-clause-new : goal.returns-in-CellName-clause-new
returns-in-CellName-clause-new c = λ past r e are.
    let is = name_back r _ (sym c.in-CellName.is ∙ e) refl in
    subst (λ s. OnOk c.take_cell_name.result (conflict_of c.args.bytes.now past s ≡ None)) is (c.take_cell_name.ensures.new past are)

pub returns-in-Cell-clause-new : goal.returns-in-Cell-clause-new
returns-in-Cell-clause-new c = λ past r e are.
    let is = name_back r _ (sym c.in-Cell.is ∙ e) refl in
    subst (λ s. OnOk c.take_cell.result (conflict_of c.args.bytes.now past s ≡ None)) is (c.take_cell.ensures.new past are)

pub returns-in_ok-place-in-Placement-clause-new : goal.returns-in_ok-place-in-Placement-clause-new
returns-in_ok-place-in-Placement-clause-new c = λ past r e are.
    let calls = calls_by c.args.bytes.now (records_in past) r c.in-Placement.called c.in-Placement.flips c.in-Placement.turning (sym c.in-Placement.is ∙ e) in
    no_conflict c.args.bytes.now past r calls.claims

pub returns-in_ok-place-in-Placement-clause-names : goal.returns-in_ok-place-in-Placement-clause-names
returns-in_ok-place-in-Placement-clause-names c = λ past r e are.
    let calls = calls_by c.args.bytes.now (records_in past) r c.in-Placement.called c.in-Placement.flips c.in-Placement.turning (sym c.in-Placement.is ∙ e) in
    c.in_ok-place-in-Placement.ensures.names c.args.bytes.now past r are calls

pub returns-in_default : goal.returns-in_default
returns-in_default c =
    let is = c.in_default in
    let s = silent c.args.bytes.now c.args.at c.args.body (silent_by c.args.body is.not-CellName is.not-Cell is.not-Placement) in
    record {
      own = s.own;
      new = λ past r e are. s.new past r e;
      names = λ past r e are. s.names past r c.args.names.now e are;
      spans = λ spans. spans;
      cell = λ wanted past r e begins are. absurd (let no = sym begins ∙ s.begins r e in cc);
      drafts = λ r e begins. refl;
      within = λ within. within;
      bad = λ past r e are. tt;
    }
