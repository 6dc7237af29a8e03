use Rattle.std.proofs.Common.{rules, ◌≡◌, [], ◌∷◌, ◌++◌, ◌+◌, take, refl, sym, ap, subst, ◌∙◌}
use Rattle.std.proofs.lemmas.List.{take_more}
use Rattle.oas_reader.specs.Items.{records_in}
use Rattle.oas_reader.specs.Finished.{cell_item, cell_items}
use Rattle.oas_reader.specs.Names.{first_twins, cell_name}
use Rattle.oas_reader.specs.Naming.{AreCellsOf, cell_record}
use Rattle.oas_reader.proofs.FinishLemmas.{items_more, called_back, distinct_more, twin_found}
use Rattle.oas_reader.proofs.finishing.look_at_cells.Goals as goal

pub loop-draft-init : goal.loop-draft-init
loop-draft-init c = λ past are. (c.new-cells.ensures.cells c.args.bytes.now (records_in past), refl)

pub loop-draft-preserved : goal.loop-draft-preserved
loop-draft-preserved c = λ past are.
    let bytes = c.args.bytes.now in
    let all = records_in past in
    let before = take c.loop-draft.draft-index c.args.drafts.now in
    let draft = c.draft-item.result in
    let inv = c.loop-draft.invariant past are in
    let taken : take (c.loop-draft.draft-index + 1) c.args.drafts.now ≡ before ++ draft ∷ [] = search (rules, take_more) in
    let e : cell_items (take (c.loop-draft.draft-index + 1) c.args.drafts.now) ≡ cell_item draft ∷ cell_items before =
    ap cell_items taken ∙ items_more before draft in
    let called = ap (cell_name bytes all) (called_back draft.called) ∙ c.in_ok-name.ensures.ok past are in (
      subst (λ xs. AreCellsOf bytes all xs c.enter.new.self) (sym e)
          (c.in-Ok.ensures.cells bytes all (cell_items before) (cell_record draft.called) inv.0 called),
      ap (first_twins bytes all) e
          ∙ distinct_more bytes all (cell_items before) draft.at (cell_record draft.called) c.in_ok-name.name.now inv.1 called
          (c.in-Ok.ensures.new bytes all (cell_items before) inv.0),
    )

pub returns-in-Err-clause-twins : goal.returns-in-Err-clause-twins
returns-in-Err-clause-twins c = λ past are.
    let bytes = c.args.bytes.now in
    let all = records_in past in
    let before = take c.loop-draft.draft-index c.args.drafts.now in
    let draft = c.draft-item.result in
    let inv = c.loop-draft.invariant past are in
    let taken : take (c.loop-draft.draft-index + 1) c.args.drafts.now ≡ before ++ draft ∷ [] = search (rules, take_more) in
    twin_found bytes all c.args.drafts.now c.loop-draft.draft-index draft c.in_ok-name.name.now c.in-Err.bad inv.1 (c.in_ok-name.ensures.ok past are) taken
    (c.in-Err.ensures.twin bytes all (cell_items before) inv.0)
