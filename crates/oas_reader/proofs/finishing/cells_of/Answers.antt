use Rattle.std.proofs.Common.{◌≡◌, None, ◌∷◌, map, inl, ap, ◌∙◌}
use Rattle.std.proofs.lemmas.List.Elements.{All-same}
use Rattle.std.proofs.lemmas.Result.{IfErr-weaker}
use Rattle.geo_stream.specs.Refusals.{IsForFault}
use Rattle.layout_model.specs.Layouts.{AreDistinct}
use Rattle.layout_model.specs.declared.cells.Cell.{Cell}
use Rattle.oas_reader.specs.Behind.{AreCellsBehind}
use Rattle.oas_reader.specs.Finished.{AreTwins, cells_by, cell_items}
use Rattle.oas_reader.specs.Items.{records_in}
use Rattle.oas_reader.specs.Names.{first_twins}
use Rattle.oas_reader.specs.Reading.{IsFaultOfNames}
use Rattle.oas_reader.specs.Readers.{IsDraftWithin, IsDraftOnGrid, whole_cell}
use Rattle.oas_reader.proofs.CellLemmas.{all_of, all_within, all_grid, all_cells}
use Rattle.oas_reader.proofs.BehindLemmas.{ok_with, cells_are_behind, distinct_behind, fault_behind}
use Rattle.oas_reader.proofs.finishing.cells_of.Goals as goal

pub distinct_cells-requires-clause-within : goal.distinct_cells-requires-clause-within
distinct_cells-requires-clause-within c =
    All-same (IsDraftWithin c.args.bytes.now) c.in-Ok-finish.drafts.items (all_of c.args.drafts) c.in-Ok-finish.ensures
    (all_within c.args.bytes.now c.args.drafts c.requires.within)

pub returns-in-Err-clause-bad : goal.returns-in-Err-clause-bad
returns-in-Err-clause-bad c = λ wanted past last names are ends none. inl (c.in-Err.ensures.unknown c.args.bytes.now (last ∷ past) names)

pub returns-in-Ok-finish-clause-ok : goal.returns-in-Ok-finish-clause-ok
returns-in-Ok-finish-clause-ok c = λ wanted past last names are ends none.
    let bytes = c.args.bytes.now in
    let all = records_in (last ∷ past) in
    let drafts = c.in-Ok-finish.drafts.items in
    let whole = ap (map whole_cell) c.in-Ok-finish.ensures ∙ all_cells wanted (last ∷ past) c.args.drafts are in
    let known = c.in-Ok.ensures.known bytes (last ∷ past) names in
    ok_with c.distinct_cells.result (λ cells. cells ≡ cells_by bytes all drafts) (first_twins bytes all (cell_items drafts) ≡ None)
    (AreCellsBehind bytes wanted (last ∷ past)) (λ cells is distinct. cells_are_behind bytes wanted past last drafts cells ends none whole known is distinct)
    (c.distinct_cells.ensures.ok (last ∷ past) names) (c.distinct_cells.ensures.distinct (last ∷ past) names)

pub returns-in-Ok-finish-clause-grid : goal.returns-in-Ok-finish-clause-grid
returns-in-Ok-finish-clause-grid c =
    c.distinct_cells.ensures.grid
    (All-same IsDraftOnGrid c.in-Ok-finish.drafts.items (all_of c.args.drafts) c.in-Ok-finish.ensures
    (all_grid c.args.bytes.now c.args.drafts c.requires.within))

pub returns-in-Ok-finish-clause-names : goal.returns-in-Ok-finish-clause-names
returns-in-Ok-finish-clause-names c = λ wanted past last names are ends none.
    let bytes = c.args.bytes.now in
    let all = records_in (last ∷ past) in
    let drafts = c.in-Ok-finish.drafts.items in
    let whole = ap (map whole_cell) c.in-Ok-finish.ensures ∙ all_cells wanted (last ∷ past) c.args.drafts are in
    let known = c.in-Ok.ensures.known bytes (last ∷ past) names in
    ok_with c.distinct_cells.result (λ cells. cells ≡ cells_by bytes all drafts) (first_twins bytes all (cell_items drafts) ≡ None)
    (λ cells. AreDistinct (map (λ (cell : Cell). cell.name) cells))
    (λ cells is distinct. distinct_behind bytes all wanted (last ∷ past) drafts cells whole known is distinct)
    (c.distinct_cells.ensures.ok (last ∷ past) names) (c.distinct_cells.ensures.distinct (last ∷ past) names)

pub returns-in-Ok-finish-clause-bad : goal.returns-in-Ok-finish-clause-bad
returns-in-Ok-finish-clause-bad c = λ wanted past last names are ends none.
    let bytes = c.args.bytes.now in
    let all = records_in (last ∷ past) in
    let drafts = c.in-Ok-finish.drafts.items in
    let whole = ap (map whole_cell) c.in-Ok-finish.ensures ∙ all_cells wanted (last ∷ past) c.args.drafts are in
    let known = c.in-Ok.ensures.known bytes (last ∷ past) names in
    IfErr-weaker c.distinct_cells.result (IsForFault (AreTwins bytes all (cell_items drafts))) (IsForFault (IsFaultOfNames bytes (last ∷ past)))
    (λ refusal twins. fault_behind bytes wanted (last ∷ past) drafts refusal whole known twins) (c.distinct_cells.ensures.twins (last ∷ past) names)
