use Rattle.std.proofs.Common.{◌≡◌, [], ◌∷◌, length, All, subst, sym, ap, ◌∙◌, append_assoc, append-nil, arith}
use Rattle.std.specs.Vec.Iter.{into_iter_items}
use Rattle.oas_reader.specs.Items.{records_in}
use Rattle.oas_reader.specs.Finished.{cells_by}
use Rattle.oas_reader.proofs.finishing.cells_by.Goals as goal
use Rattle.oas_reader.proofs.FinishLemmas.{cells_more, nothing_left, grid_more}
use Rattle.oas_reader.specs.Readers.{IsDraftOnGrid}
use Rattle.layout_model.specs.Layouts.{IsCellOnGrid}

pub loop-draft-preserved : goal.loop-draft-preserved
loop-draft-preserved c =
    let at = c.loop-draft in
    let x = c.in-Some.draft in
    let steps : into_iter_items at.draft-iterator ≡ x ∷ into_iter_items c.next.new.self = c.in-Some.ensures.steps.0 in (
      append_assoc at.yielded (x ∷ []) _ ∙ rw (← steps) at.invariant.0,
      let was = at.invariant.1 in
          let gone = c.in-Some.ensures.steps.1 in
          let short = ap length steps in
          omega arith,
      λ past are. cells_more c.args.bytes.now (records_in past) at.yielded x c.in_ok-cell.cell at.cells c.push.new.self
          (at.invariant.2 past are) (c.in_ok-cell.ensures.ok past are) c.in-Ok.ensures.ok,
      grid_more IsDraftOnGrid IsCellOnGrid at.yielded x c.in_ok-cell.cell at.cells c.push.new.self at.invariant.3 c.in_ok-cell.ensures.grid c.in-Ok.ensures.ok,
    )

pub returns-clause-ok : goal.returns-clause-ok
returns-clause-ok c = λ past are.
    let at = c.loop-draft in
    let none = c.in-None.ensures.steps in
    let empty : into_iter_items at.draft-iterator ≡ [] = nothing_left (into_iter_items at.draft-iterator) (sym at.invariant.1 ∙ none.0) in
    let all = sym (append-nil at.yielded) ∙ rw empty at at.invariant.0 ∙ c.into_iter-draft-iterator.ensures.into_iter_gives.0 in
    at.invariant.2 past are ∙ ap (λ xs. cells_by c.args.bytes.now (records_in past) xs) all

pub returns-clause-grid : goal.returns-clause-grid
returns-clause-grid c = λ on_grid.
    let at = c.loop-draft in
    let none = c.in-None.ensures.steps in
    let empty : into_iter_items at.draft-iterator ≡ [] = nothing_left (into_iter_items at.draft-iterator) (sym at.invariant.1 ∙ none.0) in
    let all = sym (append-nil at.yielded) ∙ rw empty at at.invariant.0 ∙ c.into_iter-draft-iterator.ensures.into_iter_gives.0 in
    at.invariant.3 (subst (All IsDraftOnGrid) (sym all) on_grid)
