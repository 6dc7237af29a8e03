use Rattle.std.proofs.Common.{◌≡◌, [], ◌∷◌, length, All, subst, sym, ap, ◌∙◌, append_assoc, append-nil, arith}
use Rattle.std.specs.Vec.Iter.{into_iter_items}
use Rattle.oas_reader.specs.Items.{records_in}
use Rattle.oas_reader.specs.Meaning.{named}
use Rattle.oas_reader.specs.Readers.{placings_of, IsPlacingOnGrid}
use Rattle.layout_model.specs.Layouts.{IsPlacementOnGrid}
use Rattle.oas_reader.proofs.finishing.placements_of.Goals as goal
use Rattle.oas_reader.proofs.FinishLemmas.{named_more, nothing_left, grid_more, placed_on_grid}

pub loop-placing-preserved : goal.loop-placing-preserved
loop-placing-preserved c =
    let at = c.loop-placing in
    let x = c.in-Some.placing in
    let steps : into_iter_items at.placing-iterator ≡ x ∷ into_iter_items c.next.new.self = c.in-Some.ensures.steps.0 in (
      append_assoc at.yielded (x ∷ []) _ ∙ rw (← steps) at.invariant.0,
      let was = at.invariant.1 in
          let gone = c.in-Some.ensures.steps.1 in
          let short = ap length steps in
          omega arith,
      λ past are. named_more c.args.bytes.now
          (records_in past) at.yielded x c.in_ok-target.target at.placements c.push.new.self (at.invariant.2 past are)
          (c.in_ok-target.ensures.ok past are) c.in-Ok.ensures.ok,
      grid_more IsPlacingOnGrid IsPlacementOnGrid at.yielded x
          (record { target = c.in_ok-target.target; orient = x.orient; at = x.at; offsets = x.offsets }) at.placements
          c.push.new.self at.invariant.3 (placed_on_grid x c.in_ok-target.target) c.in-Ok.ensures.ok,
    )

pub returns-clause-ok : goal.returns-clause-ok
returns-clause-ok c = λ past are.
    let at = c.loop-placing in
    let none = c.in-None.ensures.steps in
    let empty : into_iter_items at.placing-iterator ≡ [] = nothing_left (into_iter_items at.placing-iterator) (sym at.invariant.1 ∙ none.0) in
    let all = sym (append-nil at.yielded) ∙ rw empty at at.invariant.0 ∙ c.into_iter-placing-iterator.ensures.into_iter_gives.0 in
    at.invariant.2 past are ∙ ap (λ xs. named c.args.bytes.now (records_in past) (placings_of xs)) all

pub returns-clause-grid : goal.returns-clause-grid
returns-clause-grid c = λ on_grid.
    let at = c.loop-placing in
    let none = c.in-None.ensures.steps in
    let empty : into_iter_items at.placing-iterator ≡ [] = nothing_left (into_iter_items at.placing-iterator) (sym at.invariant.1 ∙ none.0) in
    let all = sym (append-nil at.yielded) ∙ rw empty at at.invariant.0 ∙ c.into_iter-placing-iterator.ensures.into_iter_gives.0 in
    at.invariant.3 (subst (All IsPlacingOnGrid) (sym all) on_grid)
