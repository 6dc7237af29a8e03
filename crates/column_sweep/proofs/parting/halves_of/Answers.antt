use Rattle.std.proofs.Common.{◌≡◌, ◌∙◌, sym, subst, Option, All}
use Rattle.std.specs.Option.{option_to_list}
use Rattle.half_grid.specs.Edges.{EdgeParts}
use Rattle.half_grid.specs.declared.plane.Line.TheVariants.{Rising, Falling}
use Rattle.column_sweep.specs.Parts.{LiesLeft, LiesRight}
use Rattle.column_sweep.proofs.Halving.{add_left, add_right, parts_add, add_other_way, rising_left, rising_right, falling_left, falling_right}
use Rattle.column_sweep.proofs.parting.halves_of.Goals as goal

pub returns-then-c-cut-clause-add : goal.returns-then-c-cut-clause-add
returns-then-c-cut-clause-add c = add_left c.args.edge.now

pub returns-else-c-cut-clause-add : goal.returns-else-c-cut-clause-add
returns-else-c-cut-clause-add c = add_right c.args.edge.now

pub returns-in-Rising-clause-add : goal.returns-in-Rising-clause-add
returns-in-Rising-clause-add c = rw (c.part_below.ensures, c.part_above.ensures) (parts_add c.passing-level.result.y c.args.edge.now)

pub returns-in-Rising-clause-left : goal.returns-in-Rising-clause-left
returns-in-Rising-clause-left c =
    let line : c.args.edge.now.line ≡ Rising c.in-Rising.field-0 = sym c.line-2.ensures.value ∙ c.in-Rising.is in
    let at = c.passing-level.ensures.rising c.in-Rising.field-0 (c.line.ensures.value ∙ line) in
    subst (λ (p : Option EdgeParts). All (LiesLeft c.args.cut.x) (option_to_list p)) (sym c.part_below.ensures)
    (rising_left c.args.cut.x c.in-Rising.field-0 c.passing-level.result.y c.args.edge.now line at)

pub returns-in-Rising-clause-right : goal.returns-in-Rising-clause-right
returns-in-Rising-clause-right c =
    let line : c.args.edge.now.line ≡ Rising c.in-Rising.field-0 = sym c.line-2.ensures.value ∙ c.in-Rising.is in
    let at = c.passing-level.ensures.rising c.in-Rising.field-0 (c.line.ensures.value ∙ line) in
    subst (λ (p : Option EdgeParts). All (LiesRight c.args.cut.x) (option_to_list p)) (sym c.part_above.ensures)
    (rising_right c.args.cut.x c.in-Rising.field-0 c.passing-level.result.y c.args.edge.now line at)

pub returns-in-Falling-clause-add : goal.returns-in-Falling-clause-add
returns-in-Falling-clause-add c =
    let both = add_other_way _ _ _ (parts_add c.passing-level.result.y c.args.edge.now) in
    rw (c.part_below-in-Falling.ensures, c.part_above-in-Falling.ensures) both

pub returns-in-Falling-clause-left : goal.returns-in-Falling-clause-left
returns-in-Falling-clause-left c =
    let line : c.args.edge.now.line ≡ Falling c.in-Falling.field-0 = sym c.line-2.ensures.value ∙ c.in-Falling.is in
    let at = c.passing-level.ensures.falling c.in-Falling.field-0 (c.line.ensures.value ∙ line) in
    subst (λ (p : Option EdgeParts). All (LiesLeft c.args.cut.x) (option_to_list p))
    (sym c.part_above-in-Falling.ensures)
    (falling_left c.args.cut.x c.in-Falling.field-0 c.passing-level.result.y c.args.edge.now line at)

pub returns-in-Falling-clause-right : goal.returns-in-Falling-clause-right
returns-in-Falling-clause-right c =
    let line : c.args.edge.now.line ≡ Falling c.in-Falling.field-0 = sym c.line-2.ensures.value ∙ c.in-Falling.is in
    let at = c.passing-level.ensures.falling c.in-Falling.field-0 (c.line.ensures.value ∙ line) in
    subst (λ (p : Option EdgeParts). All (LiesRight c.args.cut.x) (option_to_list p))
    (sym c.part_below-in-Falling.ensures)
    (falling_right c.args.cut.x c.in-Falling.field-0 c.passing-level.result.y c.args.edge.now line at)
