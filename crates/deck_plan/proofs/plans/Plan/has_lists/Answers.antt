use Rattle.std.proofs.Common.{arith}
use Rattle.deck_plan.proofs.ListsExist.{output_list}
use Rattle.deck_plan.proofs.plans.Plan.has_lists.Goals as goal

pub returns : goal.returns
returns c =
    let plan = c.args.self.now in
    let s = c.deck-deck.ensures.sound.2 in
    output_list plan.cells plan.top plan.deck s.steps c.layers_are_near.ensures s.frame c.args.output c.named-named.result
    c.named-named.ensures.named (omega (arith, c.named-named.ensures.inside, s.few_steps))
