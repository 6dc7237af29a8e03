use Rattle.std.proofs.Common.{◌≡◌, inr, length, subst, arith}
use Rattle.deck_plan.specs.OwnLayers.{IsLeftOut}
use Rattle.deck_plan.proofs.plans.Plan.next_entry.Goals as goal

-- it has no list, and none is taken
pub returns-then-is_left_out-clause-entry : goal.returns-then-is_left_out-clause-entry
returns-then-is_left_out-clause-entry c =
    let number : c.len.result ≡ length c.args.areas.now.items = omega (arith, c.len.ensures) in
    let out = c.is_left_out.ensures c.if-is_left_out.true in
    inr (c.new.ensures.items, inr (subst (IsLeftOut c.args.self.now.deck c.args.needs.now.by_name) number out))
