use Rattle.std.proofs.Common.{◌∙◌, sym}
use Rattle.deck_plan.proofs.ReadyLemmas.{let_go_list}
use Rattle.deck_plan.proofs.lists.let_go_one.Goals as goal

pub returns-then-ends_at : goal.returns-then-ends_at
returns-then-ends_at c = let_go_list
    (λ list. list.items) c.args.areas.now.items c.new.result c.args.needs.now.by_name c.args.user c.args.operand
    c.in-Some.operand c.in-Some.is (sym c.ends_at.ensures ∙ c.if-ends_at.true) c.new.ensures.items
