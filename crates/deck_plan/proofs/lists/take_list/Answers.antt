use Rattle.std.proofs.Common.{◌∙◌, ap, map, set}
use Rattle.deck_plan.proofs.ReadyLemmas.{taken_list, map_set}
use Rattle.deck_plan.proofs.lists.take_list.Goals as goal

pub returns-clause-list : goal.returns-clause-list
returns-clause-list c =
    ap (λ list. list.items) c.replace.ensures.value
    ∙ taken_list (λ list. list.items) c.args.areas.now.items c.args.name c.index_mut.result.now c.requires c.index_mut.ensures.value

pub returns-clause-left : goal.returns-clause-left
returns-clause-left c =
    map_set (λ list. list.items) c.args.areas.now.items c.args.name c.replace.new.dest
    ∙ ap (set (map (λ list. list.items) c.args.areas.now.items) c.args.name) (ap (λ list. list.items) c.replace.ensures.after ∙ c.new.ensures.items)
