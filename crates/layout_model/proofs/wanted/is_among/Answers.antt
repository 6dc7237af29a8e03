use Rattle.std.proofs.Common.{◌∙◌}
use Rattle.layout_model.proofs.wanted.is_among.Goals as goal
use Rattle.layout_model.proofs.PairLemmas.{searched_pair}

pub returns : goal.returns
returns c =
    c.is_ok.ensures.value
    ∙ searched_pair c.args.sorted.now c.args.pair c.binary_search.result c.binary_search.ensures.bound c.binary_search.ensures.position c.requires
