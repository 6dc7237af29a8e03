use Rattle.layout_model.proofs.StrideLemmas.{finds_near}
use Rattle.layout_model.proofs.strides.Ruler.first_in.Goals as goal

pub returns : goal.returns
returns c = finds_near c.args.interval c.near.result c.args.self c.args.from c.first_near.result c.near.ensures.low
    c.near.ensures.high c.requires.ruler c.first_near.ensures
