use Rattle.layout_model.proofs.StrideLemmas.{near_found, near_finds}
use Rattle.layout_model.proofs.strides.Ruler.first_near.Goals as goal

pub returns-in-Some : goal.returns-in-Some
returns-in-Some c = near_found c.args.interval c.args.self c.args.from c.in-Some.place c.requires.ruler.some_columns c.requires.inside c.in-Some.ensures

pub returns : goal.returns
returns c = near_finds c.args.interval c.args.self c.args.from c.first_in_rows.result c.requires.ruler.some_columns c.in_default.ensures c.first_in_rows.ensures
