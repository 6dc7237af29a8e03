use Rattle.layout_model.proofs.StrideLemmas.{rows_stride, alike_none, alike_there}
use Rattle.layout_model.proofs.strides.Ruler.first_alike.Goals as goal

pub first_in-requires-clause-stride : goal.first_in-requires-clause-stride
first_in-requires-clause-stride c = rows_stride c.args.self c.rows.result c.requires.ruler c.rows.ensures.start c.rows.ensures.step

pub returns-in-Some-2 : goal.returns-in-Some-2
returns-in-Some-2 c =
    alike_there c.args.interval c.args.self c.rows.result c.args.from c.in-Some.found c.requires.ruler.some_columns
    c.requires.alike c.rows.ensures.start c.rows.ensures.step (λ e. c.if-found-row.false e) c.in-Some.ensures

pub returns-in-None : goal.returns-in-None
returns-in-None c = alike_none c.args.interval c.args.self c.rows.result c.args.from c.requires.ruler.some_columns
    c.requires.alike c.rows.ensures.start c.rows.ensures.step c.in-None.ensures
