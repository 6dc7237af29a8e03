use Rattle.std.proofs.Common.{◌≡◌, ◌+◌, ◌*◌, subst, arith}
use Rattle.layout_model.specs.Strides.{mark, HasNoneBetween}
use Rattle.layout_model.proofs.StrideLemmas.{row_stride, row_none, row_found}
use Rattle.layout_model.proofs.strides.Ruler.first_in_row.Goals as goal

pub first_in-requires-clause-stride : goal.first_in-requires-clause-stride
first_in-requires-clause-stride c = row_stride c.args.self c.row.result c.args.row c.requires.ruler c.requires.inside c.row.ensures.start c.row.ensures.step

pub returns-in-Some : goal.returns-in-Some
returns-in-Some c = row_found c.args.interval c.args.self c.row.result c.args.row c.args.column c.in-Some.column
    c.row.ensures.start c.row.ensures.step c.in-Some.ensures

pub returns-in-None : goal.returns-in-None
returns-in-None c =
    let s = c.args.self in
    let long : c.args.row * s.nu + s.nu ≡ (c.args.row + 1) * s.nu = omega arith in
    subst (HasNoneBetween c.args.interval (mark s) (c.args.row * s.nu + c.args.column)) long
    (row_none c.args.interval s c.row.result c.args.row c.args.column s.nu c.row.ensures.start c.row.ensures.step (omega arith) c.in-None.ensures)
