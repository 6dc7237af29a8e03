use Rattle.std.proofs.Common.{w64}
use Rattle.std.proofs.lemmas.Int.{to_z-of_z}
use Rattle.layout_model.proofs.StrideLemmas.{near_fits}
use Rattle.layout_model.proofs.RulerLemmas.{columns_reach, rows_reach, marks_reach, marks_nth}
use Rattle.layout_model.proofs.offsets.Grid.ruler.Goals as goal

pub step_on-requires-clause-reach : goal.step_on-requires-clause-reach
step_on-requires-clause-reach c = columns_reach c.args.self.nu c.args.self.nv c.args.self.u c.args.self.v c.args.axis c.requires

pub step_on-requires-2-clause-reach : goal.step_on-requires-2-clause-reach
step_on-requires-2-clause-reach c = rows_reach c.args.self.nu c.args.self.nv c.args.self.u c.args.self.v c.args.axis c.requires

pub returns-clause-ruler : goal.returns-clause-ruler
returns-clause-ruler c =
    let s = c.args.self in
    let u = c.step_on in
    let v = c.step_on-2 in
    rw (
      c.from.ensures,
      c.from-2.ensures,
      to_z-of_z w64 u.result
          (near_fits u.result u.ensures.near),
      to_z-of_z w64 v.result (near_fits v.result v.ensures.near),
    ) (record {
      some_columns = c.requires.some_columns;
      few_columns = c.requires.few_columns;
      some_rows = c.requires.some_rows;
      few_rows = c.requires.few_rows;
      u = u.ensures.near;
      v = v.ensures.near;
      reach = marks_reach s.nu s.nv s.u s.v c.args.axis u.result v.result c.requires u.ensures.same v.ensures.same;
    })

pub returns-clause-same : goal.returns-clause-same
returns-clause-same c = λ k inside.
    let s = c.args.self in
    let u = c.step_on in
    let v = c.step_on-2 in
    rw (c.from.ensures, to_z-of_z w64 u.result (near_fits u.result u.ensures.near), to_z-of_z w64 v.result (near_fits v.result v.ensures.near))
    (marks_nth s.nu s.nv s.u s.v c.args.axis u.result v.result k c.requires.some_columns u.ensures.same v.ensures.same inside)
