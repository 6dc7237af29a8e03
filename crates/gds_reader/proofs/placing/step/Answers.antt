use Rattle.std.proofs.Common.{rules, FitsSigned, w64, ◌≤◌, arith, sym, subst}
use Rattle.std.proofs.lemmas.Int.{to_z-of_z}
use Rattle.gds_reader.specs.Steppings.{IsPartOf}
use Rattle.gds_reader.proofs.placing.step.Goals as goal
use Rattle.gds_reader.proofs.StepLemmas.{stepping, part_x, part_y}

pub returns-in-None-clause-none : goal.returns-in-None-clause-none
returns-in-None-clause-none c = λ d.
    let fits : FitsSigned w64 c.way_between-way.result.x = search rules in
    let none = simp to_z-of_z at c.in-None.ensures.none in
    none (d.1.0).x (subst (λ w. IsPartOf c.args.count w (d.1.0).x) (sym c.way_between-way.ensures.x) (part_x c.args.count c.args.from c.args.to d))

pub returns-in-None-part-clause-none : goal.returns-in-None-part-clause-none
returns-in-None-part-clause-none c = λ d.
    let fits : FitsSigned w64 c.way_between-way.result.y = search rules in
    let none = simp to_z-of_z at c.in-None-part.ensures.none in
    none (d.1.0).y (subst (λ w. IsPartOf c.args.count w (d.1.0).y) (sym c.way_between-way.ensures.y) (part_y c.args.count c.args.from c.args.to d))

pub returns-in-Some-part-clause-exact : goal.returns-in-Some-part-clause-exact
returns-in-Some-part-clause-exact c =
    let some : 1 ≤ c.args.count = omega arith in
    let way_x : FitsSigned w64 c.way_between-way.result.x = search rules in
    let way_y : FitsSigned w64 c.way_between-way.result.y = search rules in
    let x : FitsSigned w64 c.in-Some.x = search rules in
    let y : FitsSigned w64 c.in-Some-part.y = search rules in
    let across = simp to_z-of_z at c.in-Some.ensures.part in
    let upward = simp to_z-of_z at c.in-Some-part.ensures.part in
    simp to_z-of_z (stepping c.args.count c.args.from c.args.to (record { x = c.in-Some.x; y = c.in-Some-part.y }) some
    (subst (λ w. IsPartOf c.args.count w c.in-Some.x) c.way_between-way.ensures.x across)
    (subst (λ w. IsPartOf c.args.count w c.in-Some-part.y) c.way_between-way.ensures.y upward))
