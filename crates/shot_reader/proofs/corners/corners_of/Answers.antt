use Rattle.std.proofs.Common.{FitsSigned, w64, rules, arith}
use Rattle.std.proofs.lemmas.Int.{to_z-of_z, ints}
use Rattle.shot_reader.proofs.corners.corners_of.Goals as goal

pub returns : goal.returns
returns c =
    let x : FitsSigned w64 c.args.fields.now.x = search rules in
    let y : FitsSigned w64 c.args.fields.now.y = search rules in
    let l : FitsSigned w64 c.args.fields.now.left_delta = search rules in
    let r : FitsSigned w64 c.args.fields.now.right_delta = search rules in
    let a : FitsSigned w64 c.with_least-bottom_left.result.0 = search rules in
    let b : FitsSigned w64 c.with_least-bottom_left.result.1 = search rules in
    let d : FitsSigned w64 c.with_greatest-bottom_right.result.0 = search rules in
    let e : FitsSigned w64 c.with_greatest-bottom_right.result.1 = search rules in
    let least = simp to_z-of_z at c.with_least-bottom_left.ensures.least in
    let left = simp to_z-of_z at c.with_least-bottom_left.ensures.delta in
    let greatest = simp to_z-of_z at c.with_greatest-bottom_right.ensures.greatest in
    let right = simp to_z-of_z at c.with_greatest-bottom_right.ensures.delta in
    record {
      bottom_left_y = search rules;
      bottom_right_y = search rules;
      top_left_y = search rules;
      top_right_y = search rules;
      left = simp to_z-of_z (omega (arith, ints));
      right = simp to_z-of_z (omega (arith, ints));
      least = simp to_z-of_z least;
      greatest = simp to_z-of_z greatest;
    }
