use Rattle.std.proofs.Common.{◌+ℤ◌, FitsSigned, w64, rules, refl, arith}
use Rattle.std.proofs.lemmas.Int.{to_z-of_z, ints}
use Rattle.oas_lex.proofs.ForCallers.{same_fields}
use Rattle.shot_repeat.specs.Values.{moved}
use Rattle.shot_repeat.proofs.Standing.{fits_sum}
use Rattle.shot_repeat.proofs.giving.stepped.Goals as goal

pub returns : goal.returns
returns c =
    let f = c.args.fields.now in
    let left : FitsSigned w64 c.args.fields.now.left_delta = search rules in
    let right : FitsSigned w64 c.args.fields.now.right_delta = search rules in
    let x : FitsSigned w64 c.args.fields.now.x = search rules in
    let y : FitsSigned w64 c.args.fields.now.y = search rules in
    let step_x : FitsSigned w64 c.args.step.x = search rules in
    let step_y : FitsSigned w64 c.args.step.y = search rules in
    let sum_x : FitsSigned w64 (c.args.fields.now.x +ℤ c.args.step.x) = fits_sum c.args.fields.now.x c.args.step.x c.requires.x c.requires.step_x in
    let sum_y : FitsSigned w64 (c.args.fields.now.y +ℤ c.args.step.y) = fits_sum c.args.fields.now.y c.args.step.y c.requires.y c.requires.step_y in
    same_fields _ (moved f c.args.step 1) refl refl refl refl (to_z-of_z w64 f.left_delta left) (to_z-of_z w64 f.right_delta right)
    (simp to_z-of_z (omega (arith, ints))) (simp to_z-of_z (omega (arith, ints)))
