use Rattle.std.proofs.Common.{◌-ℤ◌, FitsSigned, w64, rules, refl}
use Rattle.std.proofs.lemmas.Int.{to_z-of_z}
use Rattle.shot_repeat.proofs.Standing.{fits_difference}
use Rattle.shot_repeat.proofs.Steps.{same_point}
use Rattle.shot_repeat.proofs.runs.step_between.Goals as goal

pub returns-clause-value : goal.returns-clause-value
returns-clause-value c =
    let first_x : FitsSigned w64 c.args.first.now.x = search rules in
    let first_y : FitsSigned w64 c.args.first.now.y = search rules in
    let second_x : FitsSigned w64 c.args.second.now.x = search rules in
    let second_y : FitsSigned w64 c.args.second.now.y = search rules in
    let x : FitsSigned w64 (c.args.second.now.x -ℤ c.args.first.now.x) =
    fits_difference c.args.second.now.x c.args.first.now.x c.requires.second.x c.requires.first.x in
    let y : FitsSigned w64 (c.args.second.now.y -ℤ c.args.first.now.y) =
    fits_difference c.args.second.now.y c.args.first.now.y c.requires.second.y c.requires.first.y in
    same_point _ _ (simp to_z-of_z refl) (simp to_z-of_z refl)
