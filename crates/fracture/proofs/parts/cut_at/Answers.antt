use Rattle.std.proofs.Common.{rules, ◌+ℤ◌, FitsSigned, w64, refl}
use Rattle.std.proofs.lemmas.Int.{to_z-of_z}
use Rattle.fracture.proofs.PartLemmas.{wide_fits}
use Rattle.fracture.proofs.parts.cut_at.Goals as goal

pub overflow_add-least_x : goal.overflow_add-least_x
overflow_add-least_x c =
    let least : FitsSigned w64 c.least_x.result = search rules in
    let limit : FitsSigned w64 c.args.limits.now.width = search rules in
    simp to_z-of_z (rw c.least_x.ensures.value (wide_fits _ _ c.requires.limits c.args.piece.now c.requires.shot c.requires.wide))

pub returns : goal.returns
returns c =
    let least : FitsSigned w64 c.least_x.result = search rules in
    let limit : FitsSigned w64 c.args.limits.now.width = search rules in
    let at : FitsSigned w64 c.min.result = search rules in
    let right : FitsSigned w64 c.least_right.result = search rules in
    let sum : FitsSigned w64 (c.least_x.result +ℤ c.args.limits.now.width) = rw c.least_x.ensures.value
    (wide_fits _ _ c.requires.limits c.args.piece.now c.requires.shot c.requires.wide) in
    let is = simp to_z-of_z at c.min.ensures.value in
    simp to_z-of_z (rw (is, c.least_x.ensures.value, c.least_right.ensures) refl)
