use Rattle.std.proofs.Common.{rules, FitsSigned, w64}
use Rattle.std.proofs.lemmas.Int.{to_z-of_z}
use Rattle.field_split.specs.Pieces.{shape_of}
use Rattle.field_split.proofs.PartAnswers.{lower_shot, middle_shot, upper_shot, lower_is, middle_is, upper_is}
use Rattle.field_split.proofs.parts.parts_in.Goals as goal

pub piece-requires-clause-shot : goal.piece-requires-clause-shot
piece-requires-clause-shot c =
    let x0 : FitsSigned w64 c.args.columns.x0 = search rules in
    let x1 : FitsSigned w64 c.args.columns.x1 = search rules in
    let y0 : FitsSigned w64 c.rows_in-rows.result.y0 = search rules in
    let y1 : FitsSigned w64 c.rows_in-rows.result.y1 = search rules in
    let a : FitsSigned w64 c.turn-first.result = search rules in
    let b : FitsSigned w64 c.turn-second.result = search rules in
    let f : FitsSigned w64 c.min-y0.result = search rules in
    let s : FitsSigned w64 c.max-y1.result = search rules in
    let first = simp to_z-of_z at c.turn-first.ensures.value in
    let second = simp to_z-of_z at c.turn-second.ensures.value in
    let low = simp to_z-of_z at c.min-y0.ensures.value in
    let high = simp to_z-of_z at c.max-y1.ensures.value in
    simp to_z-of_z (lower_shot
    (shape_of c.args.part.now) c.args.columns c.rows_in-rows.result _ _ _ _ c.args.part.now.shot c.requires
    c.rows_in-rows.ensures.value first second low high)

pub piece-requires-2-clause-shot : goal.piece-requires-2-clause-shot
piece-requires-2-clause-shot c =
    let x0 : FitsSigned w64 c.args.columns.x0 = search rules in
    let x1 : FitsSigned w64 c.args.columns.x1 = search rules in
    let y0 : FitsSigned w64 c.rows_in-rows.result.y0 = search rules in
    let y1 : FitsSigned w64 c.rows_in-rows.result.y1 = search rules in
    let a : FitsSigned w64 c.turn-first.result = search rules in
    let b : FitsSigned w64 c.turn-second.result = search rules in
    let f : FitsSigned w64 c.min-y0.result = search rules in
    let s : FitsSigned w64 c.max-y1.result = search rules in
    let first = simp to_z-of_z at c.turn-first.ensures.value in
    let second = simp to_z-of_z at c.turn-second.ensures.value in
    let low = simp to_z-of_z at c.min-y0.ensures.value in
    let high = simp to_z-of_z at c.max-y1.ensures.value in
    simp to_z-of_z (middle_shot
    (shape_of c.args.part.now) c.args.columns c.rows_in-rows.result _ _ _ _ c.args.part.now.shot c.requires
    c.rows_in-rows.ensures.value first second low high)

pub piece-requires-3-clause-shot : goal.piece-requires-3-clause-shot
piece-requires-3-clause-shot c =
    let x0 : FitsSigned w64 c.args.columns.x0 = search rules in
    let x1 : FitsSigned w64 c.args.columns.x1 = search rules in
    let y0 : FitsSigned w64 c.rows_in-rows.result.y0 = search rules in
    let y1 : FitsSigned w64 c.rows_in-rows.result.y1 = search rules in
    let a : FitsSigned w64 c.turn-first.result = search rules in
    let b : FitsSigned w64 c.turn-second.result = search rules in
    let f : FitsSigned w64 c.min-y0.result = search rules in
    let s : FitsSigned w64 c.max-y1.result = search rules in
    let first = simp to_z-of_z at c.turn-first.ensures.value in
    let second = simp to_z-of_z at c.turn-second.ensures.value in
    let low = simp to_z-of_z at c.min-y0.ensures.value in
    let high = simp to_z-of_z at c.max-y1.ensures.value in
    simp to_z-of_z (upper_shot
    (shape_of c.args.part.now) c.args.columns c.rows_in-rows.result _ _ _ _ c.args.part.now.shot c.requires
    c.rows_in-rows.ensures.value first second low high)

pub returns-clause-lower : goal.returns-clause-lower
returns-clause-lower c =
    let x0 : FitsSigned w64 c.args.columns.x0 = search rules in
    let x1 : FitsSigned w64 c.args.columns.x1 = search rules in
    let y0 : FitsSigned w64 c.rows_in-rows.result.y0 = search rules in
    let y1 : FitsSigned w64 c.rows_in-rows.result.y1 = search rules in
    let a : FitsSigned w64 c.turn-first.result = search rules in
    let b : FitsSigned w64 c.turn-second.result = search rules in
    let f : FitsSigned w64 c.min-y0.result = search rules in
    let s : FitsSigned w64 c.max-y1.result = search rules in
    let first = simp to_z-of_z at c.turn-first.ensures.value in
    let second = simp to_z-of_z at c.turn-second.ensures.value in
    let low = simp to_z-of_z at c.min-y0.ensures.value in
    let high = simp to_z-of_z at c.max-y1.ensures.value in
    let one = simp to_z-of_z at c.piece.ensures in
    lower_is (shape_of c.args.part.now) c.args.columns c.rows_in-rows.result _ _ _ _ c.args.part.now.shot c.requires
    c.rows_in-rows.ensures.value first second low high one

pub returns-clause-middle : goal.returns-clause-middle
returns-clause-middle c =
    let x0 : FitsSigned w64 c.args.columns.x0 = search rules in
    let x1 : FitsSigned w64 c.args.columns.x1 = search rules in
    let y0 : FitsSigned w64 c.rows_in-rows.result.y0 = search rules in
    let y1 : FitsSigned w64 c.rows_in-rows.result.y1 = search rules in
    let a : FitsSigned w64 c.turn-first.result = search rules in
    let b : FitsSigned w64 c.turn-second.result = search rules in
    let f : FitsSigned w64 c.min-y0.result = search rules in
    let s : FitsSigned w64 c.max-y1.result = search rules in
    let first = simp to_z-of_z at c.turn-first.ensures.value in
    let second = simp to_z-of_z at c.turn-second.ensures.value in
    let low = simp to_z-of_z at c.min-y0.ensures.value in
    let high = simp to_z-of_z at c.max-y1.ensures.value in
    let one = simp to_z-of_z at c.piece-2.ensures in
    middle_is (shape_of c.args.part.now) c.args.columns c.rows_in-rows.result _ _ _ _ c.args.part.now.shot c.requires
    c.rows_in-rows.ensures.value first second low high one

pub returns-clause-upper : goal.returns-clause-upper
returns-clause-upper c =
    let x0 : FitsSigned w64 c.args.columns.x0 = search rules in
    let x1 : FitsSigned w64 c.args.columns.x1 = search rules in
    let y0 : FitsSigned w64 c.rows_in-rows.result.y0 = search rules in
    let y1 : FitsSigned w64 c.rows_in-rows.result.y1 = search rules in
    let a : FitsSigned w64 c.turn-first.result = search rules in
    let b : FitsSigned w64 c.turn-second.result = search rules in
    let f : FitsSigned w64 c.min-y0.result = search rules in
    let s : FitsSigned w64 c.max-y1.result = search rules in
    let first = simp to_z-of_z at c.turn-first.ensures.value in
    let second = simp to_z-of_z at c.turn-second.ensures.value in
    let low = simp to_z-of_z at c.min-y0.ensures.value in
    let high = simp to_z-of_z at c.max-y1.ensures.value in
    let one = simp to_z-of_z at c.piece-3.ensures in
    upper_is (shape_of c.args.part.now) c.args.columns c.rows_in-rows.result _ _ _ _ c.args.part.now.shot c.requires
    c.rows_in-rows.ensures.value first second low high one
