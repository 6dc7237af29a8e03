use Rattle.std.proofs.Common.{FitsSigned, w64, rules, refl, sym, subst, ◌∙◌}
use Rattle.std.proofs.lemmas.Int.{to_z-of_z}
use Rattle.oas_lex.specs.ShotText.{AreNarrow, fields_of}
use Rattle.oas_lex.proofs.FieldTexts.{same_fields}
use Rattle.oas_lex.proofs.ShotBounds.{shot_narrow}
use Rattle.oas_lex.proofs.shots.fields_of.Goals as goal

pub returns-clause-value : goal.returns-clause-value
returns-clause-value c =
    let left : FitsSigned w64 c.left_delta.result = search rules in
    let right : FitsSigned w64 c.right_delta.result = search rules in
    let x : FitsSigned w64 c.least_x.result = search rules in
    let y : FitsSigned w64 c.y0.result = search rules in
    same_fields _ (fields_of c.args.layer c.args.datatype c.args.trap.now) refl refl c.width.ensures c.height.ensures
    (to_z-of_z w64 c.left_delta.result left ∙ c.left_delta.ensures) (to_z-of_z w64 c.right_delta.result right ∙ c.right_delta.ensures)
    (to_z-of_z w64 c.least_x.result x ∙ c.least_x.ensures.value) (to_z-of_z w64 c.y0.result y ∙ c.y0.ensures.value)

pub returns-clause-narrow : goal.returns-clause-narrow
returns-clause-narrow c =
    let narrow = shot_narrow c.args.layer c.args.datatype c.args.trap.now
    (record { layer_bits = c.requires.layer; datatype_bits = c.requires.datatype }) c.y0.ensures.shot in
    subst AreNarrow (sym (returns-clause-value c)) narrow
