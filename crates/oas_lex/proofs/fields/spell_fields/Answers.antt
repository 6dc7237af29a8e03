use Rattle.std.proofs.Common.{FitsSigned, w64, rules}
use Rattle.std.proofs.lemmas.Int.{to_z-of_z}
use Rattle.oas_lex.specs.Spelling.{signed_text}
use Rattle.oas_lex.specs.ShotText.{delta_text}
use Rattle.oas_lex.proofs.FieldTexts.{fields_spelled, passed}
use Rattle.oas_lex.proofs.fields.spell_fields.Goals as goal

pub returns : goal.returns
returns c =
    let f = c.args.fields.now in
    let left : FitsSigned w64 c.args.fields.now.left_delta = search rules in
    let right : FitsSigned w64 c.args.fields.now.right_delta = search rules in
    let x : FitsSigned w64 c.args.fields.now.x = search rules in
    let y : FitsSigned w64 c.args.fields.now.y = search rules in
    let id = rw (
      c.id_for.ensures,
      to_z-of_z w64 c.args.fields.now.left_delta left,
      to_z-of_z w64
          c.args.fields.now.right_delta right,
    ) at c.push.ensures.value in
    fields_spelled f _ _ _ _ _ _ _ _ _ _ _ c.new-spell.ensures id c.push-2.ensures.value c.put_unsigned.ensures.value
    c.put_unsigned-2.ensures.value c.put_unsigned-3.ensures.value c.put_unsigned-4.ensures.value
    (passed delta_text f.left_delta c.put_unsigned-4.new.self c.put_delta.new.spell left c.put_delta.ensures.value)
    (passed delta_text f.right_delta c.put_delta.new.spell c.put_delta-2.new.spell right c.put_delta-2.ensures.value)
    (passed signed_text f.x c.put_delta-2.new.spell c.put_signed.new.self x c.put_signed.ensures.value)
    (passed signed_text f.y c.put_signed.new.self c.put_signed-2.new.self y c.put_signed-2.ensures.value)
