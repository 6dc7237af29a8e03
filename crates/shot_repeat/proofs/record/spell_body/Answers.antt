use Rattle.std.proofs.Common.{FitsSigned, w64, rules}
use Rattle.std.proofs.lemmas.Int.{to_z-of_z}
use Rattle.oas_lex.specs.ShotText.{delta_text}
use Rattle.shot_repeat.proofs.Texts.{body_spelled, passed}
use Rattle.shot_repeat.proofs.record.spell_body.Goals as goal

pub returns : goal.returns
returns c =
    let r = c.args.written.now in
    let left : FitsSigned w64 c.args.written.now.left_delta = search rules in
    let right : FitsSigned w64 c.args.written.now.right_delta = search rules in
    let id = rw (
      c.id_for.ensures,
      to_z-of_z w64 c.args.written.now.left_delta left,
      to_z-of_z w64
          c.args.written.now.right_delta right,
    ) at c.push.ensures.value in
    let info = rw c.info_of.ensures at c.push-2.ensures.value in
    body_spelled r _ _ _ _ _ _ _ _ _ _ _ c.new-spell.ensures id info c.put_number.ensures.value
    c.put_number-2.ensures.value c.put_number-3.ensures.value c.put_number-4.ensures.value
    (passed delta_text r.left_delta c.put_number-4.new.spell c.put_delta.new.spell left c.put_delta.ensures.value)
    (passed delta_text r.right_delta c.put_delta.new.spell c.put_delta-2.new.spell right c.put_delta-2.ensures.value)
    c.put_place.ensures.value c.put_place-2.ensures.value
