use Rattle.std.proofs.Common.{◌≡◌, ◌++◌, ◌≤◌, ℕ, ℤ, List, length, drop, get_or, ap, sym, ◌∙◌, arith, FitsSigned, w64, rules}
use Rattle.std.proofs.lemmas.Int.{to_z-of_z}
use Rattle.std.proofs.lemmas.Bool.Decides.{Decides-eqb}
use Rattle.oas_lex.specs.Spelling.{signed_text}
use Rattle.std.proofs.lemmas.List.{drop-drop, length-drop, get_or-drop}
use Rattle.oas_lex.specs.ShotText.{id_for}
use Rattle.oas_lex.proofs.ForCallers.{text_opens, same_fields}
use Rattle.shot_reader.proofs.Ids.{byte_is, left_there, right_there}
use Rattle.shot_reader.proofs.Shorts.{spelled_record}
use Rattle.shot_reader.proofs.fields.fields_at.Goals as goal
use Rattle.shot_reader.proofs.fields.fields_at.Goals.{After-id_for}

pub returns-clause-spelled : goal.returns-clause-spelled
returns-clause-spelled c = λ inside.
    let ends = c.end_where-next.ensures.right inside in
    let same : c.id_for.result ≡ c.byte_at-id.result = (Decides-eqb c.id_for.result c.byte_at-id.result).0 ends.0 in
    let within : c.signed_at-y.result.1 ≤ length c.args.bytes.now = omega (arith, inside, ends.1) in
    let fl : FitsSigned w64 c.delta_at-left_delta.result.0 = search rules in
    let fr : FitsSigned w64 c.delta_at-right_delta.result.0 = search rules in
    let fx : FitsSigned w64 c.signed_at-x.result.0 = search rules in
    let fy : FitsSigned w64 c.signed_at-y.result.0 = search rules in
    let left = to_z-of_z w64 c.delta_at-left_delta.result.0 fl in
    let right = to_z-of_z w64 c.delta_at-right_delta.result.0 fr in
    let id : c.byte_at-id.result ≡ id_for c.delta_at-left_delta.result.0 c.delta_at-right_delta.result.0 = sym same ∙ rw (left, right) at c.id_for.ensures in
    let y = c.signed_at-y.ensures.spelled within in
    let x = c.signed_at-x.ensures.spelled (omega (arith, within, y.0)) in
    let r = c.delta_at-right_delta.ensures.spelled (omega (arith, within, y.0, x.0))
    (right_there c.delta_at-left_delta.result.0 c.delta_at-right_delta.result.0 c.byte_at-id.result
    c.has_right.result id c.has_right.ensures) in
    let l = c.delta_at-left_delta.ensures.spelled (omega (arith, within, y.0, x.0, r.0))
    (left_there c.delta_at-left_delta.result.0 c.delta_at-right_delta.result.0 c.byte_at-id.result
    c.has_left.result id c.has_left.ensures) in
    let h = c.unsigned_at-height.ensures.spelled (omega (arith, within, y.0, x.0, r.0, l.0)) in
    let w = c.unsigned_at-width.ensures.spelled (omega (arith, within, y.0, x.0, r.0, l.0, h.0)) in
    let b = c.unsigned_at-datatype.ensures.spelled (omega (arith, within, y.0, x.0, r.0, l.0, h.0, w.0)) in
    let a = c.unsigned_at-layer.ensures.spelled (omega (arith, within, y.0, x.0, r.0, l.0, h.0, w.0, b.0)) in
    let start : c.end_where-start.result ≤ length c.args.bytes.now = omega (arith, within, y.0, x.0, r.0, l.0, h.0, w.0, b.0, a.0) in
    let opened = c.end_where-start.ensures.right start in
    let info : c.byte_after-info.result ≡ 123 = (Decides-eqb c.byte_after-info.result 123).0 opened.0 in (
      omega (arith, ends.1, y.0, x.0, r.0, l.0, h.0, w.0, b.0, a.0, opened.1),
      rw (left, right, to_z-of_z w64 c.signed_at-x.result.0 fx, to_z-of_z w64 c.signed_at-y.result.0 fy)
          (spelled_record _ c.args.bytes.now c.args.at _ _ _ _ _ _ _ _ _ (sym c.byte_at-id.ensures ∙ id) opened.1
          (sym c.byte_after-info.ensures ∙ info) start a.1 b.1 w.1 h.1 l.1 r.1 x.1
          (y.1 ∙ ap (λ n. signed_text c.signed_at-y.result.0 ++ drop n c.args.bytes.now) (sym ends.1))),
    )

pub returns-clause-read : goal.returns-clause-read
returns-clause-read c = λ f after narrow e.
    let whole = e ∙ text_opens f after in
    let id = c.byte_at-id.ensures ∙ byte_is c.args.bytes.now _ c.args.at (id_for f.left_delta f.right_delta) whole in
    let info = c.byte_after-info.ensures ∙ (sym (get_or-drop c.args.at c.args.bytes.now 1 0) ∙ ap (λ (t : List ℕ). get_or t 1 0) whole) in
    let start = c.end_where-start.ensures.all ((Decides-eqb c.byte_after-info.result 123).1 info) in
    let within : c.end_where-start.result ≤ length c.args.bytes.now = omega (arith, start, ap length whole, length-drop c.args.at c.args.bytes.now) in
    let first = ap (λ (n : ℕ). drop n c.args.bytes.now) start ∙ (sym (drop-drop 2 c.args.at c.args.bytes.now) ∙ ap (drop 2) whole) in
    let a = c.unsigned_at-layer.ensures.read f.layer _ narrow.layer within first in
    let b = c.unsigned_at-datatype.ensures.read f.datatype _ narrow.datatype a.2 a.1 in
    let w = c.unsigned_at-width.ensures.read f.width _ narrow.width b.2 b.1 in
    let h = c.unsigned_at-height.ensures.read f.height _ narrow.height w.2 w.1 in
    let lefts = c.delta_at-left_delta.ensures.read f.left_delta _ narrow.left
    (left_there f.left_delta f.right_delta c.byte_at-id.result c.has_left.result id c.has_left.ensures) h.2 h.1
    in
    let rights = c.delta_at-right_delta.ensures.read f.right_delta _ narrow.right
    (right_there f.left_delta f.right_delta c.byte_at-id.result c.has_right.result id c.has_right.ensures)
    lefts.2 lefts.1 in
    let xs = c.signed_at-x.ensures.read f.x _ narrow.x rights.2 rights.1 in
    let ys = c.signed_at-y.ensures.read f.y after narrow.y xs.2 xs.1 in
    let fl : FitsSigned w64 c.delta_at-left_delta.result.0 = search rules in
    let fr : FitsSigned w64 c.delta_at-right_delta.result.0 = search rules in
    let fx : FitsSigned w64 c.signed_at-x.result.0 = search rules in
    let fy : FitsSigned w64 c.signed_at-y.result.0 = search rules in
    let left = to_z-of_z w64 c.delta_at-left_delta.result.0 fl in
    let right = to_z-of_z w64 c.delta_at-right_delta.result.0 fr in
    let same : c.id_for.result ≡ c.byte_at-id.result =
    sym (id ∙ (ap (λ (z : ℤ). id_for z f.right_delta)
    (sym lefts.0) ∙ (ap (id_for c.delta_at-left_delta.result.0) (sym rights.0) ∙ sym
    (rw (left, right) at c.id_for.ensures)))) in
    let last = c.end_where-next.ensures.all ((Decides-eqb c.id_for.result c.byte_at-id.result).1 same) in (
      same_fields _ f a.0 b.0 w.0 h.0 (left ∙ lefts.0) (right ∙ rights.0)
          (to_z-of_z w64 c.signed_at-x.result.0 fx ∙ xs.0) (to_z-of_z w64 c.signed_at-y.result.0 fy ∙ ys.0),
      omega (arith, ys.2, last),
    )
