use Rattle.std.proofs.Common.{◌≡◌, ◌+◌, ◌≤◌, ◌∷◌, ◌++◌, ℕ, length, drop, refl, ap, sym, ◌∙◌, arith, FitsSigned, w64, rules}
use Rattle.std.proofs.lemmas.Int.{to_z-of_z}
use Rattle.oas_lex.specs.ShotText.{id_for}
use Rattle.shot_reader.proofs.ForCallers.{byte_is, left_there, right_there}
use Rattle.shot_repeat.specs.Records.{info_of, repetition_text}
use Rattle.shot_repeat.specs.Refusals.{has}
use Rattle.shot_repeat.proofs.Texts.{opened, record_opens, info_says, second_is, after_two, two_there, spelled_record}
use Rattle.shot_repeat.proofs.Unique.{same_record}
use Rattle.shot_repeat.proofs.fields.record_at.Goals as goal

pub returns-clause-spelled : goal.returns-clause-spelled
returns-clause-spelled c = λ inside.
    let ends = c.end_where.ensures.right inside in
    let within : c.repetition_at-repetition.result.1 ≤ length c.args.bytes.now = omega (arith, inside, ends.1) in
    let fl : FitsSigned w64 c.delta_at-left_delta.result.0 = search rules in
    let fr : FitsSigned w64 c.delta_at-right_delta.result.0 = search rules in
    let left = to_z-of_z w64 c.delta_at-left_delta.result.0 fl in
    let right = to_z-of_z w64 c.delta_at-right_delta.result.0 fr in
    let opens = rw (left, right) at (c.opens_as-is_right.ensures.0 ends.0) in
    let p = c.repetition_at-repetition.ensures.spelled within in
    let y = c.place_at-y.ensures.spelled (omega (arith, within, p.0)) in
    let x = c.place_at-x.ensures.spelled (omega (arith, within, p.0, y.0)) in
    let r = c.delta_at-right_delta.ensures.spelled (omega (arith, within, p.0, y.0, x.0))
    (right_there c.delta_at-left_delta.result.0 c.delta_at-right_delta.result.0 c.byte_at-id.result
    c.has_right.result opens.0 c.has_right.ensures) in
    let l = c.delta_at-left_delta.ensures.spelled (omega (arith, within, p.0, y.0, x.0, r.0))
    (left_there c.delta_at-left_delta.result.0 c.delta_at-right_delta.result.0 c.byte_at-id.result
    c.has_left.result opens.0 c.has_left.ensures) in
    let h = c.number_at-height.ensures.spelled (omega (arith, within, p.0, y.0, x.0, r.0, l.0)) in
    let w = c.number_at-width.ensures.spelled (omega (arith, within, p.0, y.0, x.0, r.0, l.0, h.0)) in
    let b = c.number_at-datatype.ensures.spelled (omega (arith, within, p.0, y.0, x.0, r.0, l.0, h.0, w.0)) in
    let a = c.number_at-layer.ensures.spelled (omega (arith, within, p.0, y.0, x.0, r.0, l.0, h.0, w.0, b.0)) in (
      omega (arith, ends.1, p.0, y.0, x.0, r.0, l.0, h.0, w.0, b.0, a.0),
      rw (left, right)
          (spelled_record _ c.args.bytes.now c.args.at (c.args.at + 2) _ _ _ _ _ _ _ _ _
          (sym c.byte_at-id.ensures ∙ opens.0) (sym c.byte_at-info.ensures ∙ opens.1) refl
          (omega (arith, within, p.0, y.0, x.0, r.0, l.0, h.0, w.0, b.0, a.0))
          a.1 b.1 w.1 h.1 l.1 r.1 x.1 y.1 (p.1 ∙ ap (λ n. repetition_text c.repetition_at-repetition.result.0 ++ drop n c.args.bytes.now) (sym ends.1))),
    )

pub returns-clause-read : goal.returns-clause-read
returns-clause-read c = λ r after narrow e.
    let whole = e ∙ record_opens r after in
    let left = r.left_delta in
    let right = r.right_delta in
    let id = c.byte_at-id.ensures ∙ byte_is c.args.bytes.now (info_of r ∷ opened r after) c.args.at (id_for left right) whole in
    let info : c.byte_at-info.result ≡ info_of r = c.byte_at-info.ensures ∙ second_is c.args.bytes.now
    (opened r after) c.args.at (id_for left right) (info_of r) whole in
    let says = info_says r in
    let room = two_there c.args.bytes.now (opened r after) c.args.at (id_for left right) (info_of r) whole in
    let first = after_two c.args.bytes.now (opened r after) c.args.at (c.args.at + 2) (id_for left right) (info_of r) whole refl in
    let a = c.number_at-layer.ensures.read r.layer _ narrow.layer (c.has.ensures ∙ (ap (λ (n : ℕ). has n 1) info ∙ says.layer)) room first in
    let b = c.number_at-datatype.ensures.read r.datatype _ narrow.datatype (c.has-2.ensures ∙ (ap (λ (n : ℕ). has n 2) info ∙ says.datatype)) a.2 a.1 in
    let w = c.number_at-width.ensures.read r.width _ narrow.width (c.has-3.ensures ∙ (ap (λ (n : ℕ). has n 64) info ∙ says.width)) b.2 b.1 in
    let h = c.number_at-height.ensures.read r.height _ narrow.height (c.has-4.ensures ∙ (ap (λ (n : ℕ). has n 32) info ∙ says.height)) w.2 w.1 in
    let lefts = c.delta_at-left_delta.ensures.read left _ narrow.left
    (left_there left right c.byte_at-id.result c.has_left.result id c.has_left.ensures) h.2 h.1 in
    let rights = c.delta_at-right_delta.ensures.read right _ narrow.right
    (right_there left right c.byte_at-id.result c.has_right.result id c.has_right.ensures) lefts.2 lefts.1 in
    let xs = c.place_at-x.ensures.read r.x _ narrow.x (c.has-5.ensures ∙ (ap (λ (n : ℕ). has n 16) info ∙ says.x)) rights.2 rights.1 in
    let ys = c.place_at-y.ensures.read r.y _ narrow.y (c.has-6.ensures ∙ (ap (λ (n : ℕ). has n 8) info ∙ says.y)) xs.2 xs.1 in
    let last = c.repetition_at-repetition.ensures.read r.repetition after narrow.repetition
    (c.has-7.ensures ∙ (ap (λ (n : ℕ). has n 4) info ∙ says.repetition)) ys.2 ys.1 in
    let fl : FitsSigned w64 c.delta_at-left_delta.result.0 = search rules in
    let fr : FitsSigned w64 c.delta_at-right_delta.result.0 = search rules in
    let own = same_record _ r a.0 b.0 w.0 h.0 (to_z-of_z w64 c.delta_at-left_delta.result.0 fl ∙ lefts.0)
    (to_z-of_z w64 c.delta_at-right_delta.result.0 fr ∙ rights.0) xs.0 ys.0 last.0 in
    let ends = c.end_where.ensures.all
    (c.opens_as-is_right.ensures.1
    (id ∙ ap (λ s. id_for s.left_delta s.right_delta) (sym own), info ∙ ap info_of (sym own))) in
    (own, omega (arith, ends, last.2))
