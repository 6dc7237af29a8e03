use Rattle.std.proofs.Common.{refl, [], ◌∷◌, ◌++◌, inl}
use Rattle.oas_record.specs.Records.{number_or, signed_or, points_or}
use Rattle.oas_record.specs.Rows.{PathPoints, Bit, when, with_extension}
use Rattle.oas_record.specs.Shapes.{width_parts, end_parts}
use Rattle.oas_record.proofs.Joins.{joined, fails_first, fails_then}
use Rattle.oas_record.proofs.Refusals.{handed_on}
use Rattle.oas_record.proofs.path_rows.path_at.Goals as goal

pub returns-clause-ok : goal.returns-clause-ok
returns-clause-ok c =
    let switches = with_extension (number_or c.in_ok-half_width.extension) c.args.info in
    record {
      id = refl;
      before = refl;
      switches = refl;
      fields = joined width_parts (end_parts ++ (when (Bit 5) PathPoints ∷ [])) c.args.info switches c.args.bytes.now c.args.at
          (number_or c.in_ok-half_width.half_width ∷ number_or c.in_ok-half_width.extension ∷ [])
          ((signed_or c.in_ok-start.start ∷ signed_or c.in_ok-start.end ∷ []) ++ (points_or c.in_ok-points.points ∷ []))
          c.in_ok-half_width.second c.in_ok-points.next refl c.in_ok-half_width.ensures.ok
          (joined end_parts (when (Bit 5) PathPoints ∷ []) switches switches c.args.bytes.now c.in_ok-half_width.second
          (signed_or c.in_ok-start.start ∷ signed_or c.in_ok-start.end ∷ []) (points_or c.in_ok-points.points ∷ [])
          c.in_ok-start.third c.in_ok-points.next refl c.in_ok-start.ensures.ok (c.in_ok-points.next, c.in_ok-points.ensures.ok, refl));
    }

pub returns-in_err-half_width-clause-bad : goal.returns-in_err-half_width-clause-bad
returns-in_err-half_width-clause-bad c = handed_on _ _ _ c.from_residual.ensures.0 c.from_residual.ensures.1
    (fails_first width_parts (end_parts ++ (when (Bit 5) PathPoints ∷ [])) c.args.info c.args.bytes.now c.args.at
    c.in_err-half_width.field-0.0 c.in_err-half_width.ensures.bad)

pub returns-in_err-start-clause-bad : goal.returns-in_err-start-clause-bad
returns-in_err-start-clause-bad c = handed_on _ _ _ c.from_residual-in_err-start.ensures.0 c.from_residual-in_err-start.ensures.1
    (fails_then width_parts (end_parts ++ (when (Bit 5) PathPoints ∷ [])) c.args.info
    (with_extension (number_or c.in_ok-half_width.extension) c.args.info) c.args.bytes.now c.args.at
    (number_or c.in_ok-half_width.half_width ∷ number_or c.in_ok-half_width.extension ∷ []) c.in_ok-half_width.second
    c.in_err-start.field-0.0 refl c.in_ok-half_width.ensures.ok
    (fails_first end_parts (when (Bit 5) PathPoints ∷ []) (with_extension (number_or c.in_ok-half_width.extension) c.args.info)
    c.args.bytes.now c.in_ok-half_width.second c.in_err-start.field-0.0 c.in_err-start.ensures.bad))

pub returns-in_err-points-clause-bad : goal.returns-in_err-points-clause-bad
returns-in_err-points-clause-bad c = handed_on _ _ _ c.from_residual-in_err-points.ensures.0 c.from_residual-in_err-points.ensures.1
    (let switches = with_extension (number_or c.in_ok-half_width.extension) c.args.info in
    fails_then width_parts (end_parts ++ (when (Bit 5) PathPoints ∷ [])) c.args.info switches c.args.bytes.now c.args.at
    (number_or c.in_ok-half_width.half_width ∷ number_or c.in_ok-half_width.extension ∷ []) c.in_ok-half_width.second c.in_err-points.field-0.0 refl
    c.in_ok-half_width.ensures.ok
    (fails_then end_parts (when (Bit 5) PathPoints ∷ []) switches switches c.args.bytes.now c.in_ok-half_width.second
    (signed_or c.in_ok-start.start ∷ signed_or c.in_ok-start.end ∷ []) c.in_ok-start.third c.in_err-points.field-0.0 refl
    c.in_ok-start.ensures.ok (inl c.in_err-points.ensures.bad)))
