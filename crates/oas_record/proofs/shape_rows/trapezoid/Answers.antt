use Rattle.std.proofs.Common.{refl, [], ◌∷◌, inl, inr, rules, ℤ, FitsSigned, w64, to_z, of_z, sym, subst}
use Rattle.std.proofs.lemmas.Int.{to_z-of_z}
use Rattle.oas_record.specs.Records.{number_or}
use Rattle.oas_record.specs.Rows.{Signed, IsSigned, Always, when, box, HasFields}
use Rattle.oas_record.specs.Shapes.{own_parts}
use Rattle.oas_record.specs.declared.shape_form.ShapeForm.TheVariants.{Trapezoid}
use Rattle.oas_record.proofs.Joins.{joined, fails_first, fails_then}
use Rattle.oas_record.proofs.Refusals.{handed_on}
use Rattle.oas_record.proofs.shape_rows.trapezoid.Goals as goal

pub returns-clause-ok : goal.returns-clause-ok
returns-clause-ok c =
    let fits_a : FitsSigned w64 c.in_ok-delta_a.delta_a = search rules in
    let fits_b : FitsSigned w64 c.in_ok-delta_b.delta_b = search rules in
    let stand : HasFields (own_parts Trapezoid) c.args.info c.args.bytes.now c.args.at (number_or c.in_ok-width.width
    ∷ number_or c.in_ok-width.height ∷ IsSigned c.in_ok-delta_a.delta_a ∷ IsSigned c.in_ok-delta_b.delta_b ∷ []) c.in_ok-delta_b.next =
    joined box (when Always Signed ∷ when Always Signed ∷ []) c.args.info c.args.info c.args.bytes.now c.args.at
    (number_or c.in_ok-width.width ∷ number_or c.in_ok-width.height ∷ [])
    (IsSigned c.in_ok-delta_a.delta_a ∷ IsSigned c.in_ok-delta_b.delta_b ∷ []) c.in_ok-width.second c.in_ok-delta_b.next refl
    c.in_ok-width.ensures.ok (
      c.in_ok-delta_a.third,
      (c.in_ok-delta_a.delta_a, c.in_ok-delta_a.ensures.ok, refl),
      (c.in_ok-delta_b.next, (c.in_ok-delta_b.delta_b, c.in_ok-delta_b.ensures.ok, refl), refl),
    ) in
    let half = subst (λ (d : ℤ). HasFields (own_parts Trapezoid) c.args.info c.args.bytes.now c.args.at (number_or c.in_ok-width.width
    ∷ number_or c.in_ok-width.height ∷ IsSigned c.in_ok-delta_a.delta_a ∷ IsSigned d ∷ []) c.in_ok-delta_b.next)
    (sym (to_z-of_z w64 c.in_ok-delta_b.delta_b fits_b)) stand in
    record {
      id = refl;
      before = refl;
      switches = refl;
      fields = subst (λ (d : ℤ). HasFields (own_parts Trapezoid) c.args.info c.args.bytes.now c.args.at (number_or c.in_ok-width.width
          ∷ number_or c.in_ok-width.height ∷ IsSigned d ∷ IsSigned (to_z w64 (of_z w64 c.in_ok-delta_b.delta_b)) ∷ []) c.in_ok-delta_b.next)
          (sym (to_z-of_z w64 c.in_ok-delta_a.delta_a fits_a)) half;
    }

pub returns-in_err-width-clause-bad : goal.returns-in_err-width-clause-bad
returns-in_err-width-clause-bad c = handed_on _ _ _ c.from_residual.ensures.0 c.from_residual.ensures.1
    (fails_first box (when Always Signed ∷ when Always Signed ∷ []) c.args.info c.args.bytes.now c.args.at c.in_err-width.field-0.0 c.in_err-width.ensures.bad)

pub returns-in_err-delta_a-clause-bad : goal.returns-in_err-delta_a-clause-bad
returns-in_err-delta_a-clause-bad c = handed_on _ _ _ c.from_residual-in_err-delta_a.ensures.0 c.from_residual-in_err-delta_a.ensures.1
    (fails_then box (when Always Signed ∷ when Always Signed ∷ []) c.args.info c.args.info c.args.bytes.now c.args.at
    (number_or c.in_ok-width.width ∷ number_or c.in_ok-width.height ∷ []) c.in_ok-width.second c.in_err-delta_a.field-0.0 refl
    c.in_ok-width.ensures.ok (inl c.in_err-delta_a.ensures.bad))

pub returns-in_err-delta_b-clause-bad : goal.returns-in_err-delta_b-clause-bad
returns-in_err-delta_b-clause-bad c = handed_on _ _ _ c.from_residual-in_err-delta_b.ensures.0 c.from_residual-in_err-delta_b.ensures.1
    (fails_then box (when Always Signed ∷ when Always Signed ∷ []) c.args.info c.args.info c.args.bytes.now c.args.at
    (number_or c.in_ok-width.width ∷ number_or c.in_ok-width.height ∷ []) c.in_ok-width.second c.in_err-delta_b.field-0.0 refl
    c.in_ok-width.ensures.ok (inr (
      IsSigned c.in_ok-delta_a.delta_a,
      c.in_ok-delta_a.third,
      (c.in_ok-delta_a.delta_a, c.in_ok-delta_a.ensures.ok, refl),
      inl c.in_err-delta_b.ensures.bad,
    )))
