use Rattle.std.proofs.Common.{refl, [], ◌∷◌, inl, rules, ℤ, FitsSigned, w64, sym, subst}
use Rattle.std.proofs.lemmas.Int.{to_z-of_z}
use Rattle.oas_record.specs.Records.{number_or}
use Rattle.oas_record.specs.Rows.{Signed, IsSigned, Always, when, box, HasFields}
use Rattle.oas_record.specs.Shapes.{own_parts}
use Rattle.oas_record.specs.declared.shape_form.ShapeForm.TheVariants.{TrapezoidB}
use Rattle.oas_record.proofs.Joins.{joined, fails_first, fails_then}
use Rattle.oas_record.proofs.Refusals.{handed_on}
use Rattle.oas_record.proofs.shape_rows.trapezoid_b.Goals as goal

pub returns-clause-ok : goal.returns-clause-ok
returns-clause-ok c =
    let fits : FitsSigned w64 c.in_ok-delta.delta = search rules in
    record {
      id = refl;
      before = refl;
      switches = refl;
      fields = subst (λ (d : ℤ). HasFields (own_parts TrapezoidB) c.args.info c.args.bytes.now c.args.at
          (number_or c.in_ok-width.width ∷ number_or c.in_ok-width.height ∷ IsSigned d ∷ []) c.in_ok-delta.next)
          (sym (to_z-of_z w64 c.in_ok-delta.delta fits))
          (joined box (when Always Signed ∷ []) c.args.info c.args.info c.args.bytes.now c.args.at
          (number_or c.in_ok-width.width ∷ number_or c.in_ok-width.height ∷ []) (IsSigned c.in_ok-delta.delta ∷ [])
          c.in_ok-width.second c.in_ok-delta.next refl c.in_ok-width.ensures.ok
          (c.in_ok-delta.next, (c.in_ok-delta.delta, c.in_ok-delta.ensures.ok, refl), refl));
    }

pub returns-in_err-width-clause-bad : goal.returns-in_err-width-clause-bad
returns-in_err-width-clause-bad c = handed_on _ _ _ c.from_residual.ensures.0 c.from_residual.ensures.1
    (fails_first box (when Always Signed ∷ []) c.args.info c.args.bytes.now c.args.at c.in_err-width.field-0.0 c.in_err-width.ensures.bad)

pub returns-in_err-delta-clause-bad : goal.returns-in_err-delta-clause-bad
returns-in_err-delta-clause-bad c = handed_on _ _ _ c.from_residual-in_err-delta.ensures.0 c.from_residual-in_err-delta.ensures.1
    (fails_then box (when Always Signed ∷ []) c.args.info c.args.info c.args.bytes.now c.args.at
    (number_or c.in_ok-width.width ∷ number_or c.in_ok-width.height ∷ []) c.in_ok-width.second c.in_err-delta.field-0.0 refl
    c.in_ok-width.ensures.ok (inl c.in_err-delta.ensures.bad))
