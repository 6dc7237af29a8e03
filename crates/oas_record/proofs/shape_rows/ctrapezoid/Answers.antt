use Rattle.std.proofs.Common.{refl, inl, inr}
use Rattle.oas_record.specs.Records.{number_or}
use Rattle.oas_record.proofs.Refusals.{handed_on}
use Rattle.oas_record.proofs.shape_rows.ctrapezoid.Goals as goal

pub returns-clause-ok : goal.returns-clause-ok
returns-clause-ok c = record {
  id = refl;
  before = refl;
  switches = refl;
  fields = (c.in_ok-trapezoid_type.second, c.in_ok-trapezoid_type.ensures.ok, c.in_ok-width.ensures.ok);
}

pub returns-in_err-trapezoid_type-clause-bad : goal.returns-in_err-trapezoid_type-clause-bad
returns-in_err-trapezoid_type-clause-bad c = handed_on _ _ _ c.from_residual.ensures.0 c.from_residual.ensures.1 (inl c.in_err-trapezoid_type.ensures.bad)

pub returns-in_err-width-clause-bad : goal.returns-in_err-width-clause-bad
returns-in_err-width-clause-bad c = handed_on _ _ _ c.from_residual-in_err-width.ensures.0 c.from_residual-in_err-width.ensures.1 (inr (
  number_or c.in_ok-trapezoid_type.trapezoid_type,
  c.in_ok-trapezoid_type.second,
  c.in_ok-trapezoid_type.ensures.ok,
  c.in_err-width.ensures.bad,
))
