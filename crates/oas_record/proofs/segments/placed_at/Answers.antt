use Rattle.std.proofs.Common.{inl, inr}
use Rattle.oas_record.specs.Records.{signed_or}
use Rattle.oas_record.proofs.Refusals.{handed_on}
use Rattle.oas_record.proofs.segments.placed_at.Goals as goal

pub returns-in_err-y-clause-bad : goal.returns-in_err-y-clause-bad
returns-in_err-y-clause-bad c = handed_on _ _ _ c.from_residual-in_err-y.ensures.0 c.from_residual-in_err-y.ensures.1
    (inr (signed_or c.in_ok-x.x, c.in_ok-x.second, c.in_ok-x.ensures.ok, inl c.in_err-y.ensures.bad))

pub returns-in_err-repetition-clause-bad : goal.returns-in_err-repetition-clause-bad
returns-in_err-repetition-clause-bad c = handed_on _ _ _ c.from_residual-in_err-repetition.ensures.0 c.from_residual-in_err-repetition.ensures.1
    (inr (
      signed_or c.in_ok-x.x,
      c.in_ok-x.second,
      c.in_ok-x.ensures.ok,
      inr
          (signed_or c.in_ok-y.y, c.in_ok-y.third, c.in_ok-y.ensures.ok, inl c.in_err-repetition.ensures.bad),
    ))
