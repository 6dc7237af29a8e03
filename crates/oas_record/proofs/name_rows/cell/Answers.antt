use Rattle.std.proofs.Common.{refl, inl}
use Rattle.oas_record.proofs.Refusals.{handed_on}
use Rattle.oas_record.proofs.name_rows.cell.Goals as goal

pub returns-clause-ok : goal.returns-clause-ok
returns-clause-ok c =
    record {
      id_is = refl;
      row = (refl, (c.in_ok-name.name.1, (c.in_ok-name.name.0, c.in_ok-name.ensures.ok, refl), refl));
    }

pub returns-in_err-name-clause-bad : goal.returns-in_err-name-clause-bad
returns-in_err-name-clause-bad c = handed_on _ _ _ c.from_residual.ensures.0 c.from_residual.ensures.1 (inl ((c.in_err-name.ensures.bad)))
