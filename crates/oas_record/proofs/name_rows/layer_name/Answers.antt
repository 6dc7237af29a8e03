use Rattle.std.proofs.Common.{refl, inl, inr}
use Rattle.oas_record.specs.Rows.{IsSpan, IsInterval}
use Rattle.oas_record.proofs.NameLemmas.{layers_there, layers_missing}
use Rattle.oas_record.proofs.Refusals.{handed_on}
use Rattle.oas_record.proofs.name_rows.layer_name.Goals as goal

pub returns-clause-ok : goal.returns-clause-ok
returns-clause-ok c = layers_there c.args.of_texts c.args.bytes.now c.args.at c.in_ok-name.name c.in_ok-layers.layers c.in_ok-layers.third
    c.in_ok-datatypes.datatypes c.in_ok-datatypes.next c.in_ok-name.ensures.ok c.in_ok-layers.ensures.ok c.in_ok-datatypes.ensures.ok

pub returns-in_err-name-clause-bad : goal.returns-in_err-name-clause-bad
returns-in_err-name-clause-bad c = handed_on _ _ _ c.from_residual.ensures.0 c.from_residual.ensures.1
    (layers_missing c.args.of_texts c.args.bytes.now c.args.at c.in_err-name.field-0.0 (inl c.in_err-name.ensures.bad))

pub returns-in_err-layers-clause-bad : goal.returns-in_err-layers-clause-bad
returns-in_err-layers-clause-bad c = handed_on _ _ _ c.from_residual-in_err-layers.ensures.0 c.from_residual-in_err-layers.ensures.1
    (layers_missing c.args.of_texts c.args.bytes.now c.args.at c.in_err-layers.field-0.0
    (inr (IsSpan c.in_ok-name.name, c.in_ok-name.name.1, (c.in_ok-name.name.0, c.in_ok-name.ensures.ok, refl), inl c.in_err-layers.ensures.bad)))

pub returns-in_err-datatypes-clause-bad : goal.returns-in_err-datatypes-clause-bad
returns-in_err-datatypes-clause-bad c = handed_on _ _ _ c.from_residual-in_err-datatypes.ensures.0 c.from_residual-in_err-datatypes.ensures.1
    (layers_missing c.args.of_texts c.args.bytes.now c.args.at c.in_err-datatypes.field-0.0
    (inr (
      IsSpan c.in_ok-name.name,
      c.in_ok-name.name.1,
      (c.in_ok-name.name.0, c.in_ok-name.ensures.ok, refl),
      inr (
        IsInterval c.in_ok-layers.layers,
        c.in_ok-layers.third,
        (c.in_ok-layers.layers, c.in_ok-layers.ensures.ok, refl),
        inl c.in_err-datatypes.ensures.bad,
      ),
    )))
