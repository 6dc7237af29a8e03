use Rattle.std.proofs.Common.{refl, [], ◌∷◌, inl, inr}
use Rattle.oas_record.specs.Parts.{parts_at}
use Rattle.oas_record.specs.Records.{number_or, called_or, place_of}
use Rattle.oas_record.specs.Rows.{Below, pair, place}
use Rattle.oas_record.proofs.Joins.{joined, fails_first, fails_then, info_refused, fields_refused}
use Rattle.oas_record.proofs.Refusals.{handed_on}
use Rattle.oas_record.proofs.placement_rows.text_record.Goals as goal

pub returns-clause-ok : goal.returns-clause-ok
returns-clause-ok c = record {
  id_is = refl;
  row = record {
    within = c.in_ok-info.ensures.there;
    byte = c.in_ok-info.ensures.ok;
    allowed = c.in_ok-info.ensures.allowed;
    fields_stand = (
      c.in_ok-text.second,
      c.in_ok-text.ensures.ok,
      joined pair place c.in_ok-info.info c.in_ok-info.info c.args.bytes.now c.in_ok-text.second
          (number_or c.in_ok-textlayer.textlayer ∷ number_or c.in_ok-textlayer.texttype ∷ [])
          (place_of c.in_ok-x.x c.in_ok-x.y c.in_ok-x.repetition) c.in_ok-textlayer.third c.in_ok-x.next refl
          c.in_ok-textlayer.ensures.ok c.in_ok-x.ensures.ok,
    );
  };
}

pub returns-in_err-info-clause-bad : goal.returns-in_err-info-clause-bad
returns-in_err-info-clause-bad c = handed_on _ _ _ c.from_residual.ensures.0 c.from_residual.ensures.1
    (info_refused (record { info = Below 128; parts = parts_at 19 }) c.args.bytes.now c.args.at c.in_err-info.field-0.0 c.in_err-info.ensures.bad)

pub returns-in_err-text-clause-bad : goal.returns-in_err-text-clause-bad
returns-in_err-text-clause-bad c = handed_on _ _ _ c.from_residual-in_err-text.ensures.0 c.from_residual-in_err-text.ensures.1
    (fields_refused (record { info = Below 128; parts = parts_at 19 }) c.args.bytes.now c.args.at c.in_ok-info.info c.in_err-text.field-0.0
    c.in_ok-info.ensures.there c.in_ok-info.ensures.ok c.in_ok-info.ensures.allowed (inl c.in_err-text.ensures.bad))

pub returns-in_err-textlayer-clause-bad : goal.returns-in_err-textlayer-clause-bad
returns-in_err-textlayer-clause-bad c = handed_on _ _ _ c.from_residual-in_err-textlayer.ensures.0 c.from_residual-in_err-textlayer.ensures.1
    (fields_refused (record { info = Below 128; parts = parts_at 19 }) c.args.bytes.now c.args.at c.in_ok-info.info c.in_err-textlayer.field-0.0
    c.in_ok-info.ensures.there c.in_ok-info.ensures.ok c.in_ok-info.ensures.allowed (inr (
      called_or c.in_ok-text.text,
      c.in_ok-text.second,
      c.in_ok-text.ensures.ok,
      fails_first pair place c.in_ok-info.info c.args.bytes.now c.in_ok-text.second c.in_err-textlayer.field-0.0 c.in_err-textlayer.ensures.bad,
    )))

pub returns-in_err-x-clause-bad : goal.returns-in_err-x-clause-bad
returns-in_err-x-clause-bad c = handed_on _ _ _ c.from_residual-in_err-x.ensures.0 c.from_residual-in_err-x.ensures.1
    (fields_refused (record { info = Below 128; parts = parts_at 19 }) c.args.bytes.now c.args.at c.in_ok-info.info c.in_err-x.field-0.0
    c.in_ok-info.ensures.there c.in_ok-info.ensures.ok c.in_ok-info.ensures.allowed (inr (
      called_or c.in_ok-text.text,
      c.in_ok-text.second,
      c.in_ok-text.ensures.ok,
      fails_then pair place c.in_ok-info.info c.in_ok-info.info c.args.bytes.now c.in_ok-text.second
          (number_or c.in_ok-textlayer.textlayer ∷ number_or c.in_ok-textlayer.texttype ∷ []) c.in_ok-textlayer.third c.in_err-x.field-0.0 refl
          c.in_ok-textlayer.ensures.ok c.in_err-x.ensures.bad,
    )))
