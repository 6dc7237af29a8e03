use Rattle.std.proofs.Common.{refl, [], ◌∷◌, inl, inr}
use Rattle.oas_record.specs.Repetitions.{rep_rows, row_at, RepetitionRowFails, Just}
use Rattle.oas_record.proofs.Refusals.{handed_on}
use Rattle.oas_record.proofs.RepLemmas.{one, dim, fails_after}
use Rattle.oas_record.proofs.repetition_readers.line.Goals as goal

pub returns-clause-ok : goal.returns-clause-ok
returns-clause-ok c = (
  c.in_ok-stored.stored ∷ [],
  c.in_ok-stored.first,
  c.in_ok-stored.first,
  record {
    dim_count = refl;
    stands_dims = one c.args.bytes.now c.args.at c.in_ok-stored.stored c.in_ok-stored.first c.in_ok-stored.ensures.ok;
    dims_are = dim c.dimension.result c.in_ok-stored.stored c.dimension.ensures;
    number_count = refl;
    stands_numbers = refl;
    delta_count = refl;
    stands_deltas = (c.in_ok-u.next, c.in_ok-u.ensures.ok, refl);
  },
)

pub returns-in_err-u-clause-bad : goal.returns-in_err-u-clause-bad
returns-in_err-u-clause-bad c =
    let fails : RepetitionRowFails (row_at rep_rows 9) c.args.bytes.now c.args.at c.in_err-u.field-0.0 =
    fails_after (record { dims = 1; numbers = Just 0; deltas = Just 1 }) c.args.bytes.now c.args.at
    c.in_ok-stored.stored c.in_ok-stored.first c.in_err-u.field-0.0 refl c.in_ok-stored.ensures.ok
    (inr ([], c.in_ok-stored.first, (refl, refl), inl c.in_err-u.ensures.bad)) in
    handed_on _ _ _ c.from_residual-in_err-u.ensures.0 c.from_residual-in_err-u.ensures.1 fails
