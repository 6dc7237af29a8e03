use Rattle.std.proofs.Common.{refl, [], ◌∷◌, inl}
use Rattle.oas_record.specs.Repetitions.{rep_rows, row_at, RepetitionRowFails, Just}
use Rattle.oas_record.proofs.Refusals.{handed_on}
use Rattle.oas_record.proofs.RepLemmas.{one, dim, fails_after}
use Rattle.oas_record.proofs.repetition_readers.spaced.Goals as goal

pub returns-clause-ok : goal.returns-clause-ok
returns-clause-ok c = (
  c.in_ok-stored.stored ∷ [],
  c.in_ok-stored.first,
  c.in_ok-space.next,
  record {
    dim_count = refl;
    stands_dims = one c.args.bytes.now c.args.at c.in_ok-stored.stored c.in_ok-stored.first c.in_ok-stored.ensures.ok;
    dims_are = dim c.dimension.result c.in_ok-stored.stored c.dimension.ensures;
    number_count = refl;
    stands_numbers = one c.args.bytes.now c.in_ok-stored.first c.in_ok-space.space c.in_ok-space.next c.in_ok-space.ensures.ok;
    delta_count = refl;
    stands_deltas = refl;
  },
)

pub returns-in_err-space-clause-bad : goal.returns-in_err-space-clause-bad
returns-in_err-space-clause-bad c =
    let fails : RepetitionRowFails (row_at rep_rows 2) c.args.bytes.now c.args.at c.in_err-space.field-0.0 =
    fails_after (record { dims = 1; numbers = Just 1; deltas = Just 0 }) c.args.bytes.now c.args.at
    c.in_ok-stored.stored c.in_ok-stored.first c.in_err-space.field-0.0 refl c.in_ok-stored.ensures.ok
    (inl (inl c.in_err-space.ensures.bad)) in
    handed_on _ _ _ c.from_residual-in_err-space.ensures.0 c.from_residual-in_err-space.ensures.1 fails
