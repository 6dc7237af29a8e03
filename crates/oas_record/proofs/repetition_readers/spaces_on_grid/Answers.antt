use Rattle.std.proofs.Common.{refl, [], ◌∷◌, inl, inr, arith, subst}
use Rattle.oas_record.specs.Lists.{NoNumbers}
use Rattle.oas_record.specs.Repetitions.{rep_rows, row_at, RepetitionRowFails, Just, AndFewer}
use Rattle.oas_record.proofs.Refusals.{handed_on}
use Rattle.oas_record.proofs.RepLemmas.{one, dim, one_and_fewer, fails_after}
use Rattle.oas_record.proofs.repetition_readers.spaces_on_grid.Goals as goal

pub returns-clause-ok : goal.returns-clause-ok
returns-clause-ok c = (
  c.in_ok-stored.stored ∷ [],
  c.in_ok-stored.grid_at,
  c.in_ok-spaces.next,
  record {
    dim_count = refl;
    stands_dims = one c.args.bytes.now c.args.at c.in_ok-stored.stored c.in_ok-stored.grid_at c.in_ok-stored.ensures.ok;
    dims_are = dim c.dimension.result c.in_ok-stored.stored c.dimension.ensures;
    number_count = omega (arith, c.in_ok-spaces.ensures.size);
    stands_numbers = (c.in_ok-grid.first, c.in_ok-grid.ensures.ok, c.in_ok-spaces.ensures.ok);
    delta_count = refl;
    stands_deltas = refl;
  },
)

pub returns-in_err-grid-clause-bad : goal.returns-in_err-grid-clause-bad
returns-in_err-grid-clause-bad c =
    let fails : RepetitionRowFails (row_at rep_rows 5) c.args.bytes.now c.args.at c.in_err-grid.field-0.0 =
    fails_after (record { dims = 1; numbers = AndFewer 1; deltas = Just 0 }) c.args.bytes.now c.args.at
    c.in_ok-stored.stored c.in_ok-stored.grid_at c.in_err-grid.field-0.0 refl c.in_ok-stored.ensures.ok
    (inl (subst (λ n. NoNumbers n c.args.bytes.now c.in_ok-stored.grid_at c.in_err-grid.field-0.0)
    (one_and_fewer c.in_ok-stored.stored) (inl c.in_err-grid.ensures.bad))) in
    handed_on _ _ _ c.from_residual-in_err-grid.ensures.0 c.from_residual-in_err-grid.ensures.1 fails

pub returns-in_err-spaces-clause-bad : goal.returns-in_err-spaces-clause-bad
returns-in_err-spaces-clause-bad c =
    let fails : RepetitionRowFails (row_at rep_rows 5) c.args.bytes.now c.args.at c.in_err-spaces.field-0.0 =
    fails_after (record { dims = 1; numbers = AndFewer 1; deltas = Just 0 }) c.args.bytes.now c.args.at
    c.in_ok-stored.stored c.in_ok-stored.grid_at c.in_err-spaces.field-0.0 refl c.in_ok-stored.ensures.ok
    (inl (subst (λ n. NoNumbers n c.args.bytes.now c.in_ok-stored.grid_at c.in_err-spaces.field-0.0)
    (one_and_fewer c.in_ok-stored.stored)
    (inr (c.in_ok-grid.grid, c.in_ok-grid.first, c.in_ok-grid.ensures.ok, c.in_err-spaces.ensures.bad)))) in
    handed_on _ _ _ c.from_residual-in_err-spaces.ensures.0 c.from_residual-in_err-spaces.ensures.1 fails
