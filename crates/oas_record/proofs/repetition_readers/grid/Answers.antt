use Rattle.std.proofs.Common.{refl, [], ◌∷◌, inl, inr}
use Rattle.oas_record.specs.Repetitions.{rep_rows, row_at, RepetitionRowFails, Just}
use Rattle.oas_record.proofs.Refusals.{handed_on}
use Rattle.oas_record.proofs.RepLemmas.{two, dims, fails_after_two}
use Rattle.oas_record.proofs.repetition_readers.grid.Goals as goal

pub returns-clause-ok : goal.returns-clause-ok
returns-clause-ok c = (
  c.in_ok-x_stored.x_stored ∷ c.in_ok-y_stored.y_stored ∷ [],
  c.in_ok-y_stored.first,
  c.in_ok-y_space.next,
  record {
    dim_count = refl;
    stands_dims = two c.args.bytes.now c.args.at c.in_ok-x_stored.x_stored c.in_ok-x_stored.second
        c.in_ok-y_stored.y_stored c.in_ok-y_stored.first c.in_ok-x_stored.ensures.ok c.in_ok-y_stored.ensures.ok;
    dims_are = dims c.dimension.result c.in_ok-x_stored.x_stored c.dimension-2.result c.in_ok-y_stored.y_stored c.dimension.ensures c.dimension-2.ensures;
    number_count = refl;
    stands_numbers = two c.args.bytes.now c.in_ok-y_stored.first c.in_ok-x_space.x_space c.in_ok-x_space.last
        c.in_ok-y_space.y_space c.in_ok-y_space.next c.in_ok-x_space.ensures.ok c.in_ok-y_space.ensures.ok;
    delta_count = refl;
    stands_deltas = refl;
  },
)

pub returns-in_err-x_space-clause-bad : goal.returns-in_err-x_space-clause-bad
returns-in_err-x_space-clause-bad c =
    let fails : RepetitionRowFails (row_at rep_rows 1) c.args.bytes.now c.args.at c.in_err-x_space.field-0.0 =
    fails_after_two (record { dims = 2; numbers = Just 2; deltas = Just 0 }) c.args.bytes.now c.args.at
    c.in_ok-x_stored.x_stored c.in_ok-x_stored.second c.in_ok-y_stored.y_stored c.in_ok-y_stored.first
    c.in_err-x_space.field-0.0 refl c.in_ok-x_stored.ensures.ok c.in_ok-y_stored.ensures.ok
    (inl (inl c.in_err-x_space.ensures.bad)) in
    handed_on _ _ _ c.from_residual-in_err-x_space.ensures.0 c.from_residual-in_err-x_space.ensures.1 fails

pub returns-in_err-y_space-clause-bad : goal.returns-in_err-y_space-clause-bad
returns-in_err-y_space-clause-bad c =
    let fails : RepetitionRowFails (row_at rep_rows 1) c.args.bytes.now c.args.at c.in_err-y_space.field-0.0 =
    fails_after_two (record { dims = 2; numbers = Just 2; deltas = Just 0 }) c.args.bytes.now c.args.at
    c.in_ok-x_stored.x_stored c.in_ok-x_stored.second c.in_ok-y_stored.y_stored c.in_ok-y_stored.first
    c.in_err-y_space.field-0.0 refl c.in_ok-x_stored.ensures.ok c.in_ok-y_stored.ensures.ok
    (inl (inr (
      c.in_ok-x_space.x_space,
      c.in_ok-x_space.last,
      c.in_ok-x_space.ensures.ok,
      inl
          c.in_err-y_space.ensures.bad,
    ))) in
    handed_on _ _ _ c.from_residual-in_err-y_space.ensures.0 c.from_residual-in_err-y_space.ensures.1 fails
