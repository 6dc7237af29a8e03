use Rattle.std.proofs.Common.{refl, [], ◌∷◌, inl, inr, subst, ◌∙◌}
use Rattle.oas_record.specs.Lists.{NoDeltas}
use Rattle.oas_record.specs.Repetitions.{rep_rows, row_at, RepetitionRowFails, Just, AndFewer}
use Rattle.oas_record.specs.declared.delta_form.DeltaForm.TheVariants.{GDelta}
use Rattle.oas_record.proofs.Refusals.{handed_on}
use Rattle.oas_record.proofs.RepLemmas.{one, dim, fewer, fails_after}
use Rattle.oas_record.proofs.repetition_readers.moves_on_grid.Goals as goal

pub returns-clause-ok : goal.returns-clause-ok
returns-clause-ok c = (
  c.in_ok-stored.stored ∷ [],
  c.in_ok-stored.grid_at,
  c.in_ok-grid.first,
  record {
    dim_count = refl;
    stands_dims = one c.args.bytes.now c.args.at c.in_ok-stored.stored c.in_ok-stored.grid_at c.in_ok-stored.ensures.ok;
    dims_are = dim c.dimension.result c.in_ok-stored.stored c.dimension.ensures;
    number_count = refl;
    stands_numbers = one c.args.bytes.now c.in_ok-stored.grid_at c.in_ok-grid.grid c.in_ok-grid.first c.in_ok-grid.ensures.ok;
    delta_count = c.in_ok-moves.ensures.size ∙ fewer c.in_ok-stored.stored;
    stands_deltas = c.in_ok-moves.ensures.ok;
  },
)

pub returns-in_err-grid-clause-bad : goal.returns-in_err-grid-clause-bad
returns-in_err-grid-clause-bad c =
    let fails : RepetitionRowFails (row_at rep_rows 11) c.args.bytes.now c.args.at c.in_err-grid.field-0.0 =
    fails_after (record { dims = 1; numbers = Just 1; deltas = AndFewer 0 }) c.args.bytes.now c.args.at
    c.in_ok-stored.stored c.in_ok-stored.grid_at c.in_err-grid.field-0.0 refl c.in_ok-stored.ensures.ok
    (inl (inl c.in_err-grid.ensures.bad)) in
    handed_on _ _ _ c.from_residual-in_err-grid.ensures.0 c.from_residual-in_err-grid.ensures.1 fails

pub returns-in_err-moves-clause-bad : goal.returns-in_err-moves-clause-bad
returns-in_err-moves-clause-bad c =
    let fails : RepetitionRowFails (row_at rep_rows 11) c.args.bytes.now c.args.at c.in_err-moves.field-0.0 =
    fails_after (record { dims = 1; numbers = Just 1; deltas = AndFewer 0 }) c.args.bytes.now c.args.at
    c.in_ok-stored.stored c.in_ok-stored.grid_at c.in_err-moves.field-0.0 refl c.in_ok-stored.ensures.ok
    (inr (
      c.in_ok-grid.grid ∷ [],
      c.in_ok-grid.first,
      (
        refl,
        one c.args.bytes.now c.in_ok-stored.grid_at c.in_ok-grid.grid c.in_ok-grid.first
            c.in_ok-grid.ensures.ok,
      ),
      subst
          (λ n. NoDeltas GDelta n c.args.bytes.now c.in_ok-grid.first c.in_err-moves.field-0.0)
          (fewer c.in_ok-stored.stored) c.in_err-moves.ensures.bad,
    )) in
    handed_on _ _ _ c.from_residual-in_err-moves.ensures.0 c.from_residual-in_err-moves.ensures.1 fails
