use Rattle.std.proofs.Common.{refl, [], ◌∷◌, inr, subst, ◌∙◌}
use Rattle.oas_record.specs.Lists.{NoDeltas}
use Rattle.oas_record.specs.Repetitions.{rep_rows, row_at, RepetitionRowFails, Just, AndFewer}
use Rattle.oas_record.specs.declared.delta_form.DeltaForm.TheVariants.{GDelta}
use Rattle.oas_record.proofs.Refusals.{handed_on}
use Rattle.oas_record.proofs.RepLemmas.{one, dim, fewer, fails_after}
use Rattle.oas_record.proofs.repetition_readers.moves.Goals as goal

pub returns-clause-ok : goal.returns-clause-ok
returns-clause-ok c = (
  c.in_ok-stored.stored ∷ [],
  c.in_ok-stored.first,
  c.in_ok-stored.first,
  record {
    dim_count = refl;
    stands_dims = one c.args.bytes.now c.args.at c.in_ok-stored.stored c.in_ok-stored.first c.in_ok-stored.ensures.ok;
    dims_are = dim c.dimension.result c.in_ok-stored.stored c.dimension.ensures;
    number_count = refl;
    stands_numbers = refl;
    delta_count = c.in_ok-moves.ensures.size ∙ fewer c.in_ok-stored.stored;
    stands_deltas = c.in_ok-moves.ensures.ok;
  },
)

pub returns-in_err-moves-clause-bad : goal.returns-in_err-moves-clause-bad
returns-in_err-moves-clause-bad c =
    let fails : RepetitionRowFails (row_at rep_rows 10) c.args.bytes.now c.args.at c.in_err-moves.field-0.0 =
    fails_after (record { dims = 1; numbers = Just 0; deltas = AndFewer 0 }) c.args.bytes.now c.args.at
    c.in_ok-stored.stored c.in_ok-stored.first c.in_err-moves.field-0.0 refl c.in_ok-stored.ensures.ok
    (inr (
      [],
      c.in_ok-stored.first,
      (refl, refl),
      subst
          (λ n. NoDeltas GDelta n c.args.bytes.now c.in_ok-stored.first c.in_err-moves.field-0.0)
          (fewer c.in_ok-stored.stored) c.in_err-moves.ensures.bad,
    )) in
    handed_on _ _ _ c.from_residual-in_err-moves.ensures.0 c.from_residual-in_err-moves.ensures.1 fails
