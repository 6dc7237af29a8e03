use Rattle.std.proofs.Common.{refl, [], ◌∷◌, inl, subst, ◌∙◌}
use Rattle.oas_record.specs.Lists.{NoNumbers}
use Rattle.oas_record.specs.Repetitions.{rep_rows, row_at, RepetitionRowFails, Just, AndFewer}
use Rattle.oas_record.proofs.Refusals.{handed_on}
use Rattle.oas_record.proofs.RepLemmas.{one, dim, fewer, fails_after}
use Rattle.oas_record.proofs.repetition_readers.spaces.Goals as goal

pub returns-clause-ok : goal.returns-clause-ok
returns-clause-ok c = (
  c.in_ok-stored.stored ∷ [],
  c.in_ok-stored.first,
  c.in_ok-spaces.next,
  record {
    dim_count = refl;
    stands_dims = one c.args.bytes.now c.args.at c.in_ok-stored.stored c.in_ok-stored.first c.in_ok-stored.ensures.ok;
    dims_are = dim c.dimension.result c.in_ok-stored.stored c.dimension.ensures;
    number_count = c.in_ok-spaces.ensures.size ∙ fewer c.in_ok-stored.stored;
    stands_numbers = c.in_ok-spaces.ensures.ok;
    delta_count = refl;
    stands_deltas = refl;
  },
)

pub returns-in_err-spaces-clause-bad : goal.returns-in_err-spaces-clause-bad
returns-in_err-spaces-clause-bad c =
    let fails : RepetitionRowFails (row_at rep_rows 4) c.args.bytes.now c.args.at c.in_err-spaces.field-0.0 =
    fails_after (record { dims = 1; numbers = AndFewer 0; deltas = Just 0 }) c.args.bytes.now c.args.at
    c.in_ok-stored.stored c.in_ok-stored.first c.in_err-spaces.field-0.0 refl c.in_ok-stored.ensures.ok
    (inl (subst (λ n. NoNumbers n c.args.bytes.now c.in_ok-stored.first c.in_err-spaces.field-0.0)
    (fewer c.in_ok-stored.stored) c.in_err-spaces.ensures.bad)) in
    handed_on _ _ _ c.from_residual-in_err-spaces.ensures.0 c.from_residual-in_err-spaces.ensures.1 fails
