use Rattle.std.proofs.Common.{refl, [], ◌∷◌, inl, inr}
use Rattle.oas_record.specs.Repetitions.{rep_rows, row_at, RepetitionRowFails, Just}
use Rattle.oas_record.proofs.Refusals.{handed_on}
use Rattle.oas_record.proofs.RepLemmas.{two, dims, fails_after_two}
use Rattle.oas_record.proofs.repetition_readers.lattice.Goals as goal

pub returns-clause-ok : goal.returns-clause-ok
returns-clause-ok c = (
  c.in_ok-n_stored.n_stored ∷ c.in_ok-m_stored.m_stored ∷ [],
  c.in_ok-m_stored.first,
  c.in_ok-m_stored.first,
  record {
    dim_count = refl;
    stands_dims = two c.args.bytes.now c.args.at c.in_ok-n_stored.n_stored c.in_ok-n_stored.second
        c.in_ok-m_stored.m_stored c.in_ok-m_stored.first c.in_ok-n_stored.ensures.ok c.in_ok-m_stored.ensures.ok;
    dims_are = dims c.dimension.result c.in_ok-n_stored.n_stored c.dimension-2.result c.in_ok-m_stored.m_stored c.dimension.ensures c.dimension-2.ensures;
    number_count = refl;
    stands_numbers = refl;
    delta_count = refl;
    stands_deltas = (c.in_ok-u.last, c.in_ok-u.ensures.ok, (c.in_ok-v.next, c.in_ok-v.ensures.ok, refl));
  },
)

pub returns-in_err-u-clause-bad : goal.returns-in_err-u-clause-bad
returns-in_err-u-clause-bad c =
    let fails : RepetitionRowFails (row_at rep_rows 8) c.args.bytes.now c.args.at c.in_err-u.field-0.0 =
    fails_after_two (record { dims = 2; numbers = Just 0; deltas = Just 2 }) c.args.bytes.now c.args.at
    c.in_ok-n_stored.n_stored c.in_ok-n_stored.second c.in_ok-m_stored.m_stored c.in_ok-m_stored.first
    c.in_err-u.field-0.0 refl c.in_ok-n_stored.ensures.ok c.in_ok-m_stored.ensures.ok
    (inr ([], c.in_ok-m_stored.first, (refl, refl), inl c.in_err-u.ensures.bad)) in
    handed_on _ _ _ c.from_residual-in_err-u.ensures.0 c.from_residual-in_err-u.ensures.1 fails

pub returns-in_err-v-clause-bad : goal.returns-in_err-v-clause-bad
returns-in_err-v-clause-bad c =
    let fails : RepetitionRowFails (row_at rep_rows 8) c.args.bytes.now c.args.at c.in_err-v.field-0.0 =
    fails_after_two (record { dims = 2; numbers = Just 0; deltas = Just 2 }) c.args.bytes.now c.args.at
    c.in_ok-n_stored.n_stored c.in_ok-n_stored.second c.in_ok-m_stored.m_stored c.in_ok-m_stored.first
    c.in_err-v.field-0.0 refl c.in_ok-n_stored.ensures.ok c.in_ok-m_stored.ensures.ok
    (inr (
      [],
      c.in_ok-m_stored.first,
      (refl, refl),
      inr
          (c.in_ok-u.u, c.in_ok-u.last, c.in_ok-u.ensures.ok, inl c.in_err-v.ensures.bad),
    )) in
    handed_on _ _ _ c.from_residual-in_err-v.ensures.0 c.from_residual-in_err-v.ensures.1 fails
