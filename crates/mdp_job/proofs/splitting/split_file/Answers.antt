use Rattle.std.proofs.Common.{inl, inr, refl, sym, subst, arith}
use Rattle.std.proofs.lemmas.Int.{ints}
use Rattle.field_split.specs.Fields.{IsFieldSize}
use Rattle.mdp_job.specs.FileAnswers.{shot_data}
use Rattle.mdp_job.proofs.Splits.{of_writing, never_read, span_fault_kind, span_splits}
use Rattle.mdp_job.proofs.splitting.split_file.Goals as goal

pub split_span-requires : goal.split_span-requires
split_span-requires g c = record {
  plain = c.requires.plain;
  size = subst IsFieldSize (sym c.fields_of-fields.ensures)
      (record { least = omega (arith, ints, c.requires.size.0); most = omega (arith, ints, c.requires.size.1) });
  within = rw c.as_slice.ensures at c.in-Ok.ensures.within;
  span = rw c.as_slice.ensures at c.in-Ok.ensures.span;
}

pub returns-in-Ok-clause-made : goal.returns-in-Ok-clause-made
returns-in-Ok-clause-made g c = λ told.
    let can = span_splits _ (shot_data c.args.file.now).shots c.in-Ok.span
    (rw c.as_slice.ensures at c.in-Ok.ensures.within) (rw (c.as_slice.ensures, c.fields_of-fields.ensures) at c.in-Ok.ensures.span) in
    inl (can, rw c.fields_of-fields.ensures at (c.split_span.ensures.made told))

pub returns-in-Err-clause-made : goal.returns-in-Err-clause-made
returns-in-Err-clause-made g c = λ told. inr (c.in-Err.fault, refl, rw (c.as_slice.ensures, c.fields_of-fields.ensures) at c.in-Err.ensures.refused, refl)

pub returns-in-Ok-clause-no_read_fault : goal.returns-in-Ok-clause-no_read_fault
returns-in-Ok-clause-no_read_fault g c = never_read c.split_span.result c.split_span.ensures.kind

pub returns-in-Ok-clause-kind : goal.returns-in-Ok-clause-kind
returns-in-Ok-clause-kind g c = of_writing c.split_span.result c.split_span.ensures.kind

pub returns-in-Err-clause-kind : goal.returns-in-Err-clause-kind
returns-in-Err-clause-kind g c = (refl, span_fault_kind _ _ c.in-Err.fault c.in-Err.ensures.refused)
