use Rattle.std.proofs.Common.{ℕ, ap, subst, ◌∙◌}
use Rattle.std.proofs.lemmas.Result.{err_from_is_err_and}
use Rattle.depot.specs.Counts.{Counts, Rose}
use Rattle.geo_stream.proofs.ForCallers.{for_fault_weaker}
use Rattle.file_check.proofs.Answering.{counted, exact_before, fault_before, left_again, one_file_more}
use Rattle.file_check.proofs.checking.check_files.Goals as goal

pub returns-in_err-sums-clause-refused : goal.returns-in_err-sums-clause-refused
returns-in_err-sums-clause-refused g c =
    let p = err_from_is_err_and c.from_residual.result c.from_residual.ensures.1 in
    let i = c.loop-place.invariant in
    let now = (g.D.Depot.counts c.check_file.new.depot).read_faults in
    let same = ap (λ (n : Counts). n.read_faults) i.uncounted in
    rw (p.1, p.2) (for_fault_weaker _ _ c.in_err-sums.field-0.0
    (λ bad known told. record {
      place = c.loop-place.place;
      sums = c.loop-place.all.items;
      before = i.exact told;
      fault = fault_before c.args.plan.now c.loop-place.place (g.D.Depot.content c.args.depot.now)
          (g.D.Depot.content c.loop-place.depot) _ _ bad (i.others told)
          (subst (λ (n : ℕ). Rose n now) same) (known told);
    })
    c.in_err-sums.ensures.refused)

pub loop-place-preserved : goal.loop-place-preserved
loop-place-preserved g c =
    let i = c.loop-place.invariant in
    record {
      exact = λ told. one_file_more c.args.plan.now (g.D.Depot.content c.args.depot.now) c.loop-place.place
          c.loop-place.all.items _ c.in_ok-sums.sums (i.exact told)
          (exact_before c.args.plan.now c.loop-place.place (g.D.Depot.content c.args.depot.now)
          (g.D.Depot.content c.loop-place.depot) c.in_ok-sums.sums (i.others told) (c.in_ok-sums.ensures.ok told))
          c.in-Ok.ensures.items;
      count = counted c.loop-place.all.items _ c.in_ok-sums.sums c.loop-place.place c.in-Ok.ensures.items i.count;
      others = λ told. left_again (g.D.Depot.content c.args.depot.now) (g.D.Depot.content c.loop-place.depot)
          (g.D.Depot.content c.check_file.new.depot) (i.others told) (c.in_ok-sums.ensures.others told);
      uncounted = c.in_ok-sums.ensures.uncounted ∙ i.uncounted;
    }
