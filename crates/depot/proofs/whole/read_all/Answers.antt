use Rattle.std.proofs.Common.{◌≤◌, length, ◌++◌, [], Some, Err, sym, ap, ◌∙◌, inl, arith}
use Rattle.std.proofs.lemmas.Result.{err_from_is_err_and}
use Rattle.depot.specs.Content.{Content, with_left}
use Rattle.depot.proofs.ForCallers.{Rose-later}
use Rattle.depot.proofs.Reading.{one_error, refused_not_long, refused_fault, not_longer, not_missing, longer, want_or_nothing}
use Rattle.depot.proofs.whole.read_all.Goals as goal

pub returns-in_err-start_read-clause-too_long : goal.returns-in_err-start_read-clause-too_long
returns-in_err-start_read-clause-too_long g c = λ is told.
    let p = err_from_is_err_and c.from_residual.result c.from_residual.ensures.1 in
    absurd (refused_not_long _ (sym p.2 ∙ one_error _ _ _ p.1 is))

pub returns-in_err-start_read-clause-fault : goal.returns-in_err-start_read-clause-fault
returns-in_err-start_read-clause-fault g c = λ is.
    let p = err_from_is_err_and c.from_residual.result c.from_residual.ensures.1 in
    c.in_err-start_read.ensures.counts.failed (ap (λ bad. Err bad) (refused_fault _ (sym p.2 ∙ one_error _ _ _ p.1 is)))

pub returns-in_err-read_rest-clause-fault : goal.returns-in_err-read_rest-clause-fault
returns-in_err-read_rest-clause-fault g c = λ is.
    let p = err_from_is_err_and c.from_residual-in_err-read_rest.result c.from_residual-in_err-read_rest.ensures.1 in
    inl (Rose-later _ _ _ c.start_read.ensures.counts.counted.read_faults
    (c.in_err-read_rest.ensures.fault (ap (λ bad. Err bad) (sym p.2 ∙ one_error _ _ _ p.1 is))))

pub returns-clause-ok : goal.returns-clause-ok
returns-clause-ok g c = λ told.
    let left = (g.D.Depot.content c.start_read.new.self).left in
    (c.in_ok-start_read.ensures.ok told).held
    ∙ ap (λ l. Some l) (sym (c.in_ok-read_rest.ensures.ok told ∙ ap (λ l. l ++ left) c.new-bytes.ensures.items))

pub returns-clause-whole : goal.returns-clause-whole
returns-clause-whole g c = λ told.
    c.in_ok-read_rest.ensures.whole told ∙ ap (λ (now : Content). with_left now []) (c.in_ok-start_read.ensures.ok told).rest

pub returns-clause-others : goal.returns-clause-others
returns-clause-others g c = λ told.
    let left = (g.D.Depot.content c.read_rest.new.depot).left in
    c.in_ok-read_rest.ensures.others told ∙ ap (λ (now : Content). with_left now left) (c.in_ok-start_read.ensures.ok told).rest

pub returns-clause-long : goal.returns-clause-long
returns-clause-long g c = λ told long.
    let le : length c.read_rest.new.bytes.items ≤ c.args.limit = omega (arith, c.in_ok-read_rest.ensures.within, c.read_rest.new.bytes.ok) in
    absurd (not_longer _ _ _ (returns-clause-ok g c told) le long)

pub returns-clause-missing : goal.returns-clause-missing
returns-clause-missing g c = λ told missing. absurd (not_missing _ _ (returns-clause-ok g c told) missing)

pub returns-in_err-read_rest-clause-too_long : goal.returns-in_err-read_rest-clause-too_long
returns-in_err-read_rest-clause-too_long g c = λ is told.
    let p = err_from_is_err_and c.from_residual-in_err-read_rest.result c.from_residual-in_err-read_rest.ensures.1 in
    longer _ _ _ c.args.limit (c.in_ok-start_read.ensures.ok told).held c.new-bytes.ensures.items
    (c.in_err-read_rest.ensures.too_long (ap (λ bad. Err bad) (sym p.2 ∙ one_error _ _ _ p.1 is)) told)

pub returns-in_err-read_rest-clause-no_memory : goal.returns-in_err-read_rest-clause-no_memory
returns-in_err-read_rest-clause-no_memory g c = λ is.
    let p = err_from_is_err_and c.from_residual-in_err-read_rest.result c.from_residual-in_err-read_rest.ensures.1 in
    want_or_nothing (g.D.Depot.counts c.args.depot.now) (g.D.Depot.counts c.start_read.new.self)
    (g.D.Depot.counts c.read_rest.new.depot) c.in_ok-start_read.ensures.counts.uncounted
    (c.in_err-read_rest.ensures.no_memory (ap (λ bad. Err bad) (sym p.2 ∙ one_error _ _ _ p.1 is)))
