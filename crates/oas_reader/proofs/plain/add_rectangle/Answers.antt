use Rattle.std.proofs.Common.{◌≡◌, true}
use Rattle.oas_reader.proofs.PlainLemmas.{plain_refused}
use Rattle.oas_reader.proofs.plain.add_rectangle.Goals as goal

pub returns-in-Err-clause-broken : goal.returns-in-Err-clause-broken
returns-in-Err-clause-broken c =
    let wanted : c.args.is_wanted ≡ true = c.if-not-is_wanted.false in
    plain_refused c.args.fields.now c.args.is_wanted c.args.at c.in-Err.bad wanted c.in-Err.ensures.broken
