use Rattle.std.proofs.Common.{◌≡◌, length, ap, ◌∙◌, arith}
use Rattle.depot.specs.Filing.{files_of}
use Rattle.depot.proofs.FilingLemmas.{files_of-push, place-push}
use Rattle.depot.proofs.filing.push.Goals as goal

pub returns-clause-ok : goal.returns-clause-ok
returns-clause-ok c =
    ap files_of c.in_ok-push.ensures.items ∙ files_of-push c.args.files.now.items c.args.name.now _ c.requires c.in_ok-name.ensures.ok

pub returns-clause-place : goal.returns-clause-place
returns-clause-place c =
    let end : length c.args.files.now.items ≡ c.len-at.result = omega (arith, c.args.files.now.ok) in
    rw (c.in_ok-push.ensures.items, ← end) (place-push c.args.files.now.items c.args.name.now _ c.requires c.in_ok-name.ensures.ok)
