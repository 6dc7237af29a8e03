use Rattle.oas_record.specs.Records.{signed_or, rep_or}
use Rattle.oas_record.proofs.Refusals.{ok_weaker, err_weaker}
use Rattle.oas_record.proofs.Switches.{place_moved, no_place_moved}
use Rattle.oas_record.proofs.extensions.path_place_at.Goals as goal

pub returns-clause-ok : goal.returns-clause-ok
returns-clause-ok c = ok_weaker _ _ c.place_at.result
    (λ r. place_moved c.args._extension c.args.info c.args.bytes.now c.args.at (signed_or r.0) (signed_or r.1)
    (rep_or r.2) r.3) c.place_at.ensures.ok

pub returns-clause-bad : goal.returns-clause-bad
returns-clause-bad c = err_weaker _ _ c.place_at.result
    (no_place_moved c.args._extension c.args.info c.args.bytes.now c.args.at)
    c.place_at.ensures.bad
