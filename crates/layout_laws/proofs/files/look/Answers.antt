use Rattle.layout_laws.proofs.files.look.Goals as goal
use Rattle.layout_laws.proofs.PlaceLemmas.{found}

pub returns : goal.returns
returns c =
    found c.args.bytes.now c.args.at c.args.tables c.record_at-found.result c.record_at-found.ensures.ok c.record_at-found.ensures.bad
    c.record_at-found.ensures.onward c.record_at-found.ensures.within
