use Rattle.std.proofs.Common.{◌≡◌, ap, arith, length}
use Rattle.flat_walk.specs.Entries.{entries_from}
use Rattle.flat_walk.proofs.CodeLemmas.{entries_long}
use Rattle.flat_walk.proofs.entries.EntryTable.len.Goals as goal

pub returns : goal.returns
returns c =
    let s = c.self.inside in
    let long = entries_long s.shapes.now s.store 0 s.codes in
    let same : length (entries_from s.shapes.now s.store 0 s.codes) ≡ length c.args.self.now = ap length c.self.view_is in
    omega (arith, c.len.ensures, long, same)
