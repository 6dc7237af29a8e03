use Rattle.std.proofs.Common.{◌≡◌}
use Rattle.depot.specs.Shelves.{with_new}
use Rattle.depot.proofs.keeper.Keeper.create.Given as goal

abbrev pub invariant-loop-number : goal.invariant-loop-number
invariant-loop-number g l = record {
  rest : g.D.Disk.shelf l.self.disk ≡ with_new (g.D.Disk.shelf l.fn.self.disk) (g.D.Disk.shelf l.self.disk);
  tally : l.self.tally ≡ l.fn.self.tally;
  read : l.self.read ≡ l.fn.self.read;
  output : l.self.output ≡ l.fn.self.output;
  written : l.self.written ≡ l.fn.self.written;
}
