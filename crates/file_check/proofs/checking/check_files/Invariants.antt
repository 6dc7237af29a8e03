use Rattle.std.proofs.Common.{◌≡◌, length, IsTrue}
use Rattle.depot.specs.Content.{ChangesLeftOnly}
use Rattle.file_check.specs.Files.{AreExactFiles}
use Rattle.file_check.proofs.checking.check_files.Given as goal

-- the files before the place are exact
abbrev pub invariant-loop-place : goal.invariant-loop-place
invariant-loop-place g l = record {
  exact : IsTrue g.D.Depot.tells → AreExactFiles l.plan (g.D.Depot.content l.initial.depot) l.place l.all.items;
  count : length l.all.items ≡ l.place;
  others : IsTrue g.D.Depot.tells → ChangesLeftOnly (g.D.Depot.content l.initial.depot) (g.D.Depot.content l.depot);
  uncounted : g.D.Depot.counts l.depot ≡ g.D.Depot.counts l.initial.depot;
}
