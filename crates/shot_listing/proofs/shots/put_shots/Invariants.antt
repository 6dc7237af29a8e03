use Rattle.std.proofs.Common.{◌≡◌, ◌*◌, ◌^◌, ◌≤◌, ◌++◌, take, flat_map, IsTrue}
use Rattle.depot.specs.Counts.{NeverFall}
use Rattle.shot_writer.specs.Writing.{triangles_of}
use Rattle.shot_listing.specs.Listing.{shot_line}
use Rattle.depot.specs.Printing.{IsSaidButFor}
use Rattle.shot_listing.proofs.shots.put_shots.Given as goal

abbrev pub invariant-loop-shot : goal.invariant-loop-shot
invariant-loop-shot g l = record {
  triangles : l.triangles ≡ triangles_of (take l.shot-index l.shots);
  few : l.triangles ≤ l.shot-index * 2 ^ 91;
  said : IsTrue g.D.Depot.tells
      → IsSaidButFor (g.D.Depot.content l.initial.depot)
      (l.initial.buffer ++ flat_map shot_line (take l.shot-index l.shots)) l.buffer (g.D.Depot.content l.depot);
  uncounted : g.D.Depot.counts l.depot ≡ g.D.Depot.counts l.initial.depot;
  counted : NeverFall (g.D.Depot.counts l.initial.depot) (g.D.Depot.counts l.depot);
}
