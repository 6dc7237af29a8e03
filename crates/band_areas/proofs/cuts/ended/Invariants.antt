use Rattle.std.proofs.Common.{◌≡◌, ◌++◌, drop, map, filter}
use Rattle.band_areas.specs.Cuts.{cut_to, ends_in}
use Rattle.band_areas.proofs.cuts.ended.Given as goal

-- those so far, and those of what is left
abbrev pub invariant-loop-trap : goal.invariant-loop-trap
invariant-loop-trap l = l.list.items ++ map (cut_to l.rows) (filter (ends_in l.rows) (drop l.trap-index l.traps)) ≡ map
    (cut_to l.rows) (filter (ends_in l.rows) l.traps)
