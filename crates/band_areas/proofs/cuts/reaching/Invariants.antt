use Rattle.std.proofs.Common.{◌≡◌, ◌++◌, drop, map, filter}
use Rattle.band_areas.specs.Cuts.{cut_to, reaches_top}
use Rattle.band_areas.proofs.cuts.reaching.Given as goal

-- those so far, and those of what is left
abbrev pub invariant-loop-trap : goal.invariant-loop-trap
invariant-loop-trap l = l.list.items ++ map (cut_to l.rows) (filter (reaches_top l.rows) (drop l.trap-index l.traps))
    ≡ map (cut_to l.rows) (filter (reaches_top l.rows) l.traps)
