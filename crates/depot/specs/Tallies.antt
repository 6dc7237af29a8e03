-- What a store of files has counted. Each refusal is one more of its kind, and a want of memory is a kind of its own.
use Rattle.depot.specs.Counts.{Counts, raised}
use Rattle.depot.specs.declared.fault.Tally.{Tally}
use Rattle.depot.specs.declared.outside.DepotBad.{DepotBad}
use Rattle.depot.specs.declared.outside.DepotBad.TheVariants.{Failed, NoMemory}

abbrev pub tally_counts : Tally → Counts
tally_counts t = record { read_faults = t.read_faults; write_faults = t.write_faults; refused = t.refused }

-- the counts once a read was refused so
abbrev pub counted_read : Counts → DepotBad → Counts
counted_read c Failed = record c { read_faults = raised c.read_faults }
counted_read c NoMemory = record c { refused = raised c.refused }

-- the counts once a write was refused so
abbrev pub counted_write : Counts → DepotBad → Counts
counted_write c Failed = record c { write_faults = raised c.write_faults }
counted_write c NoMemory = record c { refused = raised c.refused }
