-- What a call over a depot counts, by its answer. A call that succeeds counts nothing, and no count falls.
use Rattle.std.specs.Prelude.{◌≡◌, ◌⊎◌, Result, OnOk, IsErrOf}
use Rattle.depot.specs.Counts.{Counts, Rose, NeverFall}
use Rattle.depot.specs.declared.outside.DepotBad.{DepotBad}
use Rattle.depot.specs.declared.outside.DepotBad.TheVariants.{Failed, NoMemory}

-- A call that writes or prints. A refusal is counted as a fault of writing, a want of memory as such, and no fault of
-- reading is counted.
pub record CountsWrites {T : Type 0} (before now : Counts) (result : Result T DepotBad) : Type 0 where
  pub failed : IsErrOf result Failed → Rose before.write_faults now.write_faults
  pub no_memory : IsErrOf result NoMemory → Rose before.refused now.refused
  pub uncounted : OnOk result (now ≡ before)
  pub reads : now.read_faults ≡ before.read_faults
  pub counted : NeverFall before now

-- A call that also takes memory which is no depot's. Where it runs out, nothing is counted.
pub record CountsWritesInMemory {T : Type 0} (before now : Counts) (result : Result T DepotBad) : Type 0 where
  pub failed : IsErrOf result Failed → Rose before.write_faults now.write_faults
  pub no_memory : IsErrOf result NoMemory → Rose before.refused now.refused ⊎ (now ≡ before)
  pub uncounted : OnOk result (now ≡ before)
  pub reads : now.read_faults ≡ before.read_faults
  pub counted : NeverFall before now

-- A call that reads. A refusal is counted as a fault of reading, a want of memory as such.
pub record CountsReads {T : Type 0} (before now : Counts) (result : Result T DepotBad) : Type 0 where
  pub failed : IsErrOf result Failed → Rose before.read_faults now.read_faults
  pub no_memory : IsErrOf result NoMemory → Rose before.refused now.refused
  pub uncounted : OnOk result (now ≡ before)
  pub counted : NeverFall before now

-- A call that starts a read. Of a name that is missing a refusal may be uncounted.
pub record CountsStarts {T : Type 0} (before now : Counts) (missing : Type 0) (result : Result T DepotBad) : Type 0 where
  pub failed : IsErrOf result Failed → Rose before.read_faults now.read_faults ⊎ missing
  pub no_memory : IsErrOf result NoMemory → Rose before.refused now.refused
  pub uncounted : OnOk result (now ≡ before)
  pub counted : NeverFall before now
