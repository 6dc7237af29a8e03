-- What a call of a writer counts that keeps its first refusal.
use Rattle.std.specs.Prelude.{◌≡◌, ◌⊎◌, Result, Option, Some, OnOk, IsErrOf}
use Rattle.depot.specs.Counts.{Counts, Rose, NeverFall}
use Rattle.depot.specs.declared.outside.DepotBad.{DepotBad}
use Rattle.depot.specs.declared.outside.DepotBad.TheVariants.{Failed, NoMemory}

-- It counts as a call that writes does, unless the refusal is the one that was kept before.
pub record CountsUnlessKept {T : Type 0} (kept : Option DepotBad) (before now : Counts) (result : Result T DepotBad) : Type 0 where
  pub failed : IsErrOf result Failed → (kept ≡ Some Failed) ⊎ Rose before.write_faults now.write_faults
  pub no_memory : IsErrOf result NoMemory → (kept ≡ Some NoMemory) ⊎ Rose before.refused now.refused
  pub uncounted : OnOk result (now ≡ before)
  pub reads : now.read_faults ≡ before.read_faults
  pub counted : NeverFall before now
