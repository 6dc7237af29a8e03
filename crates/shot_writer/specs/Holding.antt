-- What a call does to the content of a depot that writes through a buffer. It says so of a depot that tells its content.
use Rattle.std.specs.Prelude.{ℕ, Bool, IsTrue, List, Result, OnOk, OnErr}
use Rattle.depot.specs.Content.{Content, IsPartWritten}
use Rattle.depot.specs.declared.outside.DepotBad.{DepotBad}
use Rattle.shot_writer.specs.Writing.{IsWrittenButFor}

-- the bytes are written but for those that are held, or a prefix of what was held before where it is refused
pub record HoldsWritten {T : Type 0} (tells : Bool) (before now : Content) (had bytes held : List ℕ) (result : Result T DepotBad) : Type 0 where
  pub ok : OnOk result (IsTrue tells → IsWrittenButFor before bytes held now)
  pub refused : OnErr result (IsTrue tells → IsPartWritten before had now)
