-- What a call does to the content of a depot, by its answer. It says so of a depot that tells its content.
use Rattle.std.specs.Prelude.{ℕ, ◌≡◌, Bool, IsTrue, List, Result, OnOk, OnErr}
use Rattle.depot.specs.Content.{Content, with_written, IsPartWritten, with_said, IsPartSaid, with_file, IsPartMade}
use Rattle.depot.specs.Printing.{IsSaidButFor}
use Rattle.depot.specs.declared.outside.DepotBad.{DepotBad}

-- the bytes are appended to the started file, or a prefix of them where it is refused
pub record Writes {T : Type 0} (tells : Bool) (before now : Content) (bytes : List ℕ) (result : Result T DepotBad) : Type 0 where
  pub ok : OnOk result (IsTrue tells → now ≡ with_written before bytes)
  pub refused : OnErr result (IsTrue tells → IsPartWritten before bytes now)

-- the bytes are printed, or a prefix of them where it is refused
pub record Says {T : Type 0} (tells : Bool) (before now : Content) (bytes : List ℕ) (result : Result T DepotBad) : Type 0 where
  pub ok : OnOk result (IsTrue tells → now ≡ with_said before bytes)
  pub refused : OnErr result (IsTrue tells → IsPartSaid before bytes now)

-- the bytes are printed but for those that are held back, or a prefix of them where it is refused
pub record Puts {T : Type 0} (tells : Bool) (before now : Content) (bytes held : List ℕ) (result : Result T DepotBad) : Type 0 where
  pub ok : OnOk result (IsTrue tells → IsSaidButFor before bytes held now)
  pub refused : OnErr result (IsTrue tells → IsPartSaid before bytes now)

-- the bytes are printed but for those that are held back, or a prefix of what was held before where it is refused
pub record Adds {T : Type 0} (tells : Bool) (before now : Content) (had bytes held : List ℕ) (result : Result T DepotBad) : Type 0 where
  pub ok : OnOk result (IsTrue tells → IsSaidButFor before bytes held now)
  pub refused : OnErr result (IsTrue tells → IsPartSaid before had now)

-- the name is made with the bytes; where it is refused it is as before, or has a prefix of them
pub record Makes {T : Type 0} (tells : Bool) (before now : Content) (name bytes : List ℕ) (result : Result T DepotBad) : Type 0 where
  pub ok : OnOk result (IsTrue tells → now ≡ with_file before name bytes)
  pub refused : OnErr result (IsTrue tells → IsPartMade before name bytes now)
