-- Where a file is put that is written under a name.
use Rattle.std.specs.Prelude.{List, ℕ, string_bytes, Option, None, Some}
use Rattle.depot.specs.declared.disk.Target.{Target}
use Rattle.depot.specs.declared.disk.Target.TheVariants.{Free, Taken, Straight}
use Rattle.depot.specs.declared.disk.FileId.{FileId}

-- the path at which a file may be put, if there is one
abbrev pub path_of : Target → Option (List ℕ)
path_of (Free path) = Some (string_bytes path)
path_of (Taken path id permissions) = Some (string_bytes path)
path_of Straight = None

-- the file that is there
abbrev pub id_of : Target → Option FileId
id_of (Free path) = None
id_of (Taken path id permissions) = Some id
id_of Straight = None
