-- What a store of files keeps in its books of what it writes.
use Rattle.std.specs.Prelude.{◌≡◌, ℕ, List, [], Bool, IsTrue, Option, Some, IsSome, IfSome, string_bytes}
use Rattle.depot.specs.declared.disk.FileId.{FileId}
use Rattle.depot.specs.declared.keeper.Output.{Output}
use Rattle.depot.specs.declared.keeper.Part.{Part}
use Rattle.depot.specs.Shelves.{Shelf, IsAmong, IsNoneOf}

-- The new file is the one that was made, and its path is where the name leads.
abbrev pub IsSoundPart : Bool → (List ℕ → List ℕ → Type 0) → List ℕ → Shelf → Part → Type 0
IsSoundPart tells leads name s p =
    IsTrue tells → (s.beside ≡ string_bytes p.part) × leads name (string_bytes p.path)

-- What is being written is sound, where it is a new file.
abbrev pub IsSound : Bool → (List ℕ → List ℕ → Type 0) → Option Output → Shelf → Type 0
IsSound tells leads output s =
    IfSome output (λ o. IfSome o.part (λ p. IsSoundPart tells leads (string_bytes o.name) s p))

-- What was written under the name is in its place: the name is the new file, and holds all that was written.
abbrev pub IsPlaced : Bool → Option Output → Shelf → Shelf → Type 0
IsPlaced tells output before now =
    IfSome output (λ o. IsSome o.part → IsTrue tells
    → (before.writing ≡ Some (now.files (string_bytes o.name))) × (now.ids (string_bytes o.name) ≡ before.part))

-- A new file was begun for a name: it is empty, the name is no file that was read or written before, and the new file is
-- among those that are written.
pub record IsBegun (read before written : List FileId) (name : List ℕ) (now : Shelf) : Type 0 where
  pub empty : now.writing ≡ Some (Some [])
  pub free : IfSome (now.ids name) (λ id. IsNoneOf read id × IsNoneOf before id)
  pub noted : IfSome now.part (λ id. IsAmong written id)
