-- The files of a system, as a store of files uses them: what is being read and written, what each name holds, and what was
-- said. Of what a file still has to give, or was given, maybe nothing is known.
use Rattle.std.specs.Prelude.{◌≡◌, ◌⊎◌, ℕ, List, Option, None, Some, IsSome, IfSome, Result, Contains}
use Rattle.depot.specs.declared.disk.FileId.{FileId}
use Rattle.std.specs.Io.KnownBytes.{ReadConsumes, WriteAppends}

-- the bytes of a file, where they are known
abbrev pub Known : Type 0
Known = Option (List ℕ)

pub record Shelf : Type 0 where
  -- what the file that is being read has still to give, if one is
  pub reading : Option Known
  -- what was written to the file that is being written, if one is
  pub writing : Option Known
  -- what a name holds, links followed; no file that isn't in its place yet has a name here
  pub files : List ℕ → Option (List ℕ)
  -- what was said
  pub said : List ℕ
  -- which file a name is, links followed, if it is a regular one
  pub ids : List ℕ → Option FileId
  -- which file the new one is
  pub part : Option FileId
  -- the name of the new file
  pub beside : List ℕ

-- the same but for what is being read, what is being written, the new file, the files, what was said
abbrev pub with_reading : Shelf → Option Known → Shelf
with_reading s reading = record s { reading = reading }

abbrev pub with_writing : Shelf → Option Known → Shelf
with_writing s writing = record s { writing = writing }

abbrev pub with_new : Shelf → Shelf → Shelf
with_new s now = record s { writing = now.writing; part = now.part; beside = now.beside }

abbrev pub with_part : Shelf → Option FileId → Shelf
with_part s part = record s { part = part }

abbrev pub with_files : Shelf → Shelf → Shelf
with_files s now = record s { files = now.files; ids = now.ids; writing = None }

abbrev pub with_said : Shelf → List ℕ → Shelf
with_said s said = record s { said = said }

-- the name is there, and what it holds is being read
abbrev pub IsOpened : Shelf → List ℕ → Shelf → Type 0
IsOpened before name now = IsSome (before.files name) × (now.reading ≡ Some (before.files name))

-- A read: the file goes on being read, and loses the bytes that were given; it gives none only at its end, and none is lost
-- at a refusal.
abbrev pub ReadsOn : {E : Type 0} → Option Known → Option Known → Result ℕ E → List ℕ → Type 0
ReadsOn None after result buffer = after ≡ None
ReadsOn (Some before) None result buffer = ⊥
ReadsOn (Some before) (Some after) result buffer = ReadConsumes before after result buffer

-- A write: the file goes on being written, and grows by the bytes that were taken, by none at a refusal.
abbrev pub WritesOn : {E : Type 0} → Option Known → Option Known → Result ℕ E → List ℕ → Type 0
WritesOn None after result bytes = after ≡ None
WritesOn (Some before) None result bytes = ⊥
WritesOn (Some before) (Some after) result bytes = WriteAppends before after result bytes

-- Each name holds what it held, or all that was written.
abbrev pub IsWholeOrAsBefore : Shelf → Shelf → Type 0
IsWholeOrAsBefore before now =
    (name : List ℕ) → (now.files name ≡ before.files name) ⊎ (before.writing ≡ Some (now.files name))

-- What is read and what was said are as before.
abbrev pub KeepsReading : Shelf → Shelf → Type 0
KeepsReading before now = (now.reading ≡ before.reading) × (now.said ≡ before.said)

-- Each name that leads to the path is the new file, and holds all that was written.
abbrev pub IsInPlace : (List ℕ → List ℕ → Type 0) → Shelf → List ℕ → Shelf → Type 0
IsInPlace leads before path now =
    (name : List ℕ) → leads name path → (before.writing ≡ Some (now.files name)) × (now.ids name ≡ before.part)

-- the file is among these
abbrev pub IsAmong : List FileId → FileId → Type 0
IsAmong files file = Contains files file

-- the file is none of these
abbrev pub IsNoneOf : List FileId → FileId → Type 0
IsNoneOf files file = Contains files file → ⊥

-- The file is none of those that were written, and it is among those that were read.
abbrev pub IsNotedAsRead : Option FileId → List FileId → List FileId → Type 0
IsNotedAsRead file written read = IfSome file (λ id. IsNoneOf written id × IsAmong read id)
