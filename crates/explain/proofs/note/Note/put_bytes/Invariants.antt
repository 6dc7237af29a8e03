use Rattle.std.proofs.Common.{◌≡◌, ◌++◌, drop, map}
use Rattle.explain.specs.Shown.{shown}
use Rattle.explain.proofs.note.Note.put_bytes.Given as goal

abbrev pub invariant-loop-byte : goal.invariant-loop-byte
invariant-loop-byte l =
    l.self-inside.bytes.items ++ map shown (drop l.byte-index l.bytes) ≡ l.initial.self-inside.bytes.items ++ map shown l.bytes
