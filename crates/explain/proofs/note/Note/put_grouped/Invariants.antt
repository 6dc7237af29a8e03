use Rattle.std.proofs.Common.{◌≡◌, ◌++◌, drop}
use Rattle.explain.specs.Shown.{grouped}
use Rattle.explain.proofs.note.Note.put_grouped.Given as goal

abbrev pub invariant-loop-place : goal.invariant-loop-place
invariant-loop-place l =
    l.self-inside.bytes.items ++ grouped (drop l.place l.digits) ≡ l.initial.self-inside.bytes.items ++ grouped l.digits
