use Rattle.std.proofs.Common.{◌≡◌, ◌++◌, ◌-◌}
use Rattle.explain.specs.Shown.{blanks}
use Rattle.explain.proofs.note.Note.put_blanks.Given as goal

abbrev pub invariant-loop-blank : goal.invariant-loop-blank
invariant-loop-blank l =
    l.self-inside.bytes.items ++ blanks (l.fn.count - l._blank) ≡ l.initial.self-inside.bytes.items ++ blanks l.fn.count
