use Rattle.std.proofs.Common.{ℕ, ◌<◌, get_or}
use Rattle.layout_model.specs.Names.{IsNameByte}
use Rattle.layout_model.proofs.names.is_printable.Given as goal

-- the bytes so far are printable
abbrev pub invariant-loop-byte : goal.invariant-loop-byte
invariant-loop-byte l = (k : ℕ) → k < l.byte-index → IsNameByte (get_or l.bytes k 0)
