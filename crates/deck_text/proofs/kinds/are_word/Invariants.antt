use Rattle.std.proofs.Common.{◌≡◌, take, true}
use Rattle.std.specs.List.{list_all}
use Rattle.deck_text.specs.Kinds.{is_word}
use Rattle.deck_text.proofs.kinds.are_word.Given as goal

abbrev pub invariant-loop-byte : goal.invariant-loop-byte
invariant-loop-byte l = list_all is_word (take l.byte-index l.bytes) ≡ true
