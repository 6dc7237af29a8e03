use Rattle.deck_text.proofs.Unique.{one_deck, one_fault, never_both}
use Rattle.deck_text.proofs.Neither.{never_neither}
use Rattle.deck_text.proofs.Sounds.{sound}
use Rattle.deck_text.proofs.laws.deck_law.Goals as goal

pub returns : goal.returns
returns c = record { one_deck = one_deck; one_fault = one_fault; never_both = never_both; never_neither = never_neither; sound = sound }
