use Rattle.std.proofs.Common.{List, ℕ}
use Rattle.deck_text.specs.Decks.{IsDeck}
use Rattle.deck_text.specs.declared.deck.Deck.{Deck}
use Rattle.deck_plan.specs.Plans.{IsRead}
use Rattle.job_tests.proofs.tables.say.Goals as goal

is_read : {bytes layout_name deck_name : List ℕ} {deck : Deck} → IsDeck bytes layout_name deck_name deck → IsRead deck
is_read {bytes} {layout_name} {deck_name} {deck} d = record { bytes = bytes; layout_name = layout_name; deck_name = deck_name; is = d }

pub new-requires : goal.new-requires
new-requires g c = is_read (rw c.expect-deck.ensures at c.read_deck.ensures.found)
