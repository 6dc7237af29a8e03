-- Bytes have one deck at most, one first fault at most, never both, and never neither.
use Rattle.std.specs.Prelude.{◌≡◌, ◌⊎◌, ℕ, List}
use Rattle.deck_text.specs.Decks.{IsDeck, IsFirstDeckFault}
use Rattle.deck_text.specs.declared.refusal.DeckBad.{DeckBad}
use Rattle.deck_text.specs.declared.deck.Deck.{Deck}

abbrev pub OneDeck : Type 0
OneDeck = (bytes layout deck : List ℕ) (d e : Deck) → IsDeck bytes layout deck d → IsDeck bytes layout deck e → d ≡ e

abbrev pub OneFault : Type 0
OneFault = (bytes layout deck : List ℕ) (bad other : DeckBad) → IsFirstDeckFault bytes layout deck bad → IsFirstDeckFault bytes layout deck other → bad ≡ other

abbrev pub NeverBoth : Type 0
NeverBoth = (bytes layout deck : List ℕ) (d : Deck) (bad : DeckBad) → IsDeck bytes layout deck d → IsFirstDeckFault bytes layout deck bad → ⊥

abbrev pub NeverNeither : Type 0
NeverNeither =
    (bytes layout deck : List ℕ) → ((d : Deck) × IsDeck bytes layout deck d) ⊎ ((bad : DeckBad) × IsFirstDeckFault bytes layout deck bad)
