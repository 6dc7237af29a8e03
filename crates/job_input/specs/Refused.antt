-- The cause of each refusal. The deck is asked first; what is refused of the layout is refused after an accepted deck.
use Rattle.std.specs.Prelude.{◌≡◌, ◌⊎◌, ℕ, List, Some, None}
use Rattle.depot.specs.Content.{Content, IsNotThere, IsLongerThan}
use Rattle.layout_model.specs.declared.cells.Layout.{Layout}
use Rattle.gds_reader.specs.Reading.{IsFirstGdsiiFault}
use Rattle.gds_reader.specs.declared.refusing.GdsBad.{GdsBad}
use Rattle.oas_reader.specs.Reading.{IsFirstOasisFault}
use Rattle.oas_reader.specs.declared.refusing.OasBad.{OasBad}
use Rattle.cell_tree.specs.Cells.{cell_number}
use Rattle.cell_tree.specs.Faults.{IsFirstTreeFault}
use Rattle.cell_tree.specs.declared.faults.TreeBad.{TreeBad}
use Rattle.cell_tree.specs.declared.faults.TreeBad.TheVariants.{NoTop}
use Rattle.deck_text.specs.Decks.{IsFirstDeckFault, layers_of}
use Rattle.deck_text.specs.declared.refusal.DeckBad.{DeckBad}
use Rattle.deck_text.specs.declared.deck.Deck.{Deck}
use Rattle.job_input.specs.Accepted.{Holds, HoldsDeck, IsFormatOf, HoldsLayout}
use Rattle.job_input.specs.declared.formats.Format.{Format}
use Rattle.job_input.specs.declared.formats.Format.TheVariants.{Gdsii, Oasis}

-- ---- the deck

-- the name holds bytes within the limit that are no deck, and this is their first fault
pub record HoldsDeckFault (c : Content) (layout deck : List ℕ) (bad : DeckBad) : Type 0 where
  pub bytes : List ℕ
  pub holds : Holds c deck 65536 bytes
  pub fault : IsFirstDeckFault bytes layout deck bad

-- ---- the layout, after an accepted deck, with the name of the deck's top cell

-- the layout has more than 268,435,456 bytes
pub record IsLongLayout (c : Content) (layout deck : List ℕ) (top : List ℕ) : Type 0 where
  pub deck_is : Deck
  pub top_is : top ≡ deck_is.top
  pub holds_deck : HoldsDeck c layout deck deck_is
  pub long : IsLongerThan 268435456 c layout

-- the bytes are no GDSII layout of the deck's unit, and this is their first fault
pub record IsGdsFaultFor (d : Deck) (bytes : List ℕ) (bad : GdsBad) : Type 0 where
  pub is_format : IsFormatOf bytes Gdsii
  pub fault : IsFirstGdsiiFault bytes d.unit (layers_of d.steps) bad

-- the layout has bytes within the limit that are no GDSII layout, and this is their first fault
pub record HoldsGdsFault (c : Content) (layout deck : List ℕ) (bad : GdsBad) (top : List ℕ) : Type 0 where
  pub deck_is : Deck
  pub top_is : top ≡ deck_is.top
  pub holds_deck : HoldsDeck c layout deck deck_is
  pub bytes : List ℕ
  pub holds : Holds c layout 268435456 bytes
  pub fault : IsGdsFaultFor deck_is bytes bad

-- the bytes are no OASIS layout of the deck's unit, and this is their first fault
pub record IsOasFaultFor (d : Deck) (bytes : List ℕ) (bad : OasBad) : Type 0 where
  pub is_format : IsFormatOf bytes Oasis
  pub fault : IsFirstOasisFault bytes d.unit (layers_of d.steps) bad

-- the layout has bytes within the limit that are no OASIS layout, and this is their first fault
pub record HoldsOasFault (c : Content) (layout deck : List ℕ) (bad : OasBad) (top : List ℕ) : Type 0 where
  pub deck_is : Deck
  pub top_is : top ≡ deck_is.top
  pub holds_deck : HoldsDeck c layout deck deck_is
  pub bytes : List ℕ
  pub holds : Holds c layout 268435456 bytes
  pub fault : IsOasFaultFor deck_is bytes bad

-- No cell has the name of the deck's top cell; or one has it, and this is a first fault of the tree of cells below it. Of
-- several such things of one kind the refusal keeps one.
abbrev pub IsTreeFaultFor : Deck → Layout → TreeBad → Type 0
IsTreeFaultFor d l bad =
    ((bad ≡ NoTop) × (cell_number l.cells d.top ≡ None))
    ⊎ ((n : ℕ) × (cell_number l.cells d.top ≡ Some n) × IsFirstTreeFault l.cells n bad)

-- the layout is one whose cells are no tree within the limits, and this is a first fault
pub record HoldsTreeFault (c : Content) (layout deck : List ℕ) (bad : TreeBad) (top : List ℕ) : Type 0 where
  pub deck_is : Deck
  pub top_is : top ≡ deck_is.top
  pub holds_deck : HoldsDeck c layout deck deck_is
  pub format_is : Format
  pub layout_is : Layout
  pub holds_layout : HoldsLayout c layout deck_is format_is layout_is
  pub fault : IsTreeFaultFor deck_is layout_is bad

-- ---- what isn't there

-- the deck is accepted, and the layout isn't there
pub record HasNoLayout (c : Content) (layout deck : List ℕ) : Type 0 where
  pub deck_is : Deck
  pub holds_deck : HoldsDeck c layout deck deck_is
  pub missing : IsNotThere c layout

-- a name that has to be read isn't there: the deck's, or the layout's where the deck is accepted
abbrev pub IsWanting : Content → List ℕ → List ℕ → Type 0
IsWanting c layout deck = IsNotThere c deck ⊎ HasNoLayout c layout deck
