-- What is accepted of the files that a command names.
--
-- A deck is accepted where its content has at most 65,536 bytes and is a deck, with the names of layout and deck as names
-- that its outputs may not take. A layout is accepted where its content has at most 268,435,456 bytes and is, with the
-- deck's unit and layers, a file of the format that its first byte tells (OASIS where it is 25 hex, else a GDSII stream
-- file), and where the cells below the deck's top cell are a tree within the limits.
--
-- GDSII Stream Format Manual 6.0; SEMI P39, section 6 (the magic string `%SEMI-OASIS`).
use Rattle.std.specs.Prelude.{◌≡◌, ℕ, ◌≤◌, List, length, slice_get, Some}
use Rattle.depot.specs.Content.{Content, held_as}
use Rattle.layout_model.specs.declared.cells.Layout.{Layout}
use Rattle.layout_model.specs.declared.pair.Pair.{Pair}
use Rattle.gds_reader.specs.Reading.{IsGdsiiLayoutOf}
use Rattle.oas_reader.specs.Reading.{IsOasisLayoutOf}
use Rattle.cell_tree.specs.Cells.{cell_number}
use Rattle.cell_tree.specs.Trees.{IsTree, Rooted}
use Rattle.deck_text.specs.Decks.{IsDeck, layers_of}
use Rattle.deck_text.specs.declared.deck.Deck.{Deck}
use Rattle.job_input.specs.declared.formats.Format.{Format}
use Rattle.job_input.specs.declared.formats.Format.TheVariants.{Gdsii, Oasis}
use Rattle.job_input.specs.declared.reading.Input.{Input}

-- the name holds these bytes, which are at most so many
pub record Holds (c : Content) (name : List ℕ) (limit : ℕ) (bytes : List ℕ) : Type 0 where
  pub held : held_as c name ≡ Some bytes
  pub short : length bytes ≤ limit

-- the name holds a deck, and this is what it says
pub record HoldsDeck (c : Content) (layout deck : List ℕ) (d : Deck) : Type 0 where
  pub bytes : List ℕ
  pub holds : Holds c deck 65536 bytes
  pub is_deck : IsDeck bytes layout deck d

-- the first byte is 25 hex, as that of each OASIS file
abbrev pub BeginsAsOasis : List ℕ → Type 0
BeginsAsOasis bytes = slice_get bytes 0 ≡ Some 0x25

-- the format of a file, by its first byte
abbrev pub IsFormatOf : List ℕ → Format → Type 0
IsFormatOf bytes Gdsii = BeginsAsOasis bytes → ⊥
IsFormatOf bytes Oasis = BeginsAsOasis bytes

-- the bytes of a file of this format hold this layout, with so many grid steps in a micrometre and the shapes on these pairs
abbrev pub IsLayoutIn : Format → List ℕ → ℕ → List Pair → Layout → Type 0
IsLayoutIn Gdsii bytes unit wanted l = IsGdsiiLayoutOf bytes unit wanted l
IsLayoutIn Oasis bytes unit wanted l = IsOasisLayoutOf bytes unit wanted l

-- the bytes are a file of this format with this layout, of the deck's unit and with the shapes on the deck's layers
pub record IsLayoutFor (d : Deck) (bytes : List ℕ) (f : Format) (l : Layout) : Type 0 where
  pub is_format : IsFormatOf bytes f
  pub is_layout : IsLayoutIn f bytes d.unit (layers_of d.steps) l

-- the name holds this layout, in a file of this format
pub record HoldsLayout (c : Content) (layout : List ℕ) (d : Deck) (f : Format) (l : Layout) : Type 0 where
  pub bytes : List ℕ
  pub holds : Holds c layout 268435456 bytes
  pub is_layout : IsLayoutFor d bytes f l

-- the layout's cells below the deck's top cell, which has this number, are a tree within the limits
pub record IsTreeFor (d : Deck) (t : Rooted) : Type 0 where
  pub top : cell_number t.layout.cells d.top ≡ Some t.top
  pub is_tree : IsTree t.layout.cells t.top

-- deck and layout are accepted, and say this
pub record HoldsInput (c : Content) (layout deck : List ℕ) (input : Input) : Type 0 where
  pub holds_deck : HoldsDeck c layout deck input.deck
  pub holds_layout : HoldsLayout c layout input.deck input.format input.tree.layout
  pub is_tree : IsTreeFor input.deck input.tree

-- the deck and the layout of some bytes, whatever is told of where they stand
pub record IsOfBytes (layout deck : List ℕ) (input : Input) : Type 0 where
  pub deck_bytes : List ℕ
  pub is_deck : IsDeck deck_bytes layout deck input.deck
  pub layout_bytes : List ℕ
  pub is_layout : IsLayoutFor input.deck layout_bytes input.format input.tree.layout
  pub is_tree : IsTreeFor input.deck input.tree
