-- The table of answers, part by part: what bytes are, what a name holds, and the whole.
use Rattle.std.specs.Prelude.{◌≡◌, ◌⊎◌, ℕ, List, Result, Ok, Err, ⊤}
use Rattle.depot.specs.Content.{Content, IsNotThere, IsLongerThan}
use Rattle.depot.specs.Counts.{Counts, Rose}
use Rattle.geo_stream.specs.declared.refusal.Refusal.{Refusal}
use Rattle.geo_stream.specs.declared.refusal.Refusal.TheVariants.{Fault, NoMemory}
use Rattle.layout_model.specs.Layouts.{IsLayoutOnGrid}
use Rattle.layout_model.specs.declared.cells.Layout.{Layout}
use Rattle.cell_tree.specs.Trees.{Rooted}
use Rattle.deck_text.specs.Decks.{IsDeck, IsFirstDeckFault}
use Rattle.deck_text.specs.declared.deck.Deck.{Deck}
use Rattle.job_input.specs.Accepted.{Holds, HoldsDeck, IsLayoutFor, HoldsLayout, IsTreeFor, HoldsInput}
use Rattle.job_input.specs.Refused.{HoldsDeckFault, IsLongLayout, IsGdsFaultFor, HoldsGdsFault, IsOasFaultFor}
use Rattle.job_input.specs.Refused.{HoldsOasFault, IsTreeFaultFor, HoldsTreeFault, IsWanting}
use Rattle.job_input.specs.Clauses.{Answer}
use Rattle.job_input.specs.declared.formats.Format.{Format}
use Rattle.job_input.specs.declared.layouts.Found.{Found}
use Rattle.job_input.specs.declared.refusing.InputBad.{InputBad}
use Rattle.job_input.specs.declared.refusing.InputBad.TheVariants as answers
use Rattle.job_input.specs.declared.refusing.LayoutBad.{LayoutBad}
use Rattle.job_input.specs.declared.refusing.LayoutBad.TheVariants as layouts
use Rattle.job_input.specs.declared.refusing.DeckFault.TheVariants as deck_faults
use Rattle.job_input.specs.declared.refusing.LayoutFault.TheVariants as layout_faults

-- ---- the deck

-- what is told of the bytes of a deck
abbrev pub IsDeckTold : (bytes layout deck : List ℕ) → Result Deck (Refusal InputBad) → Type 0
IsDeckTold bytes layout deck (Ok d) = IsDeck bytes layout deck d
IsDeckTold bytes layout deck (Err (Fault (answers.Deck deck_faults.Long))) = ⊥
IsDeckTold bytes layout deck (Err (Fault (answers.Deck (deck_faults.Bad bad)))) = IsFirstDeckFault bytes layout deck bad
IsDeckTold bytes layout deck (Err (Fault (answers.Layout fault top))) = ⊥
IsDeckTold bytes layout deck (Err (Fault answers.ReadFault)) = ⊥
IsDeckTold bytes layout deck (Err NoMemory) = ⊤

-- what is told of the deck's name
abbrev pub IsDeckAnswer : Content → (read_rose : Type 0) → (layout deck : List ℕ) → Result Deck (Refusal InputBad) → Type 0
IsDeckAnswer c read_rose layout deck (Ok d) = HoldsDeck c layout deck d
IsDeckAnswer c read_rose layout deck (Err (Fault (answers.Deck deck_faults.Long))) = IsLongerThan 65536 c deck
IsDeckAnswer c read_rose layout deck (Err (Fault (answers.Deck (deck_faults.Bad bad)))) = HoldsDeckFault c layout deck bad
IsDeckAnswer c read_rose layout deck (Err (Fault (answers.Layout fault top))) = ⊥
IsDeckAnswer c read_rose layout deck (Err (Fault answers.ReadFault)) = read_rose ⊎ IsNotThere c deck
IsDeckAnswer c read_rose layout deck (Err NoMemory) = ⊤

-- ---- the layout, for an accepted deck

-- what is told of the bytes of a layout in a file of this format, its tree aside
abbrev pub IsLayoutTold : Deck → List ℕ → Format → Result Layout (Refusal LayoutBad) → Type 0
IsLayoutTold d bytes f (Ok l) = IsLayoutFor d bytes f l
IsLayoutTold d bytes f (Err (Fault (layouts.Refused layout_faults.Long))) = ⊥
IsLayoutTold d bytes f (Err (Fault (layouts.Refused (layout_faults.Gds bad)))) = IsGdsFaultFor d bytes bad
IsLayoutTold d bytes f (Err (Fault (layouts.Refused (layout_faults.Oas bad)))) = IsOasFaultFor d bytes bad
IsLayoutTold d bytes f (Err (Fault (layouts.Refused (layout_faults.Tree bad)))) = ⊥
IsLayoutTold d bytes f (Err (Fault layouts.ReadFault)) = ⊥
IsLayoutTold d bytes f (Err NoMemory) = ⊤

-- what is told of a layout's tree
abbrev pub IsRootTold : Deck → Layout → Result Rooted (Refusal LayoutBad) → Type 0
IsRootTold d l (Ok t) = (t.layout ≡ l) × IsTreeFor d t
IsRootTold d l (Err (Fault (layouts.Refused layout_faults.Long))) = ⊥
IsRootTold d l (Err (Fault (layouts.Refused (layout_faults.Gds bad)))) = ⊥
IsRootTold d l (Err (Fault (layouts.Refused (layout_faults.Oas bad)))) = ⊥
IsRootTold d l (Err (Fault (layouts.Refused (layout_faults.Tree bad)))) = IsTreeFaultFor d l bad
IsRootTold d l (Err (Fault layouts.ReadFault)) = ⊥
IsRootTold d l (Err NoMemory) = ⊤

-- what is told of the bytes of a layout
abbrev pub IsTreeTold : Deck → List ℕ → Result Found (Refusal LayoutBad) → Type 0
IsTreeTold d bytes (Ok x) = IsLayoutFor d bytes x.format x.tree.layout × IsTreeFor d x.tree × IsLayoutOnGrid x.tree.layout
IsTreeTold d bytes (Err (Fault (layouts.Refused layout_faults.Long))) = ⊥
IsTreeTold d bytes (Err (Fault (layouts.Refused (layout_faults.Gds bad)))) = IsGdsFaultFor d bytes bad
IsTreeTold d bytes (Err (Fault (layouts.Refused (layout_faults.Oas bad)))) = IsOasFaultFor d bytes bad
IsTreeTold d bytes (Err (Fault (layouts.Refused (layout_faults.Tree bad)))) =
    (f : Format) × (l : Layout) × IsLayoutFor d bytes f l × IsTreeFaultFor d l bad × IsLayoutOnGrid l
IsTreeTold d bytes (Err (Fault layouts.ReadFault)) = ⊥
IsTreeTold d bytes (Err NoMemory) = ⊤

-- what is told of the layout's name
abbrev pub IsTreeAnswer : Content → (read_rose : Type 0) → List ℕ → Deck → Result Found (Refusal LayoutBad) → Type 0
IsTreeAnswer c read_rose layout d (Ok x) = HoldsLayout c layout d x.format x.tree.layout × IsTreeFor d x.tree × IsLayoutOnGrid x.tree.layout
IsTreeAnswer c read_rose layout d (Err (Fault (layouts.Refused layout_faults.Long))) = IsLongerThan 268435456 c layout
IsTreeAnswer c read_rose layout d (Err (Fault (layouts.Refused (layout_faults.Gds bad)))) =
    (bytes : List ℕ) × Holds c layout 268435456 bytes × IsGdsFaultFor d bytes bad
IsTreeAnswer c read_rose layout d (Err (Fault (layouts.Refused (layout_faults.Oas bad)))) =
    (bytes : List ℕ) × Holds c layout 268435456 bytes × IsOasFaultFor d bytes bad
IsTreeAnswer c read_rose layout d (Err (Fault (layouts.Refused (layout_faults.Tree bad)))) =
    (f : Format) × (l : Layout) × HoldsLayout c layout d f l × IsTreeFaultFor d l bad × IsLayoutOnGrid l
IsTreeAnswer c read_rose layout d (Err (Fault layouts.ReadFault)) = read_rose ⊎ IsNotThere c layout
IsTreeAnswer c read_rose layout d (Err NoMemory) = ⊤

-- what was counted
abbrev pub LayoutCountsFor : {A : Type 0} → Counts → Counts → Result A (Refusal LayoutBad) → Type 0
LayoutCountsFor old new (Ok given) = new ≡ old
LayoutCountsFor old new (Err (Fault (layouts.Refused fault))) = new ≡ old
LayoutCountsFor old new (Err (Fault layouts.ReadFault)) = ⊤
LayoutCountsFor old new (Err NoMemory) = Rose old.refused new.refused ⊎ (new ≡ old)

-- the answer to a refused layout, of a deck with this top cell
abbrev pub layout_refused : LayoutBad → List ℕ → InputBad
layout_refused (layouts.Refused fault) top = answers.Layout fault top
layout_refused layouts.ReadFault top = answers.ReadFault

-- ---- both

abbrev pub IsInputAnswer : Content → (read_rose : Type 0) → (layout deck : List ℕ) → Answer → Type 0
IsInputAnswer c read_rose layout deck (Ok input) = HoldsInput c layout deck input × IsLayoutOnGrid input.tree.layout
IsInputAnswer c read_rose layout deck (Err (Fault (answers.Deck deck_faults.Long))) = IsLongerThan 65536 c deck
IsInputAnswer c read_rose layout deck (Err (Fault (answers.Deck (deck_faults.Bad bad)))) = HoldsDeckFault c layout deck bad
IsInputAnswer c read_rose layout deck (Err (Fault (answers.Layout layout_faults.Long top))) = IsLongLayout c layout deck top
IsInputAnswer c read_rose layout deck (Err (Fault (answers.Layout (layout_faults.Gds bad) top))) = HoldsGdsFault c layout deck bad top
IsInputAnswer c read_rose layout deck (Err (Fault (answers.Layout (layout_faults.Oas bad) top))) = HoldsOasFault c layout deck bad top
IsInputAnswer c read_rose layout deck (Err (Fault (answers.Layout (layout_faults.Tree bad) top))) =
    (h : HoldsTreeFault c layout deck bad top) × IsLayoutOnGrid h.layout_is
IsInputAnswer c read_rose layout deck (Err (Fault answers.ReadFault)) = read_rose ⊎ IsWanting c layout deck
IsInputAnswer c read_rose layout deck (Err NoMemory) = ⊤
