-- The line that is said where a command wasn't done. It ends with LF. A number in it is decimal.
use Rattle.std.specs.Prelude.{ℕ, List, [], Option, None, Some, codes, slice_get}
use Rattle.deck_text.specs.declared.deck.Output.{Output}
use Rattle.job_input.specs.declared.refusing.DeckFault.{DeckFault}
use Rattle.job_input.specs.declared.refusing.DeckFault.TheVariants as deck_faults
use Rattle.job_input.specs.declared.refusing.LayoutFault.{LayoutFault}
use Rattle.job_input.specs.declared.refusing.LayoutFault.TheVariants as layout_faults
use Rattle.job_report.specs.Lines.{deck_line, gds_line, oas_line, tree_line}
use Rattle.job_report.specs.ShotLines.{check_line}
use Rattle.job_report.specs.declared.status.Status.{Status}
use Rattle.job_report.specs.declared.status.Status.TheVariants.{Done, Words, Deck, Layout, ReadFault, WriteFault, NoMemory, No}

abbrev pub deck_fault_line : DeckFault → List ℕ
deck_fault_line deck_faults.Long = codes "deck refused: longer than 65536 bytes\n"
deck_fault_line (deck_faults.Bad bad) = deck_line bad

-- a refused layout, by the name of the deck's top cell and the fault
abbrev pub layout_fault_line : List ℕ → LayoutFault → List ℕ
layout_fault_line top layout_faults.Long = codes "layout refused: longer than 268435456 bytes\n"
layout_fault_line top (layout_faults.Gds bad) = gds_line bad
layout_fault_line top (layout_faults.Oas bad) = oas_line bad
layout_fault_line top (layout_faults.Tree bad) = tree_line top bad

-- the file of an output that is there, and else the file of this name
abbrev pub file_or : List ℕ → Option Output → List ℕ
file_or word None = word
file_or word (Some output) = output.file

-- the file of the output of a place, where outputs are told
abbrev pub file_at : List ℕ → Option (List Output) → ℕ → List ℕ
file_at word None place = word
file_at word (Some outputs) place = file_or word (slice_get outputs place)

-- the shot file that the line is about: that of the refused output, where outputs are told, and else the file of this name
abbrev pub file_of : List ℕ → Option (List Output) → Status → List ℕ
file_of word outputs Done = word
file_of word outputs Words = word
file_of word outputs (Deck fault) = word
file_of word outputs (Layout fault) = word
file_of word outputs ReadFault = word
file_of word outputs WriteFault = word
file_of word outputs NoMemory = word
file_of word outputs (No place fault) = file_at word outputs place

-- the name that is kept, if there is one
abbrev pub name_of : Option (List ℕ) → List ℕ
name_of None = []
name_of (Some name) = name

-- the line of the answer, where the shot file is the one of this name, and this is the name of the deck's top cell
abbrev pub line_of : List ℕ → List ℕ → Status → List ℕ
line_of file top Done = []
line_of file top Words = codes "words refused\n"
line_of file top (Deck fault) = deck_fault_line fault
line_of file top (Layout fault) = layout_fault_line top fault
line_of file top ReadFault = codes "read fault\n"
line_of file top WriteFault = codes "write fault\n"
line_of file top NoMemory = codes "want of memory\n"
line_of file top (No place fault) = check_line file fault
