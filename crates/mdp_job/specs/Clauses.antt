-- What `run` promises of each command: six records, whose fields are the rows of the table of answers, each about what was
-- there before the command and after it, the words and the answer.
use Rattle.std.specs.Prelude.{◌≡◌, ◌≢◌, ◌⊎◌, ◌↔◌, ℕ, pos, List, [], ◌++◌, length, take, ⊤}
use Rattle.half_grid.specs.declared.plane.Tile.{Tile}
use Rattle.depot.specs.Content.{Content, IsNotThere, IsLongerThan, ChangesLeftOnly, with_left, with_file, with_said, IsPartMade}
use Rattle.depot.specs.Counts.{Counts, NeverFall, Rose}
use Rattle.gds_reader.specs.declared.refusing.GdsBad.{GdsBad}
use Rattle.oas_reader.specs.declared.refusing.OasBad.{OasBad}
use Rattle.cell_tree.specs.Faults.{order_of}
use Rattle.cell_tree.specs.declared.faults.TreeBad.{TreeBad}
use Rattle.deck_text.specs.declared.refusal.DeckBad.{DeckBad}
use Rattle.deck_text.specs.declared.deck.Deck.{Deck}
use Rattle.shot_reader.specs.declared.refusing.ShotBad.{ShotBad}
use Rattle.shot_repeat.specs.Packed.{IsPackedText}
use Rattle.shot_repeat.specs.declared.refusing.PackBad.{PackBad}
use Rattle.shot_writer.specs.declared.parts.Sums.{Sums}
use Rattle.job_input.specs.Accepted.{HoldsDeck, HoldsInput}
use Rattle.job_input.specs.Refused.{HoldsDeckFault, IsLongLayout, HoldsGdsFault, HoldsOasFault, HoldsTreeFault, IsWanting}
use Rattle.job_input.specs.declared.reading.Input.{Input}
use Rattle.job_input.specs.declared.refusing.DeckFault.TheVariants as deck_faults
use Rattle.job_input.specs.declared.refusing.LayoutFault.{LayoutFault}
use Rattle.job_input.specs.declared.refusing.LayoutFault.TheVariants as layout_faults
use Rattle.layout_gen.specs.Generated.{generated}
use Rattle.file_check.specs.declared.faults.CheckFault.{CheckFault as OutputFault}
use Rattle.file_check.specs.declared.faults.CheckFault.TheVariants as of_output
use Rattle.job_words.specs.Words.{Command, Fracture, Check, Shots, Pack, Unpack, Split, Density, Generate, AreWordsOf}
use Rattle.job_words.specs.Words.{IsFracture, IsCheck, IsShots, IsPack, IsUnpack, IsSplit as IsSplitting, IsDensity, IsGenerate}
use Rattle.mdp_job.specs.Runs.{Run, ReadRose, WriteRose, RefusedRose, ComesExactlyWhere}
use Rattle.mdp_job.specs.Headline.{AreCovered, AreExact, Covers, Accepts}
use Rattle.mdp_job.specs.Outputs.{AreEconomic, IsReported, AreSummed, AreSpoiled, report_on}
use Rattle.mdp_job.specs.Certificates.{IsOutputRefusedAt, HasNoFile, IsFileAt, AreExactSums, exact_report, IsExactReported}
use Rattle.mdp_job.specs.ShotFiles.{ShotData, HoldsShots, HoldsPacked, HoldsFault, HoldsPackFault, PackedShots, listed, packed_line, plain_of, unpacked_said, IsGivenBack}
use Rattle.mdp_job.specs.Splitting.{HoldsFields, HoldsWide, HoldsManyStripes, AreAllMade, IsSplitWhole, IsPartSplit}
use Rattle.mdp_job.specs.Keeping.{AreKept}
use Rattle.mdp_job.specs.Densities.{IsDensityText, AreTablesSaid}
use Rattle.mdp_job.specs.Filing.{IsFiled}
use Rattle.mdp_job.specs.Generating.{generated_line}
use Rattle.mdp_job.specs.Parts.{IsOf}
use Rattle.job_report.specs.Endings.{line_of}
use Rattle.mdp_job.specs.Faults.{fault_of}
use Rattle.job_report.specs.declared.faults.CheckFault.{CheckFault}
use Rattle.job_report.specs.declared.faults.CheckFault.TheVariants as check_faults
use Rattle.job_report.specs.declared.status.Status.{Status}
use Rattle.job_report.specs.declared.status.Status.TheVariants as answers

-- ---- what is accepted

-- what the command reads is accepted: deck and layout, and for `check` each output's file is exact; or the shot file
abbrev pub IsInputOf : Content → Command → Type 0
IsInputOf c (Fracture layout deck) = (input : Input) × HoldsInput c layout deck input
IsInputOf c (Check layout deck) = (input : Input) × HoldsInput c layout deck input × AreExact c input
IsInputOf c (Shots file) = (s : ShotData) × HoldsShots c file s
IsInputOf c (Pack file out) = (s : ShotData) × HoldsShots c file s
IsInputOf c (Unpack file out) = (s : ShotData) × HoldsPacked c file s
IsInputOf c (Split size file out) = (s : ShotData) × HoldsFields (pos size) c file s
IsInputOf c (Density size layout deck) = (input : Input) × HoldsInput c layout deck input
IsInputOf c (Generate n file) = ⊤

-- the words are a command, and what it reads is accepted
abbrev pub IsAccepted : List (List ℕ) → Content → Type 0
IsAccepted words c = (command : Command) × AreWordsOf words command × IsInputOf c command

-- the command reads a deck and a layout of these names
abbrev pub ReadsInput : List (List ℕ) → List ℕ → List ℕ → Type 0
ReadsInput words layout deck =
    IsFracture words layout deck ⊎ IsCheck words layout deck ⊎ ((size : ℕ) × IsDensity words size layout deck)

-- the command reads a plain shot file of this name
abbrev pub ReadsShots : List (List ℕ) → List ℕ → Type 0
ReadsShots words file =
    IsShots words file ⊎ ((out : List ℕ) × IsPack words file out) ⊎ ((size : ℕ) × (out : List ℕ) × IsSplitting words size file out)

-- the command reads a shot file of this name, plain or packed
abbrev pub ReadsFile : List (List ℕ) → List ℕ → Type 0
ReadsFile words file = ReadsShots words file ⊎ ((out : List ℕ) × IsUnpack words file out)

-- A name that the command has to read isn't there: DECK, LAYOUT where the deck is accepted, the file of an output of
-- `check` where the layout is accepted and the files of the outputs before it are exact, or FILE.
abbrev pub IsUnreadableBy : Content → Command → Type 0
IsUnreadableBy c (Fracture layout deck) = IsWanting c layout deck
IsUnreadableBy c (Check layout deck) = IsWanting c layout deck ⊎ HasNoFile c layout deck
IsUnreadableBy c (Shots file) = IsNotThere c file
IsUnreadableBy c (Pack file out) = IsNotThere c file
IsUnreadableBy c (Unpack file out) = IsNotThere c file
IsUnreadableBy c (Split size file out) = IsNotThere c file
IsUnreadableBy c (Density size layout deck) = IsWanting c layout deck
IsUnreadableBy c (Generate n file) = ⊥

-- the name that the command reads first isn't there: DECK, or FILE
abbrev pub IsUnreadableAtOnceBy : Content → Command → Type 0
IsUnreadableAtOnceBy c (Fracture layout deck) = IsNotThere c deck
IsUnreadableAtOnceBy c (Check layout deck) = IsNotThere c deck
IsUnreadableAtOnceBy c (Shots file) = IsNotThere c file
IsUnreadableAtOnceBy c (Pack file out) = IsNotThere c file
IsUnreadableAtOnceBy c (Unpack file out) = IsNotThere c file
IsUnreadableAtOnceBy c (Split size file out) = IsNotThere c file
IsUnreadableAtOnceBy c (Density size layout deck) = IsNotThere c deck
IsUnreadableAtOnceBy c (Generate n file) = ⊥

abbrev pub IsUnreadable : List (List ℕ) → Content → Type 0
IsUnreadable words c = (command : Command) × AreWordsOf words command × IsUnreadableBy c command

abbrev pub IsUnreadableAtOnce : List (List ℕ) → Content → Type 0
IsUnreadableAtOnce words c = (command : Command) × AreWordsOf words command × IsUnreadableAtOnceBy c command

-- ---- after Done

-- The shots of each file are the shot list of its output's area, and no cut is needless, for every height of bands.
abbrev pub Spares : Run → List (List ℕ) → Status → Type 0
Spares r words result =
    (layout deck : List ℕ) → IsFracture words layout deck → result ≡ answers.Done
    → (input : Input) × HoldsInput r.before layout deck input × AreEconomic r.after.made input

-- The file holds the generated layout, how many bytes it has was said, and nothing else has changed.
abbrev pub Generates : Run → List (List ℕ) → Status → Type 0
Generates r words result =
    (n : ℕ) (file : List ℕ) → IsGenerate words n file → result ≡ answers.Done
    → IsFiled r.before r.after file (generated n) (generated_line n)

-- OUT holds the packed text of FILE's shots, which stands for them in their order, the line was said, and nothing else has
-- changed but what is left to be read. `unpack` takes the text, and it gives back the same shots and no others.
abbrev pub Packs : Run → List (List ℕ) → Status → Type 0
Packs r words result =
    (file out : List ℕ) → IsPack words file out → result ≡ answers.Done
    → (s : ShotData) × HoldsShots r.before file s × (p : PackedShots s) × IsPackedText p.text s.unit s.pair s.shots
    × IsFiled (with_left r.before []) r.after out p.text (packed_line (length s.shots) p.records) × IsGivenBack s p.text

-- OUT holds the plain text of the shots for which FILE stands, the line was said, and nothing else has changed but what is
-- left to be read.
abbrev pub Unpacks : Run → List (List ℕ) → Status → Type 0
Unpacks r words result =
    (file out : List ℕ) → IsUnpack words file out → result ≡ answers.Done
    → (s : ShotData) × HoldsPacked r.before file s × IsFiled (with_left r.before []) r.after out (plain_of s) (unpacked_said s)

-- Each stripe's file holds the text of its stripe list, the lines were said, and nothing else has changed but what is left to
-- be read. For any FILE, each tile is in as many shots of all stripes' files together as of FILE's; what FILE's shots cover
-- exactly, all of these together do.
abbrev pub Splits : Run → List (List ℕ) → Status → Type 0
Splits r words result =
    (size : ℕ) (file out : List ℕ) → IsSplitting words size file out → result ≡ answers.Done
    → (s : ShotData) × HoldsFields (pos size) r.before file s × (split : IsSplitWhole (with_left r.before []) r.after (pos size) out s)
    × AreKept (pos size) s.shots split.all.first split.all.lists

-- `covers`: what commands make
pub record Coverage (r : Run) (words : List (List ℕ)) (result : Status) : Type 0 where
  pub cover : Covers r words result
  pub economy : Spares r words result
  pub packed : Packs r words result
  pub unpacked : Unpacks r words result
  pub split : Splits r words result
  pub generated : Generates r words result

-- `accepts`: when a command is done
pub record Acceptance (r : Run) (words : List (List ℕ)) (result : Status) : Type 0 where
  pub fracture : Accepts r words result
  -- without a counted fault or want of memory, Done comes exactly where words and input are accepted
  pub all : (ReadRose r → ⊥) → (WriteRose r → ⊥) → result ≢ answers.NoMemory → (result ≡ answers.Done) ↔ IsAccepted words r.before

-- ---- the cause of each refusal

-- the deck has more than 65,536 bytes
abbrev pub DeckLong : Run → List (List ℕ) → Status → Type 0
DeckLong r words result =
    (layout deck : List ℕ) → ReadsInput words layout deck
    → ComesExactlyWhere (ReadRose r) result (answers.Deck deck_faults.Long) (IsLongerThan 65536 r.before deck)

-- the deck has this first fault
abbrev pub DeckBroken : Run → List (List ℕ) → Status → Type 0
DeckBroken r words result =
    (layout deck : List ℕ) → ReadsInput words layout deck → (bad : DeckBad)
    → ComesExactlyWhere (ReadRose r) result (answers.Deck (deck_faults.Bad bad)) (HoldsDeckFault r.before layout deck bad)

-- the deck is accepted, and the layout has more than 268,435,456 bytes
abbrev pub LayoutLong : Run → List (List ℕ) → Status → Type 0
LayoutLong r words result =
    (layout deck : List ℕ) → ReadsInput words layout deck
    → ComesExactlyWhere (ReadRose r) result (answers.Layout layout_faults.Long) ((top : List ℕ) × IsLongLayout r.before layout deck top)

-- the deck is accepted, and the layout, whose first byte isn't 25 hex, has this first fault of a GDSII file
abbrev pub GdsBroken : Run → List (List ℕ) → Status → Type 0
GdsBroken r words result =
    (layout deck : List ℕ) → ReadsInput words layout deck → (bad : GdsBad)
    → ComesExactlyWhere (ReadRose r) result (answers.Layout (layout_faults.Gds bad)) ((top : List ℕ) × HoldsGdsFault r.before layout deck bad top)

-- the deck is accepted, and the layout, whose first byte is 25 hex, has this first fault of an OASIS file
abbrev pub OasBroken : Run → List (List ℕ) → Status → Type 0
OasBroken r words result =
    (layout deck : List ℕ) → ReadsInput words layout deck → (bad : OasBad)
    → ComesExactlyWhere (ReadRose r) result (answers.Layout (layout_faults.Oas bad)) ((top : List ℕ) × HoldsOasFault r.before layout deck bad top)

-- a fault of the tree of the same kind
pub record IsOfKind (bad : TreeBad) (result : Status) : Type 0 where
  pub other : TreeBad
  pub answer : result ≡ answers.Layout (layout_faults.Tree other)
  pub same : order_of other ≡ order_of bad

-- Deck and layout are accepted but for the layout's tree, which has this first fault. Of several such things of one kind
-- the answer keeps one.
pub record IsTreeFault (before : Content) (read_rose : Type 0) (result : Status) (layout deck : List ℕ) (bad : TreeBad) : Type 0 where
  pub only : result ≡ answers.Layout (layout_faults.Tree bad) → (top : List ℕ) × HoldsTreeFault before layout deck bad top
  pub whenever : (top : List ℕ) → HoldsTreeFault before layout deck bad top
      → IsOfKind bad result ⊎ (result ≡ answers.NoMemory) ⊎ ((result ≡ answers.ReadFault) × read_rose)

abbrev pub TreeBroken : Run → List (List ℕ) → Status → Type 0
TreeBroken r words result = (layout deck : List ℕ) → ReadsInput words layout deck → (bad : TreeBad) → IsTreeFault r.before (ReadRose r) result layout deck bad

-- the shot file has more than 268,435,456 bytes
abbrev pub ShotsLong : Run → List (List ℕ) → Status → Type 0
ShotsLong r words result =
    (file : List ℕ) → ReadsFile words file
    → ComesExactlyWhere (ReadRose r) result (answers.No 0 check_faults.Long) (IsLongerThan 268435456 r.before file)

-- the shot file has this first fault
abbrev pub ShotsBad : Run → List (List ℕ) → Status → Type 0
ShotsBad r words result =
    (file : List ℕ) → ReadsShots words file → (bad : ShotBad)
    → ComesExactlyWhere (ReadRose r) result (answers.No 0 (check_faults.Bad bad)) (HoldsFault r.before file bad)

-- the packed shot file has this first fault
abbrev pub PackedBad : Run → List (List ℕ) → Status → Type 0
PackedBad r words result =
    (file out : List ℕ) → IsUnpack words file out → (bad : PackBad)
    → ComesExactlyWhere (ReadRose r) result (answers.No 0 (check_faults.Pack bad)) (HoldsPackFault r.before file bad)

-- the file is a shot file, and this shot of it is the first that is past a field's reach
abbrev pub SplitWide : Run → List (List ℕ) → Status → Type 0
SplitWide r words result =
    (size : ℕ) (file out : List ℕ) → IsSplitting words size file out → (k : ℕ)
    → ComesExactlyWhere (ReadRose r) result (answers.No 0 (check_faults.Wide k)) (HoldsWide r.before file k)

-- none is, and the shots meet this number of stripes, which is above 4,096
abbrev pub SplitStripes : Run → List (List ℕ) → Status → Type 0
SplitStripes r words result =
    (size : ℕ) (file out : List ℕ) → IsSplitting words size file out → (value : ℕ)
    → ComesExactlyWhere (ReadRose r) result (answers.No 0 (check_faults.Stripes value)) (HoldsManyStripes (pos size) r.before file value)

-- The files of the outputs before this place are exact, and this is why the file of the output there isn't.
abbrev pub FileRefused : Run → List (List ℕ) → Status → ℕ → OutputFault → Type 0
FileRefused r words result place fault =
    (layout deck : List ℕ) → IsCheck words layout deck
    → ComesExactlyWhere (ReadRose r) result (answers.No place (fault_of fault)) (IsOutputRefusedAt r.before layout deck place fault)

-- the file has more than 268,435,456 bytes
abbrev pub FileLong : Run → List (List ℕ) → Status → Type 0
FileLong r words result = (place : ℕ) → FileRefused r words result place of_output.Long

-- it isn't the text of a list of shots, and has this first fault
abbrev pub FileBad : Run → List (List ℕ) → Status → Type 0
FileBad r words result = (place : ℕ) (bad : ShotBad) → FileRefused r words result place (of_output.Bad bad)

-- its number isn't twice the deck's unit, or it has shots and their pair isn't the output's
abbrev pub FileHead : Run → List (List ℕ) → Status → Type 0
FileHead r words result = (place : ℕ) → FileRefused r words result place of_output.Head

-- this shot is the first that doesn't fit the deck's limits
abbrev pub FileTooLarge : Run → List (List ℕ) → Status → Type 0
FileTooLarge r words result = (place shot : ℕ) → FileRefused r words result place (of_output.TooLarge shot)

-- all shots fit, and this tile, in the lowest row and there the leftmost of those that differ, is in so many shots in
-- place of the wanted number
abbrev pub FileMiscovered : Run → List (List ℕ) → Status → Type 0
FileMiscovered r words result =
    (place : ℕ) (t : Tile) (count wanted : ℕ) → FileRefused r words result place (of_output.Miscovered t count wanted)

-- Each command has its answers. Refusals of a deck and of a layout come for `fracture`, `check` and `density` alone, and
-- those of a shot file for `check` and for the commands that read one, where its place is 0.
abbrev pub Belongs : List (List ℕ) → Status → Type 0
Belongs words result = (command : Command) → AreWordsOf words command → IsOf command result

-- ---- faults

-- A read fault was counted, or a name that has to be read isn't there; where such a name isn't there no other answer
-- comes but want of memory, and where the name that is read first isn't there, that comes only where it was counted.
pub record ReadFaults (r : Run) (words : List (List ℕ)) (result : Status) : Type 0 where
  pub cause : result ≡ answers.ReadFault → ReadRose r ⊎ IsUnreadable words r.before
  pub due : IsUnreadable words r.before → (result ≡ answers.ReadFault) ⊎ (result ≡ answers.NoMemory)
  pub at_once : IsUnreadableAtOnce words r.before → (result ≡ answers.ReadFault) ⊎ ((result ≡ answers.NoMemory) × RefusedRose r)

-- A write fault was counted, and the input is accepted.
abbrev pub WriteFaults : Run → List (List ℕ) → Status → Type 0
WriteFaults r words result = result ≡ answers.WriteFault → WriteRose r × IsAccepted words r.before

-- `refuses`: the cause of each refusal and fault
pub record Refusals (r : Run) (words : List (List ℕ)) (result : Status) : Type 0 where
  pub deck_long : DeckLong r words result
  pub deck_bad : DeckBroken r words result
  pub layout_long : LayoutLong r words result
  pub layout_gds : GdsBroken r words result
  pub layout_oas : OasBroken r words result
  pub layout_tree : TreeBroken r words result
  pub file_long : FileLong r words result
  pub file_bad : FileBad r words result
  pub file_head : FileHead r words result
  pub file_too_large : FileTooLarge r words result
  pub file_miscovered : FileMiscovered r words result
  pub shots_long : ShotsLong r words result
  pub shots_bad : ShotsBad r words result
  pub packed_bad : PackedBad r words result
  pub split_wide : SplitWide r words result
  pub split_stripes : SplitStripes r words result
  pub read_fault : ReadFaults r words result
  pub write_fault : WriteFaults r words result

-- ---- what was said

-- The report was said, with true sums: of `fracture` that on the files that it made, and of `check` that on the files that
-- it read.
pub record Reports (r : Run) (words : List (List ℕ)) (result : Status) : Type 0 where
  pub fracture : (layout deck : List ℕ) → IsFracture words layout deck → result ≡ answers.Done
      → (input : Input) × HoldsInput r.before layout deck input × IsReported r.before r.after input
  pub check : (layout deck : List ℕ) → IsCheck words layout deck → result ≡ answers.Done
      → (input : Input) × HoldsInput r.before layout deck input × IsExactReported r.before r.after input

-- The listing of the shot file was said, and nothing else has changed but what is left to be read.
abbrev pub Lists : Run → List (List ℕ) → Status → Type 0
Lists r words result =
    (file : List ℕ) → IsShots words file → result ≡ answers.Done
    → (s : ShotData) × HoldsShots r.before file s × (r.after ≡ with_said (with_left r.before []) (listed s))

-- The windows of each output were said with their counts, which are true and add up, and nothing else has changed but what
-- is left to be read.
abbrev pub Tabulates : Run → List (List ℕ) → Status → Type 0
Tabulates r words result =
    (size : ℕ) (layout deck : List ℕ) → IsDensity words size layout deck → result ≡ answers.Done
    → (input : Input) × HoldsInput r.before layout deck input
    × AreTablesSaid (with_left r.before []) r.after (pos size) input

-- the same, but for what was said
abbrev pub quiet : Run → Run
quiet r = record r { after = record r.after { said = r.before.said } }

-- A text of the command: the report on an accepted input, all of whose outputs are covered, or all of whose files are
-- exact; the tables of its outputs; the listing of an accepted shot file; or the lines of the files that were made of one,
-- or of a generated layout, each of which is whole.
abbrev pub IsTextBy : Run → Command → List ℕ → Type 0
IsTextBy r (Fracture layout deck) text =
    (input : Input) × HoldsInput r.before layout deck input × AreCovered r.before r.after input
    × (sums : List Sums) × AreSummed r.after.made input sums × (text ≡ report_on input sums)
IsTextBy r (Check layout deck) text =
    (input : Input) × HoldsInput r.before layout deck input × AreExact r.before input
    × (sums : List Sums) × AreExactSums r.before input sums × (text ≡ exact_report input sums)
IsTextBy r (Shots file) text = (s : ShotData) × HoldsShots r.before file s × (text ≡ listed s)
IsTextBy r (Pack file out) text =
    (s : ShotData) × HoldsShots r.before file s × (p : PackedShots s) × ((quiet r).after ≡ with_file (with_left r.before []) out p.text)
    × (text ≡ packed_line (length s.shots) p.records)
IsTextBy r (Unpack file out) text =
    (s : ShotData) × HoldsPacked r.before file s × ((quiet r).after ≡ with_file (with_left r.before []) out (plain_of s)) × (text ≡ unpacked_said s)
IsTextBy r (Split size file out) text =
    (s : ShotData) × HoldsFields (pos size) r.before file s
    × AreAllMade (with_left r.before []) (quiet r).after (pos size) out s text
IsTextBy r (Density size layout deck) text = (input : Input) × HoldsInput r.before layout deck input × IsDensityText (pos size) input text
IsTextBy r (Generate n file) text = ((quiet r).after ≡ with_file r.before file (generated n)) × (text ≡ generated_line n)

-- Saying it may have ended early: it failed, or a want of memory was counted. `density` computes what it says as it goes, so
-- any want of memory may end it.
abbrev pub MayBreakOff : Run → Command → Status → Type 0
MayBreakOff r (Fracture layout deck) result = (result ≡ answers.WriteFault) ⊎ ((result ≡ answers.NoMemory) × RefusedRose r)
MayBreakOff r (Check layout deck) result = (result ≡ answers.WriteFault) ⊎ ((result ≡ answers.NoMemory) × RefusedRose r)
MayBreakOff r (Shots file) result = (result ≡ answers.WriteFault) ⊎ ((result ≡ answers.NoMemory) × RefusedRose r)
MayBreakOff r (Pack file out) result = (result ≡ answers.WriteFault) ⊎ ((result ≡ answers.NoMemory) × RefusedRose r)
MayBreakOff r (Unpack file out) result = (result ≡ answers.WriteFault) ⊎ ((result ≡ answers.NoMemory) × RefusedRose r)
MayBreakOff r (Split size file out) result = (result ≡ answers.WriteFault) ⊎ ((result ≡ answers.NoMemory) × RefusedRose r)
MayBreakOff r (Density size layout deck) result = (result ≡ answers.WriteFault) ⊎ (result ≡ answers.NoMemory)
MayBreakOff r (Generate n file) result = (result ≡ answers.WriteFault) ⊎ ((result ≡ answers.NoMemory) × RefusedRose r)

-- What the command itself may have said before it ended so: something of its text where saying it ended early, and nothing
-- for every other answer.
abbrev pub MaySay : Run → List (List ℕ) → Status → List ℕ → Type 0
MaySay r words result text =
    (text ≡ []) ⊎ ((command : Command) × AreWordsOf words command × MayBreakOff r command result × IsTextBy r command text)

-- the name that the line of a refused layout may give is that of the deck's top cell
abbrev pub IsTopOf : Run → List (List ℕ) → Status → List ℕ → Type 0
IsTopOf r words result top =
    (layout deck : List ℕ) (fault : LayoutFault) → ReadsInput words layout deck → result ≡ answers.Layout fault
    → (d : Deck) × HoldsDeck r.before layout deck d × (top ≡ d.top)

-- the name that the line of a refused shot file gives is that of the file: of the refused output for `check`, and else FILE
pub record IsRefusedFileName (r : Run) (words : List (List ℕ)) (result : Status) (file : List ℕ) : Type 0 where
  pub check : (layout deck : List ℕ) → IsCheck words layout deck → (place : ℕ) (fault : CheckFault) → result ≡ answers.No place fault
      → IsFileAt r.before layout deck place file
  pub read : (name : List ℕ) → ReadsFile words name → file ≡ name

-- a counted fault of writing is answered as that, or as want of memory where a want of memory was counted too
abbrev pub IsWriteTold : Run → Status → Type 0
IsWriteTold r result =
    result ≢ answers.WriteFault → result ≢ answers.ReadFault
    → (r.new.write_faults ≡ r.old.write_faults) ⊎ ((result ≡ answers.NoMemory) × RefusedRose r)

-- Where the answer isn't Done, a prefix of the command's text was said and then a prefix of the answer's line. The line is
-- whole, and then no fault of writing was counted but one that is the answer; or a write fault or want of memory was
-- counted, which the saying of the line may have been.
pub record SaysLine (r : Run) (words : List (List ℕ)) (result : Status) : Type 0 where
  pub text : List ℕ
  pub may : MaySay r words result text
  pub top : List ℕ
  pub named : IsTopOf r words result top
  pub file : List ℕ
  pub of_file : IsRefusedFileName r words result file
  pub of_text : ℕ
  pub of_line : ℕ
  pub said : r.after.said ≡ (r.before.said ++ take of_text text) ++ take of_line (line_of file top result)
  pub whole : ((take of_line (line_of file top result) ≡ line_of file top result) × IsWriteTold r result) ⊎ WriteRose r ⊎ RefusedRose r

-- `says`: what was said, after Done and after every other answer
pub record Speech (r : Run) (words : List (List ℕ)) (result : Status) : Type 0 where
  pub report : Reports r words result
  pub listed : Lists r words result
  pub densities : Tabulates r words result
  pub line : result ≢ answers.Done → SaysLine r words result

-- ---- what stays

-- an answer by which nothing is written
abbrev pub IsRefusal : Status → Type 0
IsRefusal answers.Done = ⊥
IsRefusal answers.Words = ⊤
IsRefusal (answers.Deck fault) = ⊤
IsRefusal (answers.Layout fault) = ⊤
IsRefusal answers.ReadFault = ⊤
IsRefusal answers.WriteFault = ⊥
IsRefusal answers.NoMemory = ⊥
IsRefusal (answers.No place fault) = ⊤

-- a refusal changes nothing but what is left to be read and what was said
abbrev pub Refuses : Run → Status → Type 0
Refuses r result = IsRefusal result → ChangesLeftOnly r.before (quiet r).after

-- `check`, `shots` and `density` change nothing but what is left to be read and what was said, whatever the answer
abbrev pub IsQuietCommand : Command → Type 0
IsQuietCommand (Fracture layout deck) = ⊥
IsQuietCommand (Check layout deck) = ⊤
IsQuietCommand (Shots file) = ⊤
IsQuietCommand (Pack file out) = ⊥
IsQuietCommand (Unpack file out) = ⊥
IsQuietCommand (Split size file out) = ⊥
IsQuietCommand (Density size layout deck) = ⊤
IsQuietCommand (Generate n file) = ⊥

abbrev pub KeepsFiles : Run → List (List ℕ) → Type 0
KeepsFiles r words = (command : Command) → AreWordsOf words command → IsQuietCommand command → ChangesLeftOnly r.before (quiet r).after

-- What a write fault or want of memory leaves, but for what was said. Of a command that reads, nothing but what is left to
-- be read has changed, or:
--
-- - of `fracture` there is a place before which all outputs are whole, at which the file is as before, empty or a prefix of
--   the text that Done would allow, and after which nothing has changed;
-- - of `pack` and `unpack` OUT is as before or a prefix of its text;
-- - of `split` the files of the stripes below some stripe are whole, its own is as before or a prefix of its text, and those of
--   the stripes above it are as before; or all are whole.
--
-- Of `generate` the file is as before or a prefix of the generated layout.
abbrev pub IsLeftBy : Run → Command → Type 0
IsLeftBy r (Fracture layout deck) =
    ChangesLeftOnly r.before (quiet r).after ⊎ ((input : Input) × HoldsInput r.before layout deck input × AreSpoiled r.before r.after input)
IsLeftBy r (Check layout deck) = ChangesLeftOnly r.before (quiet r).after
IsLeftBy r (Shots file) = ChangesLeftOnly r.before (quiet r).after
IsLeftBy r (Pack file out) =
    ChangesLeftOnly r.before (quiet r).after
    ⊎ ((s : ShotData) × HoldsShots r.before file s × (p : PackedShots s) × IsPartMade (with_left r.before []) out p.text (quiet r).after)
IsLeftBy r (Unpack file out) =
    ChangesLeftOnly r.before (quiet r).after
    ⊎ ((s : ShotData) × HoldsPacked r.before file s × IsPartMade (with_left r.before []) out (plain_of s) (quiet r).after)
IsLeftBy r (Split size file out) =
    ChangesLeftOnly r.before (quiet r).after
    ⊎ ((s : ShotData) × HoldsFields (pos size) r.before file s × IsPartSplit (with_left r.before []) (quiet r).after (pos size) out s)
IsLeftBy r (Density size layout deck) = ChangesLeftOnly r.before (quiet r).after
IsLeftBy r (Generate n file) = IsPartMade r.before file (generated n) (quiet r).after

-- Where want of memory is the answer, it was counted once a byte of OUT may be out: else nothing but what is left to be read
-- and what was said has changed. `generate` takes no memory of its own. `fracture` computes the area of a band after it has
-- written those below, so any want of memory may cut its outputs short.
abbrev pub IsWantTold : Run → Command → Type 0
IsWantTold r (Fracture layout deck) = ⊤
IsWantTold r (Check layout deck) = ChangesLeftOnly r.before (quiet r).after
IsWantTold r (Shots file) = ChangesLeftOnly r.before (quiet r).after
IsWantTold r (Pack file out) = ChangesLeftOnly r.before (quiet r).after ⊎ RefusedRose r
IsWantTold r (Unpack file out) = ChangesLeftOnly r.before (quiet r).after ⊎ RefusedRose r
IsWantTold r (Split size file out) = ChangesLeftOnly r.before (quiet r).after ⊎ RefusedRose r
IsWantTold r (Density size layout deck) = ChangesLeftOnly r.before (quiet r).after
IsWantTold r (Generate n file) = RefusedRose r

pub record Spoils (r : Run) (words : List (List ℕ)) (result : Status) : Type 0 where
  pub left : (command : Command) → AreWordsOf words command → (result ≡ answers.WriteFault) ⊎ (result ≡ answers.NoMemory) → IsLeftBy r command
  pub counted : (command : Command) → AreWordsOf words command → result ≡ answers.NoMemory → IsWantTold r command

-- `leaves`: what stays
pub record Remains (r : Run) (words : List (List ℕ)) (result : Status) : Type 0 where
  pub refusals : Refuses r result
  pub keeps : KeepsFiles r words
  pub spoiled : Spoils r words result

-- ---- what holds over every depot

-- After Done nothing was counted. A fault of reading that was counted is answered as that, or as want of memory where a
-- want of memory was counted too. A fault of reading comes only where one was counted or the depot tells its content, and
-- one of writing only where one was counted.
pub record FaultsTold (old new : Counts) (tells : Type 0) (result : Status) : Type 0 where
  pub done : result ≡ answers.Done → new ≡ old
  pub reads : result ≢ answers.ReadFault → (new.read_faults ≡ old.read_faults) ⊎ ((result ≡ answers.NoMemory) × Rose old.refused new.refused)
  pub read_fault : result ≡ answers.ReadFault → Rose old.read_faults new.read_faults ⊎ tells
  pub write_fault : result ≡ answers.WriteFault → Rose old.write_faults new.write_faults
  pub never_fall : NeverFall old new
