-- What is to be said of the shot files of a deck's outputs, whoever made them.
--
-- A file is exact where it has at most 268,435,456 bytes and is the one text of a list of shots, its head has twice the
-- deck's unit, its pair is the output's where it has shots, each shot fits the deck's limits, and each tile of the plane is
-- in exactly one of the shots if it is in the output's area, and in none otherwise.
use Rattle.std.specs.Prelude.{ℕ, ◌*◌, ◌≤◌, ◌≡◌, ◌⊎◌, List, length, slice_get, Option, Some, IfSome, IsSomeAnd, ⊤}
use Rattle.geo_stream.specs.declared.refusal.Refusal.{Refusal}
use Rattle.geo_stream.specs.declared.refusal.Refusal.TheVariants.{Fault, NoMemory}
use Rattle.half_grid.specs.Trapezoids.{Trapezoid}
use Rattle.depot.specs.Content.{Content, held_as, IsNotThere, IsLongerThan}
use Rattle.depot.specs.Counts.{Counts, Rose}
use Rattle.layout_model.specs.declared.pair.Pair.{Pair}
use Rattle.deck_text.specs.declared.deck.Output.{Output}
use Rattle.deck_text.specs.declared.deck.Deck.{Deck}
use Rattle.deck_plan.specs.Plans.{Planned}
use Rattle.shot_reader.specs.Reading.{IsFileOf}
use Rattle.shot_reader.specs.Refusals.{IsFirstShotFault}
use Rattle.shot_writer.specs.Writing.{triangles_of}
use Rattle.shot_writer.specs.declared.parts.Sums.{Sums}
use Rattle.shot_checker.specs.Verdicts.{IsFirstTooLarge}
use Rattle.file_check.specs.Certificates.{IsCertified, IsMiscover}
use Rattle.file_check.specs.declared.faults.CheckFault.{CheckFault}
use Rattle.file_check.specs.declared.faults.CheckFault.TheVariants as faults
use Rattle.file_check.specs.declared.faults.CheckBad.{CheckBad}
use Rattle.file_check.specs.declared.faults.CheckBad.TheVariants as answers

-- what a shot file says
pub record ShotData : Type 0 where
  pub unit : ℕ
  pub pair : Option Pair
  pub shots : List Trapezoid

-- the bytes are the one text of this unit, this pair and these shots
abbrev pub IsTextOf : List ℕ → ShotData → Type 0
IsTextOf bytes s = IsFileOf bytes s.unit s.pair s.shots

-- it has twice the deck's unit, and where it has shots the output's pair
pub record HasHeadOf (deck : Deck) (output : Output) (s : ShotData) : Type 0 where
  pub unit : s.unit ≡ 2 * deck.unit
  pub pair : IfSome s.pair (λ pair. pair ≡ output.pair)

-- the number of shots, and that of their triangles
pub record AreSumsOf (shots : List Trapezoid) (sums : Sums) : Type 0 where
  pub shots_are : sums.shots ≡ length shots
  pub triangles_are : sums.triangles ≡ triangles_of shots

-- ---- the bytes of a file within the limit, for output k

-- they are the text of these shots, which are certified, and these are the sums
pub record IsExactText (p : Planned) (k : ℕ) (output : Output) (bytes : List ℕ) (sums : Sums) : Type 0 where
  pub s : ShotData
  pub text : IsTextOf bytes s
  pub head : HasHeadOf p.deck output s
  pub certified : IsCertified p k s.shots
  pub sums_are : AreSumsOf s.shots sums

-- they are the text of shots with another head
pub record HasOtherHead (p : Planned) (output : Output) (bytes : List ℕ) : Type 0 where
  pub s : ShotData
  pub text : IsTextOf bytes s
  pub other : HasHeadOf p.deck output s → ⊥

-- they are the text of shots with the right head, of which this holds
pub record HasShots (p : Planned) (output : Output) (bytes : List ℕ) (holds : List Trapezoid → Type 0) : Type 0 where
  pub s : ShotData
  pub text : IsTextOf bytes s
  pub head : HasHeadOf p.deck output s
  pub holds_of : holds s.shots

-- ---- the file of output k

pub record HoldsShotBytes (c : Content) (name : List ℕ) (bytes : List ℕ) : Type 0 where
  pub held : held_as c name ≡ Some bytes
  pub short : length bytes ≤ 268435456

abbrev pub IsExactFile : Planned → ℕ → Output → Content → Sums → Type 0
IsExactFile p k output c sums = (bytes : List ℕ) × HoldsShotBytes c output.file bytes × IsExactText p k output bytes sums

-- why the file is refused
abbrev pub IsCheckFaultOf : Planned → ℕ → Output → Content → CheckFault → Type 0
IsCheckFaultOf p k output c faults.Long = IsLongerThan 268435456 c output.file
IsCheckFaultOf p k output c (faults.Bad bad) = (bytes : List ℕ) × HoldsShotBytes c output.file bytes × IsFirstShotFault bytes bad
IsCheckFaultOf p k output c faults.Head = (bytes : List ℕ) × HoldsShotBytes c output.file bytes × HasOtherHead p output bytes
IsCheckFaultOf p k output c (faults.Miscovered t count wanted) =
    (bytes : List ℕ) × HoldsShotBytes c output.file bytes × HasShots p output bytes (λ shots. IsMiscover p k shots t count wanted)
IsCheckFaultOf p k output c (faults.TooLarge i) =
    (bytes : List ℕ) × HoldsShotBytes c output.file bytes × HasShots p output bytes (λ shots. IsFirstTooLarge shots p.deck.limits i)

-- ---- all files

-- output k has a file, of which this holds
abbrev pub OfOutput : Planned → ℕ → (Output → Type 0) → Type 0
OfOutput p k holds = IsSomeAnd (slice_get p.deck.outputs k) holds

-- the first n files are exact, with these sums
pub record AreExactFiles (p : Planned) (c : Content) (n : ℕ) (sums : List Sums) : Type 0 where
  pub count : length sums ≡ n
  pub each : (k : ℕ) (sum : Sums) → slice_get sums k ≡ Some sum → OfOutput p k (λ output. IsExactFile p k output c sum)

-- the answer to a file that isn't exact, where this says whether a read fault was counted
abbrev pub IsFileFault : Planned → ℕ → Output → Content → Type 0 → CheckBad → Type 0
IsFileFault p k output c read_rose (answers.Refused place fault) = (place ≡ k) × IsCheckFaultOf p k output c fault
IsFileFault p k output c read_rose answers.ReadFault = read_rose ⊎ IsNotThere c output.file

-- the files before some place are exact, and this is the answer to the file there
pub record IsFirstFileFault (p : Planned) (c : Content) (read_rose : Type 0) (bad : CheckBad) : Type 0 where
  pub place : ℕ
  pub sums : List Sums
  pub before : AreExactFiles p c place sums
  pub fault : OfOutput p place (λ output. IsFileFault p place output c read_rose bad)

-- what was counted: nothing, but for a fault of reading, and for want of memory, where a want of memory or nothing was
abbrev pub CountsFor : Counts → Counts → Refusal CheckBad → Type 0
CountsFor old new (Fault (answers.Refused place fault)) = new ≡ old
CountsFor old new (Fault answers.ReadFault) = ⊤
CountsFor old new NoMemory = Rose old.refused new.refused ⊎ (new ≡ old)
