-- The certificate of the files of a deck's outputs, whoever made them, and what `check` says of them.
--
-- A file is exact where it has at most 268,435,456 bytes and is the one text of a list of legal shots within the deck's
-- limits, with twice the deck's unit and the output's layer and datatype; each half-grid triangle lies in exactly one of
-- the shots if it lies in the area that the deck denotes of the layout, and in none otherwise.
use Rattle.std.specs.Prelude.{◌≡◌, ℕ, ◌<◌, ◌≤◌, List, ◌++◌, length, slice_get, Some, codes}
use Rattle.half_grid.specs.Trapezoids.{Trapezoid}
use Rattle.depot.specs.Content.{Content, held_as, IsNotThere}
use Rattle.deck_text.specs.declared.deck.Output.{Output}
use Rattle.shot_writer.specs.Writing.{triangles_of}
use Rattle.shot_writer.specs.declared.parts.Sums.{Sums}
use Rattle.shot_output.specs.Files.{text_of}
use Rattle.half_grid.specs.Sizes.{IsNumberIn}
use Rattle.job_input.specs.Accepted.{HoldsInput}
use Rattle.job_input.specs.declared.reading.Input.{Input}
use Rattle.file_check.specs.Files.{IsCheckFaultOf}
use Rattle.file_check.specs.declared.faults.CheckFault.{CheckFault as OutputFault}
use Rattle.mdp_job.specs.Denoted.{plan_of, area_of}
use Rattle.mdp_job.specs.Headline.{IsShotFile}
use Rattle.mdp_job.specs.Outputs.{report_of}

-- ---- what is certified

-- the file of the output is exact
abbrev pub IsExact : Content → Input → Output → Type 0
IsExact c input output = (bytes : List ℕ) × (held_as c output.file ≡ Some bytes) × (length bytes ≤ 268435456) × IsShotFile input output bytes

-- the file of each output before a place is exact
abbrev pub AreExactBefore : Content → Input → ℕ → Type 0
AreExactBefore c input place = (k : ℕ) (output : Output) → k < place → slice_get input.deck.outputs k ≡ Some output → IsExact c input output

-- ---- the first file that isn't exact

-- deck and layout are accepted, the files of the outputs before this place are exact, and this is why that of the output
-- there isn't
pub record IsOutputRefusedAt (c : Content) (layout deck : List ℕ) (place : ℕ) (fault : OutputFault) : Type 0 where
  pub input : Input
  pub holds : HoldsInput c layout deck input
  pub before : AreExactBefore c input place
  pub output : Output
  pub at : slice_get input.deck.outputs place ≡ Some output
  pub fault_is : IsCheckFaultOf (plan_of input) place output c fault

-- deck and layout are accepted, the files of the outputs before some place are exact, and that of the output there isn't
-- there
pub record HasNoFile (c : Content) (layout deck : List ℕ) : Type 0 where
  pub input : Input
  pub holds : HoldsInput c layout deck input
  pub place : ℕ
  pub before : AreExactBefore c input place
  pub output : Output
  pub at : slice_get input.deck.outputs place ≡ Some output
  pub missing : IsNotThere c output.file

-- deck and layout are accepted, and this is the file of the output of this place
pub record IsFileAt (c : Content) (layout deck : List ℕ) (place : ℕ) (file : List ℕ) : Type 0 where
  pub input : Input
  pub holds : HoldsInput c layout deck input
  pub output : Output
  pub at : slice_get input.deck.outputs place ≡ Some output
  pub file_is : file ≡ output.file

-- ---- the report

-- The sum is that of the shots in the file: their number, and that of their triangles, which is the number of the area's
-- tiles.
pub record IsExactSum (c : Content) (input : Input) (output : Output) (sum : Sums) : Type 0 where
  pub shots : List Trapezoid
  pub held : held_as c output.file ≡ Some (text_of input.deck output shots)
  pub number : sum.shots ≡ length shots
  pub triangles : sum.triangles ≡ triangles_of shots
  pub tiles : IsNumberIn (area_of input output) sum.triangles

-- each output has its sum
pub record AreExactSums (c : Content) (input : Input) (sums : List Sums) : Type 0 where
  pub count : length sums ≡ length input.deck.outputs
  pub each : (k : ℕ) (output : Output) (sum : Sums) → slice_get input.deck.outputs k ≡ Some output → slice_get sums k ≡ Some sum
      → IsExactSum c input output sum

-- the report of `check`
abbrev pub exact_report : Input → List Sums → List ℕ
exact_report input sums = report_of (codes "exact") input sums

-- the report was said, with true sums
pub record IsExactReported (before now : Content) (input : Input) : Type 0 where
  pub sums : List Sums
  pub summed : AreExactSums before input sums
  pub said : now.said ≡ before.said ++ exact_report input sums
