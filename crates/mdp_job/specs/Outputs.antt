-- What else is known of the files that `fracture` makes, of its report, and of outputs that were cut short.
use Rattle.std.specs.Prelude.{◌≡◌, ◌⊎◌, ℕ, suc, ◌<◌, ◌≤◌, List, ◌++◌, length, take, slice_get, Some, codes}
use Rattle.std.specs.FinMap.{get}
use Rattle.half_grid.specs.Trapezoids.{Trapezoid}
use Rattle.depot.specs.Content.{Content, Files}
use Rattle.fracture.specs.Economy.{HasNoNeedlessCut}
use Rattle.shot_writer.specs.Writing.{triangles_of}
use Rattle.shot_writer.specs.declared.parts.Sums.{Sums}
use Rattle.deck_text.specs.declared.deck.Output.{Output}
use Rattle.shot_output.specs.ShotLists.{IsShotList}
use Rattle.half_grid.specs.Sizes.{IsNumberIn}
use Rattle.shot_output.specs.Files.{rules_of, text_of}
use Rattle.job_input.specs.declared.reading.Input.{Input}
use Rattle.job_report.specs.Report.{report}
use Rattle.mdp_job.specs.Denoted.{area_of, ChangesOnly}
use Rattle.mdp_job.specs.Headline.{IsShotFile}

-- the file of the output is a shot file of its area
abbrev pub IsCovered : Files → Input → Output → Type 0
IsCovered files input output = (bytes : List ℕ) × (get files output.file ≡ Some bytes) × IsShotFile input output bytes

-- ---- economy

-- The shots of the file are the shot list: the cut lists of what the area has in the bands, one band after another. No cut
-- is needless.
pub record IsEconomic (files : Files) (input : Input) (output : Output) : Type 0 where
  pub shots : List Trapezoid
  pub made : get files output.file ≡ Some (text_of input.deck output shots)
  pub list : IsShotList (rules_of input.deck) (area_of input output) shots
  pub few : HasNoNeedlessCut input.deck.band input.deck.limits.height input.deck.limits.width (area_of input output) shots

abbrev pub AreEconomic : Files → Input → Type 0
AreEconomic files input = (k : ℕ) (output : Output) → slice_get input.deck.outputs k ≡ Some output → IsEconomic files input output

-- ---- the report

-- The sum is that of the shots in the file: their number, and that of their triangles, which is the number of the area's
-- tiles.
pub record IsSummed (files : Files) (input : Input) (output : Output) (sum : Sums) : Type 0 where
  pub shots : List Trapezoid
  pub made : get files output.file ≡ Some (text_of input.deck output shots)
  pub number : sum.shots ≡ length shots
  pub triangles : sum.triangles ≡ triangles_of shots
  pub tiles : IsNumberIn (area_of input output) sum.triangles

-- each output has its sum
pub record AreSummed (files : Files) (input : Input) (sums : List Sums) : Type 0 where
  pub count : length sums ≡ length input.deck.outputs
  pub each : (k : ℕ) (output : Output) (sum : Sums) → slice_get input.deck.outputs k ≡ Some output → slice_get sums k ≡ Some sum
      → IsSummed files input output sum

-- the report on an accepted input, whose outputs have these sums, with this word before each of them
abbrev pub report_of : List ℕ → Input → List Sums → List ℕ
report_of word input sums = report input.format (length input.tree.layout.cells) input.tree.layout.counts word input.deck.outputs sums

-- the report of `fracture`
abbrev pub report_on : Input → List Sums → List ℕ
report_on input sums = report_of (codes "output") input sums

-- the report was said, with true sums
pub record IsReported (before now : Content) (input : Input) : Type 0 where
  pub sums : List Sums
  pub summed : AreSummed now.made input sums
  pub said : now.said ≡ before.said ++ report_on input sums

-- ---- outputs that were cut short

-- The file holds a prefix of the text that Done would allow, that of the shot list. The prefix may have no bytes.
pub record IsBegun (files : Files) (input : Input) (output : Output) : Type 0 where
  pub bytes : List ℕ
  pub made : get files output.file ≡ Some bytes
  pub shots : List Trapezoid
  pub list : IsShotList (rules_of input.deck) (area_of input output) shots
  pub n : ℕ
  pub is : bytes ≡ take n (text_of input.deck output shots)

-- The outputs before a place are texts that Done would allow, the file of the output there is as before or begun, and
-- after it nothing has changed.
pub record AreSpoiled (before now : Content) (input : Input) : Type 0 where
  pub place : ℕ
  pub inside : place ≤ length input.deck.outputs
  pub whole : (k : ℕ) (output : Output) → k < place → slice_get input.deck.outputs k ≡ Some output
      → IsCovered now.made input output × IsEconomic now.made input output
  pub part : (output : Output) → slice_get input.deck.outputs place ≡ Some output
      → (get now.made output.file ≡ get before.made output.file) ⊎ IsBegun now.made input output
  pub others : ChangesOnly before now input.deck (suc place)
