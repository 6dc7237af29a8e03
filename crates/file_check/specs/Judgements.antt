-- What is wrong with the bytes of a file within the limit, and with the shots of one whose head is right.
use Rattle.std.specs.Prelude.{ℕ, ◌≡◌, List}
use Rattle.half_grid.specs.Trapezoids.{Trapezoid}
use Rattle.deck_text.specs.declared.deck.Output.{Output}
use Rattle.deck_plan.specs.Plans.{Planned}
use Rattle.shot_reader.specs.Refusals.{IsFirstShotFault}
use Rattle.shot_reader.specs.declared.reading.ShotFile.{ShotFile}
use Rattle.shot_checker.specs.Verdicts.{IsFirstTooLarge}
use Rattle.file_check.specs.Certificates.{IsMiscover}
use Rattle.file_check.specs.Files.{ShotData, HasOtherHead, HasShots}
use Rattle.file_check.specs.declared.faults.CheckFault.TheVariants as faults
use Rattle.file_check.specs.declared.faults.CheckBad.{CheckBad}
use Rattle.file_check.specs.declared.faults.CheckBad.TheVariants as answers

abbrev pub data_of : ShotFile → ShotData
data_of file = record { unit = file.unit; pair = file.pair; shots = file.shots }

abbrev pub IsShotsFault : Planned → ℕ → List Trapezoid → CheckBad → Type 0
IsShotsFault p k shots (answers.Refused place faults.Long) = ⊥
IsShotsFault p k shots (answers.Refused place (faults.Bad bad)) = ⊥
IsShotsFault p k shots (answers.Refused place faults.Head) = ⊥
IsShotsFault p k shots (answers.Refused place (faults.Miscovered t count wanted)) = (place ≡ k) × IsMiscover p k shots t count wanted
IsShotsFault p k shots (answers.Refused place (faults.TooLarge i)) = (place ≡ k) × IsFirstTooLarge shots p.deck.limits i
IsShotsFault p k shots answers.ReadFault = ⊥

abbrev pub IsBytesFault : Planned → ℕ → Output → List ℕ → CheckBad → Type 0
IsBytesFault p k output bytes (answers.Refused place faults.Long) = ⊥
IsBytesFault p k output bytes (answers.Refused place (faults.Bad bad)) = (place ≡ k) × IsFirstShotFault bytes bad
IsBytesFault p k output bytes (answers.Refused place faults.Head) = (place ≡ k) × HasOtherHead p output bytes
IsBytesFault p k output bytes (answers.Refused place (faults.Miscovered t count wanted)) =
    (place ≡ k) × HasShots p output bytes (λ shots. IsMiscover p k shots t count wanted)
IsBytesFault p k output bytes (answers.Refused place (faults.TooLarge i)) =
    (place ≡ k) × HasShots p output bytes (λ shots. IsFirstTooLarge shots p.deck.limits i)
IsBytesFault p k output bytes answers.ReadFault = ⊥
