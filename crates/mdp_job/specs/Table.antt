-- The table of answers to all words.
use Rattle.std.specs.Prelude.{◌≡◌, ◌⊎◌, ℕ, ℤ, pos, Bool, List, Option, None}
use Rattle.depot.specs.Content.{Content, with_said, IsPartSaid}
use Rattle.deck_text.specs.declared.deck.Output.{Output}
use Rattle.job_words.specs.Words.{Command, Fracture, Check, Shots, Pack, Unpack, Split, Density, Generate, AreWordsOf, IsNoCommand, IsCheck}
use Rattle.mdp_job.specs.Runs.{Run, WriteRose, RefusedRose}
use Rattle.mdp_job.specs.ShotFiles.{HoldsShots, HoldsPacked, IsShotsFault, IsPackedFault, listed, packed_of, packed_said, plain_of, unpacked_said}
use Rattle.mdp_job.specs.Splitting.{HoldsFields, IsFieldsFault, IsSplitWhole}
use Rattle.mdp_job.specs.Densities.{IsDensityAnswer}
use Rattle.mdp_job.specs.Filing.{IsFiled, IsHalfFiled}
use Rattle.mdp_job.specs.FieldAnswers.{IsHalfSplit}
use Rattle.mdp_job.specs.FileAnswers.{FileCommand, IsFileAnswer}
use Rattle.mdp_job.specs.Generating.{IsGeneratedSo}
use Rattle.mdp_job.specs.Parts.{IsAnswer}
use Rattle.mdp_job.specs.Checking.{IsCheckAnswer, HasOutputs}
use Rattle.job_report.specs.declared.status.Status.{Status}
use Rattle.job_report.specs.declared.status.Status.TheVariants as answers

-- `shots` says the listing of the shot file
abbrev pub listing_command : FileCommand
listing_command = record {
  holds = HoldsShots;
  faulty = IsShotsFault;
  done = λ before now s. now ≡ with_said before (listed s);
  half = λ before now s. IsPartSaid before (listed s) now;
}

-- `pack` makes OUT with the packed text, and says how much it is
abbrev pub packing_command : List ℕ → FileCommand
packing_command out = record {
  holds = HoldsShots;
  faulty = IsShotsFault;
  done = λ before now s. IsFiled before now out (packed_of s) (packed_said s);
  half = λ before now s. IsHalfFiled before now out (packed_of s) (packed_said s);
}

-- `unpack` makes OUT with the plain text, and says how much it is
abbrev pub unpacking_command : List ℕ → FileCommand
unpacking_command out = record {
  holds = HoldsPacked;
  faulty = IsPackedFault;
  done = λ before now s. IsFiled before now out (plain_of s) (unpacked_said s);
  half = λ before now s. IsHalfFiled before now out (plain_of s) (unpacked_said s);
}

-- `split` makes a file for each stripe, and says the lines of all
abbrev pub splitting_command : ℤ → List ℕ → FileCommand
splitting_command size out = record {
  holds = λ c file s. HoldsFields size c file s;
  faulty = λ c file fault. IsFieldsFault size c file fault;
  done = λ before now s. IsSplitWhole before now size out s;
  half = λ before now s. IsHalfSplit before now size out s;
}

-- what holds where the command gives the answer, up to the line of a refusal, with the name that this line may need
abbrev pub IsAnswerOf : Bool → Run → Command → Status → Option (List ℕ) → Type 0
IsAnswerOf tells r (Fracture layout deck) result top = IsAnswer tells r layout deck result top
IsAnswerOf tells r (Check layout deck) result top = IsCheckAnswer r layout deck result top
IsAnswerOf tells r (Shots file) result top = IsFileAnswer listing_command r file result
IsAnswerOf tells r (Pack file out) result top = IsFileAnswer (packing_command out) r file result
IsAnswerOf tells r (Unpack file out) result top = IsFileAnswer (unpacking_command out) r file result
IsAnswerOf tells r (Split size file out) result top = IsFileAnswer (splitting_command (pos size) out) r file result
IsAnswerOf tells r (Density size layout deck) result top = IsDensityAnswer r (pos size) layout deck result top
IsAnswerOf tells r (Generate n file) result top = IsGeneratedSo r.before r.after (WriteRose r) (RefusedRose r) n file result

-- the words are a command and this is its answer, or they are none and the answer is Words
abbrev pub IsAnswerTo : Bool → Run → List (List ℕ) → Status → Option (List ℕ) → Type 0
IsAnswerTo tells r words result top =
    ((command : Command) × AreWordsOf words command × IsAnswerOf tells r command result top)
    ⊎ (IsNoCommand words × (result ≡ answers.Words) × (r.after ≡ r.before))

-- the outputs that the line of a refused file may need: those of the deck for `check`, and none for all other commands
pub record NamesFile (before : Content) (words : List (List ℕ)) (result : Status) (outputs : Option (List Output)) : Type 0 where
  pub check : (layout deck : List ℕ) → IsCheck words layout deck → HasOutputs before layout deck result outputs
  pub others : ((layout deck : List ℕ) → IsCheck words layout deck → ⊥) → outputs ≡ None
