-- How the program ends.
use Rattle.std.specs.Prelude.{◌≡◌, ◌↔◌, ℕ, List, Bool, IsTrue}
use Rattle.job_words.specs.Words.{IsNoCommand}
use Rattle.job_report.specs.Codes.{code_of}
use Rattle.mdp_job.specs.Runs.{Run}
use Rattle.mdp_job.specs.Headline.{Certifies}
use Rattle.mdp_job.specs.Clauses.{Belongs, Coverage, Acceptance, Refusals, Remains, Speech, FaultsTold}
use Rattle.job_report.specs.declared.status.Status.{Status}
use Rattle.job_report.specs.declared.status.Status.TheVariants as answers

-- The program's number is that of an answer to its words, for which the promises of the command hold.
pub record IsEnd (tells : Bool) (r : Run) (words : List (List ℕ)) (number : ℕ) : Type 0 where
  pub answer : Status
  pub is : number ≡ code_of answer
  pub refused : (answer ≡ answers.Words) ↔ IsNoCommand words
  pub belongs : Belongs words answer
  pub faults_told : FaultsTold r.old r.new (IsTrue tells) answer
  pub covers : IsTrue tells → Coverage r words answer
  pub certifies : IsTrue tells → Certifies r words answer
  pub accepts : IsTrue tells → Acceptance r words answer
  pub refuses : IsTrue tells → Refusals r words answer
  pub leaves : IsTrue tells → Remains r words answer
  pub says : IsTrue tells → Speech r words answer
