-- What follows of a shot file that was read, or wasn't taken; and a shot file hasn't more shots than bytes.
use Rattle.std.proofs.Common.{◌≡◌, Some, inl, inr, ℕ, zero, suc, ◌+◌, ◌*◌, ◌/◌, ◌%◌, ◌≤◌, Bool, true, false, nat_lt, List, [], ◌∷◌, ◌++◌}
use Rattle.std.proofs.Common.{length, refl, ap, subst, arith, length-append, Option}
use Rattle.std.specs.Prelude.{flat_map, if◌then◌else◌}
use Rattle.half_grid.specs.Trapezoids.{Trapezoid}
use Rattle.depot.specs.Content.{Content, held_as, with_left}
use Rattle.depot.specs.Counts.{Counts, Rose}
use Rattle.layout_model.specs.declared.pair.Pair.{Pair}
use Rattle.oas_lex.specs.ShotText.{head, end, delta_text, text_of, fields_of, spelling_of, shot_text}
use Rattle.oas_lex.specs.Spelling.{groups, unsigned_text, signed_text, signed_code}
use Rattle.oas_lex.specs.declared.fields.ShotFields.{ShotFields}
use Rattle.oas_lex.proofs.ForCallers.{text_opens, spelling_is}
use Rattle.shot_reader.specs.Reading.{IsFileOf}
use Rattle.shot_reader.specs.Refusals.{IsFirstShotFault}
use Rattle.shot_reader.specs.declared.refusing.ShotBad.{ShotBad}
use Rattle.shot_repeat.specs.Refusals.{IsFirstPackFault}
use Rattle.shot_repeat.specs.declared.refusing.PackBad.{PackBad}
use Rattle.mdp_job.specs.Runs.{run_of, IsEndedSo}
use Rattle.mdp_job.specs.ShotFiles.{ShotData, IsShotsFault, IsPackedFault}
use Rattle.mdp_job.specs.FileAnswers.{FileCommand, IsFileAnswer, IsRefusedFile}
use Rattle.job_report.specs.declared.faults.CheckFault.{CheckFault}
use Rattle.job_report.specs.declared.faults.CheckFault.TheVariants as faults
use Rattle.job_report.specs.declared.status.Status.{Status}
use Rattle.job_report.specs.declared.status.Status.TheVariants as answers
use Rattle.mdp_job.proofs.Contents.{left_only, there}

-- ---- taken

pub made_answers : (command : FileCommand) (b m a : Content) (o n p : Counts) (file : List ℕ) (s : ShotData)
    (result : Status) → command.holds b file s → m ≡ with_left b [] → n ≡ o
    → IsEndedSo (Rose n.write_faults p.write_faults) (Rose n.refused p.refused) (command.done m a s)
    (command.half m a s) result → IsFileAnswer command (run_of b a o p) file result
made_answers command b m a o n p file s result holds rest same made = inl (
  s,
  holds,
  subst (λ (c : Content). IsEndedSo (Rose o.write_faults p.write_faults) (Rose o.refused p.refused) (command.done c a s) (command.half c a s) result) rest
      (subst (λ (x : Counts). IsEndedSo (Rose x.write_faults p.write_faults) (Rose x.refused p.refused)
      (command.done m a s) (command.half m a s) result) same made),
)

-- ---- not taken

module _ (b a : Content) (o p : Counts) (file bytes : List ℕ) (held : held_as b file ≡ Some bytes)
    (short : length bytes ≤ 268435456) (rest : a ≡ with_left b []) where
  pub shots_refused : (bad : ShotBad) → IsFirstShotFault bytes bad → IsRefusedFile IsShotsFault (run_of b a o p) file (answers.No 0 (faults.Bad bad))
  shots_refused bad fault = inl (faults.Bad bad, refl, record { bytes = bytes; held = held; short = short; fault = fault }, left_only b a rest)

  pub packed_refused : (bad : PackBad) → IsFirstPackFault bytes bad → IsRefusedFile IsPackedFault (run_of b a o p) file (answers.No 0 (faults.Pack bad))
  packed_refused bad fault = inl (faults.Pack bad, refl, record { bytes = bytes; held = held; short = short; fault = fault }, left_only b a rest)

  -- memory was wanting for what was read
  pub wanting : (faulty : Content → List ℕ → CheckFault → Type 0) → IsRefusedFile faulty (run_of b a o p) file answers.NoMemory
  wanting faulty = inr (inr (refl, λ missing. absurd (there (held_as b file) bytes held missing), left_only b a rest))

-- ---- how many shots

-- a number has a byte at least, and a record eight
groups_some : (more n : ℕ) → 1 ≤ length (groups more n)
groups_some zero n = omega (arith)
groups_some (suc more) n = by (nat_lt n 128)
  where
    by : (t : Bool) → 1 ≤ length (if t then n ∷ [] else (n % 128 + 128) ∷ groups more (n / 128))
    by true = omega (arith)
    by false = omega (arith)

number_some : (n : ℕ) → 1 ≤ length (unsigned_text n)
unfolding unsigned_text
number_some n = groups_some 9 n

fields_long : (f : ShotFields) → 8 ≤ length (text_of f)
fields_long f =
    let y = signed_text f.y ++ [] in
    let x = signed_text f.x ++ y in
    let right = delta_text f.right_delta ++ x in
    let left = delta_text f.left_delta ++ right in
    let height = unsigned_text f.height ++ left in
    let width = unsigned_text f.width ++ height in
    let datatype = unsigned_text f.datatype ++ width in
    omega (
      arith,
      ap length (text_opens f []),
      length-append (text_of f) [],
      length-append (unsigned_text f.layer) datatype,
      length-append (unsigned_text f.datatype) width,
      length-append (unsigned_text f.width) height,
      length-append (unsigned_text f.height) left,
      length-append (delta_text f.left_delta) right,
      length-append (delta_text f.right_delta) x,
      length-append (signed_text f.x) y,
      length-append (signed_text f.y) [],
      number_some f.layer,
      number_some f.datatype,
      number_some f.width,
      number_some f.height,
      number_some (signed_code f.x),
      number_some (signed_code f.y),
    )

record_long : (l d : ℕ) (z : Trapezoid) → 8 ≤ length (spelling_of l d z)
record_long l d z = omega (arith, fields_long (fields_of l d z), ap length (spelling_is l d z))

records_long : (l d : ℕ) (shots : List Trapezoid) → 8 * length shots ≤ length (flat_map (spelling_of l d) shots)
records_long l d [] = omega (arith)
records_long l d (z ∷ shots) =
    omega (arith, record_long l d z, records_long l d shots, length-append (spelling_of l d z) (flat_map (spelling_of l d) shots))

text_long : (unit l d : ℕ) (shots : List Trapezoid) → 8 * length shots ≤ length (shot_text unit l d shots)
unfolding shot_text
text_long unit l d shots =
    let r = flat_map (spelling_of l d) shots in
    omega (
      arith,
      records_long l d shots,
      length-append (head unit) (r ++ end),
      length-append (head unit ++ r) end,
      length-append (head unit) r,
      length-append r end,
    )

-- a shot file has at most 33,554,432 shots
pub fewer_shots : (bytes : List ℕ) (unit : ℕ) (pair : Option Pair) (shots : List Trapezoid)
    → IsFileOf bytes unit pair shots → length bytes ≤ 268435456 → length shots ≤ 33554432
fewer_shots bytes unit pair shots f short = omega (arith, text_long unit f.layer f.datatype shots, ap length f.text, short)

pub few_shots : (bytes : List ℕ) (unit : ℕ) (pair : Option Pair) (shots : List Trapezoid)
    → IsFileOf bytes unit pair shots → length bytes ≤ 268435456 → length shots ≤ 268435456
few_shots bytes unit pair shots f short = omega (arith, text_long unit f.layer f.datatype shots, ap length f.text, short)
