-- The rows of the table of answers that speak of a command on a shot file, from its answer.
use Rattle.std.proofs.Common.{◌≡◌, ◌≢◌, ◌⊎◌, inl, inr, ℕ, List, [], sym, ap, subst, ◌∙◌}
use Rattle.depot.specs.Content.{Content, IsNotThere, ChangesLeftOnly, with_left}
use Rattle.file_check.specs.Files.{ShotData}
use Rattle.mdp_job.specs.Runs.{Run, ReadRose, WriteRose, RefusedRose, ComesExactlyWhere, IsEndedSo}
use Rattle.mdp_job.specs.FileAnswers.{FileCommand, IsFileAnswer}
use Rattle.job_report.specs.declared.faults.CheckFault.{CheckFault}
use Rattle.job_report.specs.declared.status.Status.{Status}
use Rattle.job_report.specs.declared.status.Status.TheVariants as answers

-- a name holds one thing at most
pub record IsOneThing (command : FileCommand) : Type 0 where
  pub held_there : (c : Content) (file : List ℕ) (s : ShotData) → command.holds c file s → IsNotThere c file → ⊥
  pub fault_there : (c : Content) (file : List ℕ) (fault : CheckFault) → command.faulty c file fault → IsNotThere c file → ⊥
  pub right : (c : Content) (file : List ℕ) (s : ShotData) (fault : CheckFault) → command.holds c file s → command.faulty c file fault → ⊥
  pub one : (c : Content) (file : List ℕ) (fault other : CheckFault) → command.faulty c file fault → command.faulty c file other → fault ≡ other

-- ---- answers differ

no_done : (fault : CheckFault) → answers.No 0 fault ≡ answers.Done → ⊥
no_done fault e = cc

no_write : (fault : CheckFault) → answers.No 0 fault ≡ answers.WriteFault → ⊥
no_write fault e = cc

no_memory : (fault : CheckFault) → answers.No 0 fault ≡ answers.NoMemory → ⊥
no_memory fault e = cc

no_read : (fault : CheckFault) → answers.No 0 fault ≡ answers.ReadFault → ⊥
no_read fault e = cc

same_fault : (fault other : CheckFault) → answers.No 0 fault ≡ answers.No 0 other → fault ≡ other
same_fault fault other e = let same : fault ≡ other = cc in same

read_done : answers.ReadFault ≡ answers.Done → ⊥
read_done e = cc

read_write : answers.ReadFault ≡ answers.WriteFault → ⊥
read_write e = cc

read_memory : answers.ReadFault ≡ answers.NoMemory → ⊥
read_memory e = cc

pub memory_done : answers.NoMemory ≡ answers.Done → ⊥
memory_done e = cc

pub memory_write : answers.NoMemory ≡ answers.WriteFault → ⊥
memory_write e = cc

pub write_done : answers.WriteFault ≡ answers.Done → ⊥
write_done e = cc

-- ---- what was made

-- it is Done, a write fault or want of memory
pub ended_kind : (wr rr done half : Type 0) (s : Status) → IsEndedSo wr rr done half s → (s ≡ answers.Done) ⊎ (s ≡ answers.WriteFault) ⊎ (s ≡ answers.NoMemory)
ended_kind wr rr done half s (inl x) = inl x.0
ended_kind wr rr done half s (inr (inl x)) = inr (inl x.0)
ended_kind wr rr done half s (inr (inr x)) = inr (inr x.0)

not_ended : (s t : Status) → (s ≡ answers.Done) ⊎ (s ≡ answers.WriteFault) ⊎ (s ≡ answers.NoMemory) → s ≡ t
    → (t ≡ answers.Done → ⊥) → (t ≡ answers.WriteFault → ⊥) → (t ≡ answers.NoMemory → ⊥) → ⊥
not_ended s t (inl x) e a b c = a (sym e ∙ x)
not_ended s t (inr (inl x)) e a b c = b (sym e ∙ x)
not_ended s t (inr (inr x)) e a b c = c (sym e ∙ x)

pub ended_done : (wr rr done half : Type 0) (s : Status) → IsEndedSo wr rr done half s → s ≡ answers.Done → done
ended_done wr rr done half s (inl x) e = x.1
ended_done wr rr done half s (inr (inl x)) e = absurd (write_done (sym x.0 ∙ e))
ended_done wr rr done half s (inr (inr x)) e = absurd (memory_done (sym x.0 ∙ e))

pub ended_where : (wr rr done half : Type 0) (s : Status) → IsEndedSo wr rr done half s → (wr → ⊥) → s ≢ answers.NoMemory → s ≡ answers.Done
ended_where wr rr done half s (inl x) writes memory = x.0
ended_where wr rr done half s (inr (inl x)) writes memory = absurd (writes x.1)
ended_where wr rr done half s (inr (inr x)) writes memory = absurd (memory x.0)

pub ended_write : (wr rr done half : Type 0) (s : Status) → IsEndedSo wr rr done half s → s ≡ answers.WriteFault → wr
ended_write wr rr done half s (inl x) e = absurd (write_done (sym e ∙ x.0))
ended_write wr rr done half s (inr (inl x)) e = x.1
ended_write wr rr done half s (inr (inr x)) e = absurd (memory_write (sym x.0 ∙ e))

pub ended_read : (wr rr done half : Type 0) (s : Status) → IsEndedSo wr rr done half s → s ≡ answers.ReadFault → ⊥
ended_read wr rr done half s h e = not_ended s answers.ReadFault (ended_kind wr rr done half s h) e read_done read_write read_memory

-- counted later, it is still counted
pub ended_later : (wr wr₁ rr rr₁ done half : Type 0) (s : Status) → (wr₁ → wr) → (rr₁ → rr) → IsEndedSo wr₁ rr₁ done half s → IsEndedSo wr rr done half s
ended_later wr wr₁ rr rr₁ done half s wider more (inl x) = inl x
ended_later wr wr₁ rr rr₁ done half s wider more (inr (inl (e, rose, h))) = inr (inl (e, wider rose, h))
ended_later wr wr₁ rr rr₁ done half s wider more (inr (inr (e, rose, h))) = inr (inr (e, more rose, h))

-- ---- the rows

module _ (command : FileCommand) (known : IsOneThing command) (r : Run) (file : List ℕ) (s : Status) where
  fault_only : IsFileAnswer command r file s → (fault : CheckFault) → s ≡ answers.No 0 fault → command.faulty r.before file fault
  fault_only (inl (d, h, made)) fault e =
      absurd (not_ended s (answers.No 0 fault) (ended_kind _ _ _ _ s made) e (no_done fault) (no_write fault) (no_memory fault))
  fault_only (inr (inl (f, is, cause, rest))) fault e = subst (λ (x : CheckFault). command.faulty r.before file x) (same_fault f fault (sym is ∙ e)) cause
  fault_only (inr (inr (inl (is, why, rest)))) fault e = absurd (no_read fault (sym e ∙ is))
  fault_only (inr (inr (inr (is, why, rest)))) fault e = absurd (no_memory fault (sym e ∙ is))

  fault_due : IsFileAnswer command r file s → (fault : CheckFault) → command.faulty r.before file fault
      → (s ≡ answers.No 0 fault) ⊎ (s ≡ answers.NoMemory) ⊎ ((s ≡ answers.ReadFault) × ReadRose r)
  fault_due (inl (d, h, made)) fault cause = absurd (known.right r.before file d fault h cause)
  fault_due (inr (inl (f, is, other, rest))) fault cause = inl (is ∙ ap (λ (x : CheckFault). answers.No 0 x) (known.one r.before file f fault other cause))
  fault_due (inr (inr (inl (is, inl rose, rest)))) fault cause = inr (inr (is, rose))
  fault_due (inr (inr (inl (is, inr missing, rest)))) fault cause = absurd (known.fault_there r.before file fault cause missing)
  fault_due (inr (inr (inr (is, why, rest)))) fault cause = inr (inl is)

  pub fault_row : IsFileAnswer command r file s → (fault : CheckFault)
      → ComesExactlyWhere (ReadRose r) s (answers.No 0 fault) (command.faulty r.before file fault)
  fault_row answer fault = record { only = fault_only answer fault; whenever = fault_due answer fault }

  pub missing_due : IsFileAnswer command r file s → IsNotThere r.before file → (s ≡ answers.ReadFault) ⊎ ((s ≡ answers.NoMemory) × RefusedRose r)
  missing_due (inl (d, h, made)) missing = absurd (known.held_there r.before file d h missing)
  missing_due (inr (inl (f, is, cause, rest))) missing = absurd (known.fault_there r.before file f cause missing)
  missing_due (inr (inr (inl (is, why, rest)))) missing = inl is
  missing_due (inr (inr (inr (is, why, rest)))) missing = inr (is, why missing)

  pub done_where : IsFileAnswer command r file s → (ReadRose r → ⊥) → (WriteRose r → ⊥) → s ≢ answers.NoMemory
      → (d : ShotData) → command.holds r.before file d → s ≡ answers.Done
  done_where (inl (d, h, made)) reads writes memory other g = ended_where _ _ _ _ s made writes memory
  done_where (inr (inl (f, is, cause, rest))) reads writes memory other g = absurd (known.right r.before file other f g cause)
  done_where (inr (inr (inl (is, inl rose, rest)))) reads writes memory other g = absurd (reads rose)
  done_where (inr (inr (inl (is, inr missing, rest)))) reads writes memory other g = absurd (known.held_there r.before file other g missing)
  done_where (inr (inr (inr (is, why, rest)))) reads writes memory other g = absurd (memory is)

module _ (command : FileCommand) (r : Run) (file : List ℕ) (s : Status) where
  pub read_cause : IsFileAnswer command r file s → s ≡ answers.ReadFault → ReadRose r ⊎ IsNotThere r.before file
  read_cause (inl (d, h, made)) e = absurd (ended_read _ _ _ _ s made e)
  read_cause (inr (inl (f, is, cause, rest))) e = absurd (no_read f (sym is ∙ e))
  read_cause (inr (inr (inl (is, why, rest)))) e = why
  read_cause (inr (inr (inr (is, why, rest)))) e = absurd (read_memory (sym e ∙ is))

  pub done_is : IsFileAnswer command r file s → s ≡ answers.Done → (d : ShotData) × command.holds r.before file d
      × command.done (with_left r.before []) r.after d
  done_is (inl (d, h, made)) e = (d, h, ended_done _ _ _ _ s made e)
  done_is (inr (inl (f, is, cause, rest))) e = absurd (no_done f (sym is ∙ e))
  done_is (inr (inr (inl (is, why, rest)))) e = absurd (read_done (sym is ∙ e))
  done_is (inr (inr (inr (is, why, rest)))) e = absurd (memory_done (sym is ∙ e))

  pub write_is : IsFileAnswer command r file s → s ≡ answers.WriteFault → WriteRose r × (d : ShotData) × command.holds r.before file d
  write_is (inl (d, h, made)) e = (ended_write _ _ _ _ s made e, d, h)
  write_is (inr (inl (f, is, cause, rest))) e = absurd (no_write f (sym is ∙ e))
  write_is (inr (inr (inl (is, why, rest)))) e = absurd (read_write (sym is ∙ e))
  write_is (inr (inr (inr (is, why, rest)))) e = absurd (memory_write (sym is ∙ e))

  -- an answer other than Done leaves the content as it was but for what is left to be read, or a part is made
  pub left_or_half : IsFileAnswer command r file s → s ≢ answers.Done
      → ChangesLeftOnly r.before r.after
      ⊎ (((s ≡ answers.WriteFault) ⊎ ((s ≡ answers.NoMemory) × RefusedRose r)) × (d : ShotData)
      × command.holds r.before file d × command.half (with_left r.before []) r.after d)
  left_or_half (inl (d, h, inl (is, x))) n = absurd (n is)
  left_or_half (inl (d, h, inr (inl (is, rose, half)))) n = inr (inl is, d, h, half)
  left_or_half (inl (d, h, inr (inr (is, rose, half)))) n = inr (inr (is, rose), d, h, half)
  left_or_half (inr (inl (f, is, cause, rest))) n = inl rest
  left_or_half (inr (inr (inl (is, why, rest)))) n = inl rest
  left_or_half (inr (inr (inr (is, why, rest)))) n = inl rest
