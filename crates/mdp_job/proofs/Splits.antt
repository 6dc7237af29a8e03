-- How the parts of the command `split` fit together.
use Rattle.std.proofs.Common.{◌≡◌, ◌⊎◌, inl, inr, ℕ, ℤ, pos, List, [], Option, None, Some, All, refl, ap, subst, ◌∙◌}
use Rattle.half_grid.specs.Trapezoids.{Trapezoid, IsShot}
use Rattle.depot.specs.Content.{Content, with_left}
use Rattle.depot.specs.Counts.{Counts, Rose}
use Rattle.depot.specs.declared.outside.DepotBad.{DepotBad}
use Rattle.depot.specs.declared.outside.DepotBad.TheVariants as depot
use Rattle.shot_writer.specs.declared.parts.Sums.{Sums}
use Rattle.field_split.specs.Fields.{IsFieldSize}
use Rattle.field_split.specs.Looks.{IsFieldShot, AreStripesOf}
use Rattle.field_output.specs.Stripes.{AreStripesWritten, AreStripesPartWritten, AreStripeSums, sums_from}
use Rattle.field_output.specs.declared.sums.StripeSums.{StripeSums}
use Rattle.field_output.specs.declared.sums.Stripes.{Stripes}
use Rattle.mdp_job.specs.Runs.{Run, run_of}
use Rattle.mdp_job.specs.Parts.{fault_status, IsSaidSo, IsOfFile, IsOfWriting, refuses_shots, refuses_fields, CountsFor}
use Rattle.mdp_job.specs.ShotFiles.{ShotData, HoldsShots, IsShotsFault}
use Rattle.mdp_job.specs.Splitting.{CanBeSplit, head_of, lines_of_stripes, split_text, IsFieldsFault, AreAllMade}
use Rattle.mdp_job.specs.FieldAnswers.{IsSpan, IsSpanFault, IsSplitSo, IsSplitFile}
use Rattle.mdp_job.specs.FileAnswers.{IsFileAnswer, IsRefusedFile, IsOfRefusedFile}
use Rattle.mdp_job.specs.Table.{splitting_command}
use Rattle.job_report.specs.declared.faults.CheckFault.{CheckFault}
use Rattle.job_report.specs.declared.faults.CheckFault.TheVariants as faults
use Rattle.job_report.specs.declared.status.Status.{Status}
use Rattle.job_report.specs.declared.status.Status.TheVariants as answers
use Rattle.mdp_job.proofs.Contents.{left_only}
use Rattle.mdp_job.proofs.OneThing.{shots_there}
use Rattle.mdp_job.proofs.Taken.{made_answers}
use Rattle.mdp_job.proofs.FieldLooks.{can_split, can_split_none}
use Rattle.mdp_job.proofs.StripeFiles.{all_lists_one}

-- ---- the files and their lines

module _ (b m a : Content) (wr wr₁ rr rr₁ : Type 0) (wider : wr₁ → wr) (more : rr₁ → rr) (size : ℤ) (out : List ℕ)
    (s : ShotData) (first last : ℤ) (stripes : AreStripesOf size s.shots first last) where
  -- all files are made, and their lines are said as their making tells
  all_made : (w : AreStripesWritten b out (head_of s) s.shots size first last m) → AreAllMade b m size out s (split_text first w.lists)
  all_made w = record { first = first; lists = w.lists; stripes = inr (last, stripes, w.stripes); content = w.files; lines = refl }

  lines_ended : (result : Status) (w : AreStripesWritten b out (head_of s) s.shots size first last m)
      → IsSaidSo m a wr₁ rr₁ (split_text first w.lists) result → IsSplitSo b a wr rr size out s result
  lines_ended result w (inl (e, content)) = inl (inl (e, record { made = m; text = split_text first w.lists; all = all_made w; said = content }))
  lines_ended result w (inr (inl (e, rose, part))) = inl (inr (inl (e, wider rose, inr (m, split_text first w.lists, all_made w, part))))
  lines_ended result w (inr (inr (e, rose, part))) = inl (inr (inr (e, more rose, inr (m, split_text first w.lists, all_made w, part))))

  pub stripes_ended : (written : Stripes) (result : Status) → IsFieldSize size → All IsShot s.shots
      → AreStripesWritten b out (head_of s) s.shots size first last m
      → AreStripeSums s.shots size first last written
      → IsSaidSo m a wr₁ rr₁ (lines_of_stripes written.each.items written.all) result → IsSplitSo b a wr rr size out s result
  stripes_ended written result fields legal w sums said =
      let same : sums.lists ≡ w.lists = all_lists_one size fields s.shots legal first last sums.lists w.lists sums.stripes w.stripes in
      let lines : lines_of_stripes written.each.items written.all ≡ split_text first w.lists =
      ap (λ (e : List StripeSums). lines_of_stripes e written.all) sums.each
      ∙ ap (λ (t : Sums). lines_of_stripes (sums_from first sums.lists) t) sums.all ∙ ap (split_text first) same in
      lines_ended result w (subst (λ (t : List ℕ). IsSaidSo m a wr₁ rr₁ t result) lines said)

-- the making of the files was cut short
pub stripes_cut : (b a : Content) (wr rr : Type 0) (size : ℤ) (out : List ℕ) (s : ShotData) (first last : ℤ)
    (bad : DepotBad) → AreStripesOf size s.shots first last
    → (bad ≡ depot.Failed → wr) → (bad ≡ depot.NoMemory → (a ≡ b) ⊎ rr)
    → AreStripesPartWritten b out (head_of s) s.shots size first last a → IsSplitSo b a wr rr size out s (fault_status bad)
stripes_cut b a wr rr size out s first last depot.Failed stripes failed wanting cut =
    inl (inr (inl (refl, failed refl, inl (record { first = first; last = last; stripes = stripes; files = cut }))))
stripes_cut b a wr rr size out s first last depot.NoMemory stripes failed wanting cut =
    elim (wanting refl) [
      | inl same ↦ inr (refl, same)
      | inr rose ↦ inl (inr (inr (refl, rose, inl (record { first = first; last = last; stripes = stripes; files = cut }))))
    ]

-- there are no shots
pub none_ended : (b a : Content) (wr rr : Type 0) (size : ℤ) (out : List ℕ) (s : ShotData) (none : Sums)
    (result : Status) → s.shots ≡ [] → none.shots ≡ 0 → none.triangles ≡ 0
    → IsSaidSo b a wr rr (lines_of_stripes [] none) result → IsSplitSo b a wr rr size out s result
none_ended b a wr rr size out s none result empty e₁ e₂ said =
    let lines : lines_of_stripes [] none ≡ split_text (pos 0) [] = rw (e₁, e₂) refl in
    let all : AreAllMade b b size out s (split_text (pos 0) []) =
    record { first = pos 0; lists = []; stripes = inl (empty, refl); content = refl; lines = refl } in
    elim (subst (λ (t : List ℕ). IsSaidSo b a wr rr t result) lines said) [
      | inl (f, content) ↦ inl (inl (f, record { made = b; text = split_text (pos 0) []; all = all; said = content }))
      | inr (inl (f, rose, part)) ↦ inl (inr (inl (f, rose, inr (b, split_text (pos 0) [], all, part))))
      | inr (inr (f, rose, part)) ↦ inl (inr (inr (f, rose, inr (b, split_text (pos 0) [], all, part))))
    ]

-- ---- the file

fields_fault : (size : ℤ) (c : Content) (file : List ℕ) (s : ShotData) → HoldsShots c file s → (fault : CheckFault)
    → IsSpanFault size s.shots fault → IsFieldsFault size c file fault
fields_fault size c file s holds faults.Long h = absurd h
fields_fault size c file s holds (faults.Bad bad) h = absurd h
fields_fault size c file s holds faults.Head h = absurd h
fields_fault size c file s holds (faults.Miscovered t count wanted) h = absurd h
fields_fault size c file s holds (faults.TooLarge shot) h = absurd h
fields_fault size c file s holds (faults.Pack bad) h = absurd h
fields_fault size c file s holds (faults.Wide k) h = record { s = s; holds = holds; wide = h }
fields_fault size c file s holds (faults.Stripes value) h = record { s = s; holds = holds; within = h.0; many = h.1 }

module _ (b m a : Content) (o n p : Counts) (file : List ℕ) (size : ℤ) (out : List ℕ) (s : ShotData) (result : Status)
    (holds : HoldsShots b file s) (rest : m ≡ with_left b []) (same : n ≡ o) where
  pub split_answers : IsSplitFile m a (Rose n.write_faults p.write_faults) (Rose n.refused p.refused) size out s result
      → IsFileAnswer (splitting_command size out) (run_of b a o p) file result
  split_answers (inl (can, inl made)) = made_answers (splitting_command size out) b m a o n p file s result (record { holds = holds; can = can }) rest same made
  split_answers (inl (can, inr (e, kept))) = inr (inr (inr (e, λ missing. absurd (shots_there b file s holds missing), left_only b a (kept ∙ rest))))
  split_answers (inr (fault, e, why, kept)) = inr (inl (fault, e, fields_fault size b file s holds fault why, left_only b a (kept ∙ rest)))

-- ---- a file that isn't taken

also_fields : (size : ℤ) (c : Content) (file : List ℕ) (fault : CheckFault) → IsShotsFault c file fault → IsFieldsFault size c file fault
also_fields size c file faults.Long h = h
also_fields size c file (faults.Bad bad) h = h
also_fields size c file faults.Head h = absurd h
also_fields size c file (faults.Miscovered t count wanted) h = absurd h
also_fields size c file (faults.TooLarge shot) h = absurd h
also_fields size c file (faults.Pack bad) h = absurd h
also_fields size c file (faults.Wide k) h = absurd h
also_fields size c file (faults.Stripes value) h = absurd h

pub refused_answers : (size : ℤ) (out : List ℕ) (r : Run) (file : List ℕ) (s : Status)
    → IsRefusedFile IsShotsFault r file s → IsFileAnswer (splitting_command size out) r file s
refused_answers size out r file s (inl (fault, e, cause, rest)) = inr (inl (fault, e, also_fields size r.before file fault cause, rest))
refused_answers size out r file s (inr x) = inr (inr x)

also_of : (fault : CheckFault) → refuses_shots fault → refuses_fields fault
also_of faults.Long h = tt
also_of (faults.Bad bad) h = h
also_of faults.Head h = h
also_of (faults.Miscovered t count wanted) h = h
also_of (faults.TooLarge shot) h = h
also_of (faults.Pack bad) h = h
also_of (faults.Wide k) h = absurd h
also_of (faults.Stripes value) h = absurd h

pub refused_kind : (s : Status) → IsOfRefusedFile refuses_shots s → IsOfFile refuses_fields s
refused_kind answers.Done h = tt
refused_kind answers.Words h = h
refused_kind (answers.Deck fault) h = h
refused_kind (answers.Layout fault) h = h
refused_kind answers.ReadFault h = tt
refused_kind answers.WriteFault h = tt
refused_kind answers.NoMemory h = tt
refused_kind (answers.No place fault) (e, of) = (e, also_of fault of)

-- what was counted where the making of the files was cut short
pub cut_counts : (o n : Counts) (bad : DepotBad) → n.read_faults ≡ o.read_faults
    → (bad ≡ depot.NoMemory → (n ≡ o) ⊎ Rose o.refused n.refused) → CountsFor o n (fault_status bad)
cut_counts o n depot.Failed reads wanting = reads
cut_counts o n depot.NoMemory reads wanting =
    elim (wanting refl) [
      | inl same ↦ inr same
      | inr rose ↦ inl rose
    ]

-- ---- an accepted file

pub of_writing : (s : Status) → IsOfWriting s → IsOfFile refuses_fields s
of_writing answers.Done h = tt
of_writing answers.Words h = h
of_writing (answers.Deck fault) h = h
of_writing (answers.Layout fault) h = h
of_writing answers.ReadFault h = tt
of_writing answers.WriteFault h = tt
of_writing answers.NoMemory h = tt
of_writing (answers.No place fault) h = absurd h

pub never_read : (s : Status) → IsOfWriting s → s ≡ answers.ReadFault → ⊥
never_read s h e = subst IsOfWriting e h

pub span_fault_kind : (size : ℤ) (shots : List Trapezoid) (fault : CheckFault) → IsSpanFault size shots fault → refuses_fields fault
span_fault_kind size shots faults.Long h = absurd h
span_fault_kind size shots (faults.Bad bad) h = absurd h
span_fault_kind size shots faults.Head h = h
span_fault_kind size shots (faults.Miscovered t count wanted) h = h
span_fault_kind size shots (faults.TooLarge shot) h = h
span_fault_kind size shots (faults.Pack bad) h = h
span_fault_kind size shots (faults.Wide k) h = tt
span_fault_kind size shots (faults.Stripes value) h = tt

-- shots whose stripes are looked at can be split
pub span_splits : (size : ℤ) (shots : List Trapezoid) (span : Option (ℤ × ℤ)) → All IsFieldShot shots → IsSpan size shots span → CanBeSplit size shots
span_splits size shots None within none = can_split_none size shots within none
span_splits size shots (Some span) within (stripes, few) = can_split size shots span.0 span.1 within stripes few
