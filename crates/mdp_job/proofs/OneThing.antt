-- A name holds one shot file or one reason to refuse it, and only where it is there.
use Rattle.std.proofs.Common.{◌≡◌, ℕ, List, refl, ap, subst}
use Rattle.depot.specs.Content.{Content, held_as, IsNotThere, IsLongerThan}
use Rattle.depot.proofs.ForCallers.{longer_there}
use Rattle.shot_reader.specs.Reading.{IsFileOf}
use Rattle.shot_reader.specs.Refusals.{IsFirstShotFault}
use Rattle.shot_reader.specs.declared.refusing.ShotBad.{ShotBad}
use Rattle.shot_reader.proofs.ForCallers.{file_right, one_fault, one_file}
use Rattle.shot_repeat.specs.Packed.{IsPackedFile}
use Rattle.shot_repeat.specs.Refusals.{IsFirstPackFault}
use Rattle.shot_repeat.specs.declared.refusing.PackBad.{PackBad}
use Rattle.shot_repeat.proofs.ForCallers.{file_right as packed_file_right, one_fault as one_pack_fault}
use Rattle.mdp_job.specs.ShotFiles.{ShotData, HoldsShots, HoldsFault, HoldsPacked, HoldsPackFault, IsShotsFault, IsPackedFault}
use Rattle.mdp_job.specs.Table.{listing_command, packing_command, unpacking_command}
use Rattle.job_report.specs.declared.faults.CheckFault.{CheckFault}
use Rattle.job_report.specs.declared.faults.CheckFault.TheVariants as faults
use Rattle.mdp_job.proofs.Contents.{one_content, there, too_long}
use Rattle.mdp_job.proofs.FileRows.{IsOneThing}

-- ---- plain files

module _ (c : Content) (file : List ℕ) where
  pub shots_there : (s : ShotData) → HoldsShots c file s → IsNotThere c file → ⊥
  shots_there s h missing = there (held_as c file) h.bytes h.held missing

  pub shots_short : (s : ShotData) → HoldsShots c file s → IsLongerThan 268435456 c file → ⊥
  shots_short s h long = too_long 268435456 c file h.bytes long h.held h.short

  pub bad_there : (bad : ShotBad) → HoldsFault c file bad → IsNotThere c file → ⊥
  bad_there bad h missing = there (held_as c file) h.bytes h.held missing

  pub bad_short : (bad : ShotBad) → HoldsFault c file bad → IsLongerThan 268435456 c file → ⊥
  bad_short bad h long = too_long 268435456 c file h.bytes long h.held h.short

  -- a shot file has no fault
  pub shots_right : (s : ShotData) (bad : ShotBad) → HoldsShots c file s → HoldsFault c file bad → ⊥
  shots_right s bad h k =
      file_right k.bytes s.unit s.pair s.shots bad
      (subst (λ (b : List ℕ). IsFileOf b s.unit s.pair s.shots) (one_content (held_as c file) h.bytes k.bytes h.held k.held) h.form) k.fault

  -- a file has one first fault
  pub same_bad : (bad other : ShotBad) → HoldsFault c file bad → HoldsFault c file other → bad ≡ other
  same_bad bad other h k =
      one_fault k.bytes bad other (subst (λ (b : List ℕ). IsFirstShotFault b bad) (one_content (held_as c file) h.bytes k.bytes h.held k.held) h.fault) k.fault

  -- a file has one list of shots
  pub same_shots : (s t : ShotData) → HoldsShots c file s → HoldsShots c file t → s.shots ≡ t.shots
  same_shots s t h k =
      (one_file k.bytes s.unit t.unit s.pair t.pair s.shots t.shots
      (subst (λ (b : List ℕ). IsFileOf b s.unit s.pair s.shots) (one_content (held_as c file) h.bytes k.bytes h.held k.held) h.form) k.form).2

  plain_there : (fault : CheckFault) → IsShotsFault c file fault → IsNotThere c file → ⊥
  plain_there faults.Long h missing = longer_there 268435456 c file missing h
  plain_there (faults.Bad bad) h missing = bad_there bad h missing
  plain_there faults.Head h missing = h
  plain_there (faults.Miscovered t count wanted) h missing = h
  plain_there (faults.TooLarge shot) h missing = h
  plain_there (faults.Pack bad) h missing = h
  plain_there (faults.Wide k) h missing = h
  plain_there (faults.Stripes value) h missing = h

  plain_right : (s : ShotData) (fault : CheckFault) → HoldsShots c file s → IsShotsFault c file fault → ⊥
  plain_right s faults.Long h k = shots_short s h k
  plain_right s (faults.Bad bad) h k = shots_right s bad h k
  plain_right s faults.Head h k = k
  plain_right s (faults.Miscovered t count wanted) h k = k
  plain_right s (faults.TooLarge shot) h k = k
  plain_right s (faults.Pack bad) h k = k
  plain_right s (faults.Wide j) h k = k
  plain_right s (faults.Stripes value) h k = k

  one_plain : (fault other : CheckFault) → IsShotsFault c file fault → IsShotsFault c file other → fault ≡ other
  one_plain faults.Long faults.Long h k = refl
  one_plain faults.Long (faults.Bad bad) h k = absurd (bad_short bad k h)
  one_plain (faults.Bad bad) faults.Long h k = absurd (bad_short bad h k)
  one_plain (faults.Bad bad) (faults.Bad other) h k = ap faults.Bad (same_bad bad other h k)
  one_plain faults.Head other h k = absurd h
  one_plain (faults.Miscovered t count wanted) other h k = absurd h
  one_plain (faults.TooLarge shot) other h k = absurd h
  one_plain (faults.Pack bad) other h k = absurd h
  one_plain (faults.Wide j) other h k = absurd h
  one_plain (faults.Stripes value) other h k = absurd h
  one_plain fault faults.Head h k = absurd k
  one_plain fault (faults.Miscovered t count wanted) h k = absurd k
  one_plain fault (faults.TooLarge shot) h k = absurd k
  one_plain fault (faults.Pack bad) h k = absurd k
  one_plain fault (faults.Wide j) h k = absurd k
  one_plain fault (faults.Stripes value) h k = absurd k

pub listing_one : IsOneThing listing_command
listing_one = record { held_there = shots_there; fault_there = plain_there; right = plain_right; one = one_plain }

pub packing_one : (out : List ℕ) → IsOneThing (packing_command out)
packing_one out = record { held_there = shots_there; fault_there = plain_there; right = plain_right; one = one_plain }

-- ---- packed files

module _ (c : Content) (file : List ℕ) where
  packed_there : (s : ShotData) → HoldsPacked c file s → IsNotThere c file → ⊥
  packed_there s h missing = there (held_as c file) h.bytes h.held missing

  pack_fault_there : (fault : CheckFault) → IsPackedFault c file fault → IsNotThere c file → ⊥
  pack_fault_there faults.Long h missing = longer_there 268435456 c file missing h
  pack_fault_there (faults.Bad bad) h missing = h
  pack_fault_there faults.Head h missing = h
  pack_fault_there (faults.Miscovered t count wanted) h missing = h
  pack_fault_there (faults.TooLarge shot) h missing = h
  pack_fault_there (faults.Wide k) h missing = h
  pack_fault_there (faults.Stripes value) h missing = h
  pack_fault_there (faults.Pack bad) h missing = there (held_as c file) h.bytes h.held missing

  no_pack_fault : (s : ShotData) (bad : PackBad) → HoldsPacked c file s → HoldsPackFault c file bad → ⊥
  no_pack_fault s bad h k =
      packed_file_right k.bytes s.unit s.pair s.shots bad
      (subst (λ (b : List ℕ). IsPackedFile b s.unit s.pair s.shots) (one_content (held_as c file) h.bytes k.bytes h.held k.held) h.form) k.fault

  packed_right : (s : ShotData) (fault : CheckFault) → HoldsPacked c file s → IsPackedFault c file fault → ⊥
  packed_right s faults.Long h k = too_long 268435456 c file h.bytes k h.held h.short
  packed_right s (faults.Bad bad) h k = k
  packed_right s faults.Head h k = k
  packed_right s (faults.Miscovered t count wanted) h k = k
  packed_right s (faults.TooLarge shot) h k = k
  packed_right s (faults.Wide j) h k = k
  packed_right s (faults.Stripes value) h k = k
  packed_right s (faults.Pack bad) h k = no_pack_fault s bad h k

  same_pack_fault : (bad other : PackBad) → HoldsPackFault c file bad → HoldsPackFault c file other → bad ≡ other
  same_pack_fault bad other h k =
      one_pack_fault k.bytes bad other
      (subst (λ (b : List ℕ). IsFirstPackFault b bad) (one_content (held_as c file) h.bytes k.bytes h.held k.held) h.fault) k.fault

  one_packed : (fault other : CheckFault) → IsPackedFault c file fault → IsPackedFault c file other → fault ≡ other
  one_packed faults.Long faults.Long h k = refl
  one_packed faults.Long (faults.Pack bad) h k = absurd (too_long 268435456 c file k.bytes h k.held k.short)
  one_packed (faults.Pack bad) faults.Long h k = absurd (too_long 268435456 c file h.bytes k h.held h.short)
  one_packed (faults.Pack bad) (faults.Pack other) h k = ap faults.Pack (same_pack_fault bad other h k)
  one_packed (faults.Bad bad) other h k = absurd h
  one_packed faults.Head other h k = absurd h
  one_packed (faults.Miscovered t count wanted) other h k = absurd h
  one_packed (faults.TooLarge shot) other h k = absurd h
  one_packed (faults.Wide j) other h k = absurd h
  one_packed (faults.Stripes value) other h k = absurd h
  one_packed fault (faults.Bad bad) h k = absurd k
  one_packed fault faults.Head h k = absurd k
  one_packed fault (faults.Miscovered t count wanted) h k = absurd k
  one_packed fault (faults.TooLarge shot) h k = absurd k
  one_packed fault (faults.Wide j) h k = absurd k
  one_packed fault (faults.Stripes value) h k = absurd k

pub unpacking_one : (out : List ℕ) → IsOneThing (unpacking_command out)
unpacking_one out = record { held_there = packed_there; fault_there = pack_fault_there; right = packed_right; one = one_packed }
