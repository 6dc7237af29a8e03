-- The one form of the tables that say, fault by fault, why a command on a shot file refuses it.
use Rattle.std.specs.Prelude.{ℕ, ⊤}
use Rattle.shot_reader.specs.declared.refusing.ShotBad.{ShotBad}
use Rattle.shot_repeat.specs.declared.refusing.PackBad.{PackBad}
use Rattle.job_report.specs.declared.faults.CheckFault.{CheckFault}
use Rattle.job_report.specs.declared.faults.CheckFault.TheVariants.{Long, Bad, Head, Miscovered, TooLarge, Pack, Wide, Stripes}

-- What holds for a file that is too long, has a fault as a plain one or as a packed one, has a shot that is too wide for
-- fields, or meets too many stripes. The other three faults come for `check` alone.
abbrev pub for_fault : (long : Type 0) (bad : ShotBad → Type 0) (pack : PackBad → Type 0) (wide stripes : ℕ → Type 0) → CheckFault → Type 0
for_fault long bad pack wide stripes Long = long
for_fault long bad pack wide stripes (Bad first) = bad first
for_fault long bad pack wide stripes (Pack first) = pack first
for_fault long bad pack wide stripes (Wide k) = wide k
for_fault long bad pack wide stripes (Stripes value) = stripes value
for_fault long bad pack wide stripes Head = ⊥
for_fault long bad pack wide stripes (Miscovered t count wanted) = ⊥
for_fault long bad pack wide stripes (TooLarge shot) = ⊥

-- that fault doesn't come
abbrev pub never : {A : Type 0} → A → Type 0
never a = ⊥

-- that fault may come
abbrev pub may : {A : Type 0} → A → Type 0
may a = ⊤
