-- A depot in memory that never fails: every name that it hasn't is an empty file, and it counts no fault. Only
-- memory may be wanting.
use Rattle.std.specs.Prelude.{ℕ, List, true, refl}
use Rattle.std.specs.Coded.{Coded, coded×, coded_ℕ, code_by}
use Rattle.depot.specs.Content.{Content, IsNotThere, content_code, nothing}
use Rattle.depot.specs.Counts.{Counts, Rose, raised}

pub record Sure : Type 0 where
  -- the content, but for `blank`, which stands for nothing here
  pub content : Content
  -- how often memory was wanting
  pub refused : ℕ

abbrev pub sure_code : Coded Sure
sure_code =
    code_by (Content × ℕ) (coded× content_code coded_ℕ) (λ s. (s.content, s.refused)) (λ p. record { content = p.0; refused = p.1 }) (λ _. refl)

-- no file, and no want of memory
abbrev pub new_sure : Sure
new_sure = record { content = nothing; refused = 0 }

-- what the depot tells: a name that isn't held is an empty file
abbrev pub sure_content : Sure → Content
sure_content s = record s.content { blank = true }

-- the counts of faults are 0 for ever
abbrev pub sure_counts : Sure → Counts
sure_counts s = record { read_faults = 0; write_faults = 0; refused = s.refused }

-- the same with another content
abbrev pub with_content : Sure → Content → Sure
with_content s content = record s { content = content }

-- a want of memory was counted
abbrev pub sure_refused : Sure → Sure
sure_refused s = record s { refused = raised s.refused }

-- Neither count of faults ever rises, and each name is there. So no call answers `Failed`.
abbrev pub NothingFails : Type 0
NothingFails =
    (before now : Sure) (name : List ℕ)
    → (Rose (sure_counts before).read_faults (sure_counts now).read_faults → ⊥)
    × (Rose (sure_counts before).write_faults (sure_counts now).write_faults → ⊥)
    × (IsNotThere (sure_content before) name → ⊥)
