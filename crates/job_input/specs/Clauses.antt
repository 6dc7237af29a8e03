-- The answers of the reading, each with its cause.
use Rattle.std.specs.Prelude.{◌≡◌, ◌⊎◌, ℕ, List, Result, Ok, Err, ⊤}
use Rattle.depot.specs.Counts.{Counts, Rose}
use Rattle.geo_stream.specs.declared.refusal.Refusal.{Refusal}
use Rattle.geo_stream.specs.declared.refusal.Refusal.TheVariants.{Fault, NoMemory}
use Rattle.cell_tree.specs.Faults.{order_of}
use Rattle.cell_tree.specs.declared.faults.TreeBad.{TreeBad}
use Rattle.job_input.specs.declared.reading.Input.{Input}
use Rattle.job_input.specs.declared.refusing.InputBad.{InputBad}
use Rattle.job_input.specs.declared.refusing.InputBad.TheVariants as answers
use Rattle.job_input.specs.declared.refusing.LayoutFault.TheVariants as layout_faults

abbrev pub Answer : Type 0
Answer = Result Input (Refusal InputBad)

-- The answer comes only where its cause holds, and where it holds no other comes but want of memory and a counted fault
-- of reading.
pub record IsReadExactlyWhere (read_rose : Type 0) (result answer : Answer) (cause : Type 0) : Type 0 where
  pub only : result ≡ answer → cause
  pub whenever : cause → (result ≡ answer) ⊎ (result ≡ Err NoMemory) ⊎ ((result ≡ Err (Fault answers.ReadFault)) × read_rose)

-- the answer is a fault of the tree of the same kind
pub record IsOfKind (bad : TreeBad) (top : List ℕ) (result : Answer) : Type 0 where
  pub other : TreeBad
  pub answer : result ≡ Err (Fault (answers.Layout (layout_faults.Tree other) top))
  pub same : order_of other ≡ order_of bad

-- The fault comes only where it is there, and where it is there one of its kind comes, or want of memory or a counted
-- fault of reading.
pub record ComesByKind (read_rose : Type 0) (result : Answer) (bad : TreeBad) (top : List ℕ) (cause : Type 0) : Type 0 where
  pub only : result ≡ Err (Fault (answers.Layout (layout_faults.Tree bad) top)) → cause
  pub whenever : cause → IsOfKind bad top result ⊎ (result ≡ Err NoMemory) ⊎ ((result ≡ Err (Fault answers.ReadFault)) × read_rose)

-- What was counted: nothing, but for a fault of reading, and for want of memory, where a want of memory or nothing was.
abbrev pub CountsFor : {A : Type 0} → Counts → Counts → Result A (Refusal InputBad) → Type 0
CountsFor old new (Ok given) = new ≡ old
CountsFor old new (Err (Fault (answers.Deck fault))) = new ≡ old
CountsFor old new (Err (Fault (answers.Layout fault top))) = new ≡ old
CountsFor old new (Err (Fault answers.ReadFault)) = ⊤
CountsFor old new (Err NoMemory) = Rose old.refused new.refused ⊎ (new ≡ old)
