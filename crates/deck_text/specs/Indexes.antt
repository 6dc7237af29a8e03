-- The index of a deck's statements, by which the program finds a name or a file among those before a line.
use Rattle.std.specs.Prelude.{◌≡◌, ◌<◌, ◌+◌, ℕ, if◌then◌else◌, List, [], ◌∷◌, Option, None, Some, is_some}
use Rattle.std.specs.BTreeMap as tree
use Rattle.std.specs.Ordering.{nat_cmp}
use Rattle.std.specs.Cmp.Lexicographic.{slice_cmp}
use Rattle.deck_text.specs.Statements.{Statement, Sets, Defines, Writes, Said}
use Rattle.deck_text.specs.Rules.{is_definition, is_output, defines, goes_to, any_before, count_before}
use Rattle.deck_text.specs.declared.index.Defined.{Defined}
use Rattle.deck_text.specs.declared.index.Index.{Index}

-- the first statement that defines the name, where so many definitions stand before the list
abbrev pub defined_from : ℕ → List Said → List ℕ → Option Defined
defined_from n [] name = None
defined_from n (m ∷ saids) name =
    if defines name m.says then Some (record { line = m.line; number = n })
    else defined_from (if is_definition m.says then n + 1 else n) saids name

-- what the index has for a name
abbrev pub defined_in : Index → List ℕ → Option Defined
defined_in index name = tree.get_by (λ key. slice_cmp nat_cmp name key.now) index.names

abbrev pub defined : ℕ → ℕ → Defined
defined line number = record { line = line; number = number }

-- what the index has for a file: how many outputs stood before
abbrev pub file_in : Index → List ℕ → Option ℕ
file_in index file = tree.get_by (λ key. slice_cmp nat_cmp file key.now) index.files

-- it is the index of these statements
pub record IsIndexOf (saids : List Said) (index : Index) : Type 0 where
  pub names : (name : List ℕ) → defined_in index name ≡ defined_from 0 saids name
  pub files : (file : List ℕ) → is_some (file_in index file) ≡ any_before (goes_to file) saids
  pub definitions : index.definitions ≡ count_before is_definition saids
  pub outputs : index.outputs ≡ count_before is_output saids

-- there are few statements of its kind
abbrev pub HasRoom : Index → Statement → Type 0
HasRoom index (Sets setting) = Unit {0}
HasRoom index (Defines name operation) = index.definitions < 256
HasRoom index (Writes a file layer datatype) = index.outputs < 64

-- the name that it defines, where it is a definition, isn't there
abbrev pub HasNewName : Index → Statement → Type 0
HasNewName index (Sets setting) = Unit {0}
HasNewName index (Defines name operation) = defined_in index name ≡ None
HasNewName index (Writes a file layer datatype) = Unit {0}
