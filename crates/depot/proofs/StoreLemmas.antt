-- What a store shows, from its lists of files.
use Rattle.std.proofs.Common.{◌≡◌, ℕ, List, [], Option, None, Some, MatchOption, is_some, unwrap_or, option_map, refl, sym, ap, ◌∙◌, subst, arith}
use Rattle.std.specs.FinMap.{get}
use Rattle.depot.specs.Content.{Files, Content, appended}
use Rattle.depot.specs.declared.filing.File.{File}
use Rattle.depot.specs.Filing.{files_of, IsPlace, HasNone, bytes_at, name_at, left_of, IsReadAt, IsWrittenAt}
use Rattle.depot.proofs.FilingLemmas.{get-place, get-none, name_at-place, place_within}

-- what a search for a name found is what the files have under it
pub found : (fs : List File) (name : List ℕ) (o : Option ℕ) → MatchOption o (HasNone fs name) (IsPlace fs name)
    → get (files_of fs) name ≡ option_map (bytes_at fs) o
found fs name None none = get-none fs name none
found fs name (Some i) at = get-place fs name i at

pub IsReadAt-start : (fs : List File) (name : List ℕ) (o : Option ℕ) → MatchOption o (HasNone fs name) (IsPlace fs name) → IsReadAt fs o 0
IsReadAt-start fs name None none = tt
IsReadAt-start fs name (Some i) at = (place_within fs name i at, omega arith)

pub left_of-start : (fs : List File) (o : Option ℕ) → left_of fs o 0 ≡ unwrap_or (option_map (bytes_at fs) o) []
left_of-start fs None = refl
left_of-start fs (Some i) = refl

pub is_some-map : (fs : List File) (o : Option ℕ) → is_some (option_map (bytes_at fs) o) ≡ is_some o
is_some-map fs None = refl
is_some-map fs (Some i) = refl

pub IsPlace-own : (fs : List File) (name : List ℕ) (i : ℕ) → IsPlace fs name i → IsPlace fs (name_at fs i) i
IsPlace-own fs name i at = subst (λ k. IsPlace fs k i) (sym (name_at-place fs name i at)) at

pub IsWrittenAt-from : (fs : List File) (name : List ℕ) (o : Option ℕ) (i : ℕ) → o ≡ Some i → IsPlace fs name i → IsWrittenAt fs o
IsWrittenAt-from fs name o i is at = subst (λ x. IsWrittenAt fs x) (sym is) (IsPlace-own fs name i at)

pub both_changed : (c : Content) (m m' : Files) (o o' : Option (List ℕ)) → m ≡ m' → o ≡ o'
    → ◌≡◌ {A = Content} (record c { made = m; current = o }) (record c { made = m'; current = o' })
both_changed c m m' o o' e f =
    ap (λ (x : Files). record c { made = x; current = o }) e ∙ ap (λ (x : Option (List ℕ)). record c { made = m'; current = x }) f

-- the file that is written keeps its name
pub current_kept : (old new : List File) (o : Option ℕ) (i : ℕ) → o ≡ Some i → IsPlace new (name_at old i) i
    → option_map (name_at new) o ≡ option_map (name_at old) o
current_kept old new o i is at =
    ap (option_map (name_at new)) is ∙ ap (λ k. Some k) (name_at-place new (name_at old i) i at) ∙ sym (ap (option_map (name_at old)) is)

pub appended_current : (old : List File) (o : Option ℕ) (i : ℕ) (piece : List ℕ) → o ≡ Some i
    → appended (files_of old) (Some (name_at old i)) piece ≡ appended (files_of old) (option_map (name_at old) o) piece
appended_current old o i piece is = ap (λ current. appended (files_of old) current piece) (sym (ap (option_map (name_at old)) is))
