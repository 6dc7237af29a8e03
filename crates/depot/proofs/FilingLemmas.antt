-- Files in a list against the map from names to bytes.
use Rattle.std.proofs.Common.{◌≡◌, ℕ, zero, suc, ◌+◌, ◌<◌, Bool, true, false, List, [], ◌∷◌, ◌++◌, length, get_or, set}
use Rattle.std.proofs.Common.{take, None, Some, unwrap_or, Result, Ok, Err, OnErr, refl, sym, ap, ◌∙◌, arith, subst}
use Rattle.std.specs.Str.{bytes_eq}
use Rattle.std.proofs.lemmas.Slice.Eq.{bytes_eq-Decides}
use Rattle.std.proofs.lemmas.Bool.{both_ways}
use Rattle.std.specs.String.{string_bytes}
use Rattle.std.specs.Ordering.{nat_cmp}
use Rattle.std.specs.Cmp.Lexicographic.{slice_cmp}
use Rattle.std.specs.FinMap.{get, insert, empty, get-empty}
use Rattle.depot.specs.Content.{appended}
use Rattle.depot.specs.declared.filing.File.{File}
use Rattle.depot.specs.Filing.{files_of, IsPlace, HasNone, bytes_at, name_at}
use Rattle.depot.proofs.ForCallers.{get-insert_same, get-insert_other, insert-insert_same, insert_comm, insert_same}
use Rattle.std.proofs.lemmas.List.{append-nil, take_more}

pub get-place : (fs : List File) (name : List ℕ) (i : ℕ) → IsPlace fs name i → get (files_of fs) name ≡ Some (bytes_at fs i)
get-place [] name i at = absurd at
get-place (f ∷ fs) name zero at = ap (λ k. get (insert (files_of fs) k f.bytes.items) name) at ∙ get-insert_same (files_of fs) name f.bytes.items
get-place (f ∷ fs) name (suc i) at = get-insert_other (files_of fs) (string_bytes f.name) name f.bytes.items at.0 ∙ get-place fs name i at.1

pub get-none : (fs : List File) (name : List ℕ) → HasNone fs name → get (files_of fs) name ≡ None
get-none [] name none = get-empty (slice_cmp nat_cmp) name
get-none (f ∷ fs) name none = get-insert_other (files_of fs) (string_bytes f.name) name f.bytes.items none.0 ∙ get-none fs name none.1

pub name_at-place : (fs : List File) (name : List ℕ) (i : ℕ) → IsPlace fs name i → name_at fs i ≡ name
name_at-place [] name i at = absurd at
name_at-place (f ∷ fs) name zero at = at
name_at-place (f ∷ fs) name (suc i) at = name_at-place fs name i at.1

pub place_within : (fs : List File) (name : List ℕ) (i : ℕ) → IsPlace fs name i → i < length fs
place_within [] name i at = absurd at
place_within (f ∷ fs) name zero at = omega arith
place_within (f ∷ fs) name (suc i) at = omega (arith, place_within fs name i at.1)

-- a file of the same name takes the place of one
pub files_of-set : (fs : List File) (name : List ℕ) (i : ℕ) (f : File) → IsPlace fs name i → string_bytes f.name ≡ name
    → files_of (set fs i f) ≡ insert (files_of fs) name f.bytes.items
files_of-set [] name i f at same = absurd at
files_of-set (g ∷ fs) name zero f at same =
    ap (λ k. insert (files_of fs) k f.bytes.items) same
    ∙ sym (insert-insert_same (files_of fs) name g.bytes.items f.bytes.items)
    ∙ ap (λ k. insert (insert (files_of fs) k g.bytes.items) name f.bytes.items) (sym at)
files_of-set (g ∷ fs) name (suc i) f at same =
    ap (λ m. insert m (string_bytes g.name) g.bytes.items) (files_of-set fs name i f at.1 same)
    ∙ insert_comm (files_of fs) name (string_bytes g.name) f.bytes.items g.bytes.items (λ e. at.0 (sym e))

pub place-set : (fs : List File) (name : List ℕ) (i : ℕ) (f : File) → IsPlace fs name i → string_bytes f.name ≡ name → IsPlace (set fs i f) name i
place-set [] name i f at same = absurd at
place-set (g ∷ fs) name zero f at same = same
place-set (g ∷ fs) name (suc i) f at same = (at.0, place-set fs name i f at.1 same)

-- a file whose name is new goes after the others
pub files_of-push : (fs : List File) (name : List ℕ) (f : File) → HasNone fs name → string_bytes f.name ≡ name
    → files_of (fs ++ f ∷ []) ≡ insert (files_of fs) name f.bytes.items
files_of-push [] name f none same = ap (λ k. insert empty k f.bytes.items) same
files_of-push (g ∷ fs) name f none same =
    ap (λ m. insert m (string_bytes g.name) g.bytes.items) (files_of-push fs name f none.1 same)
    ∙ insert_comm (files_of fs) name (string_bytes g.name) f.bytes.items g.bytes.items (λ e. none.0 (sym e))

pub place-push : (fs : List File) (name : List ℕ) (f : File) → HasNone fs name → string_bytes f.name ≡ name → IsPlace (fs ++ f ∷ []) name (length fs)
place-push [] name f none same = same
place-push (g ∷ fs) name f none same = (none.0, place-push fs name f none.1 same)

-- what stands after the bytes of a file was appended
pub appended-place : (fs : List File) (name : List ℕ) (i : ℕ) (piece : List ℕ) → IsPlace fs name i
    → insert (files_of fs) name (bytes_at fs i ++ piece) ≡ appended (files_of fs) (Some name) piece
appended-place fs name i [] at = ap (λ l. insert (files_of fs) name l) (append-nil (bytes_at fs i)) ∙ insert_same
    (files_of fs) name (bytes_at fs i) (get-place fs name i at)
appended-place fs name i (b ∷ piece) at = ap (λ o. insert (files_of fs) name (unwrap_or o [] ++ b ∷ piece)) (sym (get-place fs name i at))

none-push : (fs : List File) (name : List ℕ) (f : File) → HasNone fs name → (string_bytes f.name ≡ name → ⊥) → HasNone (fs ++ f ∷ []) name
none-push [] name f none differs = (differs, tt)
none-push (g ∷ fs) name f none differs = (none.0, none-push fs name f none.1 differs)

-- no file up to a place has the name, and then the file there has it or hasn't
pub none-more : (fs : List File) (name : List ℕ) (i : ℕ) (d : File) → i < length fs → HasNone (take i fs) name
    → (string_bytes (get_or fs i d).name ≡ name → ⊥) → HasNone (take (i + 1) fs) name
none-more fs name i d lt none differs = subst (λ l. HasNone l name) (sym (take_more fs i d lt)) (none-push (take i fs) name (get_or fs i d) none differs)

pub place-first : (fs : List File) (name : List ℕ) (i : ℕ) (d : File) → i < length fs → HasNone (take i fs) name
    → string_bytes (get_or fs i d).name ≡ name → IsPlace fs name i
place-first [] name i d lt none same = absurd (omega arith)
place-first (f ∷ fs) name zero d lt none same = same
place-first (f ∷ fs) name (suc i) d lt none same = (none.0, place-first fs name i d (omega arith) none.1 same)

-- what a read of the file at a place gives: a file of this name and these bytes
pub name_of-place : (fs : List File) (name : List ℕ) (i : ℕ) (d : File) → IsPlace fs name i → string_bytes (get_or fs i d).name ≡ name
name_of-place [] name i d at = absurd at
name_of-place (f ∷ fs) name zero d at = at
name_of-place (f ∷ fs) name (suc i) d at = name_of-place fs name i d at.1

pub bytes_of-place : (fs : List File) (i : ℕ) (d : File) → i < length fs → (get_or fs i d).bytes.items ≡ bytes_at fs i
bytes_of-place [] i d lt = absurd (omega arith)
bytes_of-place (f ∷ fs) zero d lt = refl
bytes_of-place (f ∷ fs) (suc i) d lt = bytes_of-place fs i d (omega arith)

pub name_read : (fs : List File) (name : List ℕ) (i : ℕ) (x : File) → IsPlace fs name i → x ≡ get_or fs i x → string_bytes x.name ≡ name
name_read fs name i x at is = ap (λ (f : File). string_bytes f.name) is ∙ name_of-place fs name i x at

pub bytes_read : (fs : List File) (i : ℕ) (x : File) → i < length fs → x ≡ get_or fs i x → x.bytes.items ≡ bytes_at fs i
bytes_read fs i x lt is = ap (λ (f : File). f.bytes.items) is ∙ bytes_of-place fs i x lt

-- a file is written again with the bytes that it had
pub files_of-set_same : (fs : List File) (name : List ℕ) (i : ℕ) (x f : File) → IsPlace fs name i → x ≡ get_or fs i x
    → string_bytes f.name ≡ name → f.bytes.items ≡ x.bytes.items → files_of (set fs i f) ≡ files_of fs
files_of-set_same fs name i x f at is same bytes =
    files_of-set fs name i f at same
    ∙ ap (insert (files_of fs) name) (bytes ∙ bytes_read fs i x (place_within fs name i at) is)
    ∙ insert_same (files_of fs) name (bytes_at fs i) (get-place fs name i at)

-- a file is written again with more bytes after those that it had
pub files_of-set_more : (fs : List File) (name : List ℕ) (i : ℕ) (x f : File) (piece : List ℕ) → IsPlace fs name i
    → x ≡ get_or fs i x → string_bytes f.name ≡ name → f.bytes.items ≡ x.bytes.items ++ piece
    → files_of (set fs i f) ≡ appended (files_of fs) (Some name) piece
files_of-set_more fs name i x f piece at is same bytes =
    files_of-set fs name i f at same
    ∙ ap (insert (files_of fs) name) (bytes ∙ ap (λ l. l ++ piece) (bytes_read fs i x (place_within fs name i at) is))
    ∙ appended-place fs name i piece at

pub on_err_from : {T E P : Type 0} (r : Result T E) → P → OnErr r P
on_err_from (Ok x) p = tt
on_err_from (Err e) p = p

pub text_same : (xs ys : List ℕ) (r : Bool) → r ≡ bytes_eq xs ys → r ≡ true → xs ≡ ys
text_same xs ys r e t = (bytes_eq-Decides xs ys).0 (sym e ∙ t)

pub text_differs : (xs ys : List ℕ) (r : Bool) → r ≡ bytes_eq xs ys → r ≡ false → xs ≡ ys → ⊥
text_differs xs ys r e f same = both_ways r f (e ∙ (bytes_eq-Decides xs ys).1 same)
