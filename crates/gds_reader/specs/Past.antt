-- What a record means depends on those before it. In these definitions the records before one, its past, stand with the
-- last one first.
use Rattle.std.specs.Prelude.{ℕ, ◌+◌, ◌==◌, Bool, true, false, if◌then◌else◌, List, [], ◌∷◌, ◌++◌, Option, Some, None}
use Rattle.gds_record.specs.Heads.{head_of}
use Rattle.gds_record.specs.declared.kinds.Kind.{Kind}
use Rattle.gds_record.specs.declared.kinds.Kind.TheVariants.{Boundary, Path, Sref, Aref, Text, Node, Box, EndStr}
use Rattle.gds_record.specs.declared.records.Record.{Record}

abbrev pub same_kind : Kind → Kind → Bool
same_kind a b = head_of a == head_of b

-- the record has this kind
abbrev pub has_kind : Kind → Record → Bool
has_kind kind r = same_kind r.kind kind

-- an element begins with a record of this kind
abbrev pub begins_element : Kind → Bool
begins_element Boundary = true
begins_element Path = true
begins_element Sref = true
begins_element Aref = true
begins_element Text = true
begins_element Node = true
begins_element Box = true
begins_element _ = false

-- the kind of the element that the last record is in, if it is in one
abbrev pub element_kind : List Record → Option Kind
element_kind [] = None
element_kind (r ∷ past) = if begins_element r.kind then Some r.kind else element_kind past

-- the record of this kind of the element that the last record is in, if it has one: the last one, where a text has some
abbrev pub own_record : Kind → List Record → Option Record
own_record kind [] = None
own_record kind (r ∷ past) =
    if begins_element r.kind then None
    else if has_kind kind r then Some r
    else own_record kind past

-- the record of this kind of the structure that the last record is in, if it has one: the last one since an ENDSTR
abbrev pub structure_record : Kind → List Record → Option Record
structure_record kind [] = None
structure_record kind (r ∷ past) =
    if has_kind EndStr r then None
    else if has_kind kind r then Some r
    else structure_record kind past

-- what the records give, each by itself and its past, in the order of the file
abbrev pub given : {A : Type 0} → (List Record → Record → List A) → List Record → List A
given f [] = []
given f (r ∷ past) = given f past ++ f past r

-- what the records since the last ENDSTR give: those of the structure that the last record is in
abbrev pub given_in_structure : {A : Type 0} → (List Record → Record → List A) → List Record → List A
given_in_structure f [] = []
given_in_structure f (r ∷ past) = if has_kind EndStr r then [] else given_in_structure f past ++ f past r

-- how many of the records pass a test of them and of their past
abbrev pub count_in : (List Record → Record → Bool) → List Record → ℕ
count_in test [] = 0
count_in test (r ∷ past) = count_in test past + (if test past r then 1 else 0)
