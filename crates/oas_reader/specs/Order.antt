-- The order of the records of a file, by their ids (SEMI P39 1.0, sections 10 to 35): START, then records, then END. A
-- cell begins with a CELL record and ends before the next one or before a record of names. Shapes, texts, placements, the
-- modes of positions, XELEMENT and XGEOMETRY stand only in a cell; PAD and PROPERTY stand anywhere between START and END.
use Rattle.std.specs.Prelude.{ℕ, nat_eq, nat_le, Bool, true, false, not, ◌&&◌, ◌||◌, if◌then◌else◌, List, [], ◌∷◌, map}
use Rattle.oas_record.specs.Records.{id_of}
use Rattle.oas_record.specs.declared.records.OasRecord.{OasRecord}

abbrev pub is_from_to : ℕ → ℕ → ℕ → Bool
is_from_to least most id = nat_le least id && nat_le id most

-- CELL
abbrev pub begins_cell : ℕ → Bool
begins_cell id = is_from_to 13 14 id

-- CELLNAME, TEXTSTRING, PROPNAME, PROPSTRING, LAYERNAME and XNAME
abbrev pub ends_cell : ℕ → Bool
ends_cell id = is_from_to 3 12 id || is_from_to 30 31 id

-- XYABSOLUTE to CIRCLE, XELEMENT and XGEOMETRY
abbrev pub needs_cell : ℕ → Bool
needs_cell id = is_from_to 15 27 id || is_from_to 32 33 id

-- what follows these records stands in a cell
abbrev pub is_in_cell : List ℕ → Bool
is_in_cell [] = false
is_in_cell (id ∷ past) =
    if begins_cell id then true
    else if ends_cell id then false
    else is_in_cell past

-- a record of this id may stand after these: START first and only first, and what needs a cell in one
abbrev pub may_follow : List ℕ → ℕ → Bool
may_follow [] id = nat_eq id 1
may_follow (last ∷ past) id = not (nat_eq id 1) && (not (needs_cell id) || is_in_cell (last ∷ past))

abbrev pub ids_of : List OasRecord → List ℕ
ids_of past = map id_of past

abbrev pub is_in_order : List OasRecord → OasRecord → Bool
is_in_order past r = may_follow (ids_of past) (id_of r)
