-- Records that stand one after the other. In these definitions the records before one, its past, stand with the last one
-- first.
use Rattle.std.specs.Prelude.{◌≡◌, ◌+◌, ℕ, nat_eq, Bool, true, false, if◌then◌else◌, List, [], ◌∷◌, ◌++◌, map, slice_range}
use Rattle.oas_record.specs.Records.{HasRecord}
use Rattle.oas_record.specs.declared.records.OasRecord.{OasRecord}
use Rattle.oas_record.specs.declared.records.OasRecord.TheVariants as records

-- a record and the offset of its first byte
pub record Item : Type 0 where
  pub at : ℕ
  pub r : OasRecord

abbrev pub records_in : List Item → List OasRecord
records_in items = map (λ item. item.r) items

-- the offset flag of START is 1: the table offsets stand in END
abbrev pub is_flagged : OasRecord → Bool
is_flagged (records.Start version unit offset_flag tables) = nat_eq offset_flag 1
is_flagged _ = false

abbrev pub tables_at_end : List OasRecord → Bool
tables_at_end [] = false
tables_at_end (r ∷ past) = if is_flagged r then true else tables_at_end past

-- the file begins with 13 bytes of its own: %SEMI-OASIS, CR, LF
abbrev pub magic : List ℕ
magic = 0x25 ∷ 0x53 ∷ 0x45 ∷ 0x4D ∷ 0x49 ∷ 0x2D ∷ 0x4F ∷ 0x41 ∷ 0x53 ∷ 0x49 ∷ 0x53 ∷ 0x0D ∷ 0x0A ∷ []

-- after them these records stand end to end up to an offset
abbrev pub AreItemsEndToEnd : List ℕ → List Item → ℕ → Type 0
AreItemsEndToEnd bytes [] at = at ≡ 13
AreItemsEndToEnd bytes (item ∷ past) at =
    HasRecord bytes item.at (tables_at_end (records_in past)) item.r at × AreItemsEndToEnd bytes past item.at

abbrev pub is_end : OasRecord → Bool
is_end (records.End tables padding scheme validation) = true
is_end _ = false

-- none of them is END
abbrev pub NoItemEnds : List Item → Type 0
NoItemEnds [] = Unit {0}
NoItemEnds (item ∷ past) = (is_end item.r ≡ false) × NoItemEnds past

-- the bytes of a string
abbrev pub text_in : List ℕ → (ℕ × ℕ) → List ℕ
text_in bytes (first, next) = slice_range bytes first next

-- what the records give, each by itself and its past, in the order of the file
abbrev pub given : {A : Type 0} → (List OasRecord → OasRecord → List A) → List OasRecord → List A
given f [] = []
given f (r ∷ past) = given f past ++ f past r

-- how many of the records pass a test of them and of their past
abbrev pub count_in : (List OasRecord → OasRecord → Bool) → List OasRecord → ℕ
count_in test [] = 0
count_in test (r ∷ past) = count_in test past + (if test past r then 1 else 0)
