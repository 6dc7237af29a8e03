-- A record at an offset of a file (GDSII Stream Format Manual 6.0, record description). It begins with its length in
-- two bytes, which counts these two, the two bytes of the head and the content. The length is even and at least four.
use Rattle.std.specs.Prelude.{◌≡◌, ◌≤◌, ◌+◌, ◌-◌, ◌%◌, ℕ, List, length}
use Rattle.gds_record.specs.declared.records.Record.{Record}
use Rattle.gds_record.specs.Heads.{head_of, content_of, IsLengthAllowed}
use Rattle.gds_record.specs.Numbers.{number_at}

-- the length that a record at this offset states
abbrev pub length_at : List ℕ → ℕ → ℕ
length_at bytes at = number_at 2 bytes at

-- the head of a record at this offset
abbrev pub head_at : List ℕ → ℕ → ℕ
head_at bytes at = number_at 2 bytes (at + 2)

-- a record can have this length
pub record IsRecordLength (n : ℕ) : Type 0 where
  pub least : 4 ≤ n
  pub even : n % 2 ≡ 0

-- all bytes of a record stand at this offset, whatever its head is
pub record IsWholeRecord (bytes : List ℕ) (at : ℕ) : Type 0 where
  pub begins : at + 4 ≤ length bytes
  pub sized : IsRecordLength (length_at bytes at)
  pub ends : at + length_at bytes at ≤ length bytes

-- this record stands at the offset
pub record IsRecordAt (bytes : List ℕ) (at : ℕ) (r : Record) : Type 0 where
  pub whole : IsWholeRecord bytes at
  pub head : head_at bytes at ≡ head_of r.kind
  pub content : IsLengthAllowed (content_of r.kind) (length_at bytes at - 4)
  pub first : r.first ≡ at + 4
  pub next : r.next ≡ at + length_at bytes at
