-- What is wrong at an offset where no record stands: the first cause in this order. Fewer than four bytes are left; the
-- length is odd or below four; fewer bytes are left than the length; no kind has the head; the kind's content has
-- another length.
use Rattle.std.specs.Prelude.{◌≡◌, ◌≢◌, ◌<◌, ◌≤◌, ◌+◌, ◌-◌, ◌%◌, ◌⊎◌, ℕ, List, length}
use Rattle.gds_record.specs.declared.records.Framing.{Framing}
use Rattle.gds_record.specs.declared.records.Framing.TheVariants as faults
use Rattle.gds_record.specs.declared.kinds.Kind.{Kind}
use Rattle.gds_record.specs.Framing.{length_at, head_at, IsRecordLength, IsWholeRecord}
use Rattle.gds_record.specs.Heads.{head_of, content_of, IsLengthAllowed}

-- fewer than four bytes are left
abbrev pub HasNoHead : List ℕ → ℕ → Type 0
HasNoHead bytes at = length bytes < at + 4

-- the length is odd or below four
pub record HasBadLength (bytes : List ℕ) (at : ℕ) : Type 0 where
  pub begins : at + 4 ≤ length bytes
  pub bad : (length_at bytes at < 4) ⊎ (length_at bytes at % 2 ≡ 1)

-- fewer bytes are left than the length
pub record IsCutOff (bytes : List ℕ) (at : ℕ) : Type 0 where
  pub begins : at + 4 ≤ length bytes
  pub sized : IsRecordLength (length_at bytes at)
  pub cut : length bytes < at + length_at bytes at

-- no kind has the head
pub record HasUnknownHead (bytes : List ℕ) (at : ℕ) : Type 0 where
  pub whole : IsWholeRecord bytes at
  pub unknown : (kind : Kind) → head_at bytes at ≢ head_of kind

-- the content of the head's kind has another length
pub record HasBadContent (bytes : List ℕ) (at : ℕ) (kind : Kind) : Type 0 where
  pub whole : IsWholeRecord bytes at
  pub head : head_at bytes at ≡ head_of kind
  pub size : ¬ IsLengthAllowed (content_of kind) (length_at bytes at - 4)

-- this is what is wrong at the offset
abbrev pub IsFaultAt : List ℕ → ℕ → Framing → Type 0
IsFaultAt bytes at faults.Short = HasNoHead bytes at ⊎ IsCutOff bytes at
IsFaultAt bytes at faults.Length = HasBadLength bytes at
IsFaultAt bytes at faults.Kind = HasUnknownHead bytes at
IsFaultAt bytes at faults.Size = (kind : Kind) × HasBadContent bytes at kind
