-- Names of cells: 1 to 1,024 bytes, each from 20 to 7E hex, the printable characters of ASCII with the space.
use Rattle.std.specs.Prelude.{ℕ, ◌≤◌, List, length, slice_index, EachIndex}

abbrev pub IsNameByte : ℕ → Type 0
IsNameByte byte = (32 ≤ byte) × (byte ≤ 126)

pub record IsName (bytes : List ℕ) : Type 0 where
  pub nonempty : 1 ≤ length bytes
  pub short : length bytes ≤ 1024
  pub printable : EachIndex bytes (λ k. IsNameByte (slice_index bytes k))
