-- The bytes of a stream file, record by record: GDSII Stream Format Manual 6.0, record description and data types.
--
-- A record has its length in two bytes, which counts itself, then its head in two bytes, then its content. Numbers have
-- their highest byte first; signed ones are in two's complement.
use Rattle.std.specs.Prelude.{ℕ, ℤ, ◌+◌, List, ◌++◌, length, flat_map, replicate}
use Rattle.std.specs.Int.{w32, cast_unsigned}
use Rattle.byteorder.specs.Endian.{big_bytes}
use Rattle.gds_record.specs.Heads.{head_of}
use Rattle.gds_record.specs.declared.kinds.Kind.{Kind}

-- a record with this head and this content
unfoldable pub record_bytes : ℕ → List ℕ → List ℕ
record_bytes head content = (big_bytes 2 (length content + 4) ++ big_bytes 2 head) ++ content

-- a record of this kind
abbrev pub record_of : Kind → List ℕ → List ℕ
record_of kind content = record_bytes (head_of kind) content

-- a number of eight bytes, such as the bits of a real
unfoldable pub wide_bytes : ℕ → List ℕ
wide_bytes n = big_bytes 8 n

-- a coordinate, in four bytes
abbrev pub coordinate_bytes : ℤ → List ℕ
coordinate_bytes z = big_bytes 4 (cast_unsigned w32 z)

-- a point of a layout, in grid steps: X, then Y
unfoldable pub point_bytes : ℤ × ℤ → List ℕ
point_bytes (x, y) = coordinate_bytes x ++ coordinate_bytes y

unfoldable pub points_bytes : List (ℤ × ℤ) → List ℕ
points_bytes points = flat_map point_bytes points

-- the dates of a library or a structure, all 0
abbrev pub no_dates : List ℕ
no_dates = replicate 24 0
