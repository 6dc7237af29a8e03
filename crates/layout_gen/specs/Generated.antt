-- The generated layout, for a number n from 1 to 1,000.
--
-- The cell LEAF has sixteen shapes on layer 1, datatype 0, in four rows of four, 200 grid steps apart: squares and
-- triangles in turn, whose sides depend on n, and a path on layer 2. The cell TOP has an array of n by n LEAFs, 1,000
-- grid steps apart, and one more LEAF, flipped and turned by 90 degrees. So a short file has a large layout.
use Rattle.std.specs.Prelude.{ℕ, pos, ◌+◌, ◌-◌, ◌*◌, ◌/◌, ◌%◌, neg_ℤ, List, [], ◌∷◌, ◌++◌, codes, zero, suc, ℤ}
use Rattle.byteorder.specs.Endian.{big_bytes}
use Rattle.gds_record.specs.declared.kinds.Kind.TheVariants.{Header, BgnLib, LibName, Units, EndLib, BgnStr, StrName}
use Rattle.gds_record.specs.declared.kinds.Kind.TheVariants.{EndStr, Boundary, Path, Sref, Aref, Layer, DataType, Width}
use Rattle.gds_record.specs.declared.kinds.Kind.TheVariants.{Xy, EndEl, Sname, ColRow, Strans, Angle, PathType}
use Rattle.layout_gen.specs.Streams.{record_of, points_bytes, wide_bytes, no_dates}

-- the side of shape m, in grid steps
unfoldable pub side_of : ℕ → ℕ → ℕ
side_of n m = 20 + 37 * n * m % 80

-- its lower left corner
unfoldable pub left_of : ℕ → ℕ
left_of m = 200 * ((m - 1) % 4)

unfoldable pub bottom_of : ℕ → ℕ
bottom_of m = 200 * ((m - 1) / 4)

-- a square from the corner (a, b) on, closed and clockwise
unfoldable pub square : ℕ → ℕ → ℕ → List (ℤ × ℤ)
square a b w = (pos a, pos b) ∷ (pos a, pos (b + w)) ∷ (pos (a + w), pos (b + w)) ∷ (pos (a + w), pos b) ∷ (pos a, pos b) ∷ []

-- its half below the diagonal that goes up to the right
unfoldable pub triangle : ℕ → ℕ → ℕ → List (ℤ × ℤ)
triangle a b w = (pos a, pos b) ∷ (pos (a + w), pos (b + w)) ∷ (pos (a + w), pos b) ∷ (pos a, pos b) ∷ []

-- a shape with this outline on layer 1, datatype 0
unfoldable pub boundary_bytes : List (ℤ × ℤ) → List ℕ
boundary_bytes points = record_of Boundary [] ++ record_of Layer (big_bytes 2 1) ++ record_of DataType (big_bytes 2 0)
    ++ record_of Xy (points_bytes points) ++ record_of EndEl []

-- shape m: a square for odd m, a triangle for even m
abbrev pub outline_of : ℕ → ℕ → ℕ → List (ℤ × ℤ)
outline_of zero n m = triangle (left_of m) (bottom_of m) (side_of n m)
outline_of (suc odd) n m = square (left_of m) (bottom_of m) (side_of n m)

unfoldable pub shape_bytes : ℕ → ℕ → List ℕ
shape_bytes n m = boundary_bytes (outline_of (m % 2) n m)

-- the `count` shapes from shape m on
unfoldable pub shapes_from : ℕ → ℕ → ℕ → List ℕ
shapes_from n m zero = []
shapes_from n m (suc count) = shape_bytes n m ++ shapes_from n (m + 1) count

-- a path on layer 2, datatype 0: 20 grid steps wide, its ends half of that further
unfoldable pub path_bytes : List ℕ
path_bytes = record_of Path [] ++ record_of Layer (big_bytes 2 2) ++ record_of DataType (big_bytes 2 0)
    ++ record_of PathType (big_bytes 2 2) ++ record_of Width (big_bytes 4 20)
    ++ record_of Xy (points_bytes ((pos 0, pos 0) ∷ (pos 700, pos 0) ∷ (pos 700, pos 700) ∷ [])) ++ record_of EndEl []

unfoldable pub leaf_bytes : ℕ → List ℕ
leaf_bytes n = record_of BgnStr no_dates ++ record_of StrName (codes "LEAF") ++ shapes_from n 1 16 ++ path_bytes ++ record_of EndStr []

-- an array states its origin, and the origin moved by all columns and by all rows
unfoldable pub array_points : ℕ → List (ℤ × ℤ)
array_points n = (pos 0, pos 0) ∷ (pos (1000 * n), pos 0) ∷ (pos 0, pos (1000 * n)) ∷ []

-- n by n LEAFs
unfoldable pub array_bytes : ℕ → List ℕ
array_bytes n = record_of Aref [] ++ record_of Sname (codes "LEAF") ++ record_of ColRow (big_bytes 2 n ++ big_bytes 2 n)
    ++ record_of Xy (points_bytes (array_points n)) ++ record_of EndEl []

-- one LEAF, flipped and then turned by 90 degrees (90 = 5A hex / 2^8 * 16^2)
unfoldable pub turned_bytes : List ℕ
turned_bytes = record_of Sref [] ++ record_of Sname (codes "LEAF") ++ record_of Strans (big_bytes 2 0x8000)
    ++ record_of Angle (wide_bytes 0x425A000000000000)
    ++ record_of Xy (points_bytes ((neg_ℤ (pos 1000), neg_ℤ (pos 1000)) ∷ [])) ++ record_of EndEl []

unfoldable pub top_bytes : ℕ → List ℕ
top_bytes n = record_of BgnStr no_dates ++ record_of StrName (codes "TOP" ++ 0 ∷ []) ++ array_bytes n ++ turned_bytes ++ record_of EndStr []

-- version 600; a database unit of a thousandth of a user unit, and of 10^-9 metres
unfoldable pub library_bytes : List ℕ
library_bytes = record_of Header (big_bytes 2 600) ++ record_of BgnLib no_dates ++ record_of LibName (codes "GEN" ++ 0 ∷ [])
    ++ record_of Units (wide_bytes 0x3E4189374BC6A7F0 ++ wide_bytes 0x3944B82FA09B5A54)

-- the whole file
unfoldable pub generated : ℕ → List ℕ
generated n = library_bytes ++ leaf_bytes n ++ top_bytes n ++ record_of EndLib []
