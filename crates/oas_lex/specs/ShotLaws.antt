-- What the text of a shot file keeps: it names its unit, its shots and, where there are shots, their layer and datatype.
use Rattle.std.specs.Prelude.{ℕ, ◌^◌, ◌<◌, ◌≡◌, ◌≢◌, List, [], ◌++◌, All}
use Rattle.half_grid.specs.Trapezoids.{Trapezoid, IsShot}
use Rattle.oas_lex.specs.ShotText.{spelling_of, shot_text}

-- a layer and a datatype of at most 63 bits each
pub record IsNarrowPair (layer datatype : ℕ) : Type 0 where
  pub layer_bits : layer < 2 ^ 63
  pub datatype_bits : datatype < 2 ^ 63

-- A record names its pair and its shot, and no record begins another, whatever follows the two.
abbrev pub RecordNamesShot : Type 0
RecordNamesShot = (l d m e : ℕ) (y z : Trapezoid) (after rest : List ℕ) →
    IsNarrowPair l d → IsNarrowPair m e → IsShot y → IsShot z →
    spelling_of l d y ++ after ≡ spelling_of m e z ++ rest → (l ≡ m) × (d ≡ e) × (y ≡ z) × (after ≡ rest)

-- Two different units or lists of shots never have the same text, nor two pairs where there are shots.
abbrev pub TextNamesShots : Type 0
TextNamesShots = (u l d v m e : ℕ) (ys zs : List Trapezoid) →
    u < 2 ^ 63 → v < 2 ^ 63 → IsNarrowPair l d → IsNarrowPair m e → All IsShot ys → All IsShot zs →
    shot_text u l d ys ≡ shot_text v m e zs →
    (u ≡ v) × (ys ≡ zs) × (ys ≢ [] → (l ≡ m) × (d ≡ e))
