-- A joined list of which the trapezoids that touch no other one are shrunk by themselves.
use Rattle.std.specs.Prelude.{◌≡◌, ◌+◌, ◌≤◌, ◌↔◌, ℤ, List, Contains, length}
use Rattle.half_grid.specs.Nearness.{IsShrunk}
use Rattle.half_grid.specs.Trapezoids.{Trapezoid, IsInTrapezoid, count_in}
use Rattle.half_grid.specs.declared.plane.Tile.{Tile}
use Rattle.square_size.specs.Lone.{IsInOne, IsLone}

-- those that were gone through are such lone ones, of which `shrunk` is left, and the rest; each comes once at most
pub record IsPartedBy (d : ℤ) (traps done shrunk lone rest : List Trapezoid) : Type 0 where
  pub counted : (t : Tile) → count_in done t ≡ count_in lone t + count_in rest t
  pub lone_of : (z : Trapezoid) → Contains lone z → Contains traps z × IsLone traps z
  pub rest_of : (z : Trapezoid) → Contains rest z → Contains traps z
  pub left : (t : Tile) → IsInOne shrunk t ↔ ((z : Trapezoid) × Contains lone z × IsShrunk d d (IsInTrapezoid z) t)
  pub few : length shrunk + length rest ≤ length done

abbrev pub IsParted : ℤ → List Trapezoid → List Trapezoid → List Trapezoid → List Trapezoid → Type 0
IsParted d traps done shrunk rest = (lone : List Trapezoid) × IsPartedBy d traps done shrunk lone rest
