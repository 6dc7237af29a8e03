-- One orientation after another, and the one that leaves all as it is.
use Rattle.std.specs.Prelude.{◌≡◌, ℕ, ◌+◌, ◌-◌, ◌*◌, ◌%◌, Bool, true, false, not}
use Rattle.half_grid.specs.declared.plane.Point.{Point}
use Rattle.layout_model.specs.Images.{turned, flipped, enlarged}
use Rattle.layout_model.specs.declared.orient.Orient.{Orient}

-- enlarged, mirrored and turned, and not yet moved
abbrev pub oriented : Orient → Point → Point
oriented orient p = turned orient.turns (flipped orient.flip (enlarged orient.mag p))

-- a flip turns the other way round what was turned before it
abbrev pub turns_after : Bool → ℕ → ℕ → ℕ
turns_after true outer inner = (outer + (4 - inner)) % 4
turns_after false outer inner = (outer + inner) % 4

abbrev pub flips_after : Bool → Bool → Bool
flips_after true inner = not inner
flips_after false inner = inner

-- the orientation of a cell that is placed with `inner` in a cell that is placed with `outer`
abbrev pub composed : Orient → Orient → Orient
composed outer inner = record {
  flip = flips_after outer.flip inner.flip;
  turns = turns_after outer.flip outer.turns inner.turns;
  mag = outer.mag * inner.mag;
}

-- neither enlarged, mirrored nor turned
pub record IsPlain (orient : Orient) : Type 0 where
  pub flip : orient.flip ≡ false
  pub turns : orient.turns ≡ 0
  pub mag : orient.mag ≡ 1
