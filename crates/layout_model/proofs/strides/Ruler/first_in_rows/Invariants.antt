use Rattle.std.proofs.Common.{◌*◌}
use Rattle.layout_model.specs.Strides.{mark, HasNoneBetween}
use Rattle.layout_model.proofs.strides.Ruler.first_in_rows.Given as goal

abbrev pub invariant-loop-row : goal.invariant-loop-row
invariant-loop-row l = HasNoneBetween l.interval (mark l.self) (l.first * l.self.nu) (l.row * l.self.nu)
