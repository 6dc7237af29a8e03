use Rattle.std.proofs.Common.{ap, arith}
use Rattle.std.proofs.lemmas.Int.{ints}
use Rattle.half_grid.specs.declared.plane.Line.TheVariants.{Upright}
use Rattle.tone_mirror.proofs.mirror.mirrored_line.Goals as goal

pub returns-in-Upright : goal.returns-in-Upright
returns-in-Upright c =
    let reach = rw c.in-Upright.is at c.requires.line in
    rw c.in-Upright.is (ap Upright (omega (arith, ints)))
