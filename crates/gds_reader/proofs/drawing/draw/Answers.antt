use Rattle.std.proofs.Common.{◌≡◌}
use Rattle.gds_record.specs.declared.kinds.Kind.TheVariants.{Boundary, Path}
use Rattle.gds_reader.proofs.drawing.draw.Goals as goal

pub returns-in-Some-Boundary-clause-memory : goal.returns-in-Some-Boundary-clause-memory
returns-in-Some-Boundary-clause-memory c = λ e.
    let kind : c.in-Some-Boundary.field-0 ≡ Boundary = rw c.in-Some-Boundary.is at c.in-Some-Boundary.field-0-is in
    rw (c.in-Some-Boundary.is, kind) (c.draw_boundary.ensures.memory e)

pub returns-in-Some-Path-clause-memory : goal.returns-in-Some-Path-clause-memory
returns-in-Some-Path-clause-memory c = λ e.
    let kind : c.in-Some-Path.field-0 ≡ Path = rw c.in-Some-Path.is at c.in-Some-Path.field-0-is in
    rw (c.in-Some-Path.is, kind) (c.draw_path.ensures.memory e)
