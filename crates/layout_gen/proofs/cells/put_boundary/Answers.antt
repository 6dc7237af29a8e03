use Rattle.layout_gen.specs.Generated.{boundary_bytes}
use Rattle.layout_gen.proofs.Pieces.{put_five}
use Rattle.layout_gen.proofs.cells.put_boundary.Goals as goal

pub returns-clause-value : goal.returns-clause-value
unfolding boundary_bytes
returns-clause-value c =
    put_five _ _ _ _ _ _ _ _ _ _ _ c.put_record.ensures.value c.put_number.ensures.value c.put_number-2.ensures.value
    c.put_points.ensures.value c.put_record-2.ensures.value
