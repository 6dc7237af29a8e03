use Rattle.layout_gen.specs.Generated.{array_bytes}
use Rattle.layout_gen.proofs.Pieces.{put_five}
use Rattle.layout_gen.proofs.cells.put_array.Goals as goal

pub returns-clause-value : goal.returns-clause-value
unfolding array_bytes
returns-clause-value c =
    put_five _ _ _ _ _ _ _ _ _ _ _ c.put_record.ensures.value c.put_record-2.ensures.value c.put_two.ensures.value
    c.put_array_points.ensures.value c.put_record-3.ensures.value
