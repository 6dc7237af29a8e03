use Rattle.layout_gen.specs.Generated.{turned_bytes}
use Rattle.layout_gen.proofs.Pieces.{put_six}
use Rattle.layout_gen.proofs.cells.put_turned.Goals as goal

pub returns-clause-value : goal.returns-clause-value
unfolding turned_bytes
returns-clause-value c =
    put_six _ _ _ _ _ _ _ _ _ _ _ _ _ c.put_record.ensures.value c.put_record-2.ensures.value
    c.put_number.ensures.value c.put_wide.ensures.value c.put_points.ensures.value c.put_record-3.ensures.value
