use Rattle.layout_gen.specs.Generated.{path_bytes}
use Rattle.layout_gen.proofs.Pieces.{put_seven}
use Rattle.layout_gen.proofs.cells.put_path.Goals as goal

pub returns-clause-value : goal.returns-clause-value
unfolding path_bytes
returns-clause-value c =
    put_seven _ _ _ _ _ _ _ _ _ _ _ _ _ _ _ c.put_record.ensures.value c.put_number.ensures.value
    c.put_number-2.ensures.value c.put_number-3.ensures.value c.put_long.ensures.value c.put_points.ensures.value
    c.put_record-2.ensures.value
