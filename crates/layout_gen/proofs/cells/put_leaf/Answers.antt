use Rattle.layout_gen.specs.Generated.{leaf_bytes}
use Rattle.layout_gen.proofs.Pieces.{put_five}
use Rattle.layout_gen.proofs.cells.put_leaf.Goals as goal

pub returns-clause-value : goal.returns-clause-value
unfolding leaf_bytes
returns-clause-value c =
    put_five _ _ _ _ _ _ _ _ _ _ _ c.put_record.ensures.value c.put_record-2.ensures.value c.put_shapes.ensures.value
    c.put_path.ensures.value c.put_record-3.ensures.value
