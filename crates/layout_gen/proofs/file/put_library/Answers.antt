use Rattle.layout_gen.specs.Generated.{library_bytes}
use Rattle.layout_gen.proofs.Pieces.{put_four}
use Rattle.layout_gen.proofs.file.put_library.Goals as goal

pub returns-clause-value : goal.returns-clause-value
unfolding library_bytes
returns-clause-value c =
    put_four _ _ _ _ _ _ _ _ _ c.put_number.ensures.value c.put_record.ensures.value c.put_record-2.ensures.value
    c.put_two_wide.ensures.value
