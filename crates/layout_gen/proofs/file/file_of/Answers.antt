use Rattle.std.proofs.Common.{[], ◌++◌, ◌∙◌, ap}
use Rattle.layout_gen.specs.Generated.{library_bytes, generated}
use Rattle.layout_gen.proofs.Pieces.{put_four}
use Rattle.layout_gen.proofs.file.file_of.Goals as goal

pub returns-clause-value : goal.returns-clause-value
unfolding generated
returns-clause-value c =
    put_four [] _ _ _ _ _ _ _ _ (c.put_library.ensures.value ∙ ap (λ b. b ++ library_bytes) c.new-buffer.ensures)
    c.put_leaf.ensures.value c.put_top.ensures.value c.put_record.ensures.value
