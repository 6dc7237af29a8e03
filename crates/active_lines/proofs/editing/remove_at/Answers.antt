use Rattle.active_lines.proofs.Edited.{removed_after}
use Rattle.active_lines.proofs.editing.remove_at.Goals as goal

pub returns-clause-after : goal.returns-clause-after
returns-clause-after c =
    removed_after c.args.chunks.now.items c.args.place.chunk c.requires.chunk c.index_mut.result.now c.remove.new.self
    c.index_mut.ensures.value c.args.place.at c.remove.result
    (c.requires.place.at_line c.requires.chunk)
    c.remove.ensures.line
    c.remove.ensures.rest

pub returns-clause-pages : goal.returns-clause-pages
returns-clause-pages c = c.forget.ensures c.args.chunks.now.items c.remove.new.self c.requires.pages
