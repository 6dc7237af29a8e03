use Rattle.active_lines.proofs.Edited.{replaced_after}
use Rattle.active_lines.proofs.editing.replace_at.Goals as goal

pub returns-clause-after : goal.returns-clause-after
returns-clause-after c =
    replaced_after c.args.chunks.now.items c.args.place.chunk c.requires.chunk c.index_mut.result.now c.replace.new.self
    c.index_mut.ensures.value c.args.place.at c.args.line
    (c.requires.place.at_line c.requires.chunk)
    c.replace.ensures

pub returns-clause-pages : goal.returns-clause-pages
returns-clause-pages c = c.forget.ensures c.args.chunks.now.items c.replace.new.self c.requires.pages
