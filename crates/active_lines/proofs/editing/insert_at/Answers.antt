use Rattle.std.proofs.lemmas.Result.{on_ok_weaker}
use Rattle.active_lines.proofs.Edited.{inserted_before, inserted_after}
use Rattle.active_lines.proofs.editing.insert_at.Goals as goal

pub returns-clause-before : goal.returns-clause-before
returns-clause-before c =
    on_ok_weaker c.insert.result
    (λ e. inserted_before c.args.chunks.now.items c.args.place.chunk c.requires.chunk c.index_mut.result.now
    c.insert.new.self c.index_mut.ensures.value c.args.place.at c.args.line e)
    c.insert.ensures.ok

pub returns-clause-after : goal.returns-clause-after
returns-clause-after c =
    on_ok_weaker c.insert.result
    (λ e. inserted_after c.args.chunks.now.items c.args.place.chunk c.requires.chunk c.index_mut.result.now
    c.insert.new.self c.index_mut.ensures.value c.args.place.at c.args.line e)
    c.insert.ensures.ok

pub returns-clause-pages : goal.returns-clause-pages
returns-clause-pages c = c.forget.ensures c.args.chunks.now.items c.insert.new.self c.requires.pages
