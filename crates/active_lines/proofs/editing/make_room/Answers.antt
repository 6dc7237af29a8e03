use Rattle.std.proofs.Common.{◌≡◌, take, rules}
use Rattle.active_lines.proofs.editing.make_room.Goals as goal

pub returns-clause-pages : goal.returns-clause-pages
returns-clause-pages c =
    let front : take c.args.place.chunk c.split_at.new.chunks.items ≡ take c.args.place.chunk c.args.chunks.now.items = search rules in
    c.forget_from.ensures c.args.chunks.now.items c.split_at.new.chunks.items c.requires.pages front
