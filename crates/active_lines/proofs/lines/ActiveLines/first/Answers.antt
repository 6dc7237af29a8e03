use Rattle.std.proofs.Common.{ap, ◌∙◌, ◌<◌, length, rules}
use Rattle.active_lines.specs.ActiveLists.{ActiveList, first_of}
use Rattle.active_lines.proofs.Lasts.{first_after}
use Rattle.active_lines.proofs.lines.ActiveLines.first.Goals as goal

pub returns : goal.returns
returns c =
    let chunks = c.self.inside.chunks.items in
    let place = c.self.inside.place in
    let inside : place.chunk < length chunks = search rules in
    first_after chunks place.chunk place.at c.self.invariant.place inside c.index.result.now c.get.result c.index.ensures c.get.ensures.line
    ∙ ap (λ (list : ActiveList). first_of list.after) c.self.view_is
