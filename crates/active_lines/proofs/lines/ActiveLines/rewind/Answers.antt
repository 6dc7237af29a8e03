use Rattle.std.proofs.Common.{List, [], ap, sym, ◌∙◌}
use Rattle.active_lines.specs.declared.item.ActiveLine.{ActiveLine}
use Rattle.active_lines.specs.ActiveLists.{active_list, items}
use Rattle.active_lines.proofs.Places.{whole, after_start}
use Rattle.active_lines.proofs.lines.ActiveLines.rewind.Goals as goal

pub returns : goal.returns
returns c =
    let chunks = c.self.inside.chunks.items in
    let place = c.self.inside.place in
    ap (λ (lines : List ActiveLine). active_list [] lines) (after_start chunks 0 ∙ (sym (whole chunks place.chunk place.at) ∙ ap items c.self.view_is))
