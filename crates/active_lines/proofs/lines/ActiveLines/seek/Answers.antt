use Rattle.std.proofs.Common.{List, ap, subst, sym, ◌∙◌}
use Rattle.active_lines.specs.declared.item.ActiveLine.{ActiveLine}
use Rattle.active_lines.specs.ActiveLists.{items}
use Rattle.active_lines.specs.Points.{AscendAt}
use Rattle.active_lines.specs.Chunked.{lines_of}
use Rattle.active_lines.proofs.Places.{whole}
use Rattle.active_lines.proofs.lines.ActiveLines.seek.Goals as goal

pub place_of-self-inside-requires-clause-ascend : goal.place_of-self-inside-requires-clause-ascend
place_of-self-inside-requires-clause-ascend c =
    let chunks = c.self.inside.chunks.items in
    let place = c.self.inside.place in
    let all = ap items (sym c.self.view_is) ∙ whole chunks place.chunk place.at in
    subst (λ (xs : List (List ActiveLine)). AscendAt c.args.point.y (lines_of xs)) (sym c.as_slice.ensures.value)
    (subst (AscendAt c.args.point.y) all c.requires.ascend)

pub returns-clause-same : goal.returns-clause-same
returns-clause-same c =
    let chunks = c.self.inside.chunks.items in
    let place = c.self.inside.place in
    let new = c.place_of-self-inside.result in
    whole chunks new.chunk new.at ∙ (sym (whole chunks place.chunk place.at) ∙ ap items c.self.view_is)
