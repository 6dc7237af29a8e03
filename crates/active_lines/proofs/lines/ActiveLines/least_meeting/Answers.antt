use Rattle.std.proofs.Common.{List, ap, subst, sym, ◌∙◌}
use Rattle.active_lines.specs.declared.item.ActiveLine.{ActiveLine}
use Rattle.active_lines.specs.ActiveLists.{items}
use Rattle.active_lines.specs.Neighbours.{IsLeastMeeting}
use Rattle.active_lines.specs.Chunked.{lines_of}
use Rattle.active_lines.proofs.Places.{whole}
use Rattle.active_lines.proofs.lines.ActiveLines.least_meeting.Goals as goal

pub returns-clause-least : goal.returns-clause-least
returns-clause-least c =
    let chunks = c.self.inside.chunks.items in
    let place = c.self.inside.place in
    let all = ap lines_of c.as_mut_slice.ensures.value ∙ (sym (whole chunks place.chunk place.at) ∙ ap items c.self.view_is) in
    subst (λ (lines : List ActiveLine). IsLeastMeeting lines c.least_of_pages.result) all c.least_of_pages.ensures.least
