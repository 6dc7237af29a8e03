use Rattle.std.proofs.Common.{◌≡◌, ◌+◌, ◌*◌, min, List, length, subst, arith}
use Rattle.active_lines.specs.declared.item.ActiveLine.{ActiveLine}
use Rattle.active_lines.specs.Neighbours.{IsLeastMeeting}
use Rattle.active_lines.specs.Chunked.{lines_of}
use Rattle.active_lines.proofs.PageLemmas.{page_cut}
use Rattle.active_lines.proofs.pages.looked_for.Goals as goal

pub returns-clause-least : goal.returns-clause-least
returns-clause-least c =
    let to : c.min-to.result ≡ min (length c.args.chunks.now) (32 * c.args.p + 33) = omega (arith, c.min-to.ensures) in
    subst (λ (xs : List (List ActiveLine)). IsLeastMeeting (lines_of xs) c.least_meeting.result)
    (page_cut c.args.chunks.now c.args.p c.min-to.result to c.requires.inside) c.least_meeting.ensures.least
