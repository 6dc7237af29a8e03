use Rattle.std.proofs.Common.{◌≡◌, List, get_or, subst, sym, rules}
use Rattle.active_lines.specs.declared.item.ActiveLine.{ActiveLine}
use Rattle.active_lines.specs.declared.chunk.Least.TheVariants.{Unknown, Known}
use Rattle.active_lines.specs.Chunked.{ArePages}
use Rattle.active_lines.proofs.PageLemmas.{least_kept}
use Rattle.active_lines.proofs.pages.page_meeting.Goals as goal

pub returns-in-Known-clause-least : goal.returns-in-Known-clause-least
returns-in-Known-clause-least c =
    let e : Known c.in-Known.least ≡ get_or c.args.leasts.now.items c.args.p Unknown = search rules in
    least_kept c.args.chunks.now c.args.leasts.now.items c.args.p c.in-Known.least c.requires.pages e

pub returns-in-Unknown-clause-pages : goal.returns-in-Unknown-clause-pages
returns-in-Unknown-clause-pages c =
    subst (λ (xs : List (List ActiveLine)). ArePages xs c.keep.new.leasts.items) (sym c.looked_for-least.ensures.same)
    (c.keep.ensures c.args.chunks.now c.requires.pages c.looked_for-least.ensures.least)
