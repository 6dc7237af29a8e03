use Rattle.std.proofs.Common.{◌≡◌, length, is_ok, subst, sym, rules}
use Rattle.active_lines.specs.Chunked.{ArePages}
use Rattle.active_lines.proofs.PageLemmas.{pages_known, pages_pushed}
use Rattle.active_lines.proofs.pages.keep.Goals as goal

pub returns-then-p-len : goal.returns-then-p-len
returns-then-p-len c = λ chunks kept least. pages_known chunks c.args.leasts.now.items c.args.p c.args.least kept least

pub returns-then-p-len-2 : goal.returns-then-p-len-2
returns-then-p-len-2 c =
    let leasts = c.args.leasts.now.items in
    let n : c.args.p ≡ length leasts = search rules in
    λ chunks kept least. subst (ArePages chunks) (sym c.push-kept.ensures.items)
    (pages_pushed (is_ok c.push-kept.result) chunks leasts c.args.p c.args.least kept n least)
