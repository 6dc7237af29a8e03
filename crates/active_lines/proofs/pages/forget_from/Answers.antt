use Rattle.std.proofs.Common.{◌≡◌, ◌-◌, ◌/◌, take, subst, sym, rules}
use Rattle.active_lines.specs.Chunked.{ArePages}
use Rattle.active_lines.proofs.PageLemmas.{pages_front}
use Rattle.active_lines.proofs.pages.forget_from.Goals as goal

pub returns : goal.returns
returns c =
    let e : c.truncate.new.self.items ≡ take ((c.args.c - 1) / 32) c.args.leasts.now.items = search rules in
    λ chunks new kept same. subst (ArePages new) (sym e) (pages_front chunks new c.args.c c.args.leasts.now.items kept same)
