use Rattle.std.proofs.Common.{◌≡◌, ◌-◌, ◌/◌, set, subst, sym, rules}
use Rattle.active_lines.specs.declared.chunk.Least.TheVariants.{Unknown}
use Rattle.active_lines.specs.Chunked.{ArePages}
use Rattle.active_lines.proofs.PageLemmas.{pages_set}
use Rattle.active_lines.proofs.pages.forget.Goals as goal

pub returns : goal.returns
returns c =
    let e : c.forget_page-2.new.leasts.items ≡ set (set c.args.leasts.now.items (c.args.c / 32) Unknown) ((c.args.c - 1) / 32) Unknown = search rules in
    λ chunks lines kept. subst (ArePages (set chunks c.args.c lines)) (sym e) (pages_set chunks c.args.c lines c.args.leasts.now.items kept)
