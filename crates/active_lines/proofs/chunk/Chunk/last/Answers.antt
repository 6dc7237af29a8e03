use Rattle.std.proofs.Common.{◌≡◌, ◌-◌, ℕ, Some, length, get_or, ap, subst, sym, ◌∙◌, rules}
use Rattle.active_lines.specs.declared.item.ActiveLine.{ActiveLine}
use Rattle.active_lines.specs.Chunked.{HasLine}
use Rattle.active_lines.proofs.Chunks.{last_is}
use Rattle.active_lines.proofs.chunk.Chunk.last.Goals as goal

pub returns-clause-line : goal.returns-clause-line
returns-clause-line c =
    let items = c.self.inside.lines.items in
    let n : c.len.result ≡ length items = search rules in
    let some : HasLine items = subst HasLine (sym c.self.view_is) c.requires in
    let read = c.index.ensures ∙ ap (λ (k : ℕ). get_or items (k - 1) c.index.result.now) n in
    rw (← c.self.view_is) (last_is items c.index.result.now some ∙ ap (λ (l : ActiveLine). Some l) (sym read))
