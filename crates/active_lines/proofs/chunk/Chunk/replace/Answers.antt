use Rattle.std.proofs.Common.{◌≡◌, ◌<◌, List, length, subst, sym}
use Rattle.std.specs.List.{HoldsAt}
use Rattle.active_lines.specs.declared.item.ActiveLine.{ActiveLine}
use Rattle.active_lines.proofs.Chunks.{chunk_set}
use Rattle.active_lines.proofs.chunk.Chunk.replace.Goals as goal

pub invariant_of-self : goal.invariant_of-self
invariant_of-self c =
    let back = sym c.self.view_is in
    let inside = subst (λ (xs : List ActiveLine). c.args.k < length xs) back c.requires.inside in
    let same = subst (λ (xs : List ActiveLine). HoldsAt (λ (m : ActiveLine). c.args.line.line ≡ m.line) xs c.args.k) back c.requires.same in
    chunk_set c.self.inside.lines.items c.args.k c.args.line c.self.inside.least inside same c.self.invariant
