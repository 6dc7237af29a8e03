use Rattle.std.proofs.Common.{◌≡◌, List, All, subst, sym, rules}
use Rattle.std.specs.List.{insert}
use Rattle.active_lines.specs.declared.item.ActiveLine.{ActiveLine}
use Rattle.active_lines.specs.Chunked.{HasNearLine}
use Rattle.active_lines.proofs.Chunks.{near_insert}
use Rattle.active_lines.proofs.chunk.Chunk.insert.Goals as goal

pub invariant_of-self-2 : goal.invariant_of-self-2
invariant_of-self-2 c =
    let e : c.insert.new.self.items ≡ insert c.self.inside.lines.items c.args.k c.args.line = search rules in
    record {
      near = subst (λ (xs : List ActiveLine). All HasNearLine xs) (sym e)
          (near_insert c.self.inside.lines.items c.args.k c.args.line c.self.invariant.near c.requires.near);
      kept = tt;
    }
