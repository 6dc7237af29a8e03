use Rattle.std.proofs.Common.{arith, ap, length, List, ◌∙◌}
use Rattle.active_lines.specs.declared.item.ActiveLine.{ActiveLine}
use Rattle.active_lines.proofs.Places.{chunk_read}
use Rattle.active_lines.proofs.place.next_place.Goals as goal

pub overflow_add-place : goal.overflow_add-place
overflow_add-place c =
    let at = c.requires.place.at_line c.requires.line in
    let e = c.len-len.ensures ∙ ap (λ (xs : List ActiveLine). length xs)
    (chunk_read c.args.chunks.now c.args.place.chunk c.index-chunks-place.result c.requires.line c.index-chunks-place.is) in
    omega (arith, at, e)
