use Rattle.std.proofs.Common.{◌-◌, ◌<◌, List, All, length, take, drop, subst, arith}
use Rattle.std.specs.List.{HoldsAt}
use Rattle.active_lines.specs.declared.item.ActiveLine.{ActiveLine}
use Rattle.active_lines.specs.ActiveLists.{IsShut}
use Rattle.active_lines.proofs.Places.{chunk_read}
use Rattle.active_lines.proofs.Opens.{open_here}
use Rattle.active_lines.proofs.looking.open_in_chunk.Goals as goal

pub returns : goal.returns
returns c =
    let chunks = c.args.chunks.now in
    let k = c.args.place.chunk in
    let n = c.last_open.result in
    let inside : k < length chunks = c.if-chunks-place.false in
    let less = c.requires.at_line inside in
    let e = chunk_read chunks k c.index-chunks-place.result inside c.index-chunks-place.is in
    open_here chunks k c.args.place.at n (omega (arith, less)) c.last_open.ensures.inside
    (subst (λ (lines : List ActiveLine). All IsShut (drop n (take c.args.place.at lines))) e c.last_open.ensures.shut)
    (λ some. subst (λ (lines : List ActiveLine). HoldsAt (λ (l : ActiveLine). IsShut l → ⊥) lines (n - 1)) e (c.last_open.ensures.is_open some))
