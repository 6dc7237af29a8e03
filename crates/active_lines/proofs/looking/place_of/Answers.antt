use Rattle.std.proofs.Common.{◌<◌, List, All, length, take, drop, subst, sym}
use Rattle.active_lines.specs.declared.item.ActiveLine.{ActiveLine}
use Rattle.active_lines.specs.Points.{IsBefore, IsNotBefore, AscendAt}
use Rattle.active_lines.proofs.Places.{chunk_read}
use Rattle.active_lines.proofs.Points.{chunk_ascends, point_place, point_before, point_after}
use Rattle.active_lines.proofs.looking.place_of.Goals as goal

pub place_of-requires-clause-ascend : goal.place_of-requires-clause-ascend
place_of-requires-clause-ascend c =
    let chunks = c.args.chunks.now in
    let k = c.chunk_of-chunk.result in
    let inside : k < length chunks = c.if-chunks-chunk.false in
    subst (AscendAt c.args.point.y) (sym (chunk_read chunks k c.index-chunks-chunk.result inside c.index-chunks-chunk.is))
    (chunk_ascends chunks c.args.point.y c.requires.full c.requires.ascend k inside)

pub returns-clause-place : goal.returns-clause-place
returns-clause-place c =
    let chunks = c.args.chunks.now in
    let k = c.chunk_of-chunk.result in
    let inside : k < length chunks = c.if-chunks-chunk.false in
    let e = chunk_read chunks k c.index-chunks-chunk.result inside c.index-chunks-chunk.is in
    let front = subst (λ (lines : List ActiveLine). All (IsBefore c.args.point.x c.args.point.y) (take c.place_of.result lines)) e c.place_of.ensures.before in
    point_place chunks c.args.point.y c.requires.full c.requires.ascend c.args.point.x k c.place_of.result inside (c.chunk_of-chunk.ensures.at inside) front

pub returns-clause-before : goal.returns-clause-before
returns-clause-before c =
    let chunks = c.args.chunks.now in
    let k = c.chunk_of-chunk.result in
    let inside : k < length chunks = c.if-chunks-chunk.false in
    let e = chunk_read chunks k c.index-chunks-chunk.result inside c.index-chunks-chunk.is in
    let front = subst (λ (lines : List ActiveLine). All (IsBefore c.args.point.x c.args.point.y) (take c.place_of.result lines)) e c.place_of.ensures.before in
    point_before chunks c.args.point.y c.requires.full c.requires.ascend c.args.point.x k c.place_of.result inside
    (c.chunk_of-chunk.ensures.at inside) front c.chunk_of-chunk.ensures.before

pub returns-clause-after : goal.returns-clause-after
returns-clause-after c =
    let chunks = c.args.chunks.now in
    let k = c.chunk_of-chunk.result in
    let inside : k < length chunks = c.if-chunks-chunk.false in
    let e = chunk_read chunks k c.index-chunks-chunk.result inside c.index-chunks-chunk.is in
    let front = subst (λ (lines : List ActiveLine). All (IsBefore c.args.point.x c.args.point.y) (take c.place_of.result lines)) e c.place_of.ensures.before in
    let back = subst (λ (lines : List ActiveLine). All (IsNotBefore c.args.point.x c.args.point.y) (drop c.place_of.result lines)) e c.place_of.ensures.after in
    point_after chunks c.args.point.y c.requires.full c.requires.ascend c.args.point.x k c.place_of.result inside
    (c.chunk_of-chunk.ensures.at inside) front back
