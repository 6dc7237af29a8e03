use Rattle.std.proofs.Common.{◌+◌, ◌<◌, IfSome, ℤ, Option, length, take, ap, subst, sym, ◌∙◌}
use Rattle.active_lines.specs.ActiveLists.{last_of}
use Rattle.active_lines.specs.Neighbours.{MeetAtSeam}
use Rattle.active_lines.specs.Chunked.{lines_of, chunk_at}
use Rattle.active_lines.proofs.Places.{chunk_read}
use Rattle.active_lines.proofs.Seams.{seam_in_chunks, seam_of_chunks, seam_at_end}
use Rattle.active_lines.proofs.looking.meeting_after.Goals as goal

pub returns-then-chunks-c-clause-none : goal.returns-then-chunks-c-clause-none
returns-then-chunks-c-clause-none c = seam_at_end c.args.chunks.now c.requires.full c.args.c c.args.level.y c.if-chunks-c.true

pub returns-then-is_at-clause-some : goal.returns-then-is_at-clause-some
returns-then-is_at-clause-some c =
    let chunks = c.args.chunks.now in
    let k = c.args.c in
    let next : k + 1 < length chunks = c.if-chunks-c.false in
    let e = chunk_read chunks k c.index-chunks-c.result c.requires.inside c.index-chunks-c.is in
    let meets = subst (λ (o : Option ℤ). IfSome o (MeetAtSeam (lines_of (take (k + 1) chunks)) (chunk_at chunks (k + 1))))
    (c.is_at.ensures.yes c.if-is_at.true) c.seam_before.ensures.attained in
    record { last = ap last_of (sym e) ∙ c.last.ensures.line; meets = seam_in_chunks chunks c.requires.full k c.args.level.y next meets }

pub returns-clause-none : goal.returns-clause-none
returns-clause-none c =
    let chunks = c.args.chunks.now in
    let k = c.args.c in
    let next : k + 1 < length chunks = c.if-chunks-c.false in
    λ h. c.is_at.ensures.other c.if-is_at.false (c.seam_before.ensures.only c.args.level.y (seam_of_chunks chunks c.requires.full k c.args.level.y next h))
