use Rattle.std.proofs.Common.{◌≡◌, ◌+◌, ◌-◌, ◌<◌, ℕ, List, length, take, get_or, ap, sym, ◌∙◌, arith}
use Rattle.active_lines.specs.declared.item.ActiveLine.{ActiveLine}
use Rattle.active_lines.specs.ActiveLists.{last_of}
use Rattle.active_lines.specs.Chunked.{lines_of, chunk_at}
use Rattle.active_lines.proofs.Places.{chunk_read, chunk_full}
use Rattle.active_lines.proofs.Lasts.{last_up_to}
use Rattle.active_lines.proofs.Seams.{seam_by}
use Rattle.active_lines.proofs.looking.seam_before.Goals as goal

pub returns : goal.returns
returns c =
    let chunks = c.args.chunks.now in
    let k = c.args.c in
    let before : k - 1 < length chunks = omega (arith, c.requires.inside) in
    let again : (k - 1) + 1 ≡ k = omega (arith, c.if-c-eq0.false) in
    let left = chunk_read chunks (k - 1) c.index-chunks-c.result before c.index-chunks-c.is in
    let here = chunk_read chunks k c.index-chunks-c-2.result c.requires.inside c.index-chunks-c-2.is in
    let last = ap (λ (n : ℕ). last_of (lines_of (take n chunks))) (sym again)
    ∙ (last_up_to chunks (k - 1) before (chunk_full chunks (k - 1) c.requires.full before)
    ∙ (ap last_of (sym left) ∙ c.last-last.ensures.line)) in
    let first = c.get-first.ensures.line c.get-first.result ∙ ap (λ (lines : List ActiveLine). get_or lines 0 c.get-first.result) here in
    seam_by (lines_of (take k chunks)) (chunk_at chunks k) c.last-last.result c.get-first.result c.meeting_above.result last
    (chunk_full chunks k c.requires.full c.requires.inside) first c.meeting_above.ensures.some c.meeting_above.ensures.only
