use Rattle.std.proofs.Common.{◌≡◌, ◌<◌, List, length, subst, arith}
use Rattle.active_lines.specs.declared.item.ActiveLine.{ActiveLine}
use Rattle.active_lines.proofs.Seams.{unchanged, least_further}
use Rattle.active_lines.proofs.looking.least_meeting.Goals as goal

pub loop-c-preserved : goal.loop-c-preserved
loop-c-preserved c =
    let chunks = c.args.chunks.now in
    let l = c.loop-c in
    let same : l.chunks ≡ chunks = l.invariant.same in
    let inside : l.c < length chunks = subst (λ (xs : List (List ActiveLine)). l.c < length xs) same c.loop-c-test.true in
    record {
      inside = omega (arith, inside);
      same = unchanged l.chunks chunks l.c c.index-chunks-c.result c.least_meeting.new.self same c.least_meeting.ensures.same;
      least =
          least_further l.chunks chunks l.c c.index-chunks-c.result l.least c.seam_before.result c.least_meeting.result
          c.lesser-least-in-loop-c.result c.lesser-least.result same c.loop-c-test.true l.invariant.least c.seam_before.ensures
          c.least_meeting.ensures.least
          c.lesser-least.ensures
          c.lesser-least-in-loop-c.ensures;
    }
