use Rattle.std.proofs.Common.{◌+◌, ◌*◌, ◌<◌, ◌≤◌, List, length, subst, ◌∙◌, arith}
use Rattle.active_lines.specs.declared.item.ActiveLine.{ActiveLine}
use Rattle.active_lines.specs.Neighbours.{IsLeastMeeting}
use Rattle.active_lines.specs.Chunked.{ArePages, lines_of, page_at}
use Rattle.active_lines.proofs.PageLemmas.{page_more, pages_all}
use Rattle.active_lines.proofs.pages.least_of_pages.Goals as goal

pub loop-p-init : goal.loop-p-init
loop-p-init c = record {
  some = omega arith;
  inside = omega arith;
  same = c.page_meeting-least.ensures.same;
  pages =
      subst (λ (xs : List (List ActiveLine)). ArePages xs c.page_meeting-least.new.leasts.items) c.page_meeting-least.ensures.same
      c.page_meeting-least.ensures.pages;
  least = c.page_meeting-least.ensures.least;
}

pub loop-p-preserved : goal.loop-p-preserved
loop-p-preserved c =
    let chunks = c.args.chunks.now in
    let l = c.loop-p in
    let same = l.invariant.same in
    let less : 32 * l.p + 1 < length chunks = subst (λ (xs : List (List ActiveLine)). 32 * l.p + 1 < length xs) same c.loop-p-test.true in
    let page = subst (λ (xs : List (List ActiveLine)). IsLeastMeeting (lines_of (page_at xs l.p)) c.page_meeting.result) same
    c.page_meeting.ensures.least in
    record {
      some = omega arith;
      inside = omega (arith, less);
      same = c.page_meeting.ensures.same ∙ same;
      pages =
          subst (λ (xs : List (List ActiveLine)). ArePages xs c.page_meeting.new.leasts.items) (c.page_meeting.ensures.same ∙ same)
          c.page_meeting.ensures.pages;
      least = rw c.lesser-least.ensures (page_more chunks c.requires.full l.p l.least c.page_meeting.result less l.invariant.least page);
    }

pub returns-clause-least : goal.returns-clause-least
returns-clause-least c =
    let l = c.loop-p in
    let le = subst (λ (xs : List (List ActiveLine)). length xs ≤ 32 * l.p + 1) l.invariant.same c.loop-p-test.false in
    pages_all c.args.chunks.now c.requires.full l.p l.least le l.invariant.least
