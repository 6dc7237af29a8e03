use Rattle.std.proofs.Common.{ℕ, ◌≡◌, ◌+◌, ◌<◌, List, length, drop, subst, sym, arith, rules}
use Rattle.active_lines.specs.declared.item.ActiveLine.{ActiveLine}
use Rattle.active_lines.specs.Neighbours.{SomeMeeting, IsFirstMeeting}
use Rattle.active_lines.specs.Chunked.{IsPlace, chunk_at, lines_of, lines_after}
use Rattle.active_lines.proofs.Places.{chunk_read, after_start, place_at_start}
use Rattle.active_lines.proofs.Seams.{first_at_end, first_in_right, only_in_right, tail_apart}
use Rattle.active_lines.proofs.PageLemmas.{passed_some, passed_none}
use Rattle.active_lines.proofs.looking.first_meeting.Goals as goal

pub returns-in-Some-meeting_after-clause-some : goal.returns-in-Some-meeting_after-clause-some
returns-in-Some-meeting_after-clause-some c =
    let chunks = c.args.chunks.now in
    let l = c.loop-c in
    let e = chunk_read chunks l.c c.index-chunks-c.result c.loop-c-test.true c.index-chunks-c.is in
    l.invariant.some c.in-Some-meeting_after.line
    (first_at_end chunks l.c l.from c.args.level.y c.in-Some-meeting_after.line
    (l.invariant.place.at_line c.loop-c-test.true) c.in-Some-meeting_after.ensures.some
    (λ h. c.in_default.ensures.none (subst (λ (lines : List ActiveLine). SomeMeeting (drop l.from lines) c.args.level.y) (sym e) h)))

pub loop-c-preserved : goal.loop-c-preserved
loop-c-preserved c =
    let chunks = c.args.chunks.now in
    let l = c.loop-c in
    let y = c.args.level.y in
    let less : l.c < length chunks = c.loop-c-test.true in
    let e = chunk_read chunks l.c c.index-chunks-c.result less c.index-chunks-c.is in
    let xs = drop l.from (chunk_at chunks l.c) in
    let ys = lines_of (drop (l.c + 1) chunks) in
    let none = λ (h : SomeMeeting (drop l.from (chunk_at chunks l.c)) c.args.level.y). c.in_default.ensures.none
    (subst (λ (lines : List ActiveLine). SomeMeeting (drop l.from lines) y) (sym e) h) in
    let apart = tail_apart chunks l.c l.from y c.in_default-meeting_after.ensures.none in
    record {
      place = place_at_start chunks (l.c + 1) l.invariant.place.full (omega (arith, less));
      some = λ line h. l.invariant.some line (first_in_right xs ys y line none apart
          (subst (λ (lines : List ActiveLine). IsFirstMeeting lines y line) (after_start chunks (l.c + 1)) h));
      none = λ h. subst (λ (lines : List ActiveLine). SomeMeeting lines y) (sym (after_start chunks (l.c + 1)))
          (only_in_right xs ys y none apart (l.invariant.none h));
    }

pub loop-c-smaller-then-is_quiet_page : goal.loop-c-smaller-then-is_quiet_page
loop-c-smaller-then-is_quiet_page c = omega (arith, c.page_end-c.ensures, c.loop-c-test.true)

pub loop-c-preserved-then-is_quiet_page : goal.loop-c-preserved-then-is_quiet_page
loop-c-preserved-then-is_quiet_page c =
    let chunks = c.args.chunks.now in
    let l = c.loop-c in
    let y = c.args.level.y in
    let end = c.page_end-c.result in
    let full = l.invariant.place.full in
    let start : l.from ≡ 0 = search rules in
    let quiet = c.is_quiet_page.ensures c.if-is_quiet_page.true chunks c.requires.pages in
    record {
      place = subst (λ (k : ℕ). IsPlace chunks end k) (sym start) (place_at_start chunks end full (omega (arith, c.page_end-c.ensures)));
      some = λ line h. l.invariant.some line (subst (λ (k : ℕ). IsFirstMeeting (lines_after chunks l.c k) y line) (sym start)
          (passed_some chunks full l.c y quiet line
          (subst (λ (n : ℕ). IsFirstMeeting (lines_after chunks n 0) y line) c.page_end-c.ensures
          (subst (λ (k : ℕ). IsFirstMeeting (lines_after chunks end k) y line) start h))));
      none = λ h. subst (λ (k : ℕ). SomeMeeting (lines_after chunks end k) y) (sym start)
          (subst (λ (n : ℕ). SomeMeeting (lines_after chunks n 0) y) (sym c.page_end-c.ensures)
          (passed_none chunks full l.c y quiet (subst (λ (k : ℕ). SomeMeeting (lines_after chunks l.c k) y) start (l.invariant.none h))));
    }
