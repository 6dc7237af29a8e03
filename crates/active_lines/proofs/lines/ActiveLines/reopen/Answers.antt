use Rattle.std.proofs.Common.{◌≡◌, ◌-◌, ◌<◌, List, length, set, subst, arith}
use Rattle.std.proofs.lemmas.List.{length-set}
use Rattle.active_lines.specs.declared.item.ActiveLine.{ActiveLine}
use Rattle.active_lines.specs.ActiveLists.{ActiveList, IsReopened, reopened}
use Rattle.active_lines.specs.Chunked.{IsOpenUpTo, HasLine, chunk_at, lines_before}
use Rattle.active_lines.proofs.Places.{place_set}
use Rattle.active_lines.proofs.Opens.{is_reopened}
use Rattle.active_lines.proofs.lines.ActiveLines.reopen.Goals as goal

pub returns-clause-some : goal.returns-clause-some
returns-clause-some c =
    let chunks = c.self.inside.chunks.items in
    let place = c.self.inside.place in
    let last = c.open_before-place.result in
    let l = c.reopen_at.result in
    let found = subst (λ (xs : List
    (List ActiveLine)). IsOpenUpTo xs place.chunk place.at last.chunk last.at) c.as_slice.ensures.value c.open_before-place.ensures.is_open in
    let some : 0 < last.at = omega (arith, c.if-place-eq0.false) in
    let new = c.reopen_at.new.chunks.items in
    let all = is_reopened chunks place.chunk place.at last.chunk last.at l found some c.reopen_at.ensures.line c.args.opened new c.reopen_at.ensures.chunks in
    subst (λ (list : ActiveList). IsReopened c.args.opened list.before l (lines_before new place.chunk place.at)) c.self.view_is all

pub invariant_of-self : goal.invariant_of-self
invariant_of-self c =
    let chunks = c.self.inside.chunks.items in
    let place = c.self.inside.place in
    let last = c.open_before-place.result in
    let old = chunk_at chunks last.chunk in
    let new = set old (last.at - 1) (reopened c.args.opened c.reopen_at.result) in
    let found = subst (λ (xs : List
    (List ActiveLine)). IsOpenUpTo xs place.chunk place.at last.chunk last.at) c.as_slice.ensures.value c.open_before-place.ensures.is_open in
    let size : length new ≡ length old = length-set old (last.at - 1) (reopened c.args.opened c.reopen_at.result) in
    let some : HasLine new = omega (arith, size, found.inside, c.if-place-eq0.false) in
    rw c.reopen_at.ensures.chunks
    (record {
      place = place_set chunks place.chunk place.at last.chunk new c.self.invariant.place some size;
      pages = c.forget.ensures chunks new c.self.invariant.pages;
    })
