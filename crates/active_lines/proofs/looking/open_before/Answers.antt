use Rattle.std.proofs.Common.{◌≡◌, ◌+◌, ◌-◌, ◌<◌, ℕ, List, All, length, take, drop, ap, subst, ◌∙◌, arith}
use Rattle.std.proofs.lemmas.List.{take_all}
use Rattle.std.specs.List.{HoldsAt}
use Rattle.active_lines.specs.declared.item.ActiveLine.{ActiveLine}
use Rattle.active_lines.specs.ActiveLists.{IsShut}
use Rattle.active_lines.specs.Chunked.{IsOpenUpTo, chunk_at}
use Rattle.active_lines.proofs.Places.{chunk_read}
use Rattle.active_lines.proofs.Opens.{open_further}
use Rattle.active_lines.proofs.looking.open_before.Goals as goal

pub bounds-chunks-c : goal.bounds-chunks-c
bounds-chunks-c c = omega (arith, c.loop-count.invariant.up_to, c.requires.inside, c.if-c-gt0.true)

pub last_open-count-requires : goal.last_open-count-requires
last_open-count-requires c =
    let chunks = c.args.chunks.now in
    let b = c.loop-count.c - 1 in
    let inside : b < length chunks = omega (arith, c.loop-count.invariant.up_to, c.requires.inside, c.if-c-gt0.true) in
    let one = ap (λ (lines : List ActiveLine). length lines) (chunk_read chunks b c.index-chunks-c.result inside c.index-chunks-c.is) in
    let two = ap (λ (lines : List ActiveLine). length lines)
    (chunk_read chunks b c.index-chunks-c-in-loop-count.result inside c.index-chunks-c-in-loop-count.is) in
    omega (arith, c.len.ensures, one, two)

pub loop-count-preserved : goal.loop-count-preserved
loop-count-preserved c =
    let chunks = c.args.chunks.now in
    let l = c.loop-count in
    let b = l.c - 1 in
    let n = c.last_open-count.result in
    let inside : b < length chunks = omega (arith, l.invariant.up_to, c.requires.inside, c.if-c-gt0.true) in
    let e = chunk_read chunks b c.index-chunks-c.result inside c.index-chunks-c.is in
    let two = ap (λ (lines : List ActiveLine). length lines)
    (chunk_read chunks b c.index-chunks-c-in-loop-count.result inside c.index-chunks-c-in-loop-count.is) in
    let size : c.len.result ≡ length (chunk_at chunks b) = c.len.ensures ∙ two in
    let again : l.c ≡ b + 1 = omega (arith, c.if-c-gt0.true) in
    let place = c.args.place in
    let found = subst (λ (k : ℕ). IsOpenUpTo chunks place.chunk place.at k 0) again
    (subst (λ (k : ℕ). IsOpenUpTo chunks place.chunk place.at l.c k) c.loop-count-test.true l.invariant) in
    let shut = subst (λ (lines : List ActiveLine). All IsShut (drop n (take c.len.result lines))) e c.last_open-count.ensures.shut in
    let all : take c.len.result (chunk_at chunks b) ≡ chunk_at chunks b = take_all c.len.result (chunk_at chunks b) (omega (arith, size)) in
    open_further chunks place.chunk place.at b n inside found (omega (arith, size, c.last_open-count.ensures.inside))
    (subst (λ (lines : List ActiveLine). All IsShut (drop n lines)) all shut)
    (λ some. subst (λ (lines : List ActiveLine). HoldsAt (λ (m : ActiveLine). IsShut m → ⊥) lines (n - 1)) e (c.last_open-count.ensures.is_open some))
