use Rattle.std.proofs.Common.{◌<◌, ◌+◌, List, length, take, arith, ap, sym, ◌∙◌}
use Rattle.active_lines.specs.declared.item.ActiveLine.{ActiveLine}
use Rattle.active_lines.specs.Chunked.{HasLine, chunk_at}
use Rattle.active_lines.proofs.Places.{chunk_read, nil_of, full_from, place_in_chunk, place_at_start, place_without, after_without, front_without}
use Rattle.active_lines.proofs.place.settled.Goals as goal

pub returns-then-place-len-clause-place : goal.returns-then-place-len-clause-place
returns-then-place-len-clause-place c =
    let chunks = c.args.chunks.now.items in
    let k = c.args.place.chunk in
    let e = c.len-len.ensures ∙ ap (λ (xs : List ActiveLine). length xs) (chunk_read chunks k c.index.result.now c.requires.chunk c.index.ensures) in
    let less : c.args.place.at < length (chunk_at chunks k) = omega (arith, e, c.if-place-len.true) in
    place_in_chunk chunks k c.args.place.at (full_from HasLine chunks k c.requires.chunk c.requires.left
    (omega (arith, less)) c.requires.right) c.requires.chunk less

pub returns-then-len-eq0-clause-place : goal.returns-then-len-eq0-clause-place
returns-then-len-eq0-clause-place c =
    rw c.remove-empty.ensures.items (place_without c.args.chunks.now.items c.args.place.chunk c.requires.chunk c.requires.left c.requires.right)

pub returns-then-len-eq0-clause-after : goal.returns-then-len-eq0-clause-after
returns-then-len-eq0-clause-after c =
    let chunks = c.args.chunks.now.items in
    let k = c.args.place.chunk in
    let e = c.len-len.ensures ∙ ap (λ (xs : List ActiveLine). length xs) (chunk_read chunks k c.index.result.now c.requires.chunk c.index.ensures) in
    rw c.remove-empty.ensures.items (after_without chunks k c.args.place.at c.requires.chunk (nil_of (chunk_at chunks k) (sym e ∙ c.if-len-eq0.true)))

pub returns-clause-place : goal.returns-clause-place
returns-clause-place c =
    let chunks = c.args.chunks.now.items in
    let k = c.args.place.chunk in
    let e = c.len-len.ensures ∙ ap (λ (xs : List ActiveLine). length xs) (chunk_read chunks k c.index.result.now c.requires.chunk c.index.ensures) in
    let some : HasLine (chunk_at chunks k) = omega (arith, e, c.if-len-eq0.false) in
    place_at_start chunks (k + 1) (full_from HasLine chunks k c.requires.chunk c.requires.left some c.requires.right) (omega (arith, c.requires.chunk))

pub returns-then-len-eq0-clause-pages : goal.returns-then-len-eq0-clause-pages
returns-then-len-eq0-clause-pages c =
    let chunks = c.args.chunks.now.items in
    let k = c.args.place.chunk in
    c.forget_from.ensures chunks c.remove-empty.new.self.items c.requires.pages
    (ap (λ (xs : List (List ActiveLine)). take k xs) c.remove-empty.ensures.items ∙ front_without chunks k c.requires.chunk)
