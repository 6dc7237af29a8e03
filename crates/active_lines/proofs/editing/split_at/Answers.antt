use Rattle.std.proofs.Common.{◌≡◌, ◌+◌, ◌<◌, ◌≤◌, List, ◌++◌, length, set, arith, ap, sym, ◌∙◌, rules}
use Rattle.std.proofs.lemmas.List.{length-set, take-set}
use Rattle.std.specs.List.{insert}
use Rattle.active_lines.specs.declared.item.ActiveLine.{ActiveLine}
use Rattle.active_lines.specs.Chunked.{chunk_at}
use Rattle.active_lines.proofs.Places.{chunk_read}
use Rattle.active_lines.proofs.Edited.{split_before, split_after, split_front, split_place, chunk_now}
use Rattle.active_lines.proofs.editing.split_at.Goals as goal

half_is : (c : goal.After-struct_known-4-1) → length c.split.new.self ≡ c.len-half.result
half_is c =
    let chunks = c.args.chunks.now.items in
    let k = c.args.place.chunk in
    let inside : k < length (set chunks k c.split.new.self) = omega (arith, length-set chunks k c.split.new.self, c.requires.line) in
    let read = chunk_read (set chunks k c.split.new.self) k c.index.result.now inside c.index.ensures in
    sym (c.len-half.ensures ∙ ap (λ (lines : List ActiveLine). length lines) (read ∙ chunk_now chunks k c.requires.line c.split.new.self))

items_are : (c : goal.After-struct_known-4-1) → c.insert.new.self.items ≡ insert
    (set c.args.chunks.now.items c.args.place.chunk c.split.new.self) (c.args.place.chunk + 1) c.in_ok-upper.upper
items_are c = search rules

cut_is : (c : goal.After-struct_known-4-1) → chunk_at c.args.chunks.now.items c.args.place.chunk ≡ c.split.new.self ++ c.in_ok-upper.upper
cut_is c = sym (chunk_read c.args.chunks.now.items c.args.place.chunk c.index_mut.result.now c.requires.line c.index_mut.ensures.value)
    ∙ c.in_ok-upper.ensures.whole

pub returns-clause-place : goal.returns-clause-place
returns-clause-place c =
    let le : length c.split.new.self ≤ c.args.place.at = omega (arith, half_is c, c.if-place-half.false) in
    rw (items_are c, ← half_is c)
    (split_place c.args.chunks.now.items c.args.place.chunk c.requires.line c.split.new.self c.in_ok-upper.upper
    (cut_is c) c.args.place.at c.requires.place.full c.in_ok-upper.ensures.lower c.in_ok-upper.ensures.upper le
    (c.requires.place.at_line c.requires.line))

pub returns-clause-before : goal.returns-clause-before
returns-clause-before c =
    let le : length c.split.new.self ≤ c.args.place.at = omega (arith, half_is c, c.if-place-half.false) in
    rw (items_are c, ← half_is c) (split_before c.args.chunks.now.items c.args.place.chunk c.requires.line c.split.new.self c.in_ok-upper.upper
    (cut_is c) c.args.place.at le)

pub returns-clause-after : goal.returns-clause-after
returns-clause-after c =
    let le : length c.split.new.self ≤ c.args.place.at = omega (arith, half_is c, c.if-place-half.false) in
    rw (items_are c, ← half_is c) (split_after c.args.chunks.now.items c.args.place.chunk c.requires.line c.split.new.self c.in_ok-upper.upper
    (cut_is c) c.args.place.at le)

pub returns-in_err-upper-clause-front : goal.returns-in_err-upper-clause-front
returns-in_err-upper-clause-front c = take-set c.args.chunks.now.items c.args.place.chunk c.split.new.self

pub returns-then-place-half-clause-front : goal.returns-then-place-half-clause-front
returns-then-place-half-clause-front c =
    let chunks = c.args.chunks.now.items in
    let k = c.args.place.chunk in
    let upper = c.in_ok-upper.upper in
    let e : c.insert.new.self.items ≡ insert (set chunks k c.split.new.self) (k + 1) upper = search rules in
    let cut = sym (chunk_read chunks k c.index_mut.result.now c.requires.line c.index_mut.ensures.value) ∙ c.in_ok-upper.ensures.whole in
    rw e (split_front chunks k c.requires.line c.split.new.self upper cut)

pub returns-clause-front : goal.returns-clause-front
returns-clause-front c =
    rw (items_are c) (split_front c.args.chunks.now.items c.args.place.chunk c.requires.line c.split.new.self c.in_ok-upper.upper (cut_is c))
