use Rattle.std.proofs.Common.{◌≡◌, ◌++◌, ◌∷◌, [], ◌-◌, ◌<◌, ◌≤◌, ℕ, length, take, set, arith, ap, refl, sym, ◌∙◌, rules, List}
use Rattle.std.proofs.lemmas.List.{take-set-le, take-append-le}
use Rattle.std.proofs.lemmas.Result.{on_ok_weaker}
use Rattle.std.specs.List.{insert}
use Rattle.active_lines.specs.declared.item.ActiveLine.{ActiveLine}
use Rattle.active_lines.proofs.Places.{chunk_read}
use Rattle.active_lines.proofs.Edited.{appended}
use Rattle.active_lines.proofs.editing.append.Goals as goal

pub returns-then-last_has_room-clause-ok : goal.returns-then-last_has_room-clause-ok
returns-then-last_has_room-clause-ok c =
    let chunks = c.args.chunks.now.items in
    let k = c.len-last.result - 1 in
    let n : c.len-last.result ≡ length chunks = search rules in
    let some : 0 < c.len-last.result = search rules in
    let inside : k < length chunks = omega (arith, n, some) in
    let first = chunk_read chunks k c.index.result.now inside c.index.ensures in
    let second = chunk_read chunks k c.index_mut.result.now inside c.index_mut.ensures.value in
    let end : c.len-end.result ≡ length c.index_mut.result.now = c.len-end.ensures ∙ ap (λ (lines : List ActiveLine). length lines) (first ∙ sym second) in
    on_ok_weaker c.insert.result
    (λ e. appended chunks k inside c.index_mut.result.now c.insert.new.self c.index_mut.ensures.value c.args.line (omega (arith, n, some))
    (e ∙ ap (λ (i : ℕ). insert c.index_mut.result.now i c.args.line) end))
    c.insert.ensures.ok

pub returns-then-last_has_room-clause-pages : goal.returns-then-last_has_room-clause-pages
returns-then-last_has_room-clause-pages c =
    let chunks = c.args.chunks.now.items in
    let k = c.len-last.result - 1 in
    let n : c.len-last.result ≡ length chunks = search rules in
    let m : c.saturating_sub.result ≡ length chunks - 1 = search rules in
    c.forget_from.ensures chunks (set chunks k c.insert.new.self) c.requires.pages
    (take-set-le c.saturating_sub.result chunks k c.insert.new.self (omega (arith, n, m)))

pub returns-in_err-chunk-clause-pages : goal.returns-in_err-chunk-clause-pages
returns-in_err-chunk-clause-pages c = c.forget_from.ensures c.args.chunks.now.items c.args.chunks.now.items c.requires.pages refl

pub returns-in_err-push-clause-pages : goal.returns-in_err-push-clause-pages
returns-in_err-push-clause-pages c =
    let e : c.push.new.self.items ≡ c.args.chunks.now.items = search rules in
    c.forget_from.ensures c.args.chunks.now.items c.push.new.self.items c.requires.pages
    (ap (λ (xs : List (List ActiveLine)). take c.saturating_sub.result xs) e)

pub returns-clause-pages : goal.returns-clause-pages
returns-clause-pages c =
    let chunks = c.args.chunks.now.items in
    let e : c.push.new.self.items ≡ chunks ++ c.in_ok-chunk.chunk ∷ [] = search rules in
    let m : c.saturating_sub.result ≡ length chunks - 1 = search rules in
    c.forget_from.ensures chunks c.push.new.self.items c.requires.pages
    (ap (λ (xs : List (List ActiveLine)). take c.saturating_sub.result xs) e
    ∙ take-append-le c.saturating_sub.result chunks (c.in_ok-chunk.chunk ∷ []) (omega (arith, m)))
