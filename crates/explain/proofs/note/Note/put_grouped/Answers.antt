use Rattle.std.proofs.Common.{rules, arith, ◌≡◌, ◌++◌, [], ℕ, ◌+◌, ◌-◌, ◌≤◌, length, drop, List, ◌∷◌, slice_index_or, append_assoc, ap, sym, ◌∙◌}
use Rattle.explain.specs.Shown.{grouped, comma_after}
use Rattle.explain.proofs.Texts.{grouped_step, grouped_none}
use Rattle.explain.proofs.note.Note.put_grouped.Goals as goal

pub loop-place-preserved : goal.loop-place-preserved
loop-place-preserved c =
    let xs = c.args.digits.now in
    let k = c.loop-place.place in
    let items = c.loop-place.self-inside.bytes.items in
    let d = slice_index_or xs k 0 in
    let comma = comma_after (length xs - k - 1) in
    let rest = grouped (drop (k + 1) xs) in
    let pushed : c.push.new.self.items ≡ items ++ d ∷ [] = search rules in
    let put : c.extend_from_slice.new.self.items ≡ c.push.new.self.items ++ comma = search rules in
    ap (λ (t : List ℕ). t ++ rest) put
    ∙ ap (λ (t : List ℕ). (t ++ comma) ++ rest) pushed
    ∙ append_assoc (items ++ d ∷ []) comma rest
    ∙ append_assoc items (d ∷ []) (comma ++ rest)
    ∙ ap (λ (t : List ℕ). items ++ t) (sym (grouped_step xs k 0 c.loop-place-test.true))
    ∙ c.loop-place.invariant

pub returns : goal.returns
returns c =
    let all : length c.args.digits.now ≤ c.loop-place.place = search rules in
    let none : grouped (drop c.loop-place.place c.args.digits.now) ≡ [] = grouped_none c.args.digits.now c.loop-place.place all in
    search rules
