use Rattle.std.proofs.Common.{rules, arith, ◌≡◌, ◌++◌, [], ℕ, ◌+◌, ◌-◌, ◌≤◌, List, ◌∷◌, append_assoc, ap, sym, ◌∙◌}
use Rattle.explain.specs.Shown.{blanks}
use Rattle.explain.proofs.Texts.{blanks_step, blanks_none}
use Rattle.explain.proofs.note.Note.put_blanks.Goals as goal

pub loop-blank-preserved : goal.loop-blank-preserved
loop-blank-preserved c =
    let n = c.args.count in
    let k = c.loop-blank._blank in
    let items = c.loop-blank.self-inside.bytes.items in
    ap (λ (t : List ℕ). t ++ blanks (n - (k + 1))) c.in_ok-push.ensures.items
    ∙ append_assoc items (32 ∷ []) (blanks (n - (k + 1)))
    ∙ ap (λ (t : List ℕ). items ++ t) (sym (blanks_step n k c.loop-blank-test.true))
    ∙ c.loop-blank.invariant

pub returns : goal.returns
returns c =
    let all : c.args.count ≤ c.loop-blank._blank = search rules in
    let none : blanks (c.args.count - c.loop-blank._blank) ≡ [] = blanks_none c.args.count c.loop-blank._blank all in
    search rules
