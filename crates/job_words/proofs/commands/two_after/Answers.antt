use Rattle.std.proofs.Common.{sym, ◌∙◌, refl}
use Rattle.std.proofs.lemmas.Bool.{not-false, not-true}
use Rattle.std.specs.Cmp.Lexicographic.{same_text}
use Rattle.job_words.proofs.Texts.{three_texts, first_text, other_text}
use Rattle.job_words.proofs.commands.two_after.Goals as goal

pub returns-clause-some : goal.returns-clause-some
returns-clause-some c =
    let command = same_text c.as_str.result.now _ (sym (not-false _ (sym c.if-ne.ensures))) in
    three_texts c.args.words.now c.index-words-0.result c.index-words-1.result c.index-words-2.result
    c.if-words-ne3.false c.index-words-0.is c.index-words-1.is c.index-words-2.is
    ∙ rw (← c.as_str.ensures.value, ← c.as_str-2.ensures.value, ← c.as_str-3.ensures.value, command) refl

pub returns-then-ne-clause-none : goal.returns-then-ne-clause-none
returns-then-ne-clause-none c = λ a b e.
    other_text c.as_str.result.now c.args.command.now (not-true _ (sym c.if-ne.ensures))
    (c.as_str.ensures.value ∙ first_text c.args.words.now c.index-words-0.result c.args.command.now _ c.index-words-0.is e)
