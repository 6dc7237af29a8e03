use Rattle.std.proofs.Common.{◌≡◌, ◌≢◌, ◌++◌, List, ℕ, Bor, false, true, sym, ap, subst, ◌∙◌, refl}
use Rattle.std.proofs.lemmas.Bool.Decides.{Decides-eqb}
use Rattle.std.proofs.lemmas.Slice.Eq.{strip_prefix_is}
use Rattle.job_words.proofs.Texts.{begins_otherwise, ends_so, left_of_none, left_of_some}
use Rattle.job_words.proofs.commands.is_stripe_name.Goals as goal

pub returns-in-None : goal.returns-in-None
returns-in-None c =
    let cases = strip_prefix_is Decides-eqb c.as_bytes.result.now c.as_bytes-2.result.now c.strip_prefix.result c.strip_prefix.ensures.cases in
    let other = left_of_none c.strip_prefix.result _ _ cases c.in-None.is in
    let names = rw (c.as_bytes.ensures.value, c.as_bytes-2.ensures.value) at other in
    (λ yes. let no : ⊥ = cc in absurd no, λ s. absurd (begins_otherwise c.args.out.now c.args.name.now names s))

pub returns-in-Some : goal.returns-in-Some
returns-in-Some c =
    let cases = strip_prefix_is Decides-eqb c.as_bytes.result.now c.as_bytes-2.result.now c.strip_prefix.result c.strip_prefix.ensures.cases in
    let begins = left_of_some c.strip_prefix.result _ _ c.in-Some.ending cases c.in-Some.is in
    let names = rw (c.as_bytes.ensures.value, c.as_bytes-2.ensures.value) at begins in
    rw c.is_stripe_ending.ensures (ends_so c.args.out.now c.args.name.now c.in-Some.ending.now names)
