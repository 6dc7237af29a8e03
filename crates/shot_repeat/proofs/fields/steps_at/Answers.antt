use Rattle.std.proofs.Common.{◌≡◌, ◌≤◌, ◌++◌, length, drop, ap, sym, ◌∙◌, arith, FitsSigned, w64, rules}
use Rattle.std.proofs.lemmas.Int.{to_z-of_z}
use Rattle.std.proofs.lemmas.Bool.Decides.{Decides-eqb}
use Rattle.oas_lex.specs.Spelling.{unsigned_text, signed_text}
use Rattle.shot_repeat.specs.Records.{step_code}
use Rattle.shot_repeat.proofs.Standing.{spelled_steps}
use Rattle.shot_repeat.proofs.Unique.{code_narrow, same_repetition, steps_opens}
use Rattle.shot_repeat.proofs.fields.steps_at.Goals as goal

pub returns-clause-spelled : goal.returns-clause-spelled
returns-clause-spelled c = λ inside.
    let fx : FitsSigned w64 c.step_of-x.result = search rules in
    let fy : FitsSigned w64 c.signed_at-y.result.0 = search rules in
    let x = to_z-of_z w64 c.step_of-x.result fx in
    let y = to_z-of_z w64 c.signed_at-y.result.0 fy in
    let ends = c.end_where-next.ensures.right inside in
    let same : c.step_code.result ≡ c.unsigned_at-code.result.0 = (Decides-eqb c.step_code.result c.unsigned_at-code.result.0).0 ends.0 in
    let code : c.unsigned_at-code.result.0 ≡ step_code c.step_of-x.result = sym same ∙ rw x at c.step_code.ensures.value in
    let within : c.signed_at-y.result.1 ≤ length c.args.bytes.now = omega (arith, inside, ends.1) in
    let third = c.signed_at-y.ensures.spelled within in
    let second = c.unsigned_at-code.ensures.spelled (omega (arith, within, third.0)) in
    let first = c.unsigned_at-more.ensures.spelled (omega (arith, within, third.0, second.0)) in (
      omega (arith, ends.1, third.0, second.0, first.0),
      rw (x, y)
          (spelled_steps _ c.args.bytes.now c.args.at _ _ _ first.1
          (second.1 ∙ ap (λ n. unsigned_text n ++ drop c.unsigned_at-code.result.1 c.args.bytes.now) code)
          (third.1 ∙ ap (λ n. signed_text c.signed_at-y.result.0 ++ drop n c.args.bytes.now) (sym ends.1))),
    )

pub returns-clause-read : goal.returns-clause-read
returns-clause-read c = λ p after narrow h e.
    let fx : FitsSigned w64 c.step_of-x.result = search rules in
    let fy : FitsSigned w64 c.signed_at-y.result.0 = search rules in
    let x = to_z-of_z w64 c.step_of-x.result fx in
    let y = to_z-of_z w64 c.signed_at-y.result.0 fy in
    let first = c.unsigned_at-more.ensures.read p.more _ narrow.0 h (e ∙ steps_opens p after) in
    let second = c.unsigned_at-code.ensures.read (step_code p.x) _ (code_narrow p.x narrow.1) first.2 first.1 in
    let third = c.signed_at-y.ensures.read p.y after narrow.2 second.2 second.1 in
    let place = c.step_of-x.ensures.read p.x second.0 in
    let same : c.step_code.result ≡ c.unsigned_at-code.result.0 = rw x at c.step_code.ensures.value ∙ (ap step_code place ∙ sym second.0) in
    let ends = c.end_where-next.ensures.all ((Decides-eqb c.step_code.result c.unsigned_at-code.result.0).1 same) in
    (same_repetition _ p first.0 (x ∙ place) (y ∙ third.0), ap (λ n. drop n c.args.bytes.now) ends ∙ third.1, omega (arith, ends, third.2))
