use Rattle.std.proofs.Common.{inl, inr, refl, sym, ◌∙◌}
use Rattle.oas_reader.proofs.plain.look_at_rectangle.Goals as goal

pub returns-then-not-is_near-clause-bad : goal.returns-then-not-is_near-clause-bad
returns-then-not-is_near-clause-bad c = λ bytes.
    inr (inl (
      sym c.first_undefined.ensures ∙ c.in_default.is,
      (λ near. let true_is = c.is_near.ensures.1 near.geometry in let false_is = c.if-not-is_near.true in absurd (cc)),
      refl,
    ))
