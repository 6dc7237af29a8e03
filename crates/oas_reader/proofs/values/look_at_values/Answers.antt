use Rattle.std.proofs.Common.{inl, inr, refl, sym, ◌∙◌}
use Rattle.oas_reader.proofs.values.look_at_values.Goals as goal

pub returns-then-not-positions_are_near-clause-bad :
    goal.returns-then-not-positions_are_near-clause-bad
returns-then-not-positions_are_near-clause-bad c =
    inr (inl (
      sym c.first_undefined.ensures ∙ c.in_default.is,
      (λ near. let true_is = c.positions_are_near.ensures.1 near in let false_is =
          c.if-not-positions_are_near.true in absurd (cc)),
      refl,
    ))
