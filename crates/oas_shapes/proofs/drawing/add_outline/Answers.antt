use Rattle.std.proofs.Common.{sym, subst}
use Rattle.std.specs.Prelude.{option_copied}
use Rattle.oas_shapes.specs.Rules.{AreNear, KeepsShape, IsLowest}
use Rattle.oas_shapes.specs.Sketches.{points_of}
use Rattle.oas_shapes.proofs.drawing.add_outline.Goals as goal

pub add-requires-in-Four-clause-near : goal.add-requires-in-Four-clause-near
add-requires-in-Four-clause-near c = subst (λ o. AreNear (points_of o)) c.in-Four.is c.requires.near

pub returns-in-Three-clause-broken : goal.returns-in-Three-clause-broken
returns-in-Three-clause-broken c = λ rule e.
    subst (λ o. IsLowest (KeepsShape (points_of o) (option_copied c.args.repetition)) rule) (sym c.in-Three.is) (c.add.ensures.broken rule e)

pub returns-in-Four-clause-broken : goal.returns-in-Four-clause-broken
returns-in-Four-clause-broken c = λ rule e.
    subst (λ o. IsLowest (KeepsShape (points_of o) (option_copied c.args.repetition)) rule) (sym c.in-Four.is) (c.add-in-Four.ensures.broken rule e)

pub returns-in-Three-clause-memory : goal.returns-in-Three-clause-memory
returns-in-Three-clause-memory c = λ short wanting rule.
    subst (λ o. KeepsShape (points_of o) (option_copied c.args.repetition) rule) (sym c.in-Three.is) (c.add.ensures.memory short wanting rule)

pub returns-in-Four-clause-memory : goal.returns-in-Four-clause-memory
returns-in-Four-clause-memory c = λ short wanting rule.
    subst (λ o. KeepsShape (points_of o) (option_copied c.args.repetition) rule) (sym c.in-Four.is) (c.add-in-Four.ensures.memory short wanting rule)
