use Rattle.std.proofs.Common.{IsTrue, false, refl}
use Rattle.oas_shapes.specs.Lattices.{places_of}
use Rattle.oas_shapes.proofs.NearLemmas.{all_halves, halves_all}
use Rattle.oas_shapes.proofs.lattices.Lattice.offsets.Goals as goal

pub returns-then-not-is_near-clause-far : goal.returns-then-not-is_near-clause-far
returns-then-not-is_near-clause-far c = λ e near.
    let no : IsTrue false = c.if-not-is_near.ensures.1 (halves_all (places_of c.args.self) near) in absurd (cc)

pub returns-then-not-is_allowed-clause-many : goal.returns-then-not-is_allowed-clause-many
returns-then-not-is_allowed-clause-many c = λ e. (all_halves (places_of c.args.self) (c.if-not-is_near.ensures.0 refl), cc)

pub returns-clause-unkept : goal.returns-clause-unkept
returns-clause-unkept c = λ e. (all_halves (places_of c.args.self) (c.if-not-is_near.ensures.0 refl), cc)
