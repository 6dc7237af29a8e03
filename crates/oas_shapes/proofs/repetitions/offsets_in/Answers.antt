use Rattle.std.proofs.Common.{subst}
use Rattle.std.specs.Prelude.{option_copied}
use Rattle.oas_shapes.specs.Repetitions.{offsets_in}
use Rattle.oas_shapes.specs.Rules.{AreNear}
use Rattle.oas_shapes.specs.Short.{IsShortIn}
use Rattle.oas_shapes.proofs.repetitions.offsets_in.Goals as goal

pub returns-in-Some-clause-far : goal.returns-in-Some-clause-far
returns-in-Some-clause-far c = λ e near. c.offsets.ensures.far e (subst (λ r. AreNear (offsets_in (option_copied r))) c.in-Some.is near)

pub returns-in-Some-clause-few : goal.returns-in-Some-clause-few
returns-in-Some-clause-few c = λ short. c.offsets.ensures.few (subst (λ r. IsShortIn (option_copied r)) c.in-Some.is short)
