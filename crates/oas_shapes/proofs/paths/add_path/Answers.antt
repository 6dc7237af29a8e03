use Rattle.std.proofs.Common.{◌≡◌, Err, ap}
use Rattle.oas_shapes.specs.declared.drawing.Undrawn.TheVariants.{Rule}
use Rattle.oas_shapes.proofs.paths.add_path.Goals as goal

pub returns-in-Err-clause-broken : goal.returns-in-Err-clause-broken
returns-in-Err-clause-broken c = λ rule e. c.in-Err.ensures.broken rule (let bad : c.in-Err.bad ≡ Rule rule = cc in ap Err bad)
