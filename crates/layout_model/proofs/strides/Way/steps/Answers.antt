use Rattle.std.proofs.Common.{FitsSigned, w64, rules, arith}
use Rattle.std.proofs.lemmas.Int.{ints, to_z-of_z}
use Rattle.layout_model.proofs.StrideLemmas.{steps_by}
use Rattle.layout_model.proofs.strides.Way.steps.Goals as goal

pub returns : goal.returns
returns c = λ n.
    let length : FitsSigned w64 c.args.self.length = search rules in
    let pace : FitsSigned w64 c.args.self.pace = search rules in
    let far = c.if-self-le0.false in
    rw (to_z-of_z w64 c.args.self.length length, to_z-of_z w64 c.args.self.pace pace)
    (steps_by c.args.self.length c.args.self.pace n (omega (arith, ints, far)) c.requires.pace)
