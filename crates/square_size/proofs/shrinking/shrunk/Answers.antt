use Rattle.std.proofs.Common.{arith, pos, ◌≤ℤ◌, w64, FitsSigned}
use Rattle.std.proofs.lemmas.Int.{ints, to_z-of_z}
use Rattle.square_size.proofs.ShrinkLemmas.{shrunk_is_inner}
use Rattle.square_size.proofs.shrinking.shrunk.Goals as goal

pub returns : goal.returns
returns c = λ t.
    let d : FitsSigned w64 c.args.d = c.ranges.d in
    let value = simp to_z-of_z at c.inner.ensures.value in
    let found = rw value at (c.legal_part.ensures t) in
    let positive : pos 0 ≤ℤ c.args.d = omega (arith, ints) in
    let same = shrunk_is_inner c.args.d c.args.trap.now t positive in
    (λ h. found.0 (same.0 h), λ h. same.1 (found.1 h))
