use Rattle.std.proofs.Common.{rules, FitsSigned, w64}
use Rattle.std.specs.Prelude.{pos}
use Rattle.std.proofs.lemmas.Int.{to_z-of_z}
use Rattle.gds_reader.proofs.elements.factor_of.Goals as goal
use Rattle.gds_reader.proofs.RealFacts.{factor_both, factor_value}

pub returns-in-Some-clause-some : goal.returns-in-Some-clause-some
returns-in-Some-clause-some c =
    let fits : FitsSigned w64 c.in-Some.n = search rules in
    factor_both c.args.bits c.in-Some.n c.factor_in.result ((c.real_whole.ensures c.in-Some.n).0 c.in-Some.is)
    (simp to_z-of_z at c.factor_in.ensures.some) (simp to_z-of_z at c.factor_in.ensures.none)

pub returns-in-Some-clause-value : goal.returns-in-Some-clause-value
returns-in-Some-clause-value c =
    let fits : FitsSigned w64 c.in-Some.n = search rules in
    factor_value c.args.bits c.in-Some.n c.factor_in.result ((c.real_whole.ensures c.in-Some.n).0 c.in-Some.is) (simp to_z-of_z at c.factor_in.ensures.some)

pub returns-in-None-clause-some : goal.returns-in-None-clause-some
returns-in-None-clause-some c =
    (λ s. absurd (cc), λ f. absurd (let h = (c.real_whole.ensures (pos f.0)).1 f.1 in cc))
