use Rattle.std.proofs.Common.{rules, FitsSigned, w64}
use Rattle.std.proofs.lemmas.Int.{to_z-of_z}
use Rattle.gds_reader.proofs.elements.quarter_turns.Goals as goal
use Rattle.gds_reader.proofs.RealFacts.{turns_both, turns_value}

pub returns-in-Some-clause-some : goal.returns-in-Some-clause-some
returns-in-Some-clause-some c =
    let fits : FitsSigned w64 c.in-Some.degrees = search rules in
    turns_both c.args.bits c.in-Some.degrees c.turns_in.result ((c.real_whole.ensures c.in-Some.degrees).0 c.in-Some.is)
    (simp to_z-of_z at c.turns_in.ensures.some) (simp to_z-of_z at c.turns_in.ensures.none)

pub returns-in-Some-clause-value : goal.returns-in-Some-clause-value
returns-in-Some-clause-value c =
    let fits : FitsSigned w64 c.in-Some.degrees = search rules in
    turns_value c.args.bits c.in-Some.degrees c.turns_in.result
    ((c.real_whole.ensures c.in-Some.degrees).0 c.in-Some.is) (simp to_z-of_z at c.turns_in.ensures.some)
