use Rattle.std.proofs.Common.{w64, FitsSigned, refl, map, List, All, subst}
use Rattle.std.proofs.lemmas.Int.{to_z-of_z}
use Rattle.half_grid.specs.Trapezoids.{Trapezoid}
use Rattle.tone_mirror.specs.Mirrors.{mirrored_trapezoid, HasImageWithinReach}
use Rattle.tone_mirror.proofs.images.Mirrored.new.Goals as goal

pub returns-clause-some_list : goal.returns-clause-some_list
returns-clause-some_list g c =
    let m : FitsSigned w64 c.args.m = c.ranges.m in
    simp to_z-of_z (map (mirrored_trapezoid c.args.m) c.requires.0, record { traps = c.requires.0; given = c.requires.1; within = c.requires.2; is = refl })

pub returns-clause-list : goal.returns-clause-list
returns-clause-list g c = λ traps stands.
    let m : FitsSigned w64 c.args.m = c.ranges.m in
    let within = subst (λ (zs : List Trapezoid). All (HasImageWithinReach c.args.m) zs)
    (g.met.S.Stream.one_list c.args.source c.requires.0 traps c.requires.1 stands) c.requires.2 in
    simp to_z-of_z (record { traps = traps; given = stands; within = within; is = refl })
