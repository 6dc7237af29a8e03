use Rattle.std.proofs.Common.{w64, FitsSigned, refl, map, All, subst, rules, ap, sym, ◌∙◌, ◌∷◌}
use Rattle.std.proofs.lemmas.Int.{to_z-of_z}
use Rattle.std.proofs.lemmas.List.Elements.{All-head, All-tail}
use Rattle.half_grid.specs.Trapezoids.{Trapezoid}
use Rattle.tone_mirror.specs.Mirrors.{mirrored_trapezoid, HasImageWithinReach}
use Rattle.tone_mirror.proofs.images.MirroredStream.next.Goals as goal

pub mirrored-requires : goal.mirrored-requires
mirrored-requires g c =
    let m : FitsSigned w64 c.args.self.now.m = search rules in
    let p = c.requires.1 in
    let first = c.in-Some.ensures.first p.traps p.given in
    simp to_z-of_z (All-head (HasImageWithinReach c.args.self.now.m) c.in-Some.trap first.0
    (subst (All (HasImageWithinReach c.args.self.now.m)) first.1 p.within))

pub returns-in-Some-clause-first : goal.returns-in-Some-clause-first
returns-in-Some-clause-first g c = λ items p.
    let m : FitsSigned w64 c.args.self.now.m = search rules in
    let first = c.in-Some.ensures.first p.traps p.given in
    let image = simp to_z-of_z at c.mirrored.ensures.image in (
      map (mirrored_trapezoid c.args.self.now.m) first.0,
      p.is ∙ ap (map (mirrored_trapezoid c.args.self.now.m)) first.1 ∙ ap
          (λ (z : Trapezoid). z ∷ map (mirrored_trapezoid c.args.self.now.m) first.0) (sym image),
      record {
        traps = first.0;
        given = first.2;
        within = All-tail
            (HasImageWithinReach c.args.self.now.m) c.in-Some.trap first.0
            (subst (All (HasImageWithinReach c.args.self.now.m)) first.1 p.within);
        is = refl;
      },
    )
