use Rattle.std.proofs.Common.{◌≡◌, ◌∙◌, sym, subst, refl}
use Rattle.half_grid.specs.Lines.{first_strip}
use Rattle.half_grid.specs.Reach.{IsWithinReach}
use Rattle.half_grid.specs.declared.plane.Line.{Line}
use Rattle.half_grid.specs.declared.plane.Line.TheVariants.{Rising, Falling}
use Rattle.column_sweep.proofs.Halving.{rising_level, falling_level, same_line}
use Rattle.column_sweep.proofs.parting.passing.Goals as goal

pub returns-in-Rising-clause-rising : goal.returns-in-Rising-clause-rising
returns-in-Rising-clause-rising c = λ d is.
    let same : c.in-Rising.c ≡ d = same_line c.in-Rising.c d (Rising c.in-Rising.c) (Rising d) refl refl (sym c.in-Rising.is ∙ is) in
    let within : IsWithinReach c.in-Rising.c = subst (λ (l : Line). IsWithinReach (first_strip l)) c.in-Rising.is c.requires.line in
    rw (sym same) (rising_level c.args.cut.x c.in-Rising.c c.requires.cut within)

pub returns-in-Falling-clause-falling : goal.returns-in-Falling-clause-falling
returns-in-Falling-clause-falling c = λ d is.
    let same : c.in-Falling.c ≡ d = same_line c.in-Falling.c d (Falling c.in-Falling.c) (Falling d) refl refl (sym c.in-Falling.is ∙ is) in
    let within : IsWithinReach c.in-Falling.c = subst (λ (l : Line). IsWithinReach (first_strip l)) c.in-Falling.is c.requires.line in
    rw (sym same) (falling_level c.args.cut.x c.in-Falling.c c.requires.cut within)
