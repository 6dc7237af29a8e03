use Rattle.std.proofs.Common.{◌≡◌, subst, arith}
use Rattle.layout_model.specs.Slants.{IsFirstSlant}
use Rattle.layout_model.proofs.SlantLemmas.{one_slant, no_slant}
use Rattle.layout_model.proofs.kept.KeptShape.new.Goals as goal

pub returns-in-Some-clause-slant : goal.returns-in-Some-clause-slant
returns-in-Some-clause-slant c k = (
  λ e. (let same : c.in-Some.k ≡ k = cc in subst (IsFirstSlant c.args.points.now) same c.in-Some.ensures.some),
  λ s. (let same : c.in-Some.k ≡ k = one_slant c.args.points.now c.in-Some.k k c.in-Some.ensures.some s in cc),
)

pub returns-in_err-kept-clause-slant : goal.returns-in_err-kept-clause-slant
returns-in_err-kept-clause-slant c k = (
  λ e. absurd (grind (arith, c.from_residual.ensures)),
  λ s. absurd (no_slant c.args.points.now k c.in_default.ensures.none s),
)

pub returns-clause-slant : goal.returns-clause-slant
returns-clause-slant c k = (
  λ e. absurd cc,
  λ s. absurd (no_slant c.args.points.now k c.in_default.ensures.none s),
)
