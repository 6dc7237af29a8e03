use Rattle.std.proofs.Common.{◌≡◌, ◌≤◌, ◌-◌, ◌∙◌, refl, sym, ap, subst, arith}
use Rattle.layout_model.specs.Images.{moved, enlarged}
use Rattle.oas_shapes.specs.Plane.{IsNearInSteps}
use Rattle.oas_shapes.specs.Ways.{way_of}
use Rattle.oas_shapes.proofs.LatticeLemmas.{all_near, across_near, upward_near, both_near}
use Rattle.oas_shapes.proofs.lattices.Lattice.is_near.Goals as goal

pub returns-in_default : goal.returns-in_default
returns-in_default c = (
  λ no. absurd (cc),
  λ all.
      let l = c.args.self in
      let some : 1 ≤ l.nu = omega arith in
      let more : 1 ≤ l.nv = omega arith in
      absurd (c.in_default.ensures.none (across_near l.nu l.nv (way_of l.u) (way_of l.v) some more all)),
)

pub returns-in_default-last : goal.returns-in_default-last
returns-in_default-last c = (
  λ no. absurd (cc),
  λ all.
      let l = c.args.self in
      let some : 1 ≤ l.nu = omega arith in
      let more : 1 ≤ l.nv = omega arith in
      absurd (c.in_default-last.ensures.none (upward_near l.nu l.nv (way_of l.u) (way_of l.v) some more all)),
)

pub returns-in_default-moved : goal.returns-in_default-moved
returns-in_default-moved c = (
  λ no. absurd (cc),
  λ all.
      let l = c.args.self in
      let some : 1 ≤ l.nu = omega arith in
      let more : 1 ≤ l.nv = omega arith in
      let across = c.in-Some.ensures.some.0 in
      let upward = c.in-Some-last.ensures.some.0 in
      let corner : moved c.in-Some.across (way_of c.widened.result) ≡ moved (enlarged (l.nu - 1) (way_of l.u)) (enlarged (l.nv - 1) (way_of l.v)) =
      ap (λ q. moved c.in-Some.across q) (c.widened.ensures ∙ upward) ∙ ap (λ p. moved p (enlarged (l.nv - 1) (way_of l.v))) across in
      absurd (c.in_default-moved.ensures.none (subst IsNearInSteps (sym corner) (both_near l.nu l.nv (way_of l.u) (way_of l.v) some more all))),
)

pub returns : goal.returns
returns c = (
  λ yes.
      let l = c.args.self in
      let some : 1 ≤ l.nu = omega arith in
      let across = c.in-Some.ensures.some in
      let upward = c.in-Some-last.ensures.some in
      let corner = c.in-Some-moved.ensures.some in
      let last =
      corner.0 ∙ ap (λ q. moved c.in-Some.across q) (c.widened.ensures ∙ upward.0)
      ∙ ap (λ p. moved p (enlarged (l.nv - 1) (way_of l.v))) across.0 in
      all_near l.nu l.nv (way_of l.u) (way_of l.v) some (subst IsNearInSteps across.0 across.1) (subst IsNearInSteps upward.0 upward.1)
      (subst IsNearInSteps last corner.1),
  λ all. refl,
)
