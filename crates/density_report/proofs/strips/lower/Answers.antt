use Rattle.std.proofs.Common.{ℤ, sym, subst, ◌+ℤ◌, ◌*ℤ◌, FitsSigned, w64, arith, rules}
use Rattle.std.proofs.lemmas.Int.{ints, to_z-of_z}
use Rattle.density_map.proofs.ForCallers.{fits_near}
use Rattle.density_report.specs.Rows.{IsPart}
use Rattle.density_report.proofs.StripLemmas.{part_of, near_top}
use Rattle.density_report.proofs.strips.lower.Goals as goal

pub row_of-requires-clause-y : goal.row_of-requires-clause-y
row_of-requires-clause-y c =
    let low = c.requires.left.low in
    let high = c.requires.left.high in
    let order = c.requires.left.order in
    let some = c.requires.portion.some in
    let least = c.requires.portion.low in
    let most = c.requires.portion.high in
    let fs : FitsSigned w64 c.args.left.now.mesh.size = search rules in
    let fr : FitsSigned w64 c.args.left.now.row = search rules in
    let fp : FitsSigned w64 c.args.portion.now.rows = search rules in
    let fm : FitsSigned w64 (c.args.left.now.row *ℤ c.args.left.now.mesh.size) = fits_near
    (c.args.left.now.row *ℤ c.args.left.now.mesh.size) (omega (arith, ints, low))
    (omega (arith, ints, order, high)) in
    let ft : FitsSigned w64 ((c.args.left.now.row *ℤ c.args.left.now.mesh.size) +ℤ c.args.portion.now.rows) =
    fits_near ((c.args.left.now.row *ℤ c.args.left.now.mesh.size) +ℤ c.args.portion.now.rows)
    (omega (arith, ints, low, least, some)) (omega (arith, ints, order, high, most)) in
    simp to_z-of_z (near_top c.args.left.now c.args.portion.now c.requires.left c.requires.portion)

pub returns : goal.returns
returns c =
    let left = c.args.left.now in
    let size = left.mesh.size in
    let b = c.requires.left in
    let low = b.low in
    let high = b.high in
    let order = b.order in
    let some = c.requires.portion.some in
    let least = c.requires.portion.low in
    let most = c.requires.portion.high in
    let fs : FitsSigned w64 c.args.left.now.mesh.size = search rules in
    let fr : FitsSigned w64 c.args.left.now.row = search rules in
    let fe : FitsSigned w64 c.args.left.now.end = search rules in
    let fp : FitsSigned w64 c.args.portion.now.rows = search rules in
    let fq : FitsSigned w64 c.row_of.result = search rules in
    let fm : FitsSigned w64 (c.args.left.now.row *ℤ c.args.left.now.mesh.size) = fits_near
    (c.args.left.now.row *ℤ c.args.left.now.mesh.size) (omega (arith, ints, low))
    (omega (arith, ints, order, high)) in
    let ft : FitsSigned w64 ((c.args.left.now.row *ℤ c.args.left.now.mesh.size) +ℤ c.args.portion.now.rows) =
    fits_near ((c.args.left.now.row *ℤ c.args.left.now.mesh.size) +ℤ c.args.portion.now.rows)
    (omega (arith, ints, low, least, some)) (omega (arith, ints, order, high, most)) in
    let from = simp to_z-of_z at c.row_of.ensures.from in
    let below = simp to_z-of_z at c.row_of.ensures.below in
    let fx : FitsSigned w64 c.min.result = search rules in
    let e = simp to_z-of_z at c.min.ensures.value in
    simp to_z-of_z (subst (λ (z : ℤ). IsPart c.args.left.now (record { mesh = c.args.left.now.mesh; row = c.args.left.now.row; end = z })) (sym e)
    (part_of c.args.left.now c.args.portion.now c.row_of.result b c.requires.some c.requires.portion from below))
