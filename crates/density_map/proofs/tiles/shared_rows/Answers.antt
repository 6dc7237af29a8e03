use Rattle.std.proofs.Common.{ℤ, FitsSigned, w64, arith, rules, ap, ◌∙◌}
use Rattle.std.proofs.lemmas.Int.{ints, to_z-of_z}
use Rattle.std.specs.Int.{int_min, int_max}
use Rattle.density_map.proofs.ClipLemmas.{shared_is}
use Rattle.density_map.proofs.tiles.shared_rows.Goals as goal

pub returns-clause-rows : goal.returns-clause-rows
returns-clause-rows c =
    let f0 : FitsSigned w64 c.y0.result = search rules in
    let f1 : FitsSigned w64 c.y1.result = search rules in
    let g0 : FitsSigned w64 c.args.frame.now.y0 = search rules in
    let g1 : FitsSigned w64 c.args.frame.now.y1 = search rules in
    let m0 : FitsSigned w64 c.max-y0.result = search rules in
    let m1 : FitsSigned w64 c.min-y1.result = search rules in
    let low = simp to_z-of_z at c.max-y0.ensures.value in
    let high = simp to_z-of_z at c.min-y1.ensures.value in
    let test = simp to_z-of_z at c.if-y1-y0.false in
    let new = simp to_z-of_z at c.new.ensures in
    shared_is c.new.result c.args.trap.now c.args.frame.now c.max-y0.result c.min-y1.result
    (low ∙ ap (λ (y : ℤ). int_max y c.args.frame.now.y0) c.y0.ensures.value)
    (high ∙ ap (λ (y : ℤ). int_min y c.args.frame.now.y1) c.y1.ensures.value)
    (omega (arith, ints, test)) new
