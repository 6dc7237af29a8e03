use Rattle.std.proofs.Common.{◌^◌, ◌≤◌, ◌-ℤ◌, FitsSigned, w64, arith, rules}
use Rattle.density_map.specs.Frames.{natural}
use Rattle.std.proofs.lemmas.Int.{ints, to_z-of_z}
use Rattle.density_map.proofs.WedgeLemmas.{rising_is, falling_is, upright_is, product_small}
use Rattle.density_map.proofs.Numbers.{natural_is}
use Rattle.density_map.proofs.tiles.tiles_before.Goals as goal

pub overflow_mul-result : goal.overflow_mul-result
overflow_mul-result c =
    let wide : c.from.result ≤ 2 ^ 47 = omega (arith, c.from.ensures, c.beyond-bottom.ensures.small) in
    let rows = natural_is (c.args.rows.y1 -ℤ c.args.rows.y0) (omega (arith, ints, c.y0.ensures.window)) in
    let high : c.height_of.result ≤ 2 ^ 45 = omega (arith, ints, c.height_of.ensures, rows, c.requires.line.low.low, c.requires.line.high.high) in
    let product = product_small c.from.result c.height_of.result (2 ^ 47) (2 ^ 45) wide high in
    omega (arith, product)

pub overflow_sub-result : goal.overflow_sub-result
overflow_sub-result c =
    let fx : FitsSigned w64 c.args.x = search rules in
    let f0 : FitsSigned w64 c.y0.result = search rules in
    let f1 : FitsSigned w64 c.y1.result = search rules in
    let bottom = simp to_z-of_z at c.beyond-bottom.ensures.value in
    let top = simp to_z-of_z at c.beyond-top.ensures.value in
    (rising_is c.args.line c.in-Rising.field-0 c.args.x c.args.rows.y0 c.args.rows.y1 c.y0.result c.y1.result c.beyond-bottom.result c.beyond-top.result
    c.squared-in-Rising.result c.squared.result c.in-Rising.is c.y0.ensures.window c.y0.ensures.value c.y1.ensures.value
    bottom top c.squared-in-Rising.ensures.value c.squared.ensures.value).order

pub returns-in-Rising-clause-value : goal.returns-in-Rising-clause-value
returns-in-Rising-clause-value c =
    let fx : FitsSigned w64 c.args.x = search rules in
    let f0 : FitsSigned w64 c.y0.result = search rules in
    let f1 : FitsSigned w64 c.y1.result = search rules in
    let bottom = simp to_z-of_z at c.beyond-bottom.ensures.value in
    let top = simp to_z-of_z at c.beyond-top.ensures.value in
    (rising_is c.args.line c.in-Rising.field-0 c.args.x c.args.rows.y0 c.args.rows.y1 c.y0.result c.y1.result c.beyond-bottom.result c.beyond-top.result
    c.squared-in-Rising.result c.squared.result c.in-Rising.is c.y0.ensures.window c.y0.ensures.value c.y1.ensures.value
    bottom top c.squared-in-Rising.ensures.value c.squared.ensures.value).value

pub overflow_sub-result-in-Falling : goal.overflow_sub-result-in-Falling
overflow_sub-result-in-Falling c =
    let fx : FitsSigned w64 c.args.x = search rules in
    let f0 : FitsSigned w64 c.y0.result = search rules in
    let f1 : FitsSigned w64 c.y1.result = search rules in
    let bottom = simp to_z-of_z at c.beyond-bottom.ensures.value in
    let top = simp to_z-of_z at c.beyond-top.ensures.value in
    (falling_is c.args.line c.in-Falling.field-0 c.args.x c.args.rows.y0 c.args.rows.y1 c.y0.result c.y1.result c.beyond-bottom.result c.beyond-top.result
    c.squared-in-Falling.result c.squared-in-Falling-2.result c.in-Falling.is c.y0.ensures.window c.y0.ensures.value c.y1.ensures.value
    bottom top c.squared-in-Falling.ensures.value c.squared-in-Falling-2.ensures.value).order

pub returns-in-Falling-clause-value : goal.returns-in-Falling-clause-value
returns-in-Falling-clause-value c =
    let fx : FitsSigned w64 c.args.x = search rules in
    let f0 : FitsSigned w64 c.y0.result = search rules in
    let f1 : FitsSigned w64 c.y1.result = search rules in
    let bottom = simp to_z-of_z at c.beyond-bottom.ensures.value in
    let top = simp to_z-of_z at c.beyond-top.ensures.value in
    (falling_is c.args.line c.in-Falling.field-0 c.args.x c.args.rows.y0 c.args.rows.y1 c.y0.result c.y1.result c.beyond-bottom.result c.beyond-top.result
    c.squared-in-Falling.result c.squared-in-Falling-2.result c.in-Falling.is c.y0.ensures.window c.y0.ensures.value c.y1.ensures.value
    bottom top c.squared-in-Falling.ensures.value c.squared-in-Falling-2.ensures.value).value

pub returns-in-Upright-clause-value : goal.returns-in-Upright-clause-value
returns-in-Upright-clause-value c =
    let fx : FitsSigned w64 c.args.x = search rules in
    let f0 : FitsSigned w64 c.y0.result = search rules in
    let bottom = simp to_z-of_z at c.beyond-bottom.ensures.value in
    upright_is c.args.line c.in-Upright.field-0 c.args.x c.args.rows.y0 c.y0.result
    (natural (c.args.rows.y1 -ℤ c.args.rows.y0)) c.height_of.result c.beyond-bottom.result c.from.result
    c.in-Upright.is c.height_of.ensures bottom c.from.ensures

pub returns-in-Upright-clause-small : goal.returns-in-Upright-clause-small
returns-in-Upright-clause-small c =
    let wide : c.from.result ≤ 2 ^ 47 = omega (arith, c.from.ensures, c.beyond-bottom.ensures.small) in
    let rows = natural_is (c.args.rows.y1 -ℤ c.args.rows.y0) (omega (arith, ints, c.y0.ensures.window)) in
    let high : c.height_of.result ≤ 2 ^ 45 = omega (arith, ints, c.height_of.ensures, rows, c.requires.line.low.low, c.requires.line.high.high) in
    let product = product_small c.from.result c.height_of.result (2 ^ 47) (2 ^ 45) wide high in
    omega (arith, product)
