use Rattle.std.proofs.Common.{FitsSigned, w64, rules, ap, ◌+ℤ◌, ◌-ℤ◌, arith}
use Rattle.std.proofs.lemmas.Int.{ints, to_z-of_z}
use Rattle.half_grid.specs.Windows.{RowRange}
use Rattle.deck_plan.proofs.BandNumbers.{near_fits, first_is}
use Rattle.deck_plan.proofs.bands.first_band.Goals as goal

pub unreachable-requires : goal.unreachable-requires
unreachable-requires c =
    let fy : FitsSigned w64 c.y0.result = search rules in
    let fr : FitsSigned w64 c.rows_below.result = search rules in
    let fb : FitsSigned w64 c.args.deck.now.band = search rules in
    let low = c.rows_below.ensures.low in
    let high = c.rows_below.ensures.high in
    let value = c.y0.ensures.value in
    let near = c.requires.near in
    let fd : FitsSigned w64 (c.y0.result -ℤ c.rows_below.result) = near_fits _
    (omega (arith, ints, low, high, value, near.low))
    (omega (arith, ints, low, high, value, near.high, near.window)) in
    let fe : FitsSigned w64 ((c.y0.result -ℤ c.rows_below.result) +ℤ c.args.deck.now.band) = near_fits _
    (omega (arith, ints, low, high, value, near.low, c.requires.some))
    (omega (arith, ints, low, high, value, near.high, near.window, c.requires.few)) in
    let none = simp to_z-of_z at c.in-None.ensures in
    none (omega (arith, ints, c.requires.some))

pub returns-clause-band : goal.returns-clause-band
returns-clause-band c =
    let fy : FitsSigned w64 c.y0.result = search rules in
    let fr : FitsSigned w64 c.rows_below.result = search rules in
    let fb : FitsSigned w64 c.args.deck.now.band = search rules in
    let low = c.rows_below.ensures.low in
    let high = c.rows_below.ensures.high in
    let value = c.y0.ensures.value in
    let near = c.requires.near in
    let fd : FitsSigned w64 (c.y0.result -ℤ c.rows_below.result) = near_fits _
    (omega (arith, ints, low, high, value, near.low))
    (omega (arith, ints, low, high, value, near.high, near.window)) in
    let fe : FitsSigned w64 ((c.y0.result -ℤ c.rows_below.result) +ℤ c.args.deck.now.band) = near_fits _
    (omega (arith, ints, low, high, value, near.low, c.requires.some))
    (omega (arith, ints, low, high, value, near.high, near.window, c.requires.few)) in
    let some = simp to_z-of_z at c.in-Some.ensures in
    first_is c.args.deck.now.band c.args.rows.y0 c.y0.result c.rows_below.result c.in-Some.band c.requires.some value c.rows_below.ensures.value some.1

pub returns-clause-below : goal.returns-clause-below
returns-clause-below c =
    let fy : FitsSigned w64 c.y0.result = search rules in
    let fr : FitsSigned w64 c.rows_below.result = search rules in
    let fb : FitsSigned w64 c.args.deck.now.band = search rules in
    let low = c.rows_below.ensures.low in
    let high = c.rows_below.ensures.high in
    let value = c.y0.ensures.value in
    let near = c.requires.near in
    let fd : FitsSigned w64 (c.y0.result -ℤ c.rows_below.result) = near_fits _
    (omega (arith, ints, low, high, value, near.low))
    (omega (arith, ints, low, high, value, near.high, near.window)) in
    let fe : FitsSigned w64 ((c.y0.result -ℤ c.rows_below.result) +ℤ c.args.deck.now.band) = near_fits _
    (omega (arith, ints, low, high, value, near.low, c.requires.some))
    (omega (arith, ints, low, high, value, near.high, near.window, c.requires.few)) in
    let some = simp to_z-of_z at c.in-Some.ensures in
    let bottom = ap (λ (w : RowRange). w.y0) some.1 in
    omega (arith, ints, bottom, low, value)

pub returns-clause-low : goal.returns-clause-low
returns-clause-low c =
    let fy : FitsSigned w64 c.y0.result = search rules in
    let fr : FitsSigned w64 c.rows_below.result = search rules in
    let fb : FitsSigned w64 c.args.deck.now.band = search rules in
    let low = c.rows_below.ensures.low in
    let high = c.rows_below.ensures.high in
    let value = c.y0.ensures.value in
    let near = c.requires.near in
    let fd : FitsSigned w64 (c.y0.result -ℤ c.rows_below.result) = near_fits _
    (omega (arith, ints, low, high, value, near.low))
    (omega (arith, ints, low, high, value, near.high, near.window)) in
    let fe : FitsSigned w64 ((c.y0.result -ℤ c.rows_below.result) +ℤ c.args.deck.now.band) = near_fits _
    (omega (arith, ints, low, high, value, near.low, c.requires.some))
    (omega (arith, ints, low, high, value, near.high, near.window, c.requires.few)) in
    let some = simp to_z-of_z at c.in-Some.ensures in
    let bottom = ap (λ (w : RowRange). w.y0) some.1 in
    omega (arith, ints, bottom, high, value, near.low)

pub returns-clause-height : goal.returns-clause-height
returns-clause-height c =
    let fy : FitsSigned w64 c.y0.result = search rules in
    let fr : FitsSigned w64 c.rows_below.result = search rules in
    let fb : FitsSigned w64 c.args.deck.now.band = search rules in
    let low = c.rows_below.ensures.low in
    let high = c.rows_below.ensures.high in
    let value = c.y0.ensures.value in
    let near = c.requires.near in
    let fd : FitsSigned w64 (c.y0.result -ℤ c.rows_below.result) = near_fits _
    (omega (arith, ints, low, high, value, near.low))
    (omega (arith, ints, low, high, value, near.high, near.window)) in
    let fe : FitsSigned w64 ((c.y0.result -ℤ c.rows_below.result) +ℤ c.args.deck.now.band) = near_fits _
    (omega (arith, ints, low, high, value, near.low, c.requires.some))
    (omega (arith, ints, low, high, value, near.high, near.window, c.requires.few)) in
    let some = simp to_z-of_z at c.in-Some.ensures in
    let bottom = ap (λ (w : RowRange). w.y0) some.1 in
    let top = ap (λ (w : RowRange). w.y1) some.1 in
    omega (arith, ints, bottom, top)
