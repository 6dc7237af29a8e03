use Rattle.std.proofs.Common.{◌≡◌, ℕ, ◌+◌, ◌-◌, ◌/◌, ◌<◌, pos, true, false, Some, length, get_or, slice_get, sym, ◌∙◌, arith}
use Rattle.std.proofs.lemmas.Option.{slice_get-get_or}
use Rattle.cell_tree.specs.HullTables.{is_before}
use Rattle.cell_tree.specs.declared.hulls.PairHull.{PairHull}
use Rattle.cell_tree.proofs.HullLemmas.{all_below, none_above}
use Rattle.cell_tree.proofs.hulls.rank.Goals as goal

zero : PairHull
zero = record { pair = record { layer = 0; datatype = 0 }; hull = record { x0 = pos 0; y0 = pos 0; x1 = pos 0; y1 = pos 0 } }

pub loop-low-preserved-then-is_before : goal.loop-low-preserved-then-is_before
unfolding zero
loop-low-preserved-then-is_before c =
    let hulls = c.args.hulls.now in let low = c.loop-low.low in let high = c.loop-low.high in let m : ℕ = low + (high - low) / 2 in
    let less = c.loop-low-test.true in let i = c.loop-low.invariant in
    let inside : m < high = omega arith in
    let within : m < length hulls = omega (arith, i.1) in
    let mid : slice_get hulls m ≡ Some (get_or hulls m zero) = slice_get-get_or hulls m zero within in
    let e : is_before (get_or hulls m zero).pair c.args.pair ≡ true = sym c.is_before.ensures ∙ c.if-is_before.true in
    (omega arith, i.1, all_below hulls c.args.pair m (get_or hulls m zero) c.requires mid e, i.3)

pub loop-low-preserved : goal.loop-low-preserved
unfolding zero
loop-low-preserved c =
    let hulls = c.args.hulls.now in let low = c.loop-low.low in let high = c.loop-low.high in let m : ℕ = low + (high - low) / 2 in
    let less = c.loop-low-test.true in let i = c.loop-low.invariant in
    let inside : m < high = omega arith in
    let within : m < length hulls = omega (arith, i.1) in
    let mid : slice_get hulls m ≡ Some (get_or hulls m zero) = slice_get-get_or hulls m zero within in
    let e : is_before (get_or hulls m zero).pair c.args.pair ≡ false = sym c.is_before.ensures ∙ c.if-is_before.false in
    (omega arith, omega (arith, i.1), i.2, none_above hulls c.args.pair m (get_or hulls m zero) c.requires mid e)
