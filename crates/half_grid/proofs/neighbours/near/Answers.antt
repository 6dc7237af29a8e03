use Rattle.std.proofs.Common.{rules, refl, w64, FitsSigned}
use Rattle.std.proofs.lemmas.Int.{to_z-of_z}
use Rattle.half_grid.specs.Tiles.{strips_of}
use Rattle.half_grid.proofs.neighbours.near.Goals as goal

pub returns-then-not-differ_at_most : goal.returns-then-not-differ_at_most
unfolding strips_of
returns-then-not-differ_at_most c =
    let width : FitsSigned w64 c.args.dx = c.ranges.dx in
    let first_i : FitsSigned w64 c.strips-first.result.i = search rules in
    let second_i : FitsSigned w64 c.strips-second.result.i = search rules in
    let columns = rw (c.strips-first.ensures, c.strips-second.ensures) at (simp to_z-of_z at c.if-not-differ_at_most.ensures) in
    (λ h. absurd (let clash : ⊥ = cc in clash), λ h. columns.1 h.columns)

pub returns-then-not-differ_at_most-2 : goal.returns-then-not-differ_at_most-2
unfolding strips_of
returns-then-not-differ_at_most-2 c =
    let height : FitsSigned w64 c.args.dy = c.ranges.dy in
    let first_j : FitsSigned w64 c.strips-first.result.j = search rules in
    let second_j : FitsSigned w64 c.strips-second.result.j = search rules in
    let rows = rw (c.strips-first.ensures, c.strips-second.ensures) at (simp to_z-of_z at c.if-not-differ_at_most-2.ensures) in
    (λ h. absurd (let clash : ⊥ = cc in clash), λ h. rows.1 h.rows)

pub returns-then-not-differ_at_most-3 : goal.returns-then-not-differ_at_most-3
unfolding strips_of
returns-then-not-differ_at_most-3 c =
    let width : FitsSigned w64 c.args.dx = c.ranges.dx in
    let height : FitsSigned w64 c.args.dy = c.ranges.dy in
    let diagonal : FitsSigned w64 c.half_sum-diagonal.result = search rules in
    let half_is = simp to_z-of_z at c.half_sum-diagonal.ensures in
    let first_p : FitsSigned w64 c.strips-first.result.p = search rules in
    let second_p : FitsSigned w64 c.strips-second.result.p = search rules in
    let sums = rw (half_is, c.strips-first.ensures, c.strips-second.ensures) at (simp to_z-of_z at c.if-not-differ_at_most-3.ensures) in
    (λ h. absurd (let clash : ⊥ = cc in clash), λ h. sums.1 h.sums)

pub returns : goal.returns
unfolding strips_of
returns c =
    let width : FitsSigned w64 c.args.dx = c.ranges.dx in
    let height : FitsSigned w64 c.args.dy = c.ranges.dy in
    let diagonal : FitsSigned w64 c.half_sum-diagonal.result = search rules in
    let half_is = simp to_z-of_z at c.half_sum-diagonal.ensures in
    let first_i : FitsSigned w64 c.strips-first.result.i = search rules in
    let second_i : FitsSigned w64 c.strips-second.result.i = search rules in
    let first_j : FitsSigned w64 c.strips-first.result.j = search rules in
    let second_j : FitsSigned w64 c.strips-second.result.j = search rules in
    let first_p : FitsSigned w64 c.strips-first.result.p = search rules in
    let second_p : FitsSigned w64 c.strips-second.result.p = search rules in
    let first_q : FitsSigned w64 c.strips-first.result.q = search rules in
    let second_q : FitsSigned w64 c.strips-second.result.q = search rules in
    let columns = rw (c.strips-first.ensures, c.strips-second.ensures) at (simp to_z-of_z at c.if-not-differ_at_most.ensures) in
    let rows = rw (c.strips-first.ensures, c.strips-second.ensures) at (simp to_z-of_z at c.if-not-differ_at_most-2.ensures) in
    let sums = rw (half_is, c.strips-first.ensures, c.strips-second.ensures) at (simp to_z-of_z at c.if-not-differ_at_most-3.ensures) in
    let differences = rw (half_is, c.strips-first.ensures, c.strips-second.ensures) at (simp to_z-of_z at c.differ_at_most-4.ensures) in
    (λ h. record { columns = columns.0 refl; rows = rows.0 refl; sums = sums.0 refl; differences = differences.0 h }, λ h. differences.1 h.differences)
