use Rattle.std.proofs.Common.{◌∙◌, sym, w64, FitsSigned, rules}
use Rattle.std.proofs.lemmas.Int.{to_z-of_z}
use Rattle.half_grid.proofs.LineLemmas.{bits_differ, line_of_rising, line_of_falling, line_of_no}
use Rattle.half_grid.proofs.outline.find_line.Goals as goal

pub returns-then-share_rising : goal.returns-then-share_rising
returns-then-share_rising c =
    let fits : FitsSigned w64 c.half_difference.result = search rules in
    let x : FitsSigned w64 c.args.a.x = search rules in
    let y : FitsSigned w64 c.args.a.y = search rules in
    let half_is = simp to_z-of_z at c.half_difference.ensures in
    line_of_rising c.args.a c.args.b _ (bits_differ w64 c.args.a.y c.args.b.y c.if-a-b.false)
    (bits_differ w64 c.args.a.x c.args.b.x c.if-a-b-2.false) (sym c.share_rising.ensures ∙ c.if-share_rising.true)
    (to_z-of_z w64 c.half_difference.result fits ∙ half_is)

pub returns-then-share_falling : goal.returns-then-share_falling
returns-then-share_falling c =
    let fits : FitsSigned w64 c.half_sum.result = search rules in
    let x : FitsSigned w64 c.args.a.x = search rules in
    let y : FitsSigned w64 c.args.a.y = search rules in
    let half_is = simp to_z-of_z at c.half_sum.ensures in
    line_of_falling c.args.a c.args.b _ (bits_differ w64 c.args.a.y c.args.b.y c.if-a-b.false)
    (bits_differ w64 c.args.a.x c.args.b.x c.if-a-b-2.false) (sym c.share_rising.ensures ∙ c.if-share_rising.false)
    (sym c.share_falling.ensures ∙ c.if-share_falling.true)
    (to_z-of_z w64 c.half_sum.result fits ∙ half_is)

pub returns : goal.returns
returns c =
    line_of_no c.args.a c.args.b (bits_differ w64 c.args.a.y c.args.b.y c.if-a-b.false)
    (bits_differ w64 c.args.a.x c.args.b.x c.if-a-b-2.false) (sym c.share_rising.ensures ∙ c.if-share_rising.false)
    (sym c.share_falling.ensures ∙ c.if-share_falling.false)
