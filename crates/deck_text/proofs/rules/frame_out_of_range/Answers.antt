use Rattle.std.proofs.Common.{FitsSigned, w64, rules, sym, ◌∙◌}
use Rattle.std.specs.Prelude.{pos, ◌+ℤ◌}
use Rattle.std.proofs.lemmas.Int.{to_z-of_z}
use Rattle.deck_text.proofs.RangeLemmas.{reach_next, third_outside, fourth_outside}
use Rattle.deck_text.proofs.rules.frame_out_of_range.Goals as goal

pub returns-then-is_outside-3 : goal.returns-then-is_outside-3
returns-then-is_outside-3 c =
    let f = c.args.frame.now in
    let x0_fits : FitsSigned w64 c.args.frame.now.x0 = search rules in
    let y0_fits : FitsSigned w64 c.args.frame.now.y0 = search rules in
    let x1_fits : FitsSigned w64 c.args.frame.now.x1 = search rules in
    let first = simp to_z-of_z at c.is_outside.ensures in
    let second = simp to_z-of_z at c.is_outside-2.ensures in
    let next : FitsSigned w64 (c.args.frame.now.x0 +ℤ pos 1) = reach_next f.x0 (sym first ∙ c.if-is_outside.false) in
    let third = simp to_z-of_z at c.is_outside-3.ensures in
    simp to_z-of_z (third_outside f.x0 f.y0 f.x1 f.y1 (sym first ∙ c.if-is_outside.false)
    (sym second ∙ c.if-is_outside-2.false) (sym third ∙ c.if-is_outside-3.true))

pub returns : goal.returns
returns c =
    let f = c.args.frame.now in
    let x0_fits : FitsSigned w64 c.args.frame.now.x0 = search rules in
    let y0_fits : FitsSigned w64 c.args.frame.now.y0 = search rules in
    let x1_fits : FitsSigned w64 c.args.frame.now.x1 = search rules in
    let y1_fits : FitsSigned w64 c.args.frame.now.y1 = search rules in
    let first = simp to_z-of_z at c.is_outside.ensures in
    let second = simp to_z-of_z at c.is_outside-2.ensures in
    let next : FitsSigned w64 (c.args.frame.now.x0 +ℤ pos 1) = reach_next f.x0 (sym first ∙ c.if-is_outside.false) in
    let over : FitsSigned w64 (c.args.frame.now.y0 +ℤ pos 1) = reach_next f.y0 (sym second ∙ c.if-is_outside-2.false) in
    let third = simp to_z-of_z at c.is_outside-3.ensures in
    let fourth = simp to_z-of_z at c.outside.ensures in
    fourth ∙ fourth_outside f.x0 f.y0 f.x1 f.y1 (sym first ∙ c.if-is_outside.false) (sym second ∙ c.if-is_outside-2.false) (sym third ∙ c.if-is_outside-3.false)
