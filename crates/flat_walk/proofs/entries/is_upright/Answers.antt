use Rattle.std.proofs.Common.{◌∙◌, sym, FitsSigned, w64, rules}
use Rattle.std.proofs.lemmas.Bool.{eqb-true}
use Rattle.flat_walk.proofs.CodeLemmas.{same_bits, upright_is}
use Rattle.flat_walk.proofs.entries.is_upright.Goals as goal

pub returns-then-left-frame-clause-is : goal.returns-then-left-frame-clause-is
returns-then-left-frame-clause-is c same =
    let f = c.args.frame.now in
    let y0 : FitsSigned w64 c.y0.result = search rules in
    let y1 : FitsSigned w64 c.y1.result = search rules in
    let left : FitsSigned w64 c.in-Upright-Upright.left = search rules in
    let right : FitsSigned w64 c.in-Upright-Upright.right = search rules in
    let fy0 : FitsSigned w64 f.y0 = search rules in
    let fy1 : FitsSigned w64 f.y1 = search rules in
    let fx0 : FitsSigned w64 f.x0 = search rules in
    let fx1 : FitsSigned w64 f.x1 = search rules in
    upright_is c.args.trap.now f c.y0.result c.y1.result c.in-Upright-Upright.left c.in-Upright-Upright.right
    c.y0.ensures.value c.y1.ensures.value
    (same_bits _ _ y0 fy0 c.if-y0-frame.false) (same_bits _ _ y1 fy1 c.if-y1-frame.false)
    (sym c.in-Upright-Upright.is-0 ∙ c.left.ensures.value) (sym c.in-Upright-Upright.is-1 ∙ c.right.ensures.value)
    (same_bits _ _ left fx0 c.if-left-frame.true) (same_bits _ _ right fx1 (eqb-true _ _ same))
